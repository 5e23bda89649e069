use Rattle.std.proofs.Common.{◌≡◌, ◌++◌, length, take}
use Rattle.std.specs.List.{flat_map}
use Rattle.std.specs.Int.{w32, to_le_bytes}
use Rattle.file_items.proofs.page_lists.writing.put_pages.Given as goal

abbrev pub invariant-loop-page : goal.invariant-loop-page
invariant-loop-page l = l.out ≡ l.fn.out ++ (to_le_bytes w32 (length l.pages) ++ flat_map (to_le_bytes w32) (take l.page-index l.pages))

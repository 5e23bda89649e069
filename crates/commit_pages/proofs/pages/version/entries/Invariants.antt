use Rattle.std.proofs.Common.{◌≡◌, take}
use Rattle.array_rows.specs.Boxes.{by_pairs}
use Rattle.commit_pages.specs.Versions.{entry_of}
use Rattle.commit_pages.proofs.pages.version.entries.Given as goal

abbrev pub invariant-loop-index : goal.invariant-loop-index
invariant-loop-index l = l.entries ≡ by_pairs (entry_of l.birth) (take l.index l.numbers) (take l.index l.payloads)

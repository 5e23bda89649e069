use Rattle.std.proofs.Common.{◌≡◌, ◌++◌, take}
use Rattle.std.specs.List.{flat_map}
use Rattle.commit_pages.proofs.pages.version.push_pages.Given as goal

abbrev pub invariant-loop-entry : goal.invariant-loop-entry
invariant-loop-entry l = l.pages ≡ l.fn.pages ++ flat_map (λ entry. entry.pages) (take l.entry-index l.entries)

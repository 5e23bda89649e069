use Rattle.std.proofs.Common.{◌≡◌, length, take}
use Rattle.std.specs.Prelude.{◌==◌, filter}
use Rattle.backup_writing.proofs.versions.numbers_of_length.Given as goal

abbrev pub invariant-loop-at : goal.invariant-loop-at
invariant-loop-at l = l.numbers ≡ filter (λ at. length at.items == l.count) (take l.at-index l.chunks)

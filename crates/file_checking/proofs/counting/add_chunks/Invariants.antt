use Rattle.std.proofs.Common.{◌≡◌, ◌+◌, length, take, min}
use Rattle.std.specs.List.{sum_by}
use Rattle.file_checking.specs.Checks.{most}
use Rattle.file_checking.proofs.counting.add_chunks.Given as goal

abbrev pub invariant-loop-directory : goal.invariant-loop-directory
invariant-loop-directory l = l.count ≡ min (l.chunks + sum_by (λ directory. length directory.entries) (take l.directory-index l.row)) most

use Rattle.std.proofs.Common.{◌≡◌, length, take, min}
use Rattle.std.specs.List.{sum_by}
use Rattle.file_checking.specs.Checks.{most}
use Rattle.file_checking.proofs.counting.count_chunks.Given as goal

abbrev pub invariant-loop-row : goal.invariant-loop-row
invariant-loop-row l = l.count ≡ min (sum_by (sum_by (λ directory. length directory.entries)) (take l.row-index l.rows)) most

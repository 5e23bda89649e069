use Rattle.std.proofs.Common.{◌≡◌, [], replicate}
use Rattle.order_exec.proofs.ranked_chunks.no_numbers.Given as goal

abbrev pub invariant-loop : goal.invariant-loop
invariant-loop l = l.groups ≡ replicate l.counter []

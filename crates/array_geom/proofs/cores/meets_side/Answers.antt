use Rattle.std.proofs.Common.{arith, ℕ, ◌≤◌, subst}
use Rattle.array_geom.proofs.CoreLaws.{not_met, up_to_the_end}
use Rattle.array_geom.proofs.cores.meets_side.Goals as goal

pub returns-then-k-last_number : goal.returns-then-k-last_number
returns-then-k-last_number c =
    not_met c.args.d.now c.args.k c.last_number.result c.args.lo c.args.hi c.requires.some c.requires.order c.last_number.ensures (omega arith)

pub first_of-requires-clause-core : goal.first_of-requires-clause-core
first_of-requires-clause-core c =
    up_to_the_end c.args.d.now c.args.k c.requires.some c.requires.order (subst (λ (n : ℕ). c.args.k ≤ n) c.last_number.ensures c.if-k-last_number.false)

pub last_of-requires-clause-core : goal.last_of-requires-clause-core
last_of-requires-clause-core c =
    up_to_the_end c.args.d.now c.args.k c.requires.some c.requires.order (subst (λ (n : ℕ). c.args.k ≤ n) c.last_number.ensures c.if-k-last_number.false)

use Rattle.std.proofs.Common.{get_or, pos, rules}
use Rattle.std.specs.Int.{int_max}
use Rattle.array_geom.proofs.Fronts.{get_first}
use Rattle.array_geom.proofs.Pairs.{pairs_pushed, no_pairs}
use Rattle.order_exec.proofs.core_hulls.+push_greater.Goals as goal

pub returns-in-len1-up-b : goal.returns-in-len1-up-b
returns-in-len1-up-b t c =
    pairs_pushed int_max c.args.a.now c.args.b.now (get_or c.args.a.now 0 (pos 0)) (pos 0) _ _ _ _ c.in-len1-up.len_at_least
    c.in-len1-up-b.len_at_least (get_first c.args.a.now (pos 0) c.in-len1-up.len_at_least) c.push.ensures.items c.push_greater.ensures
    (search rules)

pub returns-in-empty : goal.returns-in-empty
returns-in-empty t c = no_pairs int_max c.args.a.now c.args.b.now c.args.out.now.items c.in-empty.len_below

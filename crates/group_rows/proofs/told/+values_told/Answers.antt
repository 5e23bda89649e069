use Rattle.std.proofs.Common.{◌∙◌, ◌∷◌, [], ap, arith, length, length-append}
use Rattle.group_rows.proofs.ToldLaws.{last_told, none_told}
use Rattle.group_rows.proofs.told.+values_told.Goals as goal

pub returns-in_ok-push-in-Some : goal.returns-in_ok-push-in-Some
returns-in_ok-push-in-Some t c = last_told c.args.states c.pop.new.self c.in-Some.state c.in_ok-values-in-Some.values c.push.new.self c.finish.result c.in-Some.ensures c.in_ok-push-in-Some.ensures.ok c.in_ok-values-in-Some.ensures c.finish.ensures

pub values_told-requires : goal.values_told-requires
values_told-requires t c =
    let n = ap length c.in-Some.ensures ∙ length-append c.pop.new.self (c.in-Some.state ∷ []) in
    omega (arith, n, c.decreases)

pub returns-in-None : goal.returns-in-None
returns-in-None t c = none_told c.args.states c.another.result c.in-None.ensures.0 c.another.ensures

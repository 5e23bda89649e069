use Rattle.std.proofs.Common.{◌≡◌, ◌-◌, rules, length, sym, ◌∙◌, arith}
use Rattle.area_cells.proofs.CutLaws.{some_chunks}
use Rattle.area_cells.proofs.StretchLaws.{no_steps, on_between}
use Rattle.area_cells.proofs.stretches.steps_along.Goals as goal

pub returns-then-is_empty-clause-sides : goal.returns-then-is_empty-clause-sides
returns-then-is_empty-clause-sides c = no_steps c.args.lo.now c.args.hi.now c.args.at.now

pub returns-clause-sides : goal.returns-clause-sides
returns-clause-sides c =
    let some = some_chunks (length c.args.at.now) (sym c.is_empty.ensures ∙ c.if-is_empty.false) in
    let low : length c.args.lo.now ≡ length c.args.at.now = search rules in
    let high : length c.args.hi.now ≡ length c.args.at.now = search rules in
    λ d h. on_between c.args.lo.now c.args.hi.now c.args.at.now (length c.args.at.now - 1) d (omega (arith, some)) low high (c.steps_from.ensures.sides d h)

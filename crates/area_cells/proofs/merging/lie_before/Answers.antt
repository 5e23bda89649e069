use Rattle.std.proofs.Common.{◌≡◌, ◌<◌, ◌-◌, length, rules, sym, ap, ◌∙◌, subst, arith}
use Rattle.std.proofs.lemmas.Bool.{eqb-true}
use Rattle.area_cells.proofs.FoundLaws.{behind, none_left, none_right}
use Rattle.area_cells.proofs.CutLaws.{some_chunks}
use Rattle.area_cells.proofs.merging.lie_before.Goals as goal

pub returns-then-is_empty : goal.returns-then-is_empty
returns-then-is_empty c = λ t. none_left c.args.grid.now c.args.left.now c.args.right.now (eqb-true (length c.args.left.now) 0 (sym c.is_empty.ensures ∙ c.if-is_empty.true))

pub returns-then-is_empty-2 : goal.returns-then-is_empty-2
returns-then-is_empty-2 c = λ t. none_right c.args.grid.now c.args.left.now c.args.right.now (eqb-true (length c.args.right.now) 0 (sym c.is_empty-2.ensures ∙ c.if-is_empty-2.true)) c.requires.left_rise

pub returns : goal.returns
returns c = λ t.
    let f = c.index-left-left.result in
    let g = c.index-right-0.result in
    let some = some_chunks (length c.args.left.now) (sym c.is_empty.ensures ∙ c.if-is_empty.false) in
    let other = some_chunks (length c.args.right.now) (sym c.is_empty-2.ensures ∙ c.if-is_empty-2.false) in
    let less : f.position < g.position = search rules in
    behind c.args.grid.now c.args.left.now c.args.right.now f g c.requires.grid c.requires.right some other c.index-left-left.is c.index-right-0.is less c.requires.left_rise c.requires.right_rise

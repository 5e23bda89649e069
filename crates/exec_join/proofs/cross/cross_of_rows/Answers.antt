use Rattle.std.proofs.Common.{◌≡◌, List, IfOk, ◌∙◌, subst}
use Rattle.cell_values.specs.declared.datum.Row.{Row}
use Rattle.exec_join.proofs.RowsCrossLaws.{crossed_all, rooms_of}
use Rattle.exec_join.proofs.cross.cross_of_rows.Goals as goal

pub cross_each-requires-clause-room : goal.cross_each-requires-clause-room
cross_each-requires-clause-room c =
    rooms_of c.args.pairs.now c.args.left c.args.right c.as_slice.result.now c.in_ok-partners.partners.items c.as_slice-2.result.now (c.as_slice.ensures ∙ c.in_ok-paired.ensures) c.as_slice-2.ensures.value c.in_ok-partners.ensures.same c.requires.room

pub returns : goal.returns
returns c =
    subst (λ (all : List Row). IfOk c.cross_each.result (λ rows. rows ≡ all))
    (crossed_all c.args.pairs.now c.args.left c.args.right c.as_slice-3.result.now c.as_slice.result.now c.in_ok-partners.partners.items c.as_slice-2.result.now (c.as_slice-3.ensures ∙ c.in_ok-places.ensures) (c.as_slice.ensures ∙ c.in_ok-paired.ensures) c.as_slice-2.ensures.value
    c.in_ok-partners.ensures.stable)
    c.cross_each.ensures

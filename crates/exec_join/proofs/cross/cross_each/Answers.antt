use Rattle.std.proofs.Common.{◌++◌, ◌∷◌, ◌∙◌, [], ap, sym, take}
use Rattle.std.specs.List.{flat_map}
use Rattle.std.proofs.lemmas.List.{flat_map_more, take_more}
use Rattle.exec_join.specs.Inner.Partners.{crossed_with}
use Rattle.exec_join.proofs.cross.cross_each.Goals as goal

pub loop-row-preserved : goal.loop-row-preserved
loop-row-preserved c =
    let crossed = crossed_with c.args.places.now c.args.partners.now in
    let items = c.as_slice-row-items.result.now in
    let before = take c.loop-row.row-index items in
    c.in_ok-push_partners.ensures
    ∙ ap (λ rows. rows ++ crossed c.row-item.result) c.loop-row.invariant
    ∙ flat_map_more crossed [] before c.row-item.result
    ∙ ap (λ row. flat_map crossed (before ++ row ∷ [])) c.row-item.is
    ∙ ap (flat_map crossed) (sym (take_more items c.loop-row.row-index c.row-item.result c.loop-row-test.true))

use Rattle.std.proofs.Common.{◌∙◌, Bool, List, [], ◌∷◌, ◌++◌, cond, take, sym, ap, append_assoc}
use Rattle.cell_values.specs.declared.schema.Dimension.{Dimension}
use Rattle.logical_plan.specs.BoxOps.{items_but}
use Rattle.check_joins.proofs.Unpaired.{unpaired_step}
use Rattle.check_joins.proofs.cross.push_unpaired.Goals as goal

pub loop-place-preserved : goal.loop-place-preserved
loop-place-preserved c =
    let dims = c.args.dimensions.now in
    let places = c.args.places.now in
    let item = c.index-dimensions-place.result in
    let before = items_but places 0 (take c.loop-place.place dims) in
    c.in_ok-push_unless.ensures ∙ ap (λ (ds : List Dimension). ds ++ cond c.has_place.result [] (item ∷ [])) c.loop-place.invariant
    ∙ append_assoc c.args.both.now before (cond c.has_place.result [] (item ∷ []))
    ∙ ap (λ (ds : List Dimension). c.args.both.now ++ ds)
    (ap (λ (b : Bool). before ++ cond b [] (item ∷ [])) c.has_place.ensures ∙ sym (unpaired_step places dims c.loop-place.place item c.loop-place-test.true c.index-dimensions-place.is))

use Rattle.std.proofs.Common.{◌∙◌, ℕ, List, ap, map, slice_index_or}
use Rattle.std.proofs.lemmas.List.{take_all}
use Rattle.cell_values.specs.declared.datum.Datum.TheVariants.{Null}
use Rattle.exec_cellwise.proofs.Picking.{one_made}
use Rattle.exec_cellwise.proofs.chunks.projecting.pick.Goals as goal

pub loop-place-preserved : goal.loop-place-preserved
loop-place-preserved c =
    one_made (λ (place : ℕ). slice_index_or c.args.values.now place Null) c.args.places.now c.loop-place.place-index 0 c.in_ok-value_at.field-0
    c.loop-place.found c.push.new.self c.loop-place-test.true c.loop-place.invariant c.in_ok-push.ensures.ok c.in_ok-value_at.ensures

pub returns : goal.returns
returns c =
    c.loop-place.invariant
    ∙ ap (λ (places : List ℕ). map (λ (place : ℕ). slice_index_or c.args.values.now place Null) places)
    (take_all c.loop-place.place-index c.args.places.now c.loop-place-test.false)

use Rattle.std.proofs.Common.{◌≡◌, ◌++◌, ◌∙◌}
use Rattle.array_rows.specs.Boxes.{bounds_of, is_between, is_inside}
use Rattle.cell_values.specs.declared.schema.Dimension.{Dimension}
use Rattle.std.proofs.Common.{List, ap, sym}
use Rattle.array_geom.proofs.NearLemmas.{valid_placed}
use Rattle.logical_plan.specs.Shapes.{blocks_back}
use Rattle.shape_exec.specs.Inner.Spread.{places_from}
use Rattle.shape_exec.proofs.BlockBoxes.{box_from}
use Rattle.shape_exec.proofs.blocks.BlocksCellMap.preimage.Goals as goal

pub returns : goal.returns
returns c = λ y t a s.
    let map = c.args.self.now in
    let dims = map.source.now.dimensions in
    let sizes = map.sizes.now in
    let low : c.push_places_from.new.out.items ≡ places_from dims sizes c.args.area.now.lo.items = c.push_places_from.ensures ∙ (λ i. c.new-lo.ensures i ++ places_from (c.as_slice-dims.ensures i) sizes (c.as_slice.ensures.value i)) in
    let high : c.push_places_from-2.new.out.items ≡ places_from dims sizes c.args.area.now.hi.items = c.push_places_from-2.ensures ∙ (λ i. c.new-hi.ensures i ++ places_from (c.as_slice-dims.ensures i) sizes (c.as_slice-2.ensures.value i)) in
    (λ i. is_between (low i) (high i) (blocks_back dims sizes y))
    ∙ box_from dims sizes c.args.area.now.lo.items c.args.area.now.hi.items y (valid_placed map.source.now c.requires.0).near c.requires.2 (ap (λ (ds : List Dimension). is_inside (bounds_of ds) y) (sym c.requires.3) ∙ t) a s

use Rattle.std.proofs.Common.{◌≡◌, ℤ, List, ◌++◌, ◌∙◌}
use Rattle.std.specs.Int.{w64, saturate_signed}
use Rattle.array_rows.specs.Boxes.{by_pairs, is_between}
use Rattle.array_rows.specs.Dimension.{Dimension}
use Rattle.array_geom.proofs.NearLemmas.{valid_placed}
use Rattle.logical_plan.specs.Shapes.{mirrored, opposite}
use Rattle.shape_exec.proofs.TurnLaws.{turned_box}
use Rattle.shape_exec.proofs.reversal.ReversalCoordMap.preimage.Goals as goal

pub returns : goal.returns
returns c = λ y t a s.
    let dims = c.args.self.now.schema.now.dimensions in
    let turn = λ (ds : List Dimension) (xs : List ℤ). by_pairs (λ d x. saturate_signed w64 (opposite d x)) ds xs in
    let low : c.push_turned.new.out.items ≡ turn dims c.args.area.now.hi.items = c.push_turned.ensures ∙ (λ i. c.new-lo.ensures i ++ turn (c.as_slice-dims.ensures i) (c.as_slice.ensures.value i)) in
    let high : c.push_turned-2.new.out.items ≡ turn dims c.args.area.now.lo.items = c.push_turned-2.ensures ∙ (λ i. c.new-hi.ensures i ++ turn (c.as_slice-dims.ensures i) (c.as_slice-2.ensures.value i)) in
    (λ i. is_between (low i) (high i) (mirrored dims y)) ∙ turned_box dims c.args.area.now.lo.items c.args.area.now.hi.items y (valid_placed c.args.self.now.schema.now c.requires).near t a

use Rattle.std.proofs.Common.{◌≡◌, ◌<◌, ◌∷◌, [], ◌++◌, ◌+◌, ℕ, List, map, length, take, sym, ap, ◌∙◌, subst, arith}
use Rattle.std.proofs.lemmas.List.{length-append, length-map, length-take}
use Rattle.std.specs.List.{AllByRecursion}
use Rattle.cell_values.specs.declared.schema.Dimension.{Dimension}
use Rattle.array_geom.specs.Geometry.{frame_lengths, volume}
use Rattle.area_cells.proofs.FoundLaws.{found_at}
use Rattle.logical_plan.specs.ShapeSchemas.{counting}
use Rattle.order_exec.proofs.AlongLaws.{all_joined}
use Rattle.order_exec.proofs.KeyedLaws.{one_more}
use Rattle.order_exec.proofs.NumberedLaws.{one_numbered_place}
use Rattle.shape_exec.specs.Inner.Unpacked.{unpacked_found}
use Rattle.shape_exec.proofs.NumberedCells.{mapped_more}
use Rattle.shape_exec.proofs.numbered_cells.numbered_chunk.Goals as goal

pub push_unpacked-requires-clause-found : goal.push_unpacked-requires-clause-found
push_unpacked-requires-clause-found c = found_at c.args.grid.now c.args.found.now c.loop-place.place c.index-found-place.result c.requires.found c.loop-place-test.true c.index-found-place.is

pub loop-place-preserved : goal.loop-place-preserved
loop-place-preserved c =
    let grid = c.args.grid.now in
    let found = c.args.found.now in
    let k = c.loop-place.place in
    let f = unpacked_found grid in
    let before = c.loop-place.invariant in
    let inside = c.loop-place-test.true in
    let few = c.requires.few in
    let pushed : c.push-in-loop-place.new.self ≡ c.loop-place.positions ++ k ∷ [] = c.in_ok-push.ensures.ok in
    let taken = length-take k found in
    let mapped = length-map (take k found) f in
    record {
      long = ap length pushed ∙ length-append c.loop-place.positions (k ∷ []) ∙ ap (λ (n : ℕ). n + 1) before.long;
      as_many = one_more c.loop-place.cells c.push_unpacked.new.cells (f c.index-found-place.result) k c.in_ok-push_unpacked.ensures before.as_many;
      below = subst (AllByRecursion (λ p. p < 1000)) (sym pushed) (all_joined (λ p. p < 1000) c.loop-place.positions (k ∷ []) before.below (omega (arith, inside, few), tt));
      rows = one_numbered_place c.requires.target.0 c.args.target.now.dimensions c.args.margins.now.items c.requires.target.1 c.requires.margins c.args.number k c.loop-place.positions c.push-in-loop-place.new.self c.loop-place.cells
          c.push_unpacked.new.cells (map f (take k found)) (map f (take (k + 1) found)) (f c.index-found-place.result) pushed c.in_ok-push_unpacked.ensures (mapped_more grid found k c.index-found-place.result inside c.index-found-place.is)
          (omega (arith, taken, mapped, inside)) before.long before.as_many before.rows;
    }

pub returns-clause-placed : goal.returns-clause-placed
returns-clause-placed c = record {
  each = c.loop-place.invariant.as_many ∙ sym c.loop-place.invariant.long;
  in_frame = subst (λ (ds : List Dimension). AllByRecursion (λ p. p < volume (frame_lengths ds c.args.margins.now.items)) c.loop-place.positions) (sym c.requires.target.1)
      (subst (λ (ms : List ℕ). AllByRecursion (λ p. p < volume (frame_lengths (counting c.requires.target.0 ∷ []) ms)) c.loop-place.positions) (sym c.requires.margins) c.loop-place.invariant.below);
}

use Rattle.std.proofs.Common.{◌≡◌, ◌<◌, ◌∷◌, [], ◌++◌, ◌+◌, ℕ, List, map, length, take, sym, ap, ◌∙◌, subst, arith}
use Rattle.std.proofs.lemmas.List.{length-append, length-map, length-take}
use Rattle.std.specs.List.{AllByRecursion}
use Rattle.cell_values.specs.declared.schema.Dimension.{Dimension}
use Rattle.array_geom.specs.Geometry.{frame_lengths, volume}
use Rattle.area_cells.specs.Found.{found_cell}
use Rattle.logical_plan.specs.PlanSchema.{sort_dimension}
use Rattle.order_exec.specs.Inner.Keyed.{IsKeyAlone, keyed_cell}
use Rattle.order_exec.specs.declared.number_keys.Keyed.{Keyed}
use Rattle.order_exec.proofs.AlongLaws.{all_joined}
use Rattle.order_exec.proofs.KeyedLaws.{at_index, one_more, placed_cell}
use Rattle.order_exec.proofs.NumberedLaws.{one_numbered_place}
use Rattle.order_exec.proofs.numbered_chunks.numbered_chunk.Goals as goal

pub push_keyed-requires-clause-indexed : goal.push_keyed-requires-clause-indexed
push_keyed-requires-clause-indexed c =
    at_index (λ (one : Keyed). one.index < length c.args.found.now) c.args.keyed.now c.loop-place.place _ c.requires.indexed c.loop-place-test.true

pub push_keyed-requires-clause-alone : goal.push_keyed-requires-clause-alone
push_keyed-requires-clause-alone c =
    λ alone. at_index (IsKeyAlone (map found_cell c.args.found.now)) c.args.keyed.now c.loop-place.place _ (c.requires.alone alone) c.loop-place-test.true

pub loop-place-preserved : goal.loop-place-preserved
loop-place-preserved c =
    let found = c.args.found.now in
    let keyed = c.args.keyed.now in
    let k = c.loop-place.place in
    let f = keyed_cell (map found_cell found) in
    let before = c.loop-place.invariant in
    let inside = c.loop-place-test.true in
    let few = c.requires.few in
    let pushed : c.push-in-loop-place.new.self ≡ c.loop-place.positions ++ k ∷ [] = c.in_ok-push.ensures.ok in
    let taken = length-take k keyed in
    let mapped = length-map (take k keyed) f in
    record {
      long = ap length pushed ∙ length-append c.loop-place.positions (k ∷ []) ∙ ap (λ (n : ℕ). n + 1) before.long;
      as_many = one_more c.loop-place.cells c.push_keyed.new.cells _ k c.in_ok-push_keyed.ensures before.as_many;
      below = subst (AllByRecursion (λ p. p < 1000)) (sym pushed) (all_joined (λ p. p < 1000) c.loop-place.positions (k ∷ []) before.below (omega (arith, inside, few), tt));
      rows = one_numbered_place (sort_dimension c.requires.target.0).name c.args.target.now.dimensions c.args.margins.now.items c.requires.target.1 c.requires.margins c.args.number k c.loop-place.positions c.push-in-loop-place.new.self c.loop-place.cells
          c.push_keyed.new.cells (map f (take k keyed)) (map f (take (k + 1) keyed)) _ pushed c.in_ok-push_keyed.ensures (placed_cell (map found_cell found) keyed k _ inside) (omega (arith, taken, mapped, inside)) before.long before.as_many
          before.rows;
    }

pub returns-clause-placed : goal.returns-clause-placed
returns-clause-placed c = record {
  each = c.loop-place.invariant.as_many ∙ sym c.loop-place.invariant.long;
  in_frame = subst (λ (ds : List Dimension). AllByRecursion (λ p. p < volume (frame_lengths ds c.args.margins.now.items)) c.loop-place.positions) (sym c.requires.target.1)
      (subst (λ (ms : List ℕ). AllByRecursion (λ p. p < volume (frame_lengths (sort_dimension c.requires.target.0 ∷ []) ms)) c.loop-place.positions) (sym c.requires.margins) c.loop-place.invariant.below);
}

use Rattle.std.proofs.Common.{◌≡◌, ◌<◌, ◌∷◌, [], ◌++◌, ◌+◌, ℕ, pos, List, get_or, map, length, take, rules, sym, ap, ◌∙◌, subst, arith}
use Rattle.std.proofs.lemmas.List.{length-append, length-map, length-take}
use Rattle.std.specs.List.{AllByRecursion}
use Rattle.cell_values.specs.declared.schema.Dimension.{Dimension}
use Rattle.array_geom.specs.Geometry.{frame_lengths, volume}
use Rattle.logical_plan.specs.PlanSchema.{sort_dimension}
use Rattle.order_exec.specs.Inner.Counted.{number_cell}
use Rattle.order_exec.proofs.AlongLaws.{all_joined}
use Rattle.order_exec.proofs.CountedLaws.{next_mapped, same_read}
use Rattle.order_exec.proofs.KeyedLaws.{one_more}
use Rattle.order_exec.proofs.NumberedLaws.{one_numbered_place}
use Rattle.order_exec.proofs.number_chunks.number_chunk.Goals as goal

pub loop-place-preserved : goal.loop-place-preserved
loop-place-preserved c =
    let keys = c.args.keys.now in
    let k = c.loop-place.place in
    let key = get_or keys k (pos 0) in
    let before = c.loop-place.invariant in
    let inside = c.loop-place-test.true in
    let few = c.requires.few in
    let pushed : c.push-in-loop-place.new.self ≡ c.loop-place.positions ++ k ∷ [] = c.in_ok-push.ensures.ok in
    let added : c.push_number.new.self ≡ c.loop-place.cells ++ number_cell key ∷ [] = search rules in
    let taken = length-take k keys in
    let mapped = length-map (take k keys) number_cell in
    record {
      long = ap length pushed ∙ length-append c.loop-place.positions (k ∷ []) ∙ ap (λ (n : ℕ). n + 1) before.long;
      as_many = one_more c.loop-place.cells c.push_number.new.self (number_cell key) k added before.as_many;
      below = subst (AllByRecursion (λ p. p < 1000)) (sym pushed) (all_joined (λ p. p < 1000) c.loop-place.positions (k ∷ []) before.below (omega (arith, inside, few), tt));
      rows = one_numbered_place (sort_dimension c.requires.target.0).name c.args.target.now.dimensions c.args.margins.now.items c.requires.target.1 c.requires.margins c.args.number k c.loop-place.positions c.push-in-loop-place.new.self c.loop-place.cells
          c.push_number.new.self (map number_cell (take k keys)) (map number_cell (take (k + 1) keys)) (number_cell key) pushed added (next_mapped number_cell keys k key inside (same_read keys k (pos 0) inside)) (omega (arith, taken, mapped, inside)) before.long before.as_many
          before.rows;
    }

pub returns-clause-placed : goal.returns-clause-placed
returns-clause-placed c = record {
  each = c.loop-place.invariant.as_many ∙ sym c.loop-place.invariant.long;
  in_frame = subst (λ (ds : List Dimension). AllByRecursion (λ p. p < volume (frame_lengths ds c.args.margins.now.items)) c.loop-place.positions) (sym c.requires.target.1)
      (subst (λ (ms : List ℕ). AllByRecursion (λ p. p < volume (frame_lengths (sort_dimension c.requires.target.0 ∷ []) ms)) c.loop-place.positions) (sym c.requires.margins) c.loop-place.invariant.below);
}

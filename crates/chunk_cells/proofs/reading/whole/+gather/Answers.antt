use Rattle.std.proofs.Common.{◌≡◌, ◌+◌, List, length, rules, take, sym, ap, ◌∙◌, subst, arith}
use Rattle.std.specs.List.{AllByRecursion}
use Rattle.std.specs.Vec.Iter.{into_iter_items}
use Rattle.array_parts.specs.Placed.{HasPlaces}
use Rattle.array_geom.specs.declared.chunk.Chunk.{Chunk}
use Rattle.array_geom.specs.Link.{core_rows}
use Rattle.array_rows.specs.Rows.{IsRising}
use Rattle.chunk_cells.proofs.RestLaws.{both_counts, left_twice, front_few, all_dropped, back_enough, back_few}
use Rattle.chunk_cells.proofs.MergeLaws.{IsRising-core_rows, both_parts, if_ok, rise-drop, on_any}
use Rattle.chunk_cells.proofs.reading.whole.+gather.Goals as goal

pub returns-clause-rows : goal.returns-clause-rows
returns-clause-rows t c = λ rise.
    let dims = c.args.schema.now.dimensions in
    let margins = c.args.margins.now.items in
    let count = length c.args.first.now in
    let half = length c.split_at.result.0.now in
    let other = length c.split_at.result.1.now in
    let whole : count ≡ half + other = search rules in
    let before = into_iter_items c.args.chunks.now in
    let left = c.in_ok-left.ensures.rows rise in
    let right = c.in_ok-right.ensures.rows (rise-drop dims margins half before (into_iter_items c.gather.new.chunks) c.in_ok-left.ensures.left rise) in
    if_ok c.merge.result
    (c.merge.ensures (subst IsRising (sym left) (IsRising-core_rows dims margins (take half before))) (subst IsRising (sym right) (IsRising-core_rows dims margins (take other (into_iter_items c.gather.new.chunks)))))
    (λ merged e. e ∙ both_parts dims margins half other count before c.in_ok-left.left c.in_ok-right.right (sym whole) left (right ∙ ap (λ (cs : List Chunk). core_rows dims margins (take other cs)) c.in_ok-left.ensures.left))

pub returns-clause-left : goal.returns-clause-left
returns-clause-left t c =
    on_any c.merge.result (c.in_ok-right.ensures.left ∙ left_twice (length c.split_at.result.0.now) (length c.split_at.result.1.now) (length c.args.first.now)
    (into_iter_items c.args.chunks.now) (into_iter_items c.gather.new.chunks) (both_counts c.cut_of-half.result c.args.first.now _ _ c.split_at.ensures.front c.split_at.ensures.back) c.in_ok-left.ensures.left)

pub gather-requires-2 : goal.gather-requires-2
gather-requires-2 t c =
    let before = into_iter_items c.args.chunks.now in
    let half = length c.split_at.result.0.now in
    let few = back_few c.cut_of-half.result c.args.first.now c.split_at.result.1.now c.cut_of-half.ensures.some c.cut_of-half.ensures.few c.split_at.ensures.back in
    let enough = back_enough c.args.first.now c.split_at.result.0.now c.split_at.result.1.now before (into_iter_items c.gather.new.chunks)
    (both_counts c.cut_of-half.result c.args.first.now _ _ c.split_at.ensures.front c.split_at.ensures.back) c.requires.some c.in_ok-left.ensures.left in
    let places = subst (AllByRecursion (HasPlaces c.args.schema.now c.args.margins.now.items)) (sym c.in_ok-left.ensures.left)
    (all_dropped (HasPlaces c.args.schema.now c.args.margins.now.items) half before c.requires.places) in
    (omega (arith, few, c.decreases), (enough, places))

pub gather-requires : goal.gather-requires
gather-requires t c =
    let few = front_few c.cut_of-half.result c.args.first.now c.split_at.result.0.now c.cut_of-half.ensures.few c.split_at.ensures.front in
    (omega (arith, few, c.decreases), (omega (arith, few, c.requires.some), c.requires.places))

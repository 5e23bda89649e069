use Rattle.std.proofs.Common.{◌≡◌, ◌<◌, map, length, rules, subst}
use Rattle.std.proofs.lemmas.List.{nil_from_length}
use Rattle.area_cells.specs.Found.{found_cell}
use Rattle.group_rows.proofs.RowLemmas.{all_right}
use Rattle.logical_plan.specs.PlanSchema.{sort_dimension}
use Rattle.order_exec.specs.Inner.Keyed.{AreIndexed, IsKeyAlone, keyed_cell}
use Rattle.std.specs.List.{AllByRecursion}
use Rattle.order_exec.specs.declared.number_keys.Keyed.{Keyed}
use Rattle.order_exec.proofs.NumberedChunkLaws.{all_parts, all_places, cut_at, cut_end, cut_length, one_more_chunk}
use Rattle.order_exec.proofs.numbered_chunks.numbered_chunks.Goals as goal

pub cutting-preserved : goal.cutting-preserved
cutting-preserved c =
    let rest = c.cutting.rest.now in
    let some = c.split_at.result.0.now in
    let others = c.split_at.result.1.now in
    let nonempty : 0 < length rest = search rules in
    let cut = cut_at c.min-count.result rest some others c.split_at.ensures.front c.split_at.ensures.back in
    record {
      so_far = one_more_chunk (sort_dimension c.requires.target.0).name c.args.target.now c.args.margins.now.items c.requires.target.1 c.requires.margins c.requires.valid (keyed_cell (map found_cell c.args.found.now)) c.args.keyed.now c.requires.few
          some rest others c.cutting.number c.in_ok-chunk.chunk c.cutting.chunks c.push.new.self nonempty cut (cut_end c.min-count.result rest some others c.min-count.ensures c.split_at.ensures.front c.split_at.ensures.back)
          (cut_length c.min-count.result rest some others c.min-count.ensures c.split_at.ensures.front) c.in_ok-chunk.ensures.at c.in_ok-chunk.ensures.placed c.in_ok-chunk.ensures.rows c.in_ok-push.ensures.ok
          c.cutting.invariant.so_far;
      indexed = all_right (λ (one : Keyed). one.index < length c.args.found.now) some others (subst (AreIndexed (length c.args.found.now)) cut c.cutting.invariant.indexed);
      alone = λ alone. all_right (IsKeyAlone (map found_cell c.args.found.now)) some others (subst (AllByRecursion (IsKeyAlone (map found_cell c.args.found.now))) cut (c.cutting.invariant.alone alone));
    }

pub returns-clause-places : goal.returns-clause-places
returns-clause-places c =
    all_places (sort_dimension c.requires.target.0).name c.args.target.now c.args.margins.now.items c.requires.target.1 c.requires.margins c.requires.valid (keyed_cell (map found_cell c.args.found.now)) c.args.keyed.now c.requires.few
    c.cutting.rest.now c.cutting.number c.cutting.chunks c.cutting.invariant.so_far

pub returns-clause-parts : goal.returns-clause-parts
returns-clause-parts c =
    let none : length c.cutting.rest.now ≡ 0 = search rules in
    all_parts (sort_dimension c.requires.target.0).name c.args.target.now c.args.margins.now.items c.requires.target.1 c.requires.margins c.requires.valid (keyed_cell (map found_cell c.args.found.now)) c.args.keyed.now c.requires.few
    c.cutting.rest.now c.cutting.number c.cutting.chunks (nil_from_length c.cutting.rest.now none) c.cutting.invariant.so_far

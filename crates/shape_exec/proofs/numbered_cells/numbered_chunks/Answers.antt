use Rattle.std.proofs.Common.{◌≡◌, ◌+◌, ◌<◌, ◌≤◌, ℕ, List, length, min, take, drop, refl, rules, sym, ap, ◌∙◌, subst, arith}
use Rattle.std.proofs.lemmas.List.{drop-drop, drop_all, length-drop}
use Rattle.std.specs.List.{AllByRecursion}
use Rattle.area_cells.specs.declared.finding.Found.{Found}
use Rattle.area_cells.specs.Found.{IsFound}
use Rattle.area_cells.proofs.CutLaws.{all_drop, all_take}
use Rattle.order_exec.proofs.NumberedChunkLaws.{ChunksSoFar, all_parts, all_places, cut_at, cut_end, cut_length, one_more_chunk}
use Rattle.shape_exec.specs.Inner.Unpacked.{unpacked_found}
use Rattle.shape_exec.proofs.numbered_cells.numbered_chunks.Goals as goal

pub numbered_chunk-requires-clause-found : goal.numbered_chunk-requires-clause-found
numbered_chunk-requires-clause-found c =
    let is_found = IsFound c.args.grid.now in
    subst (AllByRecursion is_found) (sym c.cells_from-some.ensures) (all_take is_found c.min-count.result (drop c.cutting.from c.args.found.now) (all_drop is_found c.cutting.from c.args.found.now c.requires.found))

pub numbered_chunk-requires-clause-few : goal.numbered_chunk-requires-clause-few
numbered_chunk-requires-clause-few c =
    let rest = drop c.cutting.from c.args.found.now in
    cut_length c.min-count.result rest c.cells_from-some.result.now (drop c.min-count.result rest) (c.min-count.ensures ∙ ap (λ (n : ℕ). min n 1000) (sym (length-drop c.cutting.from c.args.found.now))) c.cells_from-some.ensures

pub cutting-preserved : goal.cutting-preserved
cutting-preserved c =
    let found = c.args.found.now in
    let from = c.cutting.from in
    let n = c.min-count.result in
    let rest = drop from found in
    let some = c.cells_from-some.result.now in
    let others = drop n rest in
    let target = c.args.target.now in
    let long = length-drop from found in
    let inside : from < length found = search rules in
    let nonempty : 0 < length rest = omega (arith, long, inside) in
    let many : n ≡ min (length rest) 1000 = c.min-count.ensures ∙ ap (λ (k : ℕ). min k 1000) (sym long) in
    let is : some ≡ take n rest = c.cells_from-some.ensures in
    let few : n ≤ length rest = omega (arith, many) in
    record {
      within = omega (arith, long, few, inside);
      so_far =
          subst (λ (left : List Found). ChunksSoFar Found target.dimensions target c.args.margins.now.items (unpacked_found c.args.grid.now) found left (c.cutting.number + 1) c.push.new.self) (drop-drop n from found)
          (one_more_chunk c.requires.target.0 target c.args.margins.now.items c.requires.target.1 c.requires.margins c.requires.valid (unpacked_found c.args.grid.now) found c.requires.few
          some rest others c.cutting.number c.in_ok-chunk.chunk c.cutting.chunks c.push.new.self nonempty (cut_at n rest some others is refl) (cut_end n rest some others many is refl)
          (cut_length n rest some others many is) c.in_ok-chunk.ensures.at c.in_ok-chunk.ensures.placed c.in_ok-chunk.ensures.rows c.in_ok-push.ensures.ok c.cutting.invariant.so_far);
    }

pub returns-clause-places : goal.returns-clause-places
returns-clause-places c =
    all_places c.requires.target.0 c.args.target.now c.args.margins.now.items c.requires.target.1 c.requires.margins c.requires.valid (unpacked_found c.args.grid.now) c.args.found.now c.requires.few
    (drop c.cutting.from c.args.found.now) c.cutting.number c.cutting.chunks c.cutting.invariant.so_far

pub returns-clause-parts : goal.returns-clause-parts
returns-clause-parts c =
    let ends : length c.args.found.now ≤ c.cutting.from = first_of (search rules, omega arith) in
    all_parts c.requires.target.0 c.args.target.now c.args.margins.now.items c.requires.target.1 c.requires.margins c.requires.valid (unpacked_found c.args.grid.now) c.args.found.now c.requires.few
    (drop c.cutting.from c.args.found.now) c.cutting.number c.cutting.chunks (drop_all c.cutting.from c.args.found.now ends) c.cutting.invariant.so_far

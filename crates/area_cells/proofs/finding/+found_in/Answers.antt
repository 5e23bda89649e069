use Rattle.std.proofs.Common.{◌≡◌, ◌<◌, ◌/◌, length, take, drop, sym, ◌∙◌, subst, List, arith}
use Rattle.std.specs.List.{AllByRecursion}
use Rattle.array_rows.specs.Rows.{IsRising}
use Rattle.array_geom.specs.declared.chunk.Chunk.{Chunk}
use Rattle.array_geom.specs.Link.{NumbersRise, chunk_rows, numbers}
use Rattle.array_parts.specs.Placed.{HasPlaces}
use Rattle.chunk_cells.proofs.MergeLaws.{if_ok}
use Rattle.area_cells.proofs.CutLaws.{all_drop, all_take, both_sides, rise_drop, rise_take, some_chunks, two_or_more}
use Rattle.area_cells.proofs.TakingLaws.{both_found, found_rise}
use Rattle.area_cells.proofs.finding.+found_in.Goals as goal

pub found_in-requires : goal.found_in-requires
found_in-requires t c =
    let schema = c.args.schema.now in
    let margins = c.args.margins.now.items in
    let chunks = c.args.chunks.now in
    let half = length chunks / 2 in
    let some = some_chunks (length chunks) (sym c.is_empty.ensures ∙ c.if-is_empty.false) in
    let front : c.split_at.result.0.now ≡ take half chunks = c.split_at.ensures.front in (
      omega (arith, c.split_at.ensures.front_len, some, c.decreases),
      (
        c.requires.valid,
        (
          subst (AllByRecursion (HasPlaces schema margins)) (sym front) (all_take (HasPlaces schema margins) half chunks c.requires.places),
          (
            subst (AllByRecursion (λ chunk. IsRising (chunk_rows schema.dimensions margins chunk))) (sym front) (all_take (λ chunk. IsRising (chunk_rows schema.dimensions margins chunk)) half chunks c.requires.rows),
            (subst (λ (cs : List Chunk). NumbersRise (numbers cs)) (sym front) (rise_take half chunks c.requires.rise), (c.requires.target, c.requires.held)),
          ),
        ),
      ),
    )

pub found_in-requires-2 : goal.found_in-requires-2
found_in-requires-2 t c =
    let schema = c.args.schema.now in
    let margins = c.args.margins.now.items in
    let chunks = c.args.chunks.now in
    let half = length chunks / 2 in
    let some = some_chunks (length chunks) (sym c.is_empty.ensures ∙ c.if-is_empty.false) in
    let back : c.split_at.result.1.now ≡ drop half chunks = c.split_at.ensures.back in
    let more : 0 < half = two_or_more (length chunks) some c.if-chunks-eq1.false in (
      omega (arith, c.split_at.ensures.back_len, some, more, c.decreases),
      (
        c.requires.valid,
        (
          subst (AllByRecursion (HasPlaces schema margins)) (sym back) (all_drop (HasPlaces schema margins) half chunks c.requires.places),
          (
            subst (AllByRecursion (λ chunk. IsRising (chunk_rows schema.dimensions margins chunk))) (sym back) (all_drop (λ chunk. IsRising (chunk_rows schema.dimensions margins chunk)) half chunks c.requires.rows),
            (subst (λ (cs : List Chunk). NumbersRise (numbers cs)) (sym back) (rise_drop half chunks c.requires.rise), (c.requires.target, c.requires.held)),
          ),
        ),
      ),
    )

pub merge_found-requires-clause-left_rise : goal.merge_found-requires-clause-left_rise
merge_found-requires-clause-left_rise t c =
    found_rise c.args.schema.now.dimensions c.args.margins.now.items c.args.area.now c.split_at.result.0.now c.args.target.now c.in_ok-left.left c.in_ok-left.ensures

pub merge_found-requires-clause-right_rise : goal.merge_found-requires-clause-right_rise
merge_found-requires-clause-right_rise t c =
    found_rise c.args.schema.now.dimensions c.args.margins.now.items c.args.area.now c.split_at.result.1.now c.args.target.now c.in_ok-right.right c.in_ok-right.ensures

pub returns : goal.returns
returns t c =
    let chunks = c.args.chunks.now in
    if_ok c.merge_found.result c.merge_found.ensures
    (λ made m. both_found c.args.schema.now.dimensions c.args.margins.now.items c.args.area.now chunks c.split_at.result.0.now c.split_at.result.1.now c.args.target.now c.in_ok-left.left c.in_ok-right.right made
    (both_sides (length chunks / 2) chunks c.split_at.result.0.now c.split_at.result.1.now c.split_at.ensures.front c.split_at.ensures.back) c.in_ok-left.ensures c.in_ok-right.ensures m)

use Rattle.std.proofs.Common.{◌≡◌, ◌<◌, ◌/◌, length, take, drop, sym, ◌∙◌, subst, List, arith}
use Rattle.std.specs.List.{AllByRecursion}
use Rattle.std.proofs.lemmas.Bool.{eqb-true}
use Rattle.array_geom.specs.declared.chunk.Chunk.{Chunk}
use Rattle.array_geom.specs.Link.{NumbersRise, numbers}
use Rattle.array_parts.specs.Placed.{HasPlaces}
use Rattle.chunk_cells.specs.Whole.{CoresRise}
use Rattle.chunk_cells.proofs.MergeLaws.{on_ok}
use Rattle.area_cells.proofs.CutLaws.{all_drop, all_take, both_sides, cores_drop, cores_take, each_core, no_chunks, rise_drop, rise_take, some_chunks, takes_both, takes_none, two_or_more}
use Rattle.area_cells.proofs.gathering.+push_cuts.Goals as goal

pub returns-then-is_empty : goal.returns-then-is_empty
returns-then-is_empty t c =
    takes_none c.args.schema.now c.args.margins.now.items c.args.area.now c.args.chunks.now c.args.cuts.now
    (no_chunks c.args.schema.now c.args.margins.now.items c.args.area.now c.args.chunks.now (eqb-true (length c.args.chunks.now) 0 (sym c.is_empty.ensures ∙ c.if-is_empty.true)))

pub lie_off-requires-clause-places : goal.lie_off-requires-clause-places
lie_off-requires-clause-places t c = each_core c.args.schema.now c.args.margins.now.items c.args.chunks.now c.requires.places

pub returns-then-lie_off : goal.returns-then-lie_off
returns-then-lie_off t c =
    takes_none c.args.schema.now c.args.margins.now.items c.args.area.now c.args.chunks.now c.args.cuts.now (c.lie_off.ensures c.if-lie_off.true c.args.margins.now.items)

pub push_cuts-requires : goal.push_cuts-requires
push_cuts-requires t c =
    let schema = c.args.schema.now in
    let margins = c.args.margins.now.items in
    let chunks = c.args.chunks.now in
    let half = length chunks / 2 in
    let some = some_chunks (length chunks) (sym c.is_empty.ensures ∙ c.if-is_empty.false) in
    let front : c.split_at.result.0.now ≡ take half chunks = c.split_at.ensures.front in (
      omega (arith, c.split_at.ensures.front_len, some, c.decreases),
      (
        c.requires.valid,
        (
          subst (AllByRecursion (HasPlaces schema margins)) (sym front) (all_take (HasPlaces schema margins) half chunks c.requires.places),
          (subst (CoresRise schema.dimensions margins) (sym front) (cores_take schema.dimensions margins half chunks c.requires.cores), subst (λ (cs : List Chunk). NumbersRise (numbers cs)) (sym front) (rise_take half chunks c.requires.rise)),
        ),
      ),
    )

pub push_cuts-requires-2 : goal.push_cuts-requires-2
push_cuts-requires-2 t c =
    let schema = c.args.schema.now in
    let margins = c.args.margins.now.items in
    let chunks = c.args.chunks.now in
    let half = length chunks / 2 in
    let some = some_chunks (length chunks) (sym c.is_empty.ensures ∙ c.if-is_empty.false) in
    let back : c.split_at.result.1.now ≡ drop half chunks = c.split_at.ensures.back in
    let more : 0 < half = two_or_more (length chunks) some c.if-chunks-eq1.false in (
      omega (arith, c.split_at.ensures.back_len, some, more, c.decreases),
      (
        c.requires.valid,
        (
          subst (AllByRecursion (HasPlaces schema margins)) (sym back) (all_drop (HasPlaces schema margins) half chunks c.requires.places),
          (subst (CoresRise schema.dimensions margins) (sym back) (cores_drop schema.dimensions margins half chunks c.requires.cores), subst (λ (cs : List Chunk). NumbersRise (numbers cs)) (sym back) (rise_drop half chunks c.requires.rise)),
        ),
      ),
    )

pub returns : goal.returns
returns t c =
    let chunks = c.args.chunks.now in
    on_ok c.push_cuts-2.result c.push_cuts-2.ensures
    (λ second. takes_both c.args.schema.now c.args.margins.now.items c.args.area.now chunks c.split_at.result.0.now c.split_at.result.1.now c.args.cuts.now c.push_cuts.new.cuts c.push_cuts-2.new.cuts
    (both_sides (length chunks / 2) chunks c.split_at.result.0.now c.split_at.result.1.now c.split_at.ensures.front c.split_at.ensures.back) c.in_ok-push_cuts.ensures second)

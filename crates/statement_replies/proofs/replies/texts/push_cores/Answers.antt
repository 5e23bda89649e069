use Rattle.std.proofs.Common.{◌++◌, refl, sym, ◌∙◌, subst, List}
use Rattle.array_geom.specs.declared.chunk.Chunk.{Chunk}
use Rattle.array_geom.specs.Link.{core_rows}
use Rattle.chunk_cells.specs.Whole.{CoresRise}
use Rattle.area_cells.proofs.CutLaws.{cores_drop, cores_take, each_core}
use Rattle.area_cells.proofs.PieceLaws.{places_drop, places_take, rise_in_cores}
use Rattle.statement_replies.specs.Inner.Parts.{row_part}
use Rattle.statement_replies.proofs.TextLaws.{rows_on}
use Rattle.statement_replies.proofs.replies.texts.push_cores.Goals as goal

pub loop-rest-init : goal.loop-rest-init
loop-rest-init c = record {
  placed = c.requires.placed;
  cores = rise_in_cores c.args.schema.now c.args.margins.now.items c.args.chunks.now c.requires;
  rows = refl;
}

pub count_in_band-requires-clause-rise : goal.count_in_band-requires-clause-rise
count_in_band-requires-clause-rise c = c.loop-rest.invariant.placed.rising

pub count_in_band-requires-clause-cores : goal.count_in_band-requires-clause-cores
count_in_band-requires-clause-cores c = each_core c.args.schema.now c.args.margins.now.items c.loop-rest.rest.now c.loop-rest.invariant.placed.all

pub push_chunks-requires-clause-places : goal.push_chunks-requires-clause-places
push_chunks-requires-clause-places c = places_take c.args.schema.now c.args.margins.now.items c.count_in_band.result c.loop-rest.rest.now c.split_at.result.0.now c.split_at.ensures.front c.loop-rest.invariant.placed

pub push_chunks-requires-clause-cores : goal.push_chunks-requires-clause-cores
push_chunks-requires-clause-cores c =
    subst (λ (cs : List Chunk). CoresRise c.args.schema.now.dimensions c.args.margins.now.items cs) (sym c.split_at.ensures.front) (cores_take c.args.schema.now.dimensions c.args.margins.now.items c.count_in_band.result c.loop-rest.rest.now c.loop-rest.invariant.cores)

pub loop-rest-preserved : goal.loop-rest-preserved
loop-rest-preserved c =
    let dims = c.args.schema.now.dimensions in
    let margins = c.args.margins.now.items in
    let rest = c.loop-rest.rest.now in
    let count = c.count_in_band.result in
    let further = c.split_at.result.1.now in
    let rows = c.count_in_band.ensures.rows margins ∙ (λ i. core_rows dims margins (sym c.split_at.ensures.front i) ++ core_rows dims margins (sym c.split_at.ensures.back i)) in
    record {
      placed = places_drop c.args.schema.now margins count rest further c.split_at.ensures.back c.loop-rest.invariant.placed;
      cores = subst (λ (cs : List Chunk). CoresRise dims margins cs) (sym c.split_at.ensures.back) (cores_drop dims margins count rest c.loop-rest.invariant.cores);
      rows = rows_on (row_part c.args.style.csv) c.loop-rest.text c.push_chunks.new.text c.args.text.now (core_rows dims margins rest) (core_rows dims margins c.split_at.result.0.now) (core_rows dims margins further) (core_rows dims margins c.args.chunks.now) rows c.in_ok-push_chunks.ensures c.loop-rest.invariant.rows;
    }

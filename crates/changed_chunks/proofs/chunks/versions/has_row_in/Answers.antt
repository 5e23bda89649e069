use Rattle.std.proofs.Common.{List, sym, ap, ◌∙◌, subst}
use Rattle.array_geom.specs.declared.chunk.Chunk.{Chunk}
use Rattle.array_rows.specs.Boxes.{within}
use Rattle.array_geom.specs.Link.{core_rows}
use Rattle.array_parts.specs.Placed.{HavePlaces}
use Rattle.chunk_cells.specs.Whole.{CoresRise}
use Rattle.changed_chunks.proofs.Written.{has_row, its_cores_rise, its_places}
use Rattle.changed_chunks.proofs.chunks.versions.has_row_in.Goals as goal

pub rows_in_area-requires-clause-places : goal.rows_in_area-requires-clause-places
rows_in_area-requires-clause-places c =
    subst (λ (z : List Chunk). HavePlaces c.args.put.now.schema c.args.put.now.margins.items z) (sym c.as_slice.ensures) (its_places c.args.put.now c.requires)

pub rows_in_area-requires-clause-cores : goal.rows_in_area-requires-clause-cores
rows_in_area-requires-clause-cores c =
    subst (λ (z : List Chunk). CoresRise c.args.put.now.schema.dimensions c.args.put.now.margins.items z) (sym c.as_slice.ensures) (its_cores_rise c.args.put.now c.requires)

pub returns : goal.returns
returns c =
    let put = c.args.put.now in
    has_row put c.requires c.args.area.now c.in_ok-rows.rows c.is_empty.result
    (c.in_ok-rows.ensures ∙ ap (λ (z : List Chunk). within c.args.area.now (core_rows put.schema.dimensions put.margins.items z)) c.as_slice.ensures) c.is_empty.ensures

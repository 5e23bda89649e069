use Rattle.array_geom.specs.Geometry.{frame, overlaps}
use Rattle.array_geom.specs.Link.{core_rows}
use Rattle.area_cells.proofs.PieceLaws.{all_within}
use Rattle.backup_format.proofs.CoreChunks.{framed, have_places, cores_rise}
use Rattle.backup_format.proofs.CorePayloads.{all_by, cut_by, encoded_if}
use Rattle.backup_format.proofs.cores.payload_of_cores.Goals as goal

pub frame-area-requires : goal.frame-area-requires
frame-area-requires c = framed c.args.schema.now c.margins_of-margins.result.items c.args.number.now.items c.margins_of-margins.ensures c.requires.valid c.requires.core

pub rows_in_area-requires-clause-places : goal.rows_in_area-requires-clause-places
rows_in_area-requires-clause-places c =
    have_places c.args.schema.now c.margins_of-margins.result.items c.args.number.now.items c.args.chunks.now c.margins_of-margins.ensures c.requires.valid c.requires.core c.requires.rise c.requires.stored

pub rows_in_area-requires-clause-cores : goal.rows_in_area-requires-clause-cores
rows_in_area-requires-clause-cores c =
    cores_rise c.args.schema.now c.margins_of-margins.result.items c.args.number.now.items c.args.chunks.now c.margins_of-margins.ensures c.requires.valid c.requires.core c.requires.rise c.requires.stored

pub chunk_of_rows-requires-clause-framed : goal.chunk_of_rows-requires-clause-framed
chunk_of_rows-requires-clause-framed c = framed c.args.schema.now c.margins_of-margins.result.items c.args.number.now.items c.margins_of-margins.ensures c.requires.valid c.requires.core

pub chunk_of_rows-requires-clause-inside : goal.chunk_of_rows-requires-clause-inside
chunk_of_rows-requires-clause-inside c =
    all_within (frame c.args.schema.now.dimensions c.margins_of-margins.result.items c.args.number.now.items) (core_rows c.args.schema.now.dimensions c.margins_of-margins.result.items c.args.chunks.now) c.in_ok-rows.rows
    (cut_by c.args.schema.now.dimensions c.margins_of-margins.result.items c.args.number.now.items c.frame-area.result (core_rows c.args.schema.now.dimensions c.margins_of-margins.result.items c.args.chunks.now) c.in_ok-rows.rows c.frame-area.ensures c.in_ok-rows.ensures)

pub returns : goal.returns
returns c =
    let dims = c.args.schema.now.dimensions in
    let margins = c.margins_of-margins.result.items in
    encoded_if c.args.schema.now margins c.args.number.now (core_rows dims (overlaps dims) c.args.chunks.now) c.in_ok-rows.rows c.in_ok-chunk.chunk c.encode.result c.margins_of-margins.ensures c.requires.valid c.requires.core
    (all_by dims margins (frame dims margins c.args.number.now.items) c.args.chunks.now c.in_ok-rows.rows c.margins_of-margins.ensures
    (cut_by dims margins c.args.number.now.items c.frame-area.result (core_rows dims margins c.args.chunks.now) c.in_ok-rows.rows c.frame-area.ensures c.in_ok-rows.ensures))
    c.in_ok-chunk.ensures.number c.in_ok-chunk.ensures.placed c.in_ok-chunk.ensures.rows c.encode.ensures

use Rattle.std.proofs.Common.{List, sym, ap, ◌∙◌, subst}
use Rattle.array_rows.specs.Boxes.{within}
use Rattle.array_geom.specs.declared.chunk.Chunk.{Chunk}
use Rattle.array_geom.specs.Link.{core_rows}
use Rattle.chunk_cells.specs.Whole.{CoresRise}
use Rattle.chunk_cells.proofs.MergeLaws.{if_ok}
use Rattle.exec_box.proofs.ArraysMadeLaws.{rise_in_cores}
use Rattle.exec_box.proofs.PieceLaws.{slice_there}
use Rattle.exec_box.proofs.arrays.slice_pieces.slice_in.Goals as goal

pub rows_in_area-requires-clause-cores : goal.rows_in_area-requires-clause-cores
rows_in_area-requires-clause-cores c =
    let array = c.args.array.now in
    subst (λ (cs : List Chunk). CoresRise array.schema.dimensions array.margins.items cs) (sym c.as_slice.ensures) (rise_in_cores array.schema array.margins.items array.chunks c.requires.cells)

pub returns : goal.returns
returns c =
    let array = c.args.array.now in
    if_ok c.slice_of_rows.result c.slice_of_rows.ensures
    (λ made m. slice_there array c.args.fixed.now c.args.target.now c.spread_box-from.result c.in_ok-rows.rows made c.requires.cells c.requires.low c.requires.high c.spread_box-from.ensures
    (c.in_ok-rows.ensures ∙ ap (λ (cs : List Chunk). within c.spread_box-from.result (core_rows array.schema.dimensions array.margins.items cs)) c.as_slice.ensures) m)

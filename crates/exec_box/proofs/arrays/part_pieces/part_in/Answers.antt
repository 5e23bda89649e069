use Rattle.std.proofs.Common.{List, sym, ap, ◌∙◌, subst}
use Rattle.cell_values.specs.declared.schema.Bounds.{Bounds}
use Rattle.array_rows.specs.Boxes.{meet, within}
use Rattle.array_geom.specs.declared.chunk.Chunk.{Chunk}
use Rattle.array_geom.specs.Link.{core_rows}
use Rattle.chunk_cells.specs.Whole.{CoresRise}
use Rattle.chunk_cells.proofs.MergeLaws.{if_ok}
use Rattle.exec_box.specs.Moves.{IsShort}
use Rattle.exec_box.proofs.ArraysMadeLaws.{rise_in_cores}
use Rattle.exec_box.proofs.PartLaws.{short_box}
use Rattle.exec_box.proofs.PieceLaws.{part_there}
use Rattle.exec_box.proofs.arrays.part_pieces.part_in.Goals as goal

pub rows_in_area-requires-clause-cores : goal.rows_in_area-requires-clause-cores
rows_in_area-requires-clause-cores c =
    let array = c.args.array.now in
    subst (λ (cs : List Chunk). CoresRise array.schema.dimensions array.margins.items cs) (sym c.as_slice.ensures) (rise_in_cores array.schema array.margins.items array.chunks c.requires.cells)

pub part_of_rows-requires : goal.part_of_rows-requires
part_of_rows-requires c =
    subst IsShort (sym (c.meet-area.ensures ∙ ap (λ (b : Bounds). meet b c.args.area.now) c.bounds.ensures)) (short_box c.args.area.now c.args.array.now.schema c.requires.cells.placed.valid)

pub returns : goal.returns
returns c =
    let array = c.args.array.now in
    if_ok c.part_of_rows.result c.part_of_rows.ensures
    (λ made m. part_there array c.args.area.now c.meet-area.result c.args.target.now c.raised_box-from.result c.in_ok-rows.rows made c.requires.cells (c.meet-area.ensures ∙ ap (λ (b : Bounds). meet b c.args.area.now) c.bounds.ensures) c.raised_box-from.ensures
    (c.in_ok-rows.ensures ∙ ap (λ (cs : List Chunk). within c.raised_box-from.result (core_rows array.schema.dimensions array.margins.items cs)) c.as_slice.ensures) m)

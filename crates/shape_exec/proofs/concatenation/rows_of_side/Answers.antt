use Rattle.std.proofs.Common.{List, sym, subst}
use Rattle.array_geom.specs.declared.chunk.Chunk.{Chunk}
use Rattle.chunk_cells.specs.Whole.{CoresRise}
use Rattle.exec_box.proofs.ArraysMadeLaws.{rise_in_cores}
use Rattle.shape_exec.proofs.concatenation.rows_of_side.Goals as goal

pub rows_in_area-requires-clause-cores : goal.rows_in_area-requires-clause-cores
rows_in_area-requires-clause-cores c =
    let array = c.args.array.now in
    subst (λ (cs : List Chunk). CoresRise array.schema.dimensions array.margins.items cs) (sym c.as_slice.ensures) (rise_in_cores array.schema array.margins.items array.chunks c.requires.cells)

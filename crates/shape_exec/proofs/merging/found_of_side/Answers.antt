use Rattle.std.proofs.Common.{List, sym, ap, ◌∙◌, subst}
use Rattle.array_rows.specs.Boxes.{is_inside, within}
use Rattle.array_rows.specs.Rows.{IsRising}
use Rattle.array_rows.proofs.RowSets.{IsRising-rows_where}
use Rattle.array_geom.specs.declared.chunk.Chunk.{Chunk}
use Rattle.array_geom.specs.Link.{core_rows}
use Rattle.array_parts.specs.Cores.{cores_of}
use Rattle.array_parts.proofs.CoreLaws.{cores_are_rows}
use Rattle.chunk_cells.proofs.MergeLaws.{if_ok}
use Rattle.shape_exec.proofs.FoundChunks.{rows_rise}
use Rattle.shape_exec.proofs.merging.found_of_side.Goals as goal

pub found_in-requires-clause-rows : goal.found_in-requires-clause-rows
found_in-requires-clause-rows c = rows_rise c.args.array.now.schema c.args.array.now.margins.items c.args.array.now.chunks c.as_slice.result.now c.as_slice.ensures c.requires.cells

pub returns-clause-found : goal.returns-clause-found
returns-clause-found c =
    let array = c.args.array.now in
    if_ok c.found_in.result c.found_in.ensures
    (λ found is. record { each = is.each; rows_are = is.rows_are ∙ ap (λ (cs : List Chunk). within c.args.area.now (core_rows array.schema.dimensions array.margins.items cs)) c.as_slice.ensures })

pub returns-clause-rise : goal.returns-clause-rise
returns-clause-rise c =
    let array = c.args.array.now in
    let area = c.args.area.now in
    if_ok c.found_in.result c.found_in.ensures
    (λ found is. subst IsRising (sym (is.rows_are ∙ ap (λ (cs : List Chunk). within area (core_rows array.schema.dimensions array.margins.items cs)) c.as_slice.ensures))
    (IsRising-rows_where (is_inside area) (cores_of array) (cores_are_rows array.schema array.margins.items array.chunks c.requires.cells).are_rows.rising))

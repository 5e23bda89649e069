use Rattle.std.proofs.Common.{List, sym, ap, ◌∙◌, subst}
use Rattle.array_rows.specs.Boxes.{within}
use Rattle.array_geom.specs.declared.chunk.Chunk.{Chunk}
use Rattle.array_geom.specs.Link.{core_rows}
use Rattle.array_parts.specs.Cores.{cores_of}
use Rattle.chunk_cells.specs.Whole.{CoresRise}
use Rattle.chunk_cells.proofs.MergeLaws.{if_ok}
use Rattle.area_cells.proofs.PieceLaws.{all_within}
use Rattle.exec_box.proofs.ArraysMadeLaws.{rise_in_cores}
use Rattle.array_rows.specs.Boxes.{bounds_of}
use Rattle.shape_exec.proofs.BuildLaws.{cores_inside, taken_inside}
use Rattle.shape_exec.proofs.PullParts.{kept_part}
use Rattle.shape_exec.proofs.mapped_arrays.part_in.Goals as goal

pub rows_in_area-requires-clause-cores : goal.rows_in_area-requires-clause-cores
rows_in_area-requires-clause-cores g c =
    let array = c.args.array.now in
    subst (λ (cs : List Chunk). CoresRise array.schema.dimensions array.margins.items cs) (sym c.as_slice.ensures) (rise_in_cores array.schema array.margins.items array.chunks c.requires.cells)

pub rows_from-requires-clause-inside : goal.rows_from-requires-clause-inside
rows_from-requires-clause-inside g c =
    taken_inside c.args.array.now (g.M.CellMap.source c.args.map.now) c.preimage-near.result c.as_slice.result.now c.in_ok-from.from c.requires.cells c.requires.source c.as_slice.ensures c.in_ok-from.ensures

pub returns-clause-inside : goal.returns-clause-inside
returns-clause-inside g c = if_ok c.keep_inside.result c.keep_inside.ensures (λ kept e. all_within c.args.area.now c.in_ok-made.made kept e)

pub returns-clause-rows : goal.returns-clause-rows
returns-clause-rows g c = λ whole is.
    let array = c.args.array.now in
    if_ok c.keep_inside.result c.keep_inside.ensures
    (λ kept e. kept_part (bounds_of (g.M.CellMap.target c.args.map.now)) (bounds_of (g.M.CellMap.source c.args.map.now)) c.args.area.now c.preimage-near.result (g.M.CellMap.back c.args.map.now) (cores_of array) c.in_ok-from.from c.in_ok-made.made kept c.preimage-near.ensures
    (cores_inside array (g.M.CellMap.source c.args.map.now) c.requires.cells c.requires.source)
    (c.in_ok-from.ensures ∙ ap (λ (cs : List Chunk). within c.preimage-near.result (core_rows array.schema.dimensions array.margins.items cs)) c.as_slice.ensures) c.in_ok-made.ensures e whole is)

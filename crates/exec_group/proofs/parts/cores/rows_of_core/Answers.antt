use Rattle.std.proofs.Common.{sym, subst}
use Rattle.std.specs.List.{All}
use Rattle.std.specs.Prelude.{IsTrue}
use Rattle.cell_values.specs.declared.datum.Row.{Row}
use Rattle.array_rows.specs.Boxes.{is_inside, bounds_of}
use Rattle.array_rows.specs.Rows.{IsRising}
use Rattle.group_rows.proofs.PartsPartLaws.{alone_cells, alone_rows, core_rises, core_inside}
use Rattle.group_rows.proofs.ToldLaws.{if_ok}
use Rattle.exec_group.proofs.parts.cores.rows_of_core.Goals as goal

pub rows_of_cores-requires : goal.rows_of_cores-requires
rows_of_cores-requires c = alone_cells c.args.schema.now c.args.margins.now c.args.chunk c.in_ok-array.array c.in_ok-array.ensures.schema c.in_ok-array.ensures.margins c.in_ok-array.ensures.chunks c.requires

pub returns-clause-rows : goal.returns-clause-rows
returns-clause-rows c = if_ok c.rows_of_cores.result c.rows_of_cores.ensures.rows
    (λ rows e. alone_rows c.args.schema.now c.args.margins.now c.args.chunk c.in_ok-array.array rows c.in_ok-array.ensures.schema c.in_ok-array.ensures.margins c.in_ok-array.ensures.chunks c.requires e)

pub returns-clause-rising : goal.returns-clause-rising
returns-clause-rising c = if_ok c.rows_of_cores.result c.rows_of_cores.ensures.rows
    (λ rows e. subst IsRising (sym (alone_rows c.args.schema.now c.args.margins.now c.args.chunk c.in_ok-array.array rows c.in_ok-array.ensures.schema c.in_ok-array.ensures.margins c.in_ok-array.ensures.chunks c.requires e)) (core_rises c.args.schema.now c.args.margins.now.items c.args.chunk c.requires))

pub returns-clause-inside : goal.returns-clause-inside
returns-clause-inside c = if_ok c.rows_of_cores.result c.rows_of_cores.ensures.rows
    (λ rows e. subst (All (λ (row : Row). IsTrue (is_inside (bounds_of c.args.schema.now.dimensions) row.at.items))) (sym (alone_rows c.args.schema.now c.args.margins.now c.args.chunk c.in_ok-array.array rows c.in_ok-array.ensures.schema c.in_ok-array.ensures.margins c.in_ok-array.ensures.chunks c.requires e)) (core_inside c.args.schema.now c.args.margins.now.items c.args.chunk c.requires))

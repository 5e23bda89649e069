use Rattle.std.proofs.Common.{List, ap, ◌∙◌, subst}
use Rattle.cell_values.specs.declared.schema.Attribute.{Attribute}
use Rattle.cell_values.specs.declared.schema.Bounds.{Bounds}
use Rattle.array_rows.specs.Boxes.{meet}
use Rattle.exec_cellwise.specs.Inner.Rows.{built_row}
use Rattle.exec_cellwise.specs.Inner.Walks.{TakesRows, rows_between}
use Rattle.exec_cellwise.proofs.ChunkLaws.{part_walked, walk_in_grid}
use Rattle.exec_cellwise.proofs.build.chunks.chunks.chunk_at.Goals as goal

pub add_cells-requires-clause-inside : goal.add_cells-requires-clause-inside
add_cells-requires-clause-inside c = λ at inside.
    walk_in_grid c.args.schema.now c.args.margins.now.items c.args.number.now.items c.grid_of-grid.result c.args.bounds.now c.meet-area.result c.as_slice.result.now c.as_slice-2.result.now at c.new-3.result.items c.requires.framed c.requires.bounds
    (c.meet-area.ensures ∙ ap (λ (z : Bounds). meet z c.args.bounds.now) c.frame.ensures) c.as_slice.ensures.value c.as_slice-2.ensures.value c.grid_of-grid.ensures.low c.grid_of-grid.ensures.lengths c.new-3.ensures inside

pub returns-clause-part : goal.returns-clause-part
returns-clause-part c =
    part_walked c.args.schema.now c.args.value.now c.args.margins.now.items c.args.number.now c.grid_of-grid.result c.args.bounds.now c.meet-area.result c.as_slice.result.now c.as_slice-2.result.now c.new-3.result.items _ c.add_cells.new.chunk
    c.requires.framed c.requires.bounds (c.meet-area.ensures ∙ ap (λ (z : Bounds). meet z c.args.bounds.now) c.frame.ensures) c.as_slice.ensures.value c.as_slice-2.ensures.value c.new-3.ensures c.grid_of-grid.ensures.low c.grid_of-grid.ensures.lengths c.copy_numbers.ensures c.new.ensures c.new-2.ensures
    (subst (λ (attributes : List Attribute). TakesRows c.grid_of-grid.result.low.items c.grid_of-grid.result.lengths.items (rows_between (built_row attributes c.args.value.now) c.new-3.result.items c.as_slice.result.now c.as_slice-2.result.now) (record { at = c.copy_numbers.result; positions = c.new.result; cells = c.new-2.result }) c.add_cells.new.chunk)
    c.as_slice-attributes.ensures c.in_ok-add_cells.ensures)

use Rattle.std.proofs.Common.{◌≡◌, ◌∙◌, ap, map, refl, sym}
use Rattle.cell_values.specs.declared.datum.Cell.TheVariants.{Full}
use Rattle.array_rows.specs.Inner.CellsIn.{cells_in}
use Rattle.exec_cellwise.proofs.ComputedLaws.{applied_made, applied_part, cells_of_rows}
use Rattle.exec_cellwise.proofs.chunks.applying.apply_chunk.Goals as goal

pub returns-in-Ok-clause-made : goal.returns-in-Ok-clause-made
returns-in-Ok-clause-made c =
    let low = c.grid_of-grid.result.low.items in
    let lengths = c.grid_of-grid.result.lengths.items in
    let values = c.args.values.now in
    let full : map Full c.in-Even.rows ≡ c.args.chunk.cells = ap cells_in (sym c.in-Even.is) ∙ c.into_form.ensures in
    applied_made values c.args.schema.now.dimensions c.args.margins.now.items low lengths c.args.chunk _ c.grid_of-grid.ensures.low c.grid_of-grid.ensures.lengths
    refl refl (cells_of_rows low lengths values _ _ c.in-Even.rows _ _ c.in-Ok.ensures c.as_slice.ensures full) c.requires.placed

pub returns-in-Ok-clause-part : goal.returns-in-Ok-clause-part
returns-in-Ok-clause-part c = λ rows part.
    let low = c.grid_of-grid.result.low.items in
    let lengths = c.grid_of-grid.result.lengths.items in
    let values = c.args.values.now in
    let full : map Full c.in-Even.rows ≡ c.args.chunk.cells = ap cells_in (sym c.in-Even.is) ∙ c.into_form.ensures in
    applied_part values c.args.schema.now.dimensions c.args.margins.now.items rows low lengths c.args.chunk _ c.grid_of-grid.ensures.low c.grid_of-grid.ensures.lengths
    refl refl (cells_of_rows low lengths values _ _ c.in-Even.rows _ _ c.in-Ok.ensures c.as_slice.ensures full) part

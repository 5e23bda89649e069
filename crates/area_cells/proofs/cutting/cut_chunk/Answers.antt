use Rattle.std.proofs.Common.{sym, ap, ◌∙◌, length, drop, [], List, subst}
use Rattle.cell_values.specs.declared.datum.Row.{Row}
use Rattle.cell_values.specs.declared.datum.Cell.TheVariants.{Full}
use Rattle.array_rows.specs.Inner.CellsIn.{cells_in}
use Rattle.array_parts.specs.Made.{IsMadeBy}
use Rattle.array_parts.proofs.Steps.{begins, next_at, done}
use Rattle.area_cells.specs.Cut.{cell_inside}
use Rattle.area_cells.proofs.CutLaws.{cut_is_within}
use Rattle.area_cells.proofs.cutting.cut_chunk.Goals as goal

pub loop-k-init : goal.loop-k-init
loop-k-init c =
    begins (cell_inside c.args.area.now) c.args.schema.now.dimensions c.args.margins.now.items c.grid_of-grid.result.low.items c.grid_of-grid.result.lengths.items c.args.chunk.now _
    c.as_slice-places.result.now (cells_in c.form-form.result.now) c.grid_of-grid.ensures.lengths c.requires.placed c.copy_numbers.ensures c.another.ensures c.another-2.ensures
    c.as_slice-places.ensures c.form-form.ensures

pub loop-k-preserved : goal.loop-k-preserved
loop-k-preserved c =
    next_at (cell_inside c.args.area.now) c.grid_of-grid.result.low.items c.grid_of-grid.result.lengths.items c.args.chunk.now c.loop-k.made c.push_inside.new.made c.as_slice-places.result.now (cells_in c.form-form.result.now) c.loop-k.k (Full []) c.loop-k-test.true
    (ap length c.form-form.ensures ∙ c.requires.placed.each ∙ sym (ap length c.as_slice-places.ensures)) c.loop-k.invariant c.in_ok-push_inside.ensures

pub returns : goal.returns
returns c =
    subst (λ (operator : List Row → List Row). IsMadeBy operator c.args.schema.now.dimensions c.args.margins.now.items c.args.chunk.now c.loop-k.made) (cut_is_within c.args.area.now)
    (done (cell_inside c.args.area.now) c.args.schema.now.dimensions c.args.margins.now.items c.grid_of-grid.result.low.items c.grid_of-grid.result.lengths.items c.args.chunk.now c.loop-k.made c.as_slice-places.result.now c.loop-k.k (drop c.loop-k.k (cells_in c.form-form.result.now))
    c.grid_of-grid.ensures.low c.grid_of-grid.ensures.lengths c.loop-k-test.false c.loop-k.invariant)

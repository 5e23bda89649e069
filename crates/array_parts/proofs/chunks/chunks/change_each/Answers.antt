use Rattle.std.proofs.Common.{refl, sym, ap, ◌∙◌, length, drop, []}
use Rattle.cell_values.specs.declared.datum.Cell.TheVariants.{Full}
use Rattle.array_rows.specs.Inner.CellsIn.{cells_in}
use Rattle.array_parts.proofs.Steps.{begins, next_at, done, part_made}
use Rattle.array_parts.proofs.chunks.chunks.change_each.Goals as goal

pub loop-k-init : goal.loop-k-init
loop-k-init g c =
    begins (g.C.CellChange.changed c.args.change.now) c.args.schema.now.dimensions c.args.margins.now.items c.grid_of-grid.result.low.items c.grid_of-grid.result.lengths.items c.args.chunk _ c.as_slice-places.result.now (cells_in c.form-form.result.now) c.grid_of-grid.ensures.lengths c.requires.placed refl c.another.ensures c.another-2.ensures c.as_slice-places.ensures c.form-form.ensures

pub loop-k-preserved : goal.loop-k-preserved
loop-k-preserved g c =
    next_at (g.C.CellChange.changed c.args.change.now) c.grid_of-grid.result.low.items c.grid_of-grid.result.lengths.items c.args.chunk c.loop-k.made c.push_next.new.made c.as_slice-places.result.now (cells_in c.form-form.result.now) c.loop-k.k (Full []) c.loop-k-test.true (ap length c.form-form.ensures ∙ c.requires.placed.each ∙ sym (ap length c.as_slice-places.ensures)) c.loop-k.invariant c.in_ok-push_next.ensures

pub returns-clause-made : goal.returns-clause-made
returns-clause-made g c =
    (done (g.C.CellChange.changed c.args.change.now) c.args.schema.now.dimensions c.args.margins.now.items c.grid_of-grid.result.low.items c.grid_of-grid.result.lengths.items c.args.chunk c.loop-k.made c.as_slice-places.result.now c.loop-k.k (drop c.loop-k.k (cells_in c.form-form.result.now)) c.grid_of-grid.ensures.low c.grid_of-grid.ensures.lengths c.loop-k-test.false c.loop-k.invariant)

pub returns-clause-part : goal.returns-clause-part
returns-clause-part g c = λ rows part.
    part_made (g.C.CellChange.changed c.args.change.now) c.args.schema.now.dimensions c.args.margins.now.items rows c.args.chunk c.loop-k.made part (done (g.C.CellChange.changed c.args.change.now) c.args.schema.now.dimensions c.args.margins.now.items c.grid_of-grid.result.low.items c.grid_of-grid.result.lengths.items c.args.chunk c.loop-k.made c.as_slice-places.result.now c.loop-k.k (drop c.loop-k.k (cells_in c.form-form.result.now)) c.grid_of-grid.ensures.low c.grid_of-grid.ensures.lengths c.loop-k-test.false c.loop-k.invariant)

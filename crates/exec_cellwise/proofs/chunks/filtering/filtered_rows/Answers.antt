use Rattle.std.proofs.Common.{◌∙◌, ap, length, map, drop, sym}
use Rattle.cell_values.specs.declared.datum.Cell.TheVariants.{Full}
use Rattle.array_geom.proofs.PlaceLaws.{some}
use Rattle.logical_plan.specs.CellOps.{filter_cell}
use Rattle.array_parts.proofs.Steps.{begins, done, next_in_frame}
use Rattle.exec_cellwise.proofs.FilterLaws.{next_row}
use Rattle.exec_cellwise.proofs.chunks.filtering.filtered_rows.Goals as goal

pub place-at-requires-clause-inside : goal.place-at-requires-clause-inside
place-at-requires-clause-inside c = some c.grid_of-grid.result.lengths.items c.grid_of-grid.ensures.grid.lengths

pub loop-k-init : goal.loop-k-init
loop-k-init c = (
  some c.grid_of-grid.result.lengths.items c.grid_of-grid.ensures.grid.lengths,
  c.place-at.ensures,
  begins (filter_cell c.args.test.now) c.args.schema.now.dimensions c.args.margins.now.items c.grid_of-grid.result.low.items c.grid_of-grid.result.lengths.items c.args.chunk.now _ c.as_slice-places.result.now (map Full c.args.rows.now)
      c.grid_of-grid.ensures.lengths c.requires.placed c.copy_numbers.ensures c.another.ensures c.another-2.ensures c.as_slice-places.ensures c.requires.rows,
)

pub loop-k-preserved : goal.loop-k-preserved
loop-k-preserved c =
    let change = filter_cell c.args.test.now in
    let low = c.grid_of-grid.result.low.items in
    let lengths = c.grid_of-grid.result.lengths.items in
    let places = c.as_slice-places.result.now in (
      next_in_frame change low lengths c.args.chunk.now c.loop-k.made places c.loop-k.k (drop c.loop-k.k (map Full c.args.rows.now)) c.loop-k-test.true c.loop-k.invariant.2,
      c.move_to.ensures,
      next_row change low lengths c.args.chunk.now c.loop-k.made c.push_filtered.new.made places c.args.rows.now c.args.chunk.now.cells c.loop-k.k _ c.loop-k-test.true c.requires.rows
          (c.requires.placed.each ∙ sym (ap length c.as_slice-places.ensures)) c.move_to.ensures c.loop-k.invariant.2 c.in_ok-push_filtered.ensures,
    )

pub returns : goal.returns
returns c =
    done (filter_cell c.args.test.now) c.args.schema.now.dimensions c.args.margins.now.items c.grid_of-grid.result.low.items c.grid_of-grid.result.lengths.items c.args.chunk.now c.loop-k.made c.as_slice-places.result.now c.loop-k.k
    (drop c.loop-k.k (map Full c.args.rows.now)) c.grid_of-grid.ensures.low c.grid_of-grid.ensures.lengths c.loop-k-test.false c.loop-k.invariant.2

use Rattle.std.proofs.Common.{ap, ◌∙◌}
use Rattle.array_rows.specs.Boxes.{by_pairs}
use Rattle.logical_plan.specs.declared.parts.Applied.{Applied}
use Rattle.exec_cellwise.specs.Inner.Computed.{value_there}
use Rattle.exec_cellwise.proofs.Picking.{one_made}
use Rattle.exec_cellwise.proofs.chunks.computing.computed_columns.Goals as goal

pub loop-applied-preserved : goal.loop-applied-preserved
loop-applied-preserved c =
    one_made (λ (a : Applied). by_pairs (value_there c.args.grid.now.low.items c.args.grid.now.lengths.items a.value) c.args.places.now c.args.rows.now) c.args.values.now c.loop-applied.applied-index c.applied-item.result
    c.in_ok-computed_column.field-0 c.loop-applied.columns.items c.push.new.self.items c.loop-applied-test.true c.loop-applied.invariant c.in_ok-push.ensures.items
    (c.in_ok-computed_column.ensures ∙ ap (λ (a : Applied). by_pairs (value_there c.args.grid.now.low.items c.args.grid.now.lengths.items a.value) c.args.places.now c.args.rows.now) c.applied-item.is)

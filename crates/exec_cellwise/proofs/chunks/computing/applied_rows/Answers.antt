use Rattle.std.proofs.Common.{◌∙◌, ap, length, sym}
use Rattle.exec_cellwise.specs.Inner.Computed.{values_there}
use Rattle.exec_cellwise.proofs.ComputedLaws.{cells_applied, pairs_length}
use Rattle.exec_cellwise.proofs.chunks.computing.applied_rows.Goals as goal

pub cells_of_both-requires : goal.cells_of_both-requires
cells_of_both-requires c =
    ap length c.in-Ok.ensures
    ∙ pairs_length (values_there c.args.grid.now.low.items c.args.grid.now.lengths.items c.args.values.now) c.args.places.now c.args.rows c.requires.each ∙ sym c.requires.each

pub returns-in-Ok : goal.returns-in-Ok
returns-in-Ok c =
    cells_applied c.args.grid.now.low.items c.args.grid.now.lengths.items c.args.places.now c.args.values.now c.args.rows _ c.cells_of_both.result
    c.in-Ok.ensures c.cells_of_both.ensures

use Rattle.std.proofs.Common.{length, refl}
use Rattle.exec_cellwise.proofs.ComputedLaws.{are_long_columns, rows_are}
use Rattle.exec_cellwise.proofs.chunks.computing.computed_rows.Goals as goal

pub from_columns-requires : goal.from_columns-requires
from_columns-requires c =
    are_long_columns c.args.grid.now.low.items c.args.grid.now.lengths.items c.args.places.now c.args.rows.now c.args.values.now c.in_ok-columns.columns.items (length c.args.places.now)
    c.requires.each refl c.in_ok-columns.ensures

pub returns : goal.returns
returns c =
    rows_are c.args.grid.now.low.items c.args.grid.now.lengths.items c.args.places.now c.args.rows.now c.requires.each c.args.values.now c.in_ok-columns.columns.items (length c.args.places.now) _
    refl c.in_ok-columns.ensures c.from_columns.ensures

use Rattle.area_cells.proofs.PieceLaws.{rise_in_cores}
use Rattle.changed_chunks.proofs.Rows.{can_fit}
use Rattle.changed_chunks.proofs.chunks.input.fitted_rows.Goals as goal

pub into_core_rows-requires-clause-rise : goal.into_core_rows-requires-clause-rise
into_core_rows-requires-clause-rise c = rise_in_cores c.args.array.schema c.args.array.margins.items c.args.array.chunks c.requires.cells

pub fit_rows-requires : goal.fit_rows-requires
fit_rows-requires c = can_fit c.args.schema.now c.args.array c.as_slice.result.now c.in_ok-rows.rows c.requires.cells c.requires.takes c.as_slice.ensures c.in_ok-rows.ensures

use Rattle.std.proofs.Common.{sym, ◌∙◌}
use Rattle.changed_chunks.proofs.Rows.{may_be_stored}
use Rattle.changed_chunks.proofs.chunks.input.rows_in.Goals as goal

pub returns-in_ok-fitted_rows-in-None-clause-may : goal.returns-in_ok-fitted_rows-in-None-clause-may
returns-in_ok-fitted_rows-in-None-clause-may c =
    may_be_stored c.args.schema.now c.args.array c.in_ok-fitted_rows-in-None.field-0 c.without_fault.result c.requires.valid (c.requires.cells (sym c.broken_of.ensures ∙ c.in-None.is)) c.requires.takes
    c.in_ok-fitted_rows-in-None.ensures c.without_fault.ensures

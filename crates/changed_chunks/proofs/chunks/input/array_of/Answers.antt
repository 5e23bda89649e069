use Rattle.std.proofs.Common.{Ok, sym, ap, ◌∙◌}
use Rattle.changed_chunks.proofs.chunks.input.array_of.Goals as goal

pub returns-in_ok-stored_array-in-Ok-clause-found : goal.returns-in_ok-stored_array-in-Ok-clause-found
returns-in_ok-stored_array-in-Ok-clause-found c = ap Ok c.in_ok-stored_array-in-Ok.ensures.rows ∙ sym c.in-Ok.is

pub returns-in_ok-stored_array-in-Ok-clause-may : goal.returns-in_ok-stored_array-in-Ok-clause-may
returns-in_ok-stored_array-in-Ok-clause-may c = record { same = c.in_ok-stored_array-in-Ok.ensures.schema; can = c.in_ok-stored_array-in-Ok.ensures.can }

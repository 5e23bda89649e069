use Rattle.std.proofs.Common.{subst}
use Rattle.cell_values.specs.declared.schema.Schema.{Schema}
use Rattle.array_parts.specs.Cores.{cores_of}
use Rattle.plan_changes.specs.Databases.{fitted}
use Rattle.changed_chunks.specs.Inner.Input.{IsFound}
use Rattle.changed_chunks.specs.Inner.Writes.{IsStoreOf}
use Rattle.changed_chunks.proofs.Told.{answers_store}
use Rattle.changed_chunks.proofs.chunks.changing.stored_chunks.Goals as goal

pub returns-in-Err-clause-told : goal.returns-in-Err-clause-told
returns-in-Err-clause-told c db name plan means found = record { stores = means; answer = subst (IsFound (fitted c.args.schema.now plan db)) c.in-Err.is found }

pub returns-in_ok-stored_array-in-Ok-clause-told : goal.returns-in_ok-stored_array-in-Ok-clause-told
returns-in_ok-stored_array-in-Ok-clause-told c db name plan means found =
    answers_store db name c.args.schema.now plan c.args.found c.in-Ok.input c.all_of.result means found c.in-Ok.is (cores_of c.in_ok-stored_array-in-Ok.field-0) c.in_ok-stored_array-in-Ok.ensures.rows
    (subst (λ (schema : Schema). IsStoreOf schema (cores_of c.in_ok-stored_array-in-Ok.field-0) c.all_of.result) c.in_ok-stored_array-in-Ok.ensures.schema c.all_of.ensures)

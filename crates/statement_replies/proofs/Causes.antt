-- Answers behind what was done for them: why they fail, and what holds where they don't.
use Rattle.std.proofs.Common.{◌≡◌, ◌∙◌, Result, Ok, Err, OnOk, arith}
use Rattle.chunk_source.specs.declared.reading.fault.ExecFault.{ExecFault}
use Rattle.chunk_source.specs.declared.reading.fault.ExecFault.TheVariants.{Source, Damaged, Memory}
use Rattle.chunk_source.specs.Faults.{Answers}
use Rattle.chunk_source.specs.Source.{Keeps, SourceState}

-- why one that goes on from a later state fails
pub answers_before : {T : Type 0} (answer : Result T ExecFault) (old mid new : SourceState) → Keeps old mid → mid.damaged ≡ old.damaged → Answers mid new answer
    → Answers old new answer
answers_before (Ok x) old mid new kept same cause = cause ∙ same
answers_before (Err Source) old mid new kept same cause = (omega (arith, kept.later, cause.0), cause.1 ∙ same)
answers_before (Err (Damaged page)) old mid new kept same cause = cause
answers_before (Err Memory) old mid new kept same cause = cause ∙ same

pub on_ok : {T E : Type 0} (answer : Result T E) (P : Type 0) → P → OnOk answer P
on_ok (Ok x) P holds = holds
on_ok (Err fault) P holds = tt

-- What holds of replies, or of the fault that memory is short.
use Rattle.std.proofs.Common.{◌≡◌, Result, Ok, Err, IfErr, IfOk, refl, sym, subst}
use Rattle.cell_values.specs.declared.memory.Memory.{Memory}
use Rattle.chunk_source.specs.declared.reading.fault.ExecFault.{ExecFault}
use Rattle.chunk_source.specs.declared.reading.fault.ExecFault.TheVariants as fault
use Rattle.chunk_source.specs.Faults.{Answers}
use Rattle.chunk_source.specs.Source.{SourceState}
use Rattle.statement_replies.specs.declared.replies.replies.Reply.{Reply}
use Rattle.statement_replies.specs.declared.answers.outcome.Outcome.{Outcome}
use Rattle.statement_replies.specs.declared.answers.outcome.Outcome.TheVariants.{Replied}
use Rattle.statement_replies.specs.Inner.Replied.{or_fault}
use Rattle.statement_replies.specs.Inner.RepliedOutcome.{replied}

-- ---- a reply

pub reply_holds : (P : Reply → Type 0) (r : Result Reply Memory) (o : Result Reply ExecFault) → o ≡ or_fault r → IfOk r P → IfOk o P
reply_holds P (Ok reply) o e h = subst (λ z. IfOk z P) (sym e) h
reply_holds P (Err memory) o e h = subst (λ z. IfOk z P) (sym e) tt

pub reply_cause : (old new : SourceState) → new.damaged ≡ old.damaged → (r : Result Reply Memory) (o : Result Reply ExecFault) → o ≡ or_fault r → Answers old new o
reply_cause old new same (Ok reply) o e = subst (Answers old new) (sym e) same
reply_cause old new same (Err memory) o e = subst (Answers old new) (sym e) same

-- a reply that is known
pub as_reply : (P : Reply → Type 0) (reply : Reply) (r : Result Reply Memory) → IfOk r (λ x. x ≡ reply) → P reply → IfOk r P
as_reply P reply (Ok x) is h = subst P (sym is) h
as_reply P reply (Err memory) is h = tt

-- ---- an outcome

pub outcome_holds : (P : Outcome → Type 0) (reply : Reply) (r : Result Reply Memory) (o : Result Outcome ExecFault) → o ≡ replied r → IfOk r (λ x. x ≡ reply) → P (Replied reply) → IfOk o P
outcome_holds P reply (Ok x) o e is h = subst (λ z. IfOk z P) (sym e) (subst (λ y. P (Replied y)) (sym is) h)
outcome_holds P reply (Err memory) o e is h = subst (λ z. IfOk z P) (sym e) tt

pub outcome_cause : (source : SourceState) (r : Result Reply Memory) (o : Result Outcome ExecFault) → o ≡ replied r → Answers source source o
outcome_cause source (Ok reply) o e = subst (Answers source source) (sym e) refl
outcome_cause source (Err memory) o e = subst (Answers source source) (sym e) refl

pub outcome_fault : (P : ExecFault → Type 0) (r : Result Reply Memory) (o : Result Outcome ExecFault) → o ≡ replied r → P fault.Memory → IfErr o P
outcome_fault P (Ok reply) o e h = subst (λ z. IfErr z P) (sym e) tt
outcome_fault P (Err memory) o e h = subst (λ z. IfErr z P) (sym e) h

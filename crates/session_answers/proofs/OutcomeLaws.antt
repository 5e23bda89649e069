-- What comes of a statement is what it says.
use Rattle.std.proofs.Common.{inl, Some, refl, ap, sym, subst}
use Rattle.afl_outside.specs.Disk.{Moment}
use Rattle.logical_plan.specs.declared.names.Names.{Names}
use Rattle.plan_changes.specs.declared.change.Change.{Change}
use Rattle.plan_changes.specs.declared.change.Change.TheVariants.{Create, Store, Insert, Remove, RemoveVersions}
use Rattle.statement_replies.specs.declared.answers.outcome.Outcome.TheVariants.{Replied, Changes}
use Rattle.statement_replies.specs.declared.replies.replies.Reply.{Reply as Told}
use Rattle.statement_replies.specs.StatementKinds.{HasChangeKind, HasStatementKind, IsChangeReply}
use Rattle.statement_replies.specs.Statements.{Accepted}
use Rattle.statement_replies.specs.declared.replies.style.Style.{Style}
use Rattle.session_answers.specs.Replies.{names_before}
use Rattle.session_answers.specs.Said.{OutcomesAreSaid}

accepted_kind : (style : Style) (names : Names) (change : Change) (reply : Told) → IsChangeReply style names change reply
    → HasChangeKind style names change (record { reply = reply; change = Some change })
accepted_kind style names (Create name schema) reply is = (is, refl)
accepted_kind style names (Store name schema plan) reply is = inl (is, refl)
accepted_kind style names (Insert name schema plan) reply is = inl (is, refl)
accepted_kind style names (Remove name) reply is = (is, refl)
accepted_kind style names (RemoveVersions name below) reply is = (is, refl)

pub outcomes_are_said : {D : Type 0} (moment : D → Moment) → OutcomesAreSaid moment
outcomes_are_said moment style start events text tree place (Replied reply) comes = record { kind = comes.0; told = λ db began. comes.1 db began }
outcomes_are_said moment style start events text tree place (Changes change changed reply) comes =
    let names : Names = names_before start events place in (
      record {
        kind = subst (λ c. HasStatementKind style names c (record { reply = reply; change = Some change })) (sym comes.0.0)
            (accepted_kind style names change reply comes.0.2);
        told = λ db began. (comes.1 db began).0;
      },
      record {
        typed = comes.0.0;
        told = λ db began. ap (λ (answer : Accepted). answer.change) (comes.1 db began).0;
      },
    )

-- What comes of statements: of one that is checked as another, of one with a reply, and of a query.
use Rattle.std.proofs.Common.{◌≡◌, List, [], ◌++◌, Result, Ok, Err, IfOk, OnOk, OnErr, refl, sym, subst}
use Rattle.cell_values.specs.declared.datum.Row.{Row}
use Rattle.cell_values.specs.declared.memory.Memory.{Memory}
use Rattle.cell_values.specs.declared.name.Span.{Span}
use Rattle.afl_trees.specs.TypeKind.{TypeKind}
use Rattle.logical_plan.specs.declared.names.Names.{Names}
use Rattle.logical_plan.specs.Meaning.{Database as Rows}
use Rattle.logical_plan.specs.Query.{Query}
use Rattle.plan_changes.specs.Databases.{Database}
use Rattle.check_rules.specs.Checked.{Checked, refused as broken_rule}
use Rattle.afl_types.specs.declared.types.statements.checking.Typed.{Typed}
use Rattle.afl_types.specs.declared.types.statements.checking.Typed.TheVariants.{Query as AQuery}
use Rattle.chunk_source.specs.declared.reading.fault.ExecFault.{ExecFault}
use Rattle.chunk_source.specs.Faults.{Answers}
use Rattle.chunk_source.specs.Source.{AsksFront, Keeps, SourceState}
use Rattle.chunk_source.proofs.ReadLemmas.{keeps_still, on_err}
use Rattle.chunk_exec.specs.Computed.{asked_for_plan}
use Rattle.result_print.specs.declared.refusal.Refusal.TheVariants.{Typing}
use Rattle.statement_replies.specs.Kinds.{IsRowsOver}
use Rattle.statement_replies.specs.Reply.{plan_reply, refused as told}
use Rattle.statement_replies.specs.Statements.{reply_to_checked, without_change}
use Rattle.statement_replies.specs.declared.replies.replies.Reply.{Reply}
use Rattle.statement_replies.specs.declared.replies.style.Style.{Style}
use Rattle.statement_replies.specs.declared.answers.outcome.Outcome.{Outcome}
use Rattle.statement_replies.specs.declared.answers.outcome.Outcome.TheVariants.{Replied}
use Rattle.statement_replies.specs.Inner.Come.{ComesOf}
use Rattle.statement_replies.specs.Inner.RepliedOutcome.{replied}
use Rattle.statement_replies.specs.Outcomes.{ForRowsPut, HasOutcomeKind, IsOutcomeOf, IsToldBy, asked_for}
use Rattle.statement_replies.proofs.Answering.{good, query_kind, query_told}
use Rattle.statement_replies.proofs.Asking.{for_each, none_asked, nothing_asked}
use Rattle.statement_replies.proofs.Replying.{outcome_cause, outcome_holds}

-- what is known of one thing that is checked is known of an equal one
pub comes_over : (style : Style) (names : Names) (old new : SourceState) (answer : Result Outcome ExecFault) (a b : Checked Typed) → a ≡ b → ComesOf style names old new b answer
    → ComesOf style names old new a answer
comes_over style names old new answer a b same = subst (λ (c : Checked Typed). ComesOf style names old new c answer) (sym same)

module _ (style : Style) (names : Names) (source : SourceState) where
  -- a reply alone, for which nothing is asked
  pub reply_comes : (checked : Checked Typed) (reply : Reply) → HasOutcomeKind style names checked (Replied reply)
      → ((db : Database) → IsToldBy names source db → reply_to_checked style db checked ≡ without_change reply)
      → ((rows : List Row) → asked_for rows source names checked (Replied reply) ≡ [])
      → (r : Result Reply Memory) (o : Result Outcome ExecFault) → o ≡ replied r → IfOk r (λ x. x ≡ reply) → ComesOf style names source source checked o
  reply_comes checked reply kind tells none r o e is =
      let told_of : Outcome → Type 0 = λ outcome. (db : Database) → IsToldBy names source db → IsOutcomeOf db (reply_to_checked style db checked) outcome in
      let asked_of : Outcome → Type 0 = λ outcome. ForRowsPut names source checked (λ rows. source.asked ≡ source.asked ++ asked_for rows source names checked outcome) in
      record {
        kind = outcome_holds (HasOutcomeKind style names checked) reply r o e is kind;
        told = outcome_holds told_of reply r o e is tells;
        asked = outcome_holds asked_of reply r o e is (nothing_asked names source checked reply none);
        front = on_err o _ (none_asked names source checked source refl);
        kept = keeps_still source;
        cause = outcome_cause source r o e;
      }

  -- a rule that is broken is told
  pub rule_comes : (checked : Checked Typed) (span : Span) (kind : TypeKind) → checked ≡ broken_rule span kind → (r : Result Reply Memory) (o : Result Outcome ExecFault)
      → o ≡ replied r → IfOk r (λ x. x ≡ told (Typing span kind)) → ComesOf style names source source checked o
  rule_comes checked span kind same r o e is =
      comes_over style names source source o checked (broken_rule span kind) same
      (reply_comes (broken_rule span kind) (told (Typing span kind)) refl (λ db there. refl) (λ rows. refl) r o e is)

-- ---- queries

abbrev pub of_reply : Result Reply ExecFault → Result Outcome ExecFault
of_reply (Ok reply) = Ok (Replied reply)
of_reply (Err fault) = Err fault

pub query_comes : (style : Style) (names : Names) (old new : SourceState) (plan : Query) (r : Result Reply ExecFault) → IfOk r (IsRowsOver old style plan)
    → IfOk r (λ reply. (rows : Rows) → old.tells rows → reply ≡ plan_reply style rows plan)
    → OnOk r (new.asked ≡ old.asked ++ asked_for_plan old plan) → OnErr r (AsksFront (asked_for_plan old plan) old new) → Keeps old new → Answers old new r
    → ComesOf style names old new (good (AQuery plan)) (of_reply r)
query_comes style names old new plan (Ok reply) kind tells asked front kept cause = record {
  kind = query_kind style names old plan reply kind;
  told = query_told style names old plan reply tells;
  asked = for_each names old (good (AQuery plan)) (λ rows. new.asked ≡ old.asked ++ asked_for_plan old plan) (λ rows. asked);
  front = tt;
  kept = kept;
  cause = cause;
}
query_comes style names old new plan (Err fault) kind tells asked front kept cause = record {
  kind = tt;
  told = tt;
  asked = tt;
  front = for_each names old (good (AQuery plan)) (λ rows. AsksFront (asked_for_plan old plan) old new) (λ rows. front);
  kept = kept;
  cause = cause;
}

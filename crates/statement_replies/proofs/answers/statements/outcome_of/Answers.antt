use Rattle.std.proofs.Common.{◌≡◌, Err, IfOk, refl, subst}
use Rattle.check_rules.specs.Checked.{Answers, refused as broken_rule}
use Rattle.check_rules.specs.declared.rules.fault.TypeFault.{TypeFault}
use Rattle.afl_types.specs.Checking.{check_of}
use Rattle.afl_types.specs.declared.types.statements.checking.Typed.{Typed}
use Rattle.chunk_source.specs.declared.reading.fault.ExecFault.{ExecFault}
use Rattle.chunk_source.proofs.ReadLemmas.{keeps_still, on_err}
use Rattle.result_print.specs.declared.refusal.Refusal.TheVariants.{Typing}
use Rattle.statement_replies.specs.Reply.{refused as told}
use Rattle.statement_replies.specs.declared.replies.replies.Reply.{Reply}
use Rattle.statement_replies.specs.Outcomes.{MayFail}
use Rattle.statement_replies.proofs.Answering.{allowed_over, can_answer, good, over_names}
use Rattle.statement_replies.proofs.Asking.{none_asked}
use Rattle.statement_replies.proofs.Coming.{comes_over, rule_comes}
use Rattle.statement_replies.proofs.Replying.{outcome_cause, outcome_fault}
use Rattle.statement_replies.proofs.answers.statements.outcome_of.Goals as goal

pub outcome_of_typed-requires-clause-ready : goal.outcome_of_typed-requires-clause-ready
outcome_of_typed-requires-clause-ready g c κs within = record {
  undamaged = c.requires.undamaged;
  stored = c.requires.stored;
  holds = c.requires.holds;
  workers = c.requires.workers;
}

pub outcome_of_typed-requires-clause-can : goal.outcome_of_typed-requires-clause-can
outcome_of_typed-requires-clause-can g c κs within =
    can_answer c.args.names.now (g.S.ChunkSource.state c.args.source.now) c.requires.holds c.requires.stored c.args.text.now c.args.tree.now c.in-Ok.typed c.requires.fit c.in-Ok.ensures

pub returns-in-Ok-clause-kind : goal.returns-in-Ok-clause-kind
returns-in-Ok-clause-kind g c =
    let come = comes_over c.args.style c.args.names.now (g.S.ChunkSource.state c.args.source.now) (g.S.ChunkSource.state c.outcome_of_typed.new.source) c.outcome_of_typed.result
    (check_of c.args.tree.now c.args.text.now c.args.names.now) (good c.in-Ok.typed) c.in-Ok.ensures c.outcome_of_typed.ensures.come in
    come.kind

pub returns-in-Ok-clause-told : goal.returns-in-Ok-clause-told
returns-in-Ok-clause-told g c =
    let come = comes_over c.args.style c.args.names.now (g.S.ChunkSource.state c.args.source.now) (g.S.ChunkSource.state c.outcome_of_typed.new.source) c.outcome_of_typed.result
    (check_of c.args.tree.now c.args.text.now c.args.names.now) (good c.in-Ok.typed) c.in-Ok.ensures c.outcome_of_typed.ensures.come in
    over_names c.args.style c.args.names.now (g.S.ChunkSource.state c.args.source.now) c.args.text.now c.args.tree.now c.outcome_of_typed.result come.told

pub returns-in-Ok-clause-asked : goal.returns-in-Ok-clause-asked
returns-in-Ok-clause-asked g c =
    let come = comes_over c.args.style c.args.names.now (g.S.ChunkSource.state c.args.source.now) (g.S.ChunkSource.state c.outcome_of_typed.new.source) c.outcome_of_typed.result
    (check_of c.args.tree.now c.args.text.now c.args.names.now) (good c.in-Ok.typed) c.in-Ok.ensures c.outcome_of_typed.ensures.come in
    come.asked

pub returns-in-Ok-clause-front : goal.returns-in-Ok-clause-front
returns-in-Ok-clause-front g c =
    let come = comes_over c.args.style c.args.names.now (g.S.ChunkSource.state c.args.source.now) (g.S.ChunkSource.state c.outcome_of_typed.new.source) c.outcome_of_typed.result
    (check_of c.args.tree.now c.args.text.now c.args.names.now) (good c.in-Ok.typed) c.in-Ok.ensures c.outcome_of_typed.ensures.come in
    come.front

pub returns-in-Ok-clause-kept : goal.returns-in-Ok-clause-kept
returns-in-Ok-clause-kept g c = c.outcome_of_typed.ensures.come.kept

pub returns-in-Ok-clause-cause : goal.returns-in-Ok-clause-cause
returns-in-Ok-clause-cause g c = c.outcome_of_typed.ensures.come.cause

pub returns-in-Ok-clause-allowed : goal.returns-in-Ok-clause-allowed
returns-in-Ok-clause-allowed g c =
    allowed_over (check_of c.args.tree.now c.args.text.now c.args.names.now) c.in-Ok.typed c.in-Ok.ensures c.outcome_of_typed.result

pub returns-in-Ok-clause-start : goal.returns-in-Ok-clause-start
returns-in-Ok-clause-start g c = c.outcome_of_typed.ensures.start

pub returns-in-Err-Rule-clause-kind : goal.returns-in-Err-Rule-clause-kind
returns-in-Err-Rule-clause-kind g c =
    let checked = check_of c.args.tree.now c.args.text.now c.args.names.now in
    let rule = c.in-Err-Rule in
    let is : checked ≡ broken_rule rule.span rule.kind = subst (λ (f : TypeFault). Answers {A = Typed} (Err f) checked) rule.field-0-is rule.ensures in
    let refused : IfOk c.refuse.result (λ x. x ≡ told (Typing rule.span rule.kind))
    = subst (λ (y : Reply). IfOk c.refuse.result (λ x. x ≡ y)) (λ i. told (Typing (rule.span-is i) (rule.kind-is i))) c.refuse.ensures in
    (rule_comes c.args.style c.args.names.now (g.S.ChunkSource.state c.args.source.now) checked rule.span rule.kind is c.refuse.result c.replied.result c.replied.ensures refused).kind

pub returns-in-Err-Rule-clause-told : goal.returns-in-Err-Rule-clause-told
returns-in-Err-Rule-clause-told g c =
    let names = c.args.names.now in
    let source = g.S.ChunkSource.state c.args.source.now in
    let checked = check_of c.args.tree.now c.args.text.now names in
    let rule = c.in-Err-Rule in
    let is : checked ≡ broken_rule rule.span rule.kind = subst (λ (f : TypeFault). Answers {A = Typed} (Err f) checked) rule.field-0-is rule.ensures in
    let refused : IfOk c.refuse.result (λ x. x ≡ told (Typing rule.span rule.kind))
    = subst (λ (y : Reply). IfOk c.refuse.result (λ x. x ≡ y)) (λ i. told (Typing (rule.span-is i) (rule.kind-is i))) c.refuse.ensures in
    over_names c.args.style names source c.args.text.now c.args.tree.now c.replied.result
    (rule_comes c.args.style names source checked rule.span rule.kind is c.refuse.result c.replied.result c.replied.ensures refused).told

pub returns-in-Err-Rule-clause-asked : goal.returns-in-Err-Rule-clause-asked
returns-in-Err-Rule-clause-asked g c =
    let checked = check_of c.args.tree.now c.args.text.now c.args.names.now in
    let rule = c.in-Err-Rule in
    let is : checked ≡ broken_rule rule.span rule.kind = subst (λ (f : TypeFault). Answers {A = Typed} (Err f) checked) rule.field-0-is rule.ensures in
    let refused : IfOk c.refuse.result (λ x. x ≡ told (Typing rule.span rule.kind))
    = subst (λ (y : Reply). IfOk c.refuse.result (λ x. x ≡ y)) (λ i. told (Typing (rule.span-is i) (rule.kind-is i))) c.refuse.ensures in
    (rule_comes c.args.style c.args.names.now (g.S.ChunkSource.state c.args.source.now) checked rule.span rule.kind is c.refuse.result c.replied.result c.replied.ensures refused).asked

pub returns-in-Err-Rule-clause-front : goal.returns-in-Err-Rule-clause-front
returns-in-Err-Rule-clause-front g c =
    on_err _ _ (none_asked c.args.names.now (g.S.ChunkSource.state c.args.source.now) (check_of c.args.tree.now c.args.text.now c.args.names.now) (g.S.ChunkSource.state c.args.source.now) refl)

pub returns-in-Err-Rule-clause-allowed : goal.returns-in-Err-Rule-clause-allowed
returns-in-Err-Rule-clause-allowed g c =
    outcome_fault (λ (fault : ExecFault). MayFail fault (check_of c.args.tree.now c.args.text.now c.args.names.now)) c.refuse.result c.replied.result c.replied.ensures tt

pub returns-in-Err-Rule-clause-kept : goal.returns-in-Err-Rule-clause-kept
returns-in-Err-Rule-clause-kept g c = keeps_still (g.S.ChunkSource.state c.args.source.now)

pub returns-in-Err-Rule-clause-cause : goal.returns-in-Err-Rule-clause-cause
returns-in-Err-Rule-clause-cause g c = outcome_cause (g.S.ChunkSource.state c.args.source.now) c.refuse.result c.replied.result c.replied.ensures

pub returns-in-Err-Rule-clause-start : goal.returns-in-Err-Rule-clause-start
returns-in-Err-Rule-clause-start g c = refl

pub returns-in-Err-Memory-clause-front : goal.returns-in-Err-Memory-clause-front
returns-in-Err-Memory-clause-front g c =
    none_asked c.args.names.now (g.S.ChunkSource.state c.args.source.now) (check_of c.args.tree.now c.args.text.now c.args.names.now) (g.S.ChunkSource.state c.args.source.now) refl

pub returns-in-Err-Memory-clause-kept : goal.returns-in-Err-Memory-clause-kept
returns-in-Err-Memory-clause-kept g c = keeps_still (g.S.ChunkSource.state c.args.source.now)

pub returns-in-Err-Memory-clause-cause : goal.returns-in-Err-Memory-clause-cause
returns-in-Err-Memory-clause-cause g c = refl

pub returns-in-Err-Memory-clause-start : goal.returns-in-Err-Memory-clause-start
returns-in-Err-Memory-clause-start g c = refl

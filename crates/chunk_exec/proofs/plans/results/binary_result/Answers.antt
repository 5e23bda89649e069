use Rattle.std.proofs.Common.{[], ◌∷◌, subst}
use Rattle.std.specs.Prelude.{IfOk}
use Rattle.cell_values.specs.declared.schema.Schema.{Schema}
use Rattle.array_geom.specs.Link.{Is}
use Rattle.logical_plan.specs.PlanSchema.{schema_of}
use Rattle.chunk_exec.specs.Inner.Operated.{IsResultOf}
use Rattle.chunk_exec.proofs.BrokenLaws.{broken_by, broken_left, broken_right}
use Rattle.chunk_exec.proofs.OperatorLaws.{if_ok}
use Rattle.chunk_exec.proofs.plans.results.binary_result.Goals as goal

pub returns-in-Some : goal.returns-in-Some
returns-in-Some g c =
    let plan = c.args.plan.now in
    let broken = c.in-Some.broken in
    if_ok (λ made. Is made (broken_by broken (schema_of plan))) (IsResultOf plan (c.args.a ∷ c.args.b ∷ [])) c.broken_result.result
    (λ made is. broken_left plan c.args.left.now c.args.right.now c.args.node c.args.a c.args.b made broken c.requires.node c.requires.can is c.in-Some.is)
    (subst (λ (z : Schema). IfOk c.broken_result.result (λ made. Is made (broken_by broken z))) c.in_ok-target.ensures.value c.broken_result.ensures)

pub returns-in-Some-broken : goal.returns-in-Some-broken
returns-in-Some-broken g c =
    let plan = c.args.plan.now in
    let broken = c.in-Some-broken.broken in
    if_ok (λ made. Is made (broken_by broken (schema_of plan))) (IsResultOf plan (c.args.a ∷ c.args.b ∷ [])) c.broken_result-in-Some-broken.result
    (λ made is. broken_right plan c.args.left.now c.args.right.now c.args.node c.args.a c.args.b made broken c.requires.node c.requires.can is c.in-None.is c.in-Some-broken.is)
    (subst (λ (z : Schema). IfOk c.broken_result-in-Some-broken.result (λ made. Is made (broken_by broken z))) c.in_ok-target.ensures.value c.broken_result-in-Some-broken.ensures)

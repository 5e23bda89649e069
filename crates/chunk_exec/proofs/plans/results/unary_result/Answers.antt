use Rattle.std.proofs.Common.{[], ◌∷◌, subst}
use Rattle.std.specs.Prelude.{IfOk}
use Rattle.cell_values.specs.declared.schema.Schema.{Schema}
use Rattle.array_geom.specs.Link.{Is}
use Rattle.logical_plan.specs.PlanSchema.{schema_of}
use Rattle.chunk_exec.specs.Inner.Operated.{IsResultOf}
use Rattle.chunk_exec.proofs.BrokenLaws.{broken_by, broken_source}
use Rattle.chunk_exec.proofs.OperatorLaws.{if_ok}
use Rattle.chunk_exec.proofs.plans.results.unary_result.Goals as goal

pub returns-in-Some : goal.returns-in-Some
returns-in-Some g c =
    let plan = c.args.plan.now in
    let array = c.args.array in
    let broken = c.in-Some.broken in
    if_ok (λ made. Is made (broken_by broken (schema_of plan))) (IsResultOf plan (array ∷ [])) c.broken_result.result
    (λ made is. broken_source plan c.args.from.now c.args.node array made broken c.requires.node c.requires.can c.in-Some.is is)
    (subst (λ (z : Schema). IfOk c.broken_result.result (λ made. Is made (broken_by broken z))) c.in_ok-target.ensures.value c.broken_result.ensures)

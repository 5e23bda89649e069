-- What holds of a result wherever it is what checking answers.
use Rattle.std.proofs.Common.{◌≡◌, Ok, Err, IfOk, List}
use Rattle.std.specs.Prelude.{Result}
use Rattle.cell_values.specs.declared.name.Span.{Span}
use Rattle.cell_values.specs.declared.schema.Schema.{Schema}
use Rattle.logical_plan.specs.PlanSchema.{cross_schema}
use Rattle.logical_plan.specs.declared.parts.Pair.{Pair}
use Rattle.check_rules.specs.Checked.{Answers, Checked}
use Rattle.check_rules.specs.declared.rules.fault.TypeFault.{TypeFault}
use Rattle.check_rules.proofs.RulesHolding.{thens, of_answer}
use Rattle.check_joins.specs.Crosses.{crossed_by, crossed_schema}
use Rattle.check_joins.specs.declared.cross.Crossed.{Crossed}
use Rattle.check_joins.proofs.FreeNames.{are_side_by_side}
use Rattle.logical_plan.specs.BoxOps.{items_but}
use Rattle.logical_plan.specs.Joins.{right_places}
use Rattle.std.proofs.Common.{◌++◌}

pub answered : {A : Type 0} (P : A → Type 0) (r : Result A TypeFault) (part : Checked A) → Answers r part → IfOk part P → IfOk r P
answered P (Ok a) part h k = of_answer P part a k h
answered P (Err fault) part h k = tt

pub crossed_is : (s : Span) (left right : Schema) (pairs : List Pair) → IfOk (crossed_by s left right pairs) (λ p. p.schema ≡ cross_schema p.pairs left right)
crossed_is s left right pairs =
    let dims = left.dimensions ++ items_but (right_places pairs) 0 right.dimensions in
    let attributes = left.attributes ++ right.attributes in
    thens (λ (p : Crossed). p.schema ≡ cross_schema p.pairs left right) (crossed_schema s pairs left right) _ (λ schema e.
    of_answer (λ (x : Schema). x ≡ cross_schema pairs left right) (crossed_schema s pairs left right) schema (are_side_by_side s dims attributes) e)

-- What holds of each plan that passes the rules of `filter`, `apply` and `project`.
use Rattle.std.proofs.Common.{◌≡◌, ◌≤◌, length, true, Ok, IfOk, List, [], ◌∷◌, ℕ, refl}
use Rattle.std.specs.Prelude.{nat_le}
use Rattle.std.proofs.lemmas.Bool.{leb-true}
use Rattle.cell_values.specs.declared.name.Span.{Span}
use Rattle.cell_values.specs.declared.schema.Kind.TheVariants.{Bool as Truths}
use Rattle.cell_values.specs.declared.schema.Schema.{Schema}
use Rattle.schema_grammar.specs.declared.kinds.TypeKind.TheVariants.{WrongType, WrongCount}
use Rattle.afl_trees.specs.Term.{Term}
use Rattle.afl_trees.specs.Grammar.{span_of}
use Rattle.logical_plan.specs.PlanSchema.{schema_of}
use Rattle.logical_plan.specs.Query.{Query, filtered, applied, projected}
use Rattle.logical_plan.specs.declared.parts.Applied.{Applied}
use Rattle.check_rules.proofs.RulesHolding.{demanded, thens}
use Rattle.check_exprs.specs.Expressions.{fits, typed}
use Rattle.check_exprs.specs.declared.operand.Operand.{Operand}
use Rattle.check_rules.specs.InTurn.{in_turn, pairs_in_turn}
use Rattle.check_rules.specs.Sorts.{is_expression, is_name, first_but, first_but_pairs}
use Rattle.check_rules.proofs.OperatorsHolding.{IsWithin, unless_holds, new_holds}
use Rattle.check_cellwise.specs.Filter.{filter_by, filter_call}
use Rattle.check_cellwise.specs.Apply.{applied_one, apply_call}
use Rattle.check_cellwise.specs.Project.{projected_one, project_call}

module _ (P : Query → Type 0) (s : Span) (source : Query) where
  abbrev shape : Schema
  shape = schema_of source

  pub filter_holds : (arguments : List Term) → ((e : Term) (x : Operand) → arguments ≡ e ∷ [] → typed shape.attributes shape.dimensions e ≡ Ok x → fits Truths x.kind ≡ true → P (filtered source x.expr))
      → IfOk (filter_call s source arguments) P
  filter_holds [] h = tt
  filter_holds (e ∷ []) h =
      demanded P (is_expression e) (span_of e) WrongType _ (λ sort.
      thens P (typed shape.attributes shape.dimensions e) (filter_by source) (λ x t.
      demanded P (fits Truths x.kind) x.span WrongType _ (λ fit. h e x refl t fit)))
  filter_holds (e ∷ f ∷ es) h = tt

  pub apply_holds : (arguments : List Term) → ((values : List Applied) → pairs_in_turn (applied_one shape) [] arguments ≡ Ok values → IsWithin (schema_of (applied source values)) → P (applied source values))
      → IfOk (apply_call s source arguments) P
  apply_holds arguments h =
      unless_holds P (first_but_pairs is_name is_expression arguments) _ (λ sorts.
      thens P (pairs_in_turn (applied_one shape) [] arguments) _ (λ values e.
      new_holds P s (applied source values) (h values e)))

  pub project_holds : (arguments : List Term) → (1 ≤ length arguments → (places : List ℕ) → in_turn (projected_one shape.attributes) [] arguments ≡ Ok places → IsWithin (schema_of (projected source places)) → P (projected source places))
      → IfOk (project_call s source arguments) P
  project_holds arguments h =
      demanded P (nat_le 1 (length arguments)) s WrongCount _ (λ some.
      unless_holds P (first_but is_name arguments) _ (λ sorts.
      thens P (in_turn (projected_one shape.attributes) [] arguments) _ (λ places e.
      new_holds P s (projected source places) (h (leb-true 1 (length arguments) some) places e))))

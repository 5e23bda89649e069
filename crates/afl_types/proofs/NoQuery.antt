-- What holds of each plan that such a call gives: it gives none.
use Rattle.std.proofs.Common.{ℕ, Bool, true, false, Option, IfOk, List}
use Rattle.std.specs.Prelude.{if◌then◌else◌}
use Rattle.cell_values.specs.declared.name.Span.{Span}
use Rattle.schema_grammar.specs.declared.kinds.TypeKind.TheVariants.{UnknownName, WrongType}
use Rattle.check_rules.specs.Checked.{refused}
use Rattle.check_rules.specs.Operators.{name_span}
use Rattle.check_rules.specs.declared.rules.operator.Operator.{Operator}
use Rattle.afl_types.specs.Nested.{nested, stands_alone}

module _ {A : Type 0} (P : A → Type 0) (s : Span) where
  by_test : (t : Span) (b : Bool) → IfOk (if b then refused s WrongType else refused t UnknownName) P
  by_test t true = tt
  by_test t false = tt

  pub nested_holds : (name : List ℕ) (operator : Option Operator) → IfOk (nested s name operator) P
  nested_holds name operator = by_test (name_span s name) (stands_alone operator)

-- Calls that are no query: of an operator that changes arrays or lists something, which is a statement of its own, or of none.
use Rattle.std.specs.Prelude.{ℕ, Bool, true, false, if◌then◌else◌, Option, Some, List}
use Rattle.cell_values.specs.declared.name.Span.{Span}
use Rattle.schema_grammar.specs.declared.kinds.TypeKind.TheVariants.{UnknownName, WrongType}
use Rattle.check_rules.specs.Checked.{Checked, refused}
use Rattle.check_rules.specs.Operators.{name_span}
use Rattle.check_rules.specs.declared.rules.operator.Operator.{Operator}
use Rattle.check_rules.specs.declared.rules.operator.Operator.TheVariants.{Store, Insert, Remove, RemoveVersions, Versions, Show, ListNames}

-- an operator, if any, whose call changes arrays or lists something
abbrev pub stands_alone : Option Operator → Bool
stands_alone (Some Store) = true
stands_alone (Some Insert) = true
stands_alone (Some Remove) = true
stands_alone (Some RemoveVersions) = true
stands_alone (Some Versions) = true
stands_alone (Some Show) = true
stands_alone (Some ListNames) = true
stands_alone _ = false

-- in a query's place such a call is of the wrong type, whatever its arguments are
abbrev pub nested : {A : Type 0} → Span → List ℕ → Option Operator → Checked A
nested s name operator = if stands_alone operator then refused s WrongType else refused (name_span s name) UnknownName

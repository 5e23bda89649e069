-- Changes of the example: the array of a plan stored, put into the example, and put into an array without versions.
use Rattle.std.specs.Prelude.{ℕ, pos, codes}
use Rattle.cell_values.specs.declared.datum.CompareOp.TheVariants.{More}
use Rattle.cell_values.specs.declared.datum.Datum.TheVariants.{Int}
use Rattle.expr_nulls.specs.declared.expr.ArithOp.TheVariants.{Sub, Div}
use Rattle.expr_nulls.specs.Expr.{Expr, attribute_value, calculation, literal, relation}
use Rattle.logical_plan.specs.declared.parts.Leaf.{Leaf}
use Rattle.logical_plan.specs.Query.{Query, filtered, scanned}
use Rattle.plan_changes.specs.declared.change.Change.{Change}
use Rattle.plan_changes.specs.declared.change.Change.TheVariants.{Store, Insert}
use Rattle.test_sources.specs.Example.{above_five, leaf, schema}
use Rattle.test_sources.specs.declared.changes.Case.{Case}
use Rattle.test_sources.specs.declared.changes.Case.TheVariants.{Stores, Inserts, Begins, Faults}
use Rattle.test_sources.specs.declared.layout.Layout.{Layout}

-- `1/(v-5)`
abbrev pub share : Expr
share = calculation Div (literal (Int (pos 1))) (calculation Sub (attribute_value 0) (literal (Int (pos 5))))

-- `filter(a, 1/(v-5)>0)`, whose test has a fault where v is 5
abbrev pub by_zero : Layout → Query
by_zero layout = filtered (scanned (leaf layout)) (relation More share (literal (Int (pos 0))))

abbrev pub plan_of : Case → Layout → Query
plan_of Stores layout = above_five layout
plan_of Inserts layout = above_five layout
plan_of Begins layout = above_five layout
plan_of Faults layout = by_zero layout

abbrev pub change_of : Case → Layout → Change
change_of Stores layout = Store (codes "b") (schema layout) (plan_of Stores layout)
change_of Inserts layout = Insert (codes "a") (schema layout) (plan_of Inserts layout)
change_of Begins layout = Insert (codes "a") (schema layout) (plan_of Begins layout)
change_of Faults layout = Insert (codes "a") (schema layout) (plan_of Faults layout)

-- the version over which it is made
abbrev pub version_of : Case → ℕ
version_of Stores = 0
version_of Inserts = 1
version_of Begins = 0
version_of Faults = 1

abbrev pub target_of : Case → Layout → Leaf
target_of case layout = record { name = codes "a"; version = version_of case; schema = schema layout }

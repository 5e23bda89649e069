-- Aggregates in turn: each is of an attribute that there is, of a kind that its function takes, and under a name that is not too long,
-- and neither a dimension's of the result nor that of an aggregate before it.
use Rattle.std.specs.Prelude.{ℕ, not, ◌||◌, codes, slice_get, Option, Some, None, Ok, List, []}
use Rattle.cell_values.specs.declared.name.Span.{Span}
use Rattle.cell_values.specs.declared.schema.Attribute.{Attribute}
use Rattle.cell_values.specs.Schemas.{is_among}
use Rattle.schema_grammar.specs.declared.kinds.TypeKind.TheVariants.{RepeatedName, UnknownName, WrongType}
use Rattle.afl_trees.specs.Term.{Term, reference, renamed}
use Rattle.afl_trees.specs.Grammar.{span_of}
use Rattle.logical_plan.specs.PlanSchema.{default_name}
use Rattle.logical_plan.specs.Typing.{aggregate_names, takes}
use Rattle.logical_plan.specs.declared.parts.AggFunction.{AggFunction}
use Rattle.logical_plan.specs.declared.parts.Aggregate.{Aggregate}
use Rattle.check_rules.specs.Checked.{Checked, refused, demand, then}
use Rattle.check_exprs.specs.Expressions.{attribute_place}
use Rattle.check_rules.specs.InTurn.{in_turn}
use Rattle.check_groups.specs.Names.{short_name}
use Rattle.check_groups.specs.AggregateSort.{unnamed, operand_in, function_in}

-- the place of an attribute that there is, of which the function takes values
abbrev pub attribute_for : List Attribute → AggFunction → Span → Option ℕ → Checked ℕ
attribute_for attributes function s (Some place) = demand (takes function (slice_get attributes place)) s WrongType (Ok place)
attribute_for attributes function s None = refused s UnknownName

-- the name behind `as`, or else the aggregate's own
abbrev pub given_or : Term → Checked (List ℕ) → Checked (List ℕ)
given_or (renamed s a name) own = Ok name
given_or t own = own

abbrev pub new_aggregate : List (List ℕ) → List Aggregate → Span → AggFunction → ℕ → List ℕ → Checked Aggregate
new_aggregate names done s function place name =
    demand (not (is_among name names || is_among name (aggregate_names done))) s RepeatedName (Ok (record {
      function = function;
      attribute = place;
      name = name;
    }))

-- `count(*)` looks at no attribute
abbrev pub attribute_in : List Attribute → AggFunction → Term → Checked ℕ
attribute_in attributes function (reference s name) = attribute_for attributes function s (attribute_place attributes name)
attribute_in attributes function t = Ok 0

abbrev pub name_for : Span → Term → AggFunction → Term → Checked (List ℕ)
name_for s t function (reference w attribute) = given_or t (short_name s (default_name function attribute))
name_for s t function operand = given_or t (Ok (codes "count"))

abbrev pub by_parts : Span → List Attribute → List (List ℕ) → List Aggregate → Term → Option AggFunction → Option Term → Checked Aggregate
by_parts s attributes names done t (Some function) (Some operand) =
    then (attribute_in attributes function operand) (λ place.
    then (name_for s t function operand) (λ name. new_aggregate names done (span_of t) function place name))
by_parts s attributes names done t function operand = refused (span_of t) WrongType

abbrev pub aggregate_one : Span → List Attribute → List (List ℕ) → List Aggregate → Term → Checked Aggregate
aggregate_one s attributes names done t = by_parts s attributes names done t (function_in (unnamed t)) (operand_in (unnamed t))

abbrev pub aggregates_of : Span → List Attribute → List (List ℕ) → List Term → Checked (List Aggregate)
aggregates_of s attributes names arguments = in_turn (aggregate_one s attributes names) [] arguments

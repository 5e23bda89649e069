-- `filter` of a source and an expression, which is a truth.
use Rattle.std.specs.Prelude.{Ok, List, [], ◌∷◌}
use Rattle.cell_values.specs.declared.name.Span.{Span}
use Rattle.cell_values.specs.declared.schema.Kind.TheVariants.{Bool as Truths}
use Rattle.cell_values.specs.declared.schema.Schema.{Schema}
use Rattle.schema_grammar.specs.declared.kinds.TypeKind.TheVariants.{WrongType, WrongCount}
use Rattle.afl_trees.specs.Term.{Term}
use Rattle.afl_trees.specs.Grammar.{span_of}
use Rattle.logical_plan.specs.PlanSchema.{schema_of}
use Rattle.logical_plan.specs.Query.{Query, filtered}
use Rattle.check_rules.specs.Checked.{Checked, refused, demand, then}
use Rattle.check_exprs.specs.Expressions.{fits, typed}
use Rattle.check_exprs.specs.declared.operand.Operand.{Operand}
use Rattle.check_rules.specs.Sorts.{is_expression}

abbrev pub filter_by : Query → Operand → Checked Query
filter_by source test = demand (fits Truths test.kind) test.span WrongType (Ok (filtered source test.expr))

abbrev pub filter_of : Query → Schema → Term → Checked Query
filter_of source shape e = demand (is_expression e) (span_of e) WrongType (then (typed shape.attributes shape.dimensions e) (filter_by source))

-- what stands behind the source is one expression
abbrev pub filter_call : Span → Query → List Term → Checked Query
filter_call s source (e ∷ []) = filter_of source (schema_of source) e
filter_call s source arguments = refused s WrongCount

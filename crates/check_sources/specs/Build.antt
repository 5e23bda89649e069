-- `build`: an array of an expression's values, or of a literal's rows.
--
-- The sort of each argument from left to right comes first, then the schema's own rules, then those of `build` in their order.
use Rattle.std.specs.Prelude.{ℕ, Bool, true, false, nat_le, Option, Some, None, Ok, List, [], ◌∷◌}
use Rattle.std.specs.List.{list_all}
use Rattle.cell_values.specs.declared.name.Span.{Span}
use Rattle.cell_values.specs.declared.datum.Row.{Row}
use Rattle.cell_values.specs.declared.schema.Kind.{Kind}
use Rattle.cell_values.specs.declared.schema.Schema.{Schema}
use Rattle.schema_grammar.specs.Rules.{first_broken, rules, schema_of}
use Rattle.schema_grammar.specs.declared.shape_text.SchemaText.{SchemaText}
use Rattle.schema_grammar.specs.declared.kinds.SchemaFault.{SchemaFault}
use Rattle.schema_grammar.specs.declared.kinds.SchemaFault.TheVariants as schema_fault
use Rattle.schema_grammar.specs.declared.kinds.TypeKind.TheVariants.{WrongType, WrongCount, NotBounded, BadLiteral, TooManyCells}
use Rattle.afl_trees.specs.Term.{Term, text, truth, Terms, no_terms, and_term}
use Rattle.afl_trees.specs.Grammar.{span_of}
use Rattle.logical_plan.specs.Query.{Query, built, listed}
use Rattle.logical_plan.specs.Typing.{is_bounded, places_in}
use Rattle.check_rules.specs.Checked.{Checked, refused, demand, then}
use Rattle.check_exprs.specs.Expressions.{fits, typed}
use Rattle.check_exprs.specs.declared.operand.Operand.{Operand}
use Rattle.check_rules.specs.LiteralRows.{literal_rows}
use Rattle.check_rules.specs.Sorts.{written_schema, is_expression}

-- the schema that is written, or the first rule of schemas that it breaks
abbrev pub meant_by : Option SchemaFault → Schema → Checked Schema
meant_by (Some (schema_fault.Rule span kind)) meaning = refused span kind
meant_by _ meaning = Ok meaning

abbrev pub meant : SchemaText → Checked Schema
meant written = meant_by (first_broken (rules written)) (schema_of written)

-- the only one
abbrev pub with_one : {A B : Type 0} → Span → List A → (A → Checked B) → Checked B
with_one s (x ∷ []) next = next x
with_one s xs next = refused s WrongCount

-- the expression's value at each coordinate, where it is of the attribute's kind
abbrev pub built_of : Schema → Kind → Operand → Checked Query
built_of meaning kind value = demand (fits kind value.kind) value.span WrongType (Ok (built meaning value.expr))

-- over at most 16,777,216 coordinates
abbrev pub built_within : Span → Term → Schema → Kind → Checked Query
built_within s value meaning kind =
    demand (nat_le (places_in meaning.dimensions) 16777216) s TooManyCells
    (then (typed [] meaning.dimensions value) (built_of meaning kind))

-- `build` of a schema, written at a place, and an expression
abbrev pub built_from : SchemaText → Span → Term → Checked Query
built_from written s value = then (meant written) (λ meaning.
    demand (list_all is_bounded meaning.dimensions) s NotBounded
    (with_one s meaning.attributes (λ attribute. built_within s value meaning attribute.kind)))

abbrev pub listed_rows : Span → Schema → Option (List Row) → Checked Query
listed_rows s meaning (Some rows) = Ok (listed meaning rows)
listed_rows s meaning None = refused s BadLiteral

-- `build` of a schema, written at a place, and a literal at another
abbrev pub listed_from : SchemaText → Span → Span → List ℕ → Checked Query
listed_from written s at spelled = then (meant written) (λ meaning.
    with_one s meaning.dimensions (λ dimension.
    listed_rows at meaning (literal_rows meaning.attributes dimension spelled)))

-- what stands behind an expression says what it is: `false` an expression, `true` behind a text a literal
abbrev pub built_by : SchemaText → Span → Term → Term → Checked Query
built_by written s value (truth t false) = built_from written s value
built_by written s (text at spelled) (truth t true) = listed_from written s at spelled
built_by written s value flag = refused (span_of flag) WrongType

-- of a schema and an expression; a schema, an expression and `false`; or a schema, a text and `true`
abbrev pub build_call : Span → Terms → Checked Query
build_call s (and_term x (and_term y no_terms)) = then (written_schema x) (λ written.
    demand (is_expression y) (span_of y) WrongType (built_from written (span_of x) y))
build_call s (and_term x (and_term y (and_term flag no_terms))) = then (written_schema x) (λ written.
    demand (is_expression y) (span_of y) WrongType (built_by written (span_of x) y flag))
build_call s arguments = refused s WrongCount

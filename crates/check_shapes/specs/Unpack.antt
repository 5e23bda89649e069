-- `unpack`: a name that no dimension or attribute has.
use Rattle.std.specs.Prelude.{ℕ, not, Ok, List, [], ◌∷◌}
use Rattle.cell_values.specs.declared.name.Span.{Span}
use Rattle.cell_values.specs.declared.schema.Schema.{Schema}
use Rattle.cell_values.specs.Schemas.{attribute_names, dimension_names, is_among}
use Rattle.std.specs.Prelude.{◌||◌}
use Rattle.schema_grammar.specs.declared.kinds.TypeKind.TheVariants.{RepeatedName, WrongCount, WrongType}
use Rattle.afl_trees.specs.Term.{Term, reference}
use Rattle.afl_trees.specs.Grammar.{span_of}
use Rattle.logical_plan.specs.ShapeSchemas.{unpack_schema}
use Rattle.check_rules.specs.Checked.{Checked, refused, demand}

abbrev pub unpack_named : Schema → Span → List ℕ → Checked Schema
unpack_named source at name =
    demand (not (is_among name (dimension_names source.dimensions) || is_among name (attribute_names source.attributes))) at RepeatedName
    (Ok (unpack_schema name source))

abbrev pub unpack_under : Schema → Term → Checked Schema
unpack_under source (reference at name) = unpack_named source at name
unpack_under source t = refused (span_of t) WrongType

abbrev pub unpack_parts : Span → Schema → List Term → Checked Schema
unpack_parts s source (t ∷ []) = unpack_under source t
unpack_parts s source arguments = refused s WrongCount

-- `reverse`: each dimension has an end.
use Rattle.std.specs.Prelude.{List, [], ◌∷◌}
use Rattle.cell_values.specs.declared.name.Span.{Span}
use Rattle.cell_values.specs.declared.schema.Schema.{Schema}
use Rattle.schema_grammar.specs.Rules.{rule}
use Rattle.schema_grammar.specs.declared.kinds.TypeKind.TheVariants.{NotBounded}
use Rattle.schema_grammar.specs.declared.rules.Rule.{Rule}
use Rattle.logical_plan.specs.Typing.{are_bounded}

abbrev pub reverse_rules : Span → Schema → List Rule
reverse_rules at source = rule (are_bounded source.dimensions) at NotBounded ∷ []

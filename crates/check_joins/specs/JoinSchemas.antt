-- The schema of two arrays side by side. Names are given in turn, to the dimensions and then to the attributes, and none of them is too long.
use Rattle.std.specs.Prelude.{ℕ, Ok, List, [], ◌++◌}
use Rattle.cell_values.specs.declared.name.Span.{Span}
use Rattle.cell_values.specs.declared.schema.Attribute.{Attribute}
use Rattle.cell_values.specs.declared.schema.Dimension.{Dimension}
use Rattle.cell_values.specs.declared.schema.Schema.{Schema}
use Rattle.cell_values.specs.Schemas.{attribute_names, dimension_names}
use Rattle.schema_grammar.specs.declared.kinds.TypeKind.TheVariants.{BoundsDiffer}
use Rattle.logical_plan.specs.PlanSchema.{free_name, with_free_names}
use Rattle.logical_plan.specs.Typing.{same_bounds}
use Rattle.check_rules.specs.Checked.{Checked, demand, then}
use Rattle.check_rules.specs.InTurn.{in_turn}
use Rattle.check_groups.specs.Names.{short_name}

-- the name that is given behind others, unless it is too long
abbrev pub next_name : Span → List (List ℕ) → List ℕ → Checked (List ℕ)
next_name s given name = short_name s (free_name given name)

-- these dimensions and these attributes under free names
abbrev pub beside : Span → List Dimension → List Attribute → Checked Schema
beside s dimensions attributes =
    then (in_turn (next_name s) [] (dimension_names dimensions ++ attribute_names attributes)) (λ names. Ok (with_free_names dimensions attributes names))

-- `join`: the dimensions are as many and have the same bounds
abbrev pub joined_schema : Span → Schema → Schema → Checked Schema
joined_schema s left right = demand (same_bounds left.dimensions right.dimensions) s BoundsDiffer
    (beside s left.dimensions (left.attributes ++ right.attributes))

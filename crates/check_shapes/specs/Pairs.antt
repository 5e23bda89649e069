-- `merge` and `concat`, by the schemas of two sources.
use Rattle.std.specs.Prelude.{pos, ◌+ℤ◌, Bool, false, int_le, List, [], ◌∷◌}
use Rattle.cell_values.specs.declared.name.Span.{Span}
use Rattle.cell_values.specs.declared.schema.Dimension.{Dimension}
use Rattle.cell_values.specs.declared.schema.Schema.{Schema}
use Rattle.cell_values.specs.Schemas.{greatest_bound}
use Rattle.schema_grammar.specs.Rules.{rule}
use Rattle.schema_grammar.specs.declared.kinds.TypeKind.TheVariants.{BoundsDiffer, BoundsRange, NotBounded, SchemaDiffers}
use Rattle.schema_grammar.specs.declared.rules.Rule.{Rule}
use Rattle.logical_plan.specs.ShapeSchemas.{length_of}
use Rattle.logical_plan.specs.Typing.{is_bounded, same_bounds, same_kinds}

-- the dimensions are as many and have the same bounds, and the attributes are as many and of the same types
abbrev pub merge_rules : Span → Schema → Schema → List Rule
merge_rules s left right =
    rule (same_bounds left.dimensions right.dimensions) s BoundsDiffer
    ∷ rule (same_kinds left.attributes right.attributes) s SchemaDiffers
    ∷ []

-- the first dimension has an end
abbrev pub ends_first : List Dimension → Bool
ends_first [] = false
ends_first (d ∷ dims) = is_bounded d

-- the dimensions but the first are as many and have the same bounds
abbrev pub same_rest : List Dimension → List Dimension → Bool
same_rest (l ∷ left) (r ∷ right) = same_bounds left right
same_rest left right = false

-- the new high bound is a bound
abbrev pub fits_behind : Dimension → Dimension → Bool
fits_behind l r = int_le (l.hi +ℤ pos (length_of r)) (pos greatest_bound)

abbrev pub has_room_behind : List Dimension → List Dimension → Bool
has_room_behind (l ∷ left) (r ∷ right) = fits_behind l r
has_room_behind left right = false

-- the content of the left source stands at a place
abbrev pub concat_rules : Span → Span → Schema → Schema → List Rule
concat_rules s at left right =
    rule (ends_first left.dimensions) at NotBounded
    ∷ rule (same_rest left.dimensions right.dimensions) s BoundsDiffer
    ∷ rule (same_kinds left.attributes right.attributes) s SchemaDiffers
    ∷ rule (has_room_behind left.dimensions right.dimensions) s BoundsRange
    ∷ []

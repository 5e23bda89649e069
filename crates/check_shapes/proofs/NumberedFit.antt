-- Schemas of numbered cells are valid where they are within the limits.
use Rattle.std.proofs.Common.{◌≡◌, ◌≤◌, ℕ, true, List, [], ◌∷◌, ◌++◌, length, refl}
use Rattle.cell_values.specs.declared.schema.Attribute.{Attribute}
use Rattle.cell_values.specs.Schemas.{IsValid, attribute_names, are_distinct}
use Rattle.check_rules.proofs.OperatorsHolding.{IsWithin}
use Rattle.check_rules.proofs.ValidSchemas.{valid_of_parts, has_some}
use Rattle.check_shapes.specs.Numbered.{numbered_schema}

pub numbered_valid : (attributes : List Attribute) (name : List ℕ) → 1 ≤ length attributes → are_distinct (attribute_names attributes ++ name ∷ []) ≡ true
    → IsWithin (numbered_schema attributes name) → IsValid (numbered_schema attributes name)
numbered_valid attributes name some distinct within =
    valid_of_parts (numbered_schema attributes name) (record {
      attributes = has_some attributes 64 some within.attributes;
      dimensions = refl;
      distinct = distinct;
      each = refl;
      frames = within.frames;
    })

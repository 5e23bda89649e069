-- Whether a name is that of a dimension or of an attribute.
use Rattle.std.proofs.Common.{◌≡◌, ℕ, List, [], ◌∷◌, refl, ap}
use Rattle.std.specs.Prelude.{◌||◌}
use Rattle.std.specs.List.{list_any}
use Rattle.std.specs.Str.{bytes_eq}
use Rattle.cell_values.specs.Schemas.{attribute_names, dimension_names, is_among}
use Rattle.cell_values.specs.declared.schema.Attribute.{Attribute}
use Rattle.cell_values.specs.declared.schema.Dimension.{Dimension}

pub among_dimensions : (name : List ℕ) (dims : List Dimension) → is_among name (dimension_names dims) ≡ list_any (λ (d : Dimension). bytes_eq name d.name) dims
among_dimensions name [] = refl
among_dimensions name (d ∷ dims) = ap (λ b. bytes_eq name d.name || b) (among_dimensions name dims)

pub among_attributes : (name : List ℕ) (attributes : List Attribute) → is_among name (attribute_names attributes) ≡ list_any (λ (a : Attribute). bytes_eq name a.name) attributes
among_attributes name [] = refl
among_attributes name (a ∷ attributes) = ap (λ b. bytes_eq name a.name || b) (among_attributes name attributes)

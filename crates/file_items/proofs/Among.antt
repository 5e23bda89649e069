-- Names among those of attributes and dimensions.
use Rattle.std.proofs.Common.{◌≡◌, ℕ, ◌||◌, ◌++◌, List, [], ◌∷◌, refl, sym, ap, ◌∙◌}
use Rattle.std.specs.List.{list_any}
use Rattle.std.specs.Str.{bytes_eq}
use Rattle.std.proofs.lemmas.List.Folds.{list_any-append}
use Rattle.cell_values.specs.Schemas.{attribute_names, dimension_names, is_among}
use Rattle.cell_values.specs.declared.schema.Attribute.{Attribute}
use Rattle.cell_values.specs.declared.schema.Dimension.{Dimension}

pub among_attributes : (name : List ℕ) (attributes : List Attribute) → list_any (λ attribute. bytes_eq name attribute.name) attributes ≡ is_among name (attribute_names attributes)
among_attributes name [] = refl
among_attributes name (a ∷ rest) = ap (λ b. bytes_eq name a.name || b) (among_attributes name rest)

pub among_dimensions : (name : List ℕ) (dimensions : List Dimension) → list_any (λ dimension. bytes_eq name dimension.name) dimensions ≡ is_among name (dimension_names dimensions)
among_dimensions name [] = refl
among_dimensions name (d ∷ rest) = ap (λ b. bytes_eq name d.name || b) (among_dimensions name rest)

pub among_both : (name : List ℕ) (attributes : List Attribute) (dimensions : List Dimension)
    → (is_among name (attribute_names attributes) || is_among name (dimension_names dimensions)) ≡ is_among name (attribute_names attributes ++ dimension_names dimensions)
among_both name attributes dimensions = sym (list_any-append (bytes_eq name) (attribute_names attributes) (dimension_names dimensions))

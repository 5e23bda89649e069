-- The names of the dimensions at places, one place at a time.
use Rattle.std.proofs.Common.{◌≡◌, ℕ, zero, suc, ◌+◌, ◌<◌, ◌≤◌, List, [], ◌∷◌, ◌++◌, length, map, take, Option, None, refl, sym, ap, ◌∙◌, arith}
use Rattle.std.specs.Prelude.{slice_get, slice_index}
use Rattle.std.specs.Option.{option_to_list}
use Rattle.std.proofs.lemmas.List.{append-nil, map-append}
use Rattle.cell_values.specs.Schemas.{dimension_names}
use Rattle.cell_values.specs.declared.schema.Dimension.{Dimension}
use Rattle.logical_plan.proofs.Items.{items_at_step}
use Rattle.logical_plan.specs.BoxOps.{items_at}
use Rattle.logical_plan.specs.PlanSchema.{without_overlap}

abbrev names_at : List ℕ → List Dimension → List (List ℕ)
names_at places dims = dimension_names (map without_overlap (items_at places dims))

past_all : (dims : List Dimension) (place : ℕ) → length dims ≤ place → slice_get dims place ≡ None
past_all [] place past = refl
past_all (d ∷ dims) zero past = absurd (omega (arith, past))
past_all (d ∷ dims) (suc place) past = past_all dims place (omega (arith, past))

-- no dimension has no name
pub none_named : (names : List (List ℕ)) (dims : List Dimension) (place : ℕ) → length dims ≤ place → names ≡ names ++ dimension_names (map without_overlap (option_to_list (slice_get dims place)))
none_named names dims place past =
    sym (append-nil names) ∙ sym (ap (λ (o : Option Dimension). names ++ dimension_names (map without_overlap (option_to_list o))) (past_all dims place past))

pub named_at_step : (dims : List Dimension) (places : List ℕ) (i : ℕ) → i < length places
    → dimension_names (map without_overlap (items_at (take (i + 1) places) dims))
    ≡ dimension_names (map without_overlap (items_at (take i places) dims)) ++ dimension_names (map without_overlap (option_to_list (slice_get dims (slice_index places i))))
named_at_step dims places i lt =
    let more = option_to_list (slice_get dims (slice_index places i)) in
    ap (λ (ds : List Dimension). dimension_names (map without_overlap ds)) (items_at_step dims places i lt)
    ∙ ap dimension_names (map-append without_overlap (items_at (take i places) dims) more)
    ∙ map-append (λ (d : Dimension). d.name) (map without_overlap (items_at (take i places) dims)) (map without_overlap more)

-- Computed attributes that a project names, and their places without the others.
use Rattle.std.specs.Prelude.{ℕ, ◌+◌, ◌-◌, nat_lt, Bool, false, if◌then◌else◌, List, [], ◌∷◌, map, Option, Some, None}
use Rattle.std.specs.List.{list_all}
use Rattle.cell_values.specs.declared.schema.Bounds.{Bounds}
use Rattle.array_rows.specs.Boxes.{meet}
use Rattle.logical_plan.specs.BoxOps.{items_at}
use Rattle.plan_rewrite.specs.Settled.{is_named}

-- a place when the item at place k is left out
abbrev pub lower : ℕ → ℕ → ℕ
lower k place = if nat_lt k place then place - 1 else place

abbrev pub lowered : ℕ → List ℕ → List ℕ
lowered k = map (lower k)

-- of items whose first one has place k those that are named
abbrev pub kept : {A : Type 0} → ℕ → List A → List ℕ → List A
kept k [] places = []
kept k (x ∷ xs) places = if is_named k places then x ∷ kept (k + 1) xs places else kept k xs (lowered k places)

-- the places when only these are there
abbrev pub relocated : {A : Type 0} → ℕ → List A → List ℕ → List ℕ
relocated k [] places = places
relocated k (x ∷ xs) places = if is_named k places then relocated (k + 1) xs places else relocated k xs (lowered k places)

-- ---- a box over a box, a project over a project

abbrev pub met : Option Bounds → Bounds → Bounds
met None own = own
met (Some area) own = meet area own

abbrev pub picked : Option (List ℕ) → List ℕ → List ℕ
picked None own = own
picked (Some places) own = items_at places own

-- ---- a project that there may be

abbrev pub kept_for : {A : Type 0} → ℕ → List A → Option (List ℕ) → List A
kept_for n xs None = xs
kept_for n xs (Some places) = kept n xs places

abbrev pub places_for : {A : Type 0} → ℕ → List A → Option (List ℕ) → Option (List ℕ)
places_for n xs None = None
places_for n xs (Some places) = Some (relocated n xs places)

-- a project that names none of the items from place n on
abbrev pub names_none : ℕ → Option (List ℕ) → Bool
names_none n None = false
names_none n (Some places) = list_all (λ place. nat_lt place n) places

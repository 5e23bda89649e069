-- The values of a record.
use Rattle.std.specs.Prelude.{ℕ, ◌+◌, Bool, ⊤, List, [], ◌∷◌, slice_index_or, slice_range, unwrap_or}
use Rattle.csv.specs.Records.{field_at}
use Rattle.cell_values.specs.declared.datum.Datum.{Datum}
use Rattle.csv_scripts.specs.Fields.{HasFieldValue}
use Rattle.csv_scripts.specs.declared.plan.LoadPlan.{LoadPlan}

-- the field of a column, by the places of the columns; nothing where the record has none there
abbrev pub field_in : List (List ℕ) → List ℕ → ℕ → List ℕ
field_in fields places at = unwrap_or (field_at fields (slice_index_or places at 0)) []

-- the field of the column at this place says the value
abbrev pub HasColumnValue : LoadPlan → Bool → List ℕ → List (List ℕ) → List ℕ → ℕ → Datum → Type 0
HasColumnValue plan is_bare null fields places at v =
    HasFieldValue is_bare null (slice_index_or plan.decimals at 0) (slice_range plan.columns at (at + 1)) (field_in fields places at) v

-- from the column at this place on, each column's field says the value
abbrev pub HaveColumnValues : (ℕ → Datum → Type 0) → ℕ → List Datum → Type 0
HaveColumnValues Says at [] = ⊤
HaveColumnValues Says at (v ∷ vs) = Says at v × HaveColumnValues Says (at + 1) vs

-- From a text of CSV to the statements that load its records.
use Rattle.std.specs.Prelude.{◌≡◌, ℕ, ◌+◌, Bool, if◌then◌else◌, Option, Some, ⊤, List, [], ◌∷◌, ◌++◌, length}
use Rattle.std.specs.List.{flat_map}
use Rattle.std.specs.Io.KnownBytes.{Appends}
use Rattle.csv.specs.Reading.{AreRecords, default_config, strip_bom}
use Rattle.csv.specs.Records.{field_at}
use Rattle.csv.specs.declared.parser.State.TheVariants as st
use Rattle.cell_values.specs.declared.datum.Datum.{Datum}
use Rattle.cell_values.specs.declared.schema.Attribute.{Attribute}
use Rattle.csv_scripts.specs.Loads.{IsLoad}
use Rattle.csv_scripts.specs.Records.{HasColumnValue, HaveColumnValues}
use Rattle.csv_scripts.specs.Scripts.{create_bytes}
use Rattle.csv_scripts.specs.declared.plan.LoadPlan.{LoadPlan}

-- statements, and the records that they put into the array
pub record Load : Type 0 where
  pub script : List ℕ
  pub rows : List (List Datum)

abbrev pub scripts_of : List Load → List ℕ
scripts_of = flat_map (λ l. l.script)

abbrev pub records_of : List Load → List (List Datum)
records_of = flat_map (λ l. l.rows)

-- the first load begins with the record of this number, and each other one where the one before it ends
abbrev pub AreLoads : LoadPlan → ℕ → List Load → Type 0
AreLoads plan from [] = ⊤
AreLoads plan from (l ∷ ls) = IsLoad plan from l.script l.rows × AreLoads plan (from + length l.rows) ls

-- each record of the text is read as the values of one record, in order
abbrev pub AreRead : (List (List ℕ) → List Datum → Type 0) → List (List (List ℕ)) → List (List Datum) → Type 0
AreRead Reads [] [] = ⊤
AreRead Reads [] (v ∷ vs) = ⊥
AreRead Reads (f ∷ fs) [] = ⊥
AreRead Reads (f ∷ fs) (v ∷ vs) = Reads f v × AreRead Reads fs vs

-- a value for each column, which the column's field has
abbrev pub HasRecordValues : LoadPlan → Bool → List ℕ → List ℕ → List (List ℕ) → List Datum → Type 0
HasRecordValues plan is_bare null places fields values =
    HaveColumnValues (HasColumnValue plan is_bare null fields places) 0 values × (length values ≡ length plan.columns)

-- each column stands at its place among the names of the first line
abbrev pub AreColumns : List (List ℕ) → List Attribute → List ℕ → Type 0
AreColumns names [] [] = ⊤
AreColumns names [] (p ∷ ps) = ⊥
AreColumns names (c ∷ cs) [] = ⊥
AreColumns names (c ∷ cs) (p ∷ ps) = (field_at names p ≡ Some c.name) × AreColumns names cs ps

-- All records of a text are loaded, in order, each by one literal: behind what was written before, and behind the array's creation
-- where that is asked for.
pub record Converts (plan : LoadPlan) (creates is_bare : Bool) (null text : List ℕ) (count : ℕ) (before after : Option (List ℕ)) : Type 0 where
  pub names : List (List ℕ)
  pub fields : List (List (List ℕ))
  pub places : List ℕ
  pub loads : List Load
  pub are_records : AreRecords default_config st.StartRecord (strip_bom text) (names ∷ fields)
  pub are_columns : AreColumns names plan.columns places
  pub are_read : AreRead (HasRecordValues plan is_bare null places) fields (records_of loads)
  pub are_loads : AreLoads plan 2 loads
  pub written : Appends before after ((if creates then create_bytes plan.name plan.schema else []) ++ scripts_of loads)
  pub counted : count ≡ length fields

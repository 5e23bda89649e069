-- How far a conversion has come.
use Rattle.std.specs.Prelude.{◌≡◌, ℕ, ◌+◌, Option, Some, List, ◌++◌, length}
use Rattle.std.specs.Io.KnownBytes.{Appends}
use Rattle.csv.specs.Reading.{Reached, Ready, default_config, reader_config, reader_state, reader_trim, source_of}
use Rattle.csv.specs.declared.parser.State.TheVariants as st
use Rattle.csv.specs.declared.reader.Reader.{Reader}
use Rattle.csv.specs.declared.reader.Trim.TheVariants as trim
use Rattle.cell_values.specs.declared.datum.Datum.{Datum}
use Rattle.csv_scripts.specs.Conversion.{AreLoads, AreRead, Load, records_of, scripts_of}
use Rattle.csv_scripts.specs.Loads.{IsLoading}
use Rattle.csv_scripts.specs.declared.loader.Loader.{Loader}
use Rattle.csv_scripts.specs.declared.plan.LoadPlan.{LoadPlan}

-- the reader has given these records of the text, and goes on behind them
abbrev pub HasRead : {R : Type 0} → (R → Option (List ℕ)) → Reader R → List ℕ → List (List (List ℕ)) → Type 0
HasRead rem reader text rows = Ready reader × (reader_trim reader ≡ trim.None) × (reader_config reader ≡ default_config)
    × (left : List ℕ) × (source_of rem reader ≡ Some left) × Reached default_config st.StartRecord text rows (reader_state reader) left

-- no record waits: these loads have the records of these fields
pub record IsLoaded (plan : LoadPlan) (Reads : List (List ℕ) → List Datum → Type 0) (fields : List (List (List ℕ))) (next : ℕ)
    (before after : Option (List ℕ)) : Type 0 where
  pub loads : List Load
  pub are_loads : AreLoads plan 2 loads
  pub are_read : AreRead Reads fields (records_of loads)
  pub written : Appends before after (scripts_of loads)
  pub counted : next ≡ 2 + length fields

-- these loads and the one at hand have the records of these fields
pub record IsConverting (plan : LoadPlan) (Reads : List (List ℕ) → List Datum → Type 0) (fields : List (List (List ℕ))) (next : ℕ) (loader : Loader)
    (before after : Option (List ℕ)) : Type 0 where
  pub loads : List Load
  pub script : List ℕ
  pub rows : List (List Datum)
  pub are_loads : AreLoads plan 2 loads
  pub is_loading : IsLoading plan (2 + length (records_of loads)) loader.batch.text loader.batch.first loader.batch.count loader.versions script rows
  pub are_read : AreRead Reads fields (records_of loads ++ rows)
  pub written : Appends before after (scripts_of loads ++ script)
  pub counted : next ≡ 2 + length fields

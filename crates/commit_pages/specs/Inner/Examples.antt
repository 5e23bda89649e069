-- Worked costs of commits: an array of four places in chunks of two, and one of a long text.
use Rattle.std.specs.Prelude.{◌≡◌, ◌+◌, ◌%◌, ◌≤◌, ℕ, zero, suc, pos, true, List, [], ◌∷◌, replicate, codes, Some, None}
use Rattle.cell_values.specs.declared.datum.Row.{Row}
use Rattle.cell_values.specs.declared.datum.Cell.TheVariants.{Full}
use Rattle.cell_values.specs.declared.datum.Datum.TheVariants.{Int, Text}
use Rattle.cell_values.specs.declared.schema.Kind.TheVariants.{Int64, Str}
use Rattle.cell_values.specs.declared.schema.Schema.{Schema}
use Rattle.array_rows.specs.Rows.{placed}
use Rattle.event_core.specs.Query.{Query, listed}
use Rattle.event_core.specs.Change.{Change}
use Rattle.event_core.specs.Change.TheVariants.{Create, Store, Insert, Remove, RemoveVersions}
use Rattle.event_core.specs.Databases.{Database, after}
use Rattle.event_core.specs.Bases.{records_at, commits}
use Rattle.event_core.specs.declared.entry.Entry.TheVariants.{Commit}
use Rattle.event_core.specs.History.{History}
use Rattle.event_core.specs.Legal.{IsLegal}
use Rattle.event_core.specs.Worked.{worked_base, worked_on}
use Rattle.commit_pages.specs.Costs.{cost_from}

-- <v:int64>[i=0:3,2,overlap]
abbrev pub schema : ℕ → Schema
schema overlap = record {
  attributes = record { name = codes "v"; kind = Int64; nullable = true } ∷ [];
  dimensions = record { name = codes "i"; lo = pos 0; hi = pos 3; chunk = 2; overlap = overlap } ∷ [];
}

abbrev pub cell_at : ℕ → Row
cell_at i = placed (pos i ∷ []) (Full (Int (pos 7) ∷ []))

abbrev pub rows_at : ℕ → List Row → Query
rows_at overlap rows = listed (schema overlap) rows

-- the same number at each place, stored as A
abbrev pub store : ℕ → Change
store overlap = Store (codes "A") (schema overlap) (rows_at overlap (cell_at 0 ∷ cell_at 1 ∷ cell_at 2 ∷ cell_at 3 ∷ []))

-- one cell, put into A
abbrev pub insert_at : ℕ → ℕ → Change
insert_at overlap i = Insert (codes "A") (schema overlap) (rows_at overlap (cell_at i ∷ []))

abbrev pub stored : ℕ → Database
stored overlap = after [] (store overlap)

-- <t:string>[i=0:3,2,0], and a text of so many bytes, stored as T
abbrev pub texts : Schema
texts = record {
  attributes = record { name = codes "t"; kind = Str; nullable = true } ∷ [];
  dimensions = record { name = codes "i"; lo = pos 0; hi = pos 3; chunk = 2; overlap = 0 } ∷ [];
}

abbrev pub store_text : ℕ → Change
store_text bytes = Store (codes "T") texts (listed texts (placed (pos 1 ∷ []) (Full (Text (replicate bytes 97) ∷ [])) ∷ []))

-- so many commits
abbrev pub creations : ℕ → History
creations zero = []
creations (suc n) = Commit 0 (Create (codes "A") (schema 0)) (record { version = []; catalogue = [] }) ∷ creations n

-- A store writes both chunks, the directory and the record; with a full log, or without one, the catalogue and the log page in
-- the record's place. An insert writes the chunks that have its cell in their frame. Other changes write no version. A payload of
-- more than 4,096 bytes takes two pages. The 65th commit finds the log full, the one before and the one after do not.
pub record CommitsCostTheirPages : Type 0 where
  pub stored_first : cost_from (Some 0) [] [] (store 0) ≡ 4
  pub log_full : cost_from (Some 64) [] [] (store 0) ≡ 5
  pub no_log : cost_from None [] [] (store 0) ≡ 5
  pub inserted : cost_from (Some 63) (stored 0) [] (insert_at 0 2) ≡ 3
  pub beside : cost_from (Some 63) (stored 1) [] (insert_at 1 2) ≡ 4
  pub made : cost_from (Some 0) [] [] (Create (codes "A") (schema 0)) ≡ 1
  pub removed : cost_from (Some 64) (stored 0) [] (Remove (codes "A")) ≡ 2
  pub cut : cost_from (Some 0) (stored 0) [] (RemoveVersions (codes "A") 1) ≡ 1
  pub short_text : cost_from (Some 0) [] [] (store_text 5) ≡ 3
  pub long_text : cost_from (Some 0) [] [] (store_text 5000) ≡ 4
  pub sixty_fourth : cost_from (Some 0) [] (creations 63) (store 0) ≡ 4
  pub sixty_fifth : cost_from (Some 0) [] (creations 64) (store 0) ≡ 5
  pub sixty_sixth : cost_from (Some 0) [] (creations 65) (store 0) ≡ 4

-- the worked list of entries is legal at the costs of a file whose log has no record: its store takes a payload, a directory and
-- a record, its removal a record
abbrev pub WorkedIsLegal : Type 0
WorkedIsLegal = IsLegal (cost_from (Some 0)) [] worked_base worked_on

-- each 65th commit begins a new log
abbrev pub LogsComeRound : Type 0
LogsComeRound = (records : ℕ) (h : History) → records ≤ 64 → records_at (Some records) h ≡ Some ((records + commits h) % 65)

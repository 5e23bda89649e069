-- What a store has of its versions after a beginning of its history.
use Rattle.std.specs.Prelude.{◌≡◌, ℕ, nat_eq, if◌then◌else◌, List, slice_index, Option, None, Some, IsSomeAnd, IsTrue}
use Rattle.std.specs.List.{list_any}
use Rattle.arrayvec.specs.ArrayVec.{ArrayVec}
use Rattle.cell_values.specs.declared.datum.Row.{Row}
use Rattle.cell_values.specs.declared.schema.Schema.{Schema}
use Rattle.afl_outside.specs.Disk.{Moment}
use Rattle.chunk_source.specs.Source.{is_among}
use Rattle.logical_plan.specs.declared.names.NameEntry.{NameEntry}
use Rattle.logical_plan.specs.declared.names.Names.{Names}
use Rattle.logical_plan.specs.declared.parts.Leaf.{Leaf}
use Rattle.plan_changes.specs.Changes.{entry_named}
use Rattle.plan_changes.specs.Databases.{Database, rows_of}
use Rattle.event_core.specs.Cells.{at}
use Rattle.event_core.specs.History.{History}
use Rattle.store_versions.specs.Versions.{directory_of}
use Rattle.snapshot_manager.specs.Calls.{chunks_at, history_at, numbers_in, payload_at, IsLeafOf}
use Rattle.snapshot_manager.specs.Payloads.{HasTold, WasDamagedAt}
use Rattle.snapshot_manager.specs.Standings.{Standing, versions_after, BeganAs}

-- an array's schema, for each version that it has
abbrev pub schema_in : Option NameEntry → ℕ → Option Schema
schema_in None version = None
schema_in (Some entry) version = if list_any (λ v. nat_eq v version) entry.versions then Some entry.schema else None

-- the schema of each version that can be named
abbrev pub schema_of : Names → List ℕ → ℕ → Option Schema
schema_of names name version = schema_in (entry_named names.arrays name) version

-- the numbers of a version's chunks, as a place sees it
abbrev pub numbers_at : {D : Type 0} → Standing D → ℕ → List ℕ → ℕ → List (ArrayVec ℕ)
numbers_at s place name version = numbers_in (directory_of name version (versions_after s (history_at s place)))

-- these are the rows of the database that the store began as, after this beginning of its history
pub record AreRowsAfter {D : Type 0} (moment : D → Moment) (s : Standing D) (h : History) (rows : List ℕ → ℕ → List Row) : Type 0 where
  pub db : Database
  pub began : BeganAs (moment s.opened.disk).state db
  pub is : rows ≡ rows_of (at db h)

-- DAMAGE: the payload of some chunk begins at this page, as a place sees it. Where an honest disk told its bytes as it was opened, a payload
-- was listed then that begins there, and by the schema of this chunk's array it wasn't whole
pub record BeginsDamage {D : Type 0} (moment : D → Moment) (names : Names) (s : Standing D) (place page : ℕ) : Type 0 where
  pub leaf : Leaf
  pub number : ArrayVec ℕ
  pub of : IsLeafOf names leaf
  pub listed : IsTrue (is_among number (chunks_at s place leaf))
  pub begins : IsSomeAnd (payload_at s place leaf number) (λ entry. page ≡ slice_index entry.pages 0)
  pub was : (file : List ℕ) → HasTold (moment s.opened.disk).state file → WasDamagedAt page s.first file leaf.schema

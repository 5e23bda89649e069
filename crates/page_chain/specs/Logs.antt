-- The log page: 64 entries of 64 bytes, each a gate and a record's length and first page.
use Rattle.std.specs.Prelude.{◌≡◌, ◌≢◌, ℕ, ◌+◌, ◌*◌, ◌<◌, ◌≤◌, List, length, slice_index, slice_index_or}
use Rattle.page_chain.specs.Places.{number_at}
use Rattle.page_chain.specs.declared.slots.layout.logs.RecordAt.{RecordAt}

-- the record whose body begins at a place
abbrev pub record_at : ℕ → List ℕ → RecordAt
record_at at file = record { length = number_at 8 at file; first = number_at 4 (at + 8) file }

-- The entries of a log page that begins at a place, before the first closed one. No entry after that one is open.
pub record IsLog (place : ℕ) (records : List RecordAt) (file : List ℕ) : Type 0 where
  pub fits : length records ≤ 64
  pub opened : (k : ℕ) → k < length records → slice_index file (place + 64 * k) ≡ 1
  pub closed : (k : ℕ) → length records ≤ k → k < 64 → slice_index file (place + 64 * k) ≢ 1
  pub each : (d : RecordAt) (k : ℕ) → k < length records → slice_index_or records k d ≡ record_at (place + 64 * k + 8) file

-- an open entry follows a closed one
pub record HasStray (place : ℕ) (file : List ℕ) : Type 0 where
  pub shut : ℕ
  pub stray : ℕ
  pub order : shut < stray
  pub within : stray < 64
  pub is_shut : slice_index file (place + 64 * shut) ≢ 1
  pub is_open : slice_index file (place + 64 * stray) ≡ 1

-- the open entries up to the first closed one
pub record ArePrefix (records : List RecordAt) (page : List ℕ) : Type 0 where
  pub fits : length records ≤ 64
  pub opened : (k : ℕ) → k < length records → slice_index page (64 * k) ≡ 1
  pub next : length records < 64 → slice_index page (64 * length records) ≢ 1
  pub each : (d : RecordAt) (k : ℕ) → k < length records → slice_index_or records k d ≡ record_at (64 * k + 8) page

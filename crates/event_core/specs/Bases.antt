-- A base with what a database has beside its core, and what histories make of these.
use Rattle.std.specs.Prelude.{ℕ, ◌+◌, ◌==◌, if◌then◌else◌, [], ◌∷◌, Option, None, Some}
use Rattle.event_core.specs.declared.entry.Entry.TheVariants.{Pin, Unpin, Commit, Reap}
use Rattle.event_core.specs.declared.state.Core.{Core}
use Rattle.event_core.specs.History.{History}

-- the core where a history begins, the database's sequence, and how many records its log has: none in a file without a log
pub record Base : Type 0 where
  pub core : Core
  pub sequence : ℕ
  pub records : Option ℕ

-- how many commits a history has
abbrev pub commits : History → ℕ
commits [] = 0
commits (Commit session change used ∷ before) = commits before + 1
commits (Pin session ∷ before) = commits before
commits (Unpin session ∷ before) = commits before
commits (Reap ∷ before) = commits before

-- each commit has the next sequence number
abbrev pub sequence_at : Base → History → ℕ
sequence_at base h = base.sequence + commits h

-- a commit adds a record, or begins a new log
abbrev pub next_records : Option ℕ → Option ℕ
next_records None = Some 0
next_records (Some records) = if records == 64 then Some 0 else Some (records + 1)

abbrev pub records_at : Option ℕ → History → Option ℕ
records_at records [] = records
records_at records (Commit session change used ∷ before) = next_records (records_at records before)
records_at records (Pin session ∷ before) = records_at records before
records_at records (Unpin session ∷ before) = records_at records before
records_at records (Reap ∷ before) = records_at records before

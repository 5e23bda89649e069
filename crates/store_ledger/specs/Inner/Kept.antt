-- What a ledger keeps.
use Rattle.std.specs.Prelude.{◌≡◌, ◌≤◌, ◌+◌, ℕ, Bool, if◌then◌else◌, List, length, reverse, IsTrue}
use Rattle.std.specs.List.{sum_by}
use Rattle.store_versions.specs.Core.{Core}
use Rattle.event_core.specs.Allowed.{IsBase, is_allowed}
use Rattle.store_versions.specs.History.{History, OpenPin, open_pins}
use Rattle.store_versions.specs.Legal.{has_committed}
use Rattle.store_versions.specs.Replay.{core_at}
use Rattle.store_ledger.specs.declared.note.Note.{Note}
use Rattle.store_ledger.specs.declared.note.NoteKind.{NoteKind}
use Rattle.store_ledger.specs.Ledger.{AreFew, AreNoted, has_note, reserved_by, is_tried, is_fault}

-- the entries that may still come under an open pin without memory: its commit, if there was none yet, and its unpin
abbrev pub entries_to_come : History → OpenPin → ℕ
entries_to_come h pin = if has_committed pin.session h then 1 else 2

-- one note of some kinds may come under an open pin, if there was none yet
abbrev pub note_to_come : (NoteKind → Bool) → List Note → OpenPin → ℕ
note_to_come kinds notes pin = if has_note kinds notes pin then 0 else 1

abbrev pub notes_to_come : List Note → OpenPin → ℕ
notes_to_come notes pin = note_to_come is_fault notes pin + note_to_come is_tried notes pin

-- there is room for the versions that these commits may make
abbrev pub HasVersionRoom : History → ℕ → Type 0
HasVersionRoom h room = sum_by (entries_to_come h) (open_pins h) ≤ room

-- the core is that of the history, the notes stand beside it, the number of reserved entries is theirs, all entries are within the limit, and
-- there is room for what may come without memory, and reaps are few
pub record IsKept (base : Core) (limit : ℕ) (h : History) (notes : List Note) (core : Core) (reserves entry_room note_room pages : ℕ) : Type 0 where
  pub begins : IsBase base
  pub allowed : IsTrue (is_allowed base h)
  pub made : core ≡ core_at base h
  pub noted : AreNoted h (reverse notes)
  pub reserved : reserves ≡ sum_by (reserved_by notes) (open_pins h)
  pub within : length h + reserves ≤ limit
  pub for_entries : length h + sum_by (entries_to_come h) (open_pins h) ≤ entry_room
  pub for_notes : length notes + sum_by (notes_to_come notes) (open_pins h) ≤ note_room
  pub marks : pages ≡ base.limit
  pub few : AreFew base h notes

-- The entries of a log, and what a seat appends.
use Rattle.std.specs.Prelude.{◌≡◌, ℕ, true, List, [], ◌∷◌, ◌++◌, Option, Some}
use Rattle.turn_lock.specs.Owners.{none_of}
use Rattle.test_commits.specs.declared.entries.log.Entry.{Entry}

-- an entry is owned by the seat that appended it
abbrev pub owner_of : Entry → Option ℕ
owner_of e = Some e.by

abbrev pub entry : ℕ → ℕ → Entry
entry by content = record { by = by; content = content }

-- the list extends what the seat had seen by entries of other seats, and then by just this entry of the seat
abbrev pub Appends : ℕ → ℕ → List Entry → List Entry → Type 0
Appends by content old new = (others : List Entry) × (none_of owner_of by others ≡ true) × (new ≡ (old ++ others) ++ entry by content ∷ [])

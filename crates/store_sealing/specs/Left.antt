-- What is left of a store where a commit was prepared, and why it can't be.
use Rattle.std.specs.Prelude.{◌≡◌, ◌≤◌, ◌<◌, ◌-◌, ◌^◌, ℕ, Bool, ◌&&◌, if◌then◌else◌, [], ◌∷◌, length, Result, Ok, Err}
use Rattle.plan_changes.specs.declared.change.Change.{Change}
use Rattle.event_core.specs.declared.entry.Entry.TheVariants.{Reap}
use Rattle.store_ledger.specs.Ledger.{LedgerState, attempt, note_now, unused_pages}
use Rattle.prepared_commits.specs.Standings.{Standing, with_entries, with_notes}
use Rattle.prepared_commits.specs.declared.commits.fault.PrepareFault.{PrepareFault}
use Rattle.prepared_commits.specs.declared.commits.fault.PrepareFault.TheVariants.{SequenceEnd, Full, Memory}
use Rattle.prepared_commits.specs.Parts.{IsFull, is_short}

-- the store with the note that a session tries a commit of a change now, and with a reap, if one came
abbrev pub tried_now : {D : Type 0} → ℕ → Change → Standing D → Standing D
tried_now session change s = with_notes (note_now (attempt change) s.ledger session ∷ []) s

abbrev pub reaped_if : {D : Type 0} → Bool → Standing D → Standing D
reaped_if comes s = if comes then with_entries (Reap ∷ []) s else s

-- A REAP COMES just where fewer pages are free than the commit needs. Where memory is short too, it may be missing, and where there is no next
-- sequence number, there is none
abbrev pub IsLeft : {A D : Type 0} → ℕ → Standing D → Result A PrepareFault → Standing D → Type 0
IsLeft needed s (Ok x) new = new ≡ reaped_if (is_short needed s.ledger) s
IsLeft needed s (Err SequenceEnd) new = new ≡ s
IsLeft needed s (Err (Full most free)) new = new ≡ reaped_if (is_short needed s.ledger) s
IsLeft needed s (Err Memory) new = (comes : Bool) × (new ≡ reaped_if (comes && is_short needed s.ledger) s)

-- a commit is prepared where it takes no more pages than nobody can name, and full is told where it takes more
abbrev pub FitsIn : {A : Type 0} → ℕ → Result A PrepareFault → LedgerState → Type 0
FitsIn needed (Ok x) ledger = needed ≤ length (unused_pages ledger)
FitsIn needed (Err SequenceEnd) ledger = Unit {0}
FitsIn needed (Err (Full most free)) ledger = IsFull needed most free ledger
FitsIn needed (Err Memory) ledger = Unit {0}

-- so where the database hasn't the last sequence number, and its end is told where it has
abbrev pub HasNext : {A : Type 0} → ℕ → Result A PrepareFault → Type 0
HasNext sequence (Ok x) = sequence < 2 ^ 64 - 1
HasNext sequence (Err SequenceEnd) = 2 ^ 64 - 1 ≤ sequence
HasNext sequence (Err (Full most free)) = sequence < 2 ^ 64 - 1
HasNext sequence (Err Memory) = Unit {0}

-- What a store keeps on every disk goes on while the disk does, with the note of a fault where its count rose.
use Rattle.std.proofs.Common.{ℕ, ◌<◌, ◌≤◌, ◌⊎◌, inl, inr, Bool, true, false, if◌then◌else◌, List, [], ◌∷◌, ◌++◌, IsTrue, refl, sym, subst, arith}
use Rattle.std.specs.List.{list_all}
use Rattle.std.proofs.lemmas.Bool.{cases_lt}
use Rattle.afl_outside.specs.Counts.{Rose, risen}
use Rattle.afl_outside.specs.Disk.{DiskGoesOn, Moment}
use Rattle.event_core.specs.History.{History, open_pins}
use Rattle.store_ledger.specs.declared.note.Note.{Note}
use Rattle.store_ledger.specs.declared.note.NoteKind.TheVariants.{Fault}
use Rattle.store_ledger.specs.Ledger.{LedgerState, history, is_noted, note_now, with_notes, is_fault}
use Rattle.store_versions.specs.Versions.{Directories}
use Rattle.prepared_commits.specs.Calls.{NotesFault}
use Rattle.prepared_commits.specs.Standings.{Standing, given_of}
use Rattle.prepared_commits.specs.Kept.{IsKept}
use Rattle.prepared_commits.specs.Keeping.{Keeping, tried_if_committed, AreCounted}
use Rattle.prepared_commits.proofs.AtOn.{counted_later, counted_more, tried_on}

-- with another disk, and other notes
kept_with : {D : Type 0} (moment : D → Moment) (s : Standing D) (k : Keeping) (h : History) (given : Directories) (disk : D) (notes : List Note) → IsKept moment s k h given →
    IsTrue (list_all (tried_if_committed h notes) (open_pins h)) → AreCounted (moment s.opened.disk).state.faults (moment disk).state.faults notes →
    IsKept moment (record s { disk = disk; ledger = record (s.ledger) { notes = notes } }) k h given
kept_with moment s k h given disk notes x tried counted = record {
  in_order = x.in_order;
  catalog = x.catalog;
  names = x.names;
  versions = x.versions;
  slots = x.slots;
  doubt = x.doubt;
  acked = x.acked;
  made = x.made;
  tried = tried;
  noted = counted;
}

module _ {D : Type 0} (moment : D → Moment) (s : Standing D) (k : Keeping) (disk : D) (session : ℕ) (on : DiskGoesOn (moment s.disk).state (moment disk).state)
    (x : IsKept moment s k (history s.ledger) (given_of s)) where
  abbrev Keeps : LedgerState → Type 0
  Keeps ledger = IsKept moment (record s { disk = disk; ledger = ledger }) k (history ledger) (given_of (record s { disk = disk; ledger = ledger }))

  still : Keeps s.ledger
  still = kept_with moment s k (history s.ledger) (given_of s) disk s.ledger.notes x x.tried
      (counted_later (moment s.opened.disk).state.faults (moment s.disk).state.faults (moment disk).state.faults s.ledger.notes on.later x.noted)

  one_more : Rose (moment s.disk).state.faults (moment disk).state.faults → Keeps (with_notes (note_now Fault s.ledger session ∷ []) s.ledger)
  one_more rose = kept_with moment s k (history s.ledger) (given_of s) disk (s.ledger.notes ++ note_now Fault s.ledger session ∷ []) x
      (tried_on (history s.ledger) s.ledger.notes (note_now Fault s.ledger session) x.tried)
      (counted_more (moment s.opened.disk).state.faults (moment s.disk).state.faults (moment disk).state.faults s.ledger.notes (note_now Fault s.ledger session) refl rose x.noted)

  fault_if : (b : Bool) → Rose (moment s.disk).state.faults (moment disk).state.faults → Keeps (if b then s.ledger else with_notes (note_now Fault s.ledger session ∷ []) s.ledger)
  fault_if true rose = still
  fault_if false rose = one_more rose

  pub kept_on : (ledger : LedgerState) → NotesFault (moment s.disk).state (moment disk).state session s.ledger ledger → Keeps ledger
  kept_on ledger notes = by_cases (cases_lt (moment disk).state.faults (risen (moment s.disk).state.faults))
    where
      by_cases : ((moment disk).state.faults < risen (moment s.disk).state.faults) ⊎ (risen (moment s.disk).state.faults ≤ (moment disk).state.faults) → Keeps ledger
      by_cases (inl below) = subst Keeps (sym (notes.still (λ rose. omega (arith, below, rose)))) still
      by_cases (inr rose) = subst Keeps (sym (notes.rose rose)) (fault_if (is_noted is_fault s.ledger session) rose)

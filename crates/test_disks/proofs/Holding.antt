-- What sessions have of a ledger, over one more entry and one more note.
use Rattle.std.proofs.Common.{◌≡◌, ◌∙◌, ℕ, Bool, true, false, not, ◌&&◌, ◌||◌, if◌then◌else◌, nat_eq, nat_lt, List, [], ◌∷◌, ◌++◌, length, reverse, Option, None, Some, refl, ap, sym, subst, inl, inr, arith}
use Rattle.std.proofs.lemmas.Bool.{cases_lt, eq-eqb, or_from}
use Rattle.std.proofs.lemmas.List.Folds.{list_any-append}
use Rattle.std.proofs.lemmas.Option.{none-some, same_Some}
use Rattle.afl_outside.specs.Counts.{risen}
use Rattle.afl_outside.specs.Disk.{DiskState}
use Rattle.event_core.specs.declared.entry.Entry.{Entry}
use Rattle.event_core.specs.declared.entry.Entry.TheVariants.{Pin, Unpin, Commit, Reap}
use Rattle.logical_plan.specs.declared.names.Names.{Names}
use Rattle.plan_changes.specs.Stored.{AreStored}
use Rattle.event_core.specs.Allowed.{is_pinned}
use Rattle.event_core.specs.History.{History, leaves_pin, names_at, pin_before}
use Rattle.event_core.proofs.Tests.{eq_sym}
use Rattle.store_ledger.specs.declared.note.Note.{Note}
use Rattle.store_ledger.specs.declared.note.NoteKind.TheVariants.{Fault}
use Rattle.store_ledger.specs.declared.pinned.Pinned.{Pinned}
use Rattle.store_ledger.specs.Ledger.{LedgerState, IsOpenPin, has_note, has_under, history, is_noted, is_under, note_now, with_entries, with_fault, with_notes, is_tried, is_fault}
use Rattle.store_ledger.proofs.Pins.{one_more}
use Rattle.store_state.specs.Calls.{NotesFault}
use Rattle.store_state.specs.Standings.{Standing, with_entries as store_entries}
use Rattle.test_quiet.specs.declared.holds.Hold.{Hold}
use Rattle.test_quiet.specs.declared.holds.Hold.TheVariants as hold
use Rattle.test_disks.specs.Holds.{HasNoPins, IsHold, IsPinOf, IsUntried, LeavesAll, LeavesOthers}
use Rattle.test_disks.specs.Inner.Pins.{pin_in}

-- ---- one more entry

passed_or : (a b : Bool) → not a ≡ true → (a || b) ≡ b
passed_or true b e = cc
passed_or false b e = refl

passed_and : (a b : Bool) → not a ≡ true → (not a && b) ≡ b
passed_and true b e = cc
passed_and false b e = refl

passed_if : {A : Type 0} (a : Bool) (x y : A) → not a ≡ true → (if a then x else y) ≡ y
passed_if true x y e = absurd cc
passed_if false x y e = refl

pinned_before : (s : ℕ) (entry : Entry) (h : History) → leaves_pin s entry ≡ true → is_pinned s (entry ∷ h) ≡ is_pinned s h
pinned_before s (Pin t) h e = passed_or (nat_eq t s) (is_pinned s h) e
pinned_before s (Unpin t) h e = passed_and (nat_eq t s) (is_pinned s h) e
pinned_before s (Commit t change used) h e = refl
pinned_before s Reap h e = refl

begun_before : (s : ℕ) (entry : Entry) (h : History) → leaves_pin s entry ≡ true → pin_before s (entry ∷ h) ≡ pin_before s h
begun_before s (Pin t) h e = passed_if (nat_eq t s) (Some h) (pin_before s h) e
begun_before s (Unpin t) h e = passed_if (nat_eq t s) None (pin_before s h) e
begun_before s (Commit t change used) h e = refl
begun_before s Reap h e = refl

module _ (ledger : LedgerState) (entry : Entry) (session : ℕ) (leaves : leaves_pin session entry ≡ true) where
  begun_more : pin_before session (history (with_entries (entry ∷ []) ledger)) ≡ pin_before session (history ledger)
  begun_more = ap (pin_before session) (one_more ledger.entries entry) ∙ begun_before session entry (reverse ledger.entries) leaves

  open_more : (pinned : Pinned) → IsPinOf ledger session pinned → IsPinOf (with_entries (entry ∷ []) ledger) session pinned
  open_more pinned p = record {
    its = p.its;
    begun = record {
      before = p.begun.before;
      begun = ap (λ (s : ℕ). pin_before s (history (with_entries (entry ∷ []) ledger))) p.its ∙ begun_more ∙ ap (λ (s : ℕ). pin_before s (history ledger)) (sym p.its) ∙ p.begun.begun;
      place = p.begun.place;
      names = p.begun.names;
    };
    stored = p.stored;
  }

  pub held_over_entry : (held : Hold) → IsHold ledger session held → IsHold (with_entries (entry ∷ []) ledger) session held
  held_over_entry hold.Free free = ap (is_pinned session) (one_more ledger.entries entry) ∙ pinned_before session entry (reverse ledger.entries) leaves ∙ free
  held_over_entry (hold.Pinned pinned) held = record { pin = open_more pinned held.pin; first = ap (has_under is_tried ledger.notes session) begun_more ∙ held.first }
  held_over_entry (hold.Tried pinned) held = open_more pinned held

-- ---- one more note

noted_behind : (notes : List Note) (note : Note) (session : ℕ) (begun : Option History) →
    ((before : History) → is_under is_tried (record { session = session; before = before }) note ≡ false) →
    has_under is_tried notes session begun ≡ false → has_under is_tried (notes ++ note ∷ []) session begun ≡ false
noted_behind notes note session None other none = refl
noted_behind notes note session (Some before) other none =
    list_any-append (is_under is_tried (record { session = session; before = before })) notes (note ∷ [])
    ∙ or_from (has_note is_tried notes (record { session = session; before = before })) (is_under is_tried (record { session = session; before = before }) note || false) none
    (or_from (is_under is_tried (record { session = session; before = before }) note) false (other before) refl)

pub noted_pin : (ledger : LedgerState) (note : Note) (session : ℕ) (pinned : Pinned) → IsPinOf ledger session pinned → IsPinOf (with_notes (note ∷ []) ledger) session pinned
noted_pin ledger note session pinned p = record {
  its = p.its;
  begun = record { before = p.begun.before; begun = p.begun.begun; place = p.begun.place; names = p.begun.names };
  stored = p.stored;
}

module _ (ledger : LedgerState) (note : Note) (session : ℕ)
    (other : (before : History) → is_under is_tried (record { session = session; before = before }) note ≡ false) where
  pub held_over_note : (held : Hold) → IsHold ledger session held → IsHold (with_notes (note ∷ []) ledger) session held
  held_over_note hold.Free free = free
  held_over_note (hold.Pinned pinned) held = record {
    pin = noted_pin ledger note session pinned held.pin;
    first = noted_behind ledger.notes note session (pin_before session (history ledger)) other held.first;
  }
  held_over_note (hold.Tried pinned) held = noted_pin ledger note session pinned held

-- ---- steps

never : (a : Bool) → (a && false) ≡ false
never true = refl
never false = refl

-- a note of a fault is none of a try
fault_is_none : (session after : ℕ) (s : ℕ) (before : History) → is_under is_tried (record { session = s; before = before }) (record { session = session; kind = Fault; after = after }) ≡ false
fault_is_none session after s before = never (nat_eq session s)

not_ours : (a b : Bool) → a ≡ false → (a && b) ≡ false
not_ours a b e = ap (λ (x : Bool). x && b) e

-- a note of another session is none of ours
pub others_is_none : (note : Note) (s : ℕ) (before : History) → nat_eq s note.session ≡ false → is_under is_tried (record { session = s; before = before }) note ≡ false
others_is_none note s before e = not_ours (nat_eq note.session s) (is_tried note.kind && nat_lt (length before) note.after) (eq_sym note.session s ∙ e)

pub nothing_leaves : (ledger : LedgerState) → LeavesAll ledger ledger
nothing_leaves ledger session held h = h

pub all_then_all : (a b c : LedgerState) → LeavesAll a b → LeavesAll b c → LeavesAll a c
all_then_all a b c f g session held h = g session held (f session held h)

pub others_then_all : (own : ℕ) (a b c : LedgerState) → LeavesOthers own a b → LeavesAll b c → LeavesOthers own a c
others_then_all own a b c f g session held e h = g session held (f session held e h)

pub all_but_one : (own : ℕ) (a b : LedgerState) → LeavesAll a b → LeavesOthers own a b
all_but_one own a b f session held e h = f session held h

-- a note of a fault, if one comes, leaves all
fault_if : (b : Bool) (ledger : LedgerState) (session : ℕ) → LeavesAll ledger (if b then ledger else with_notes (note_now Fault ledger session ∷ []) ledger)
fault_if true ledger session = nothing_leaves ledger
fault_if false ledger session = λ s held h. held_over_note ledger (note_now Fault ledger session) s (fault_is_none session (length ledger.entries) s) held h

pub fault_leaves_all : (ledger : LedgerState) (session : ℕ) → LeavesAll ledger (with_fault session ledger)
fault_leaves_all ledger session = fault_if (is_noted is_fault ledger session) ledger session

-- a reap leaves all
pub reap_leaves_all : (ledger : LedgerState) → LeavesAll ledger (with_entries (Reap ∷ []) ledger)
reap_leaves_all ledger session held h = held_over_entry ledger Reap session refl held h

-- so does a commit
pub pin_leaves_others : (ledger : LedgerState) (own : ℕ) → LeavesOthers own ledger (with_entries (Pin own ∷ []) ledger)
pin_leaves_others ledger own session held e h = held_over_entry ledger (Pin own) session (ap not (eq_sym own session ∙ e)) held h

pub unpin_leaves_others : (ledger : LedgerState) (own : ℕ) → LeavesOthers own ledger (with_entries (Unpin own ∷ []) ledger)
unpin_leaves_others ledger own session held e h = held_over_entry ledger (Unpin own) session (ap not (eq_sym own session ∙ e)) held h

none_then : (a b : Bool) → a ≡ true → (not a && b) ≡ false
none_then true b e = refl
none_then false b e = absurd cc

-- a session that has let its pin go has none
pub unpin_frees : (ledger : LedgerState) (own : ℕ) → IsHold (with_entries (Unpin own ∷ []) ledger) own hold.Free
unpin_frees ledger own =
    ap (is_pinned own) (one_more ledger.entries (Unpin own)) ∙ none_then (nat_eq own own) (is_pinned own (reverse ledger.entries)) (eq-eqb own own refl)

-- a read leaves all, whether the disk failed in it or not
pub notes_leave_all : (old new : DiskState) (session : ℕ) (before after : LedgerState) → NotesFault old new session before after → LeavesAll before after
notes_leave_all old new session before after n = elim (cases_lt new.faults (risen old.faults)) [
  | inl less ↦ subst (LeavesAll before) (sym (n.still (λ rose. omega (arith, less, rose)))) (nothing_leaves before)
  | inr rose ↦ subst (LeavesAll before) (sym (n.rose rose)) (fault_leaves_all before session)
]

-- what is left to all is left of each open pin
pub still_open : (old new : LedgerState) (pinned : Pinned) → LeavesAll old new → IsOpenPin old pinned → AreStored pinned.names → IsOpenPin new pinned
still_open old new pinned f o stored = (f pinned.session (hold.Tried pinned) (record { its = refl; begun = o; stored = stored })).begun

-- a read leaves a pin open
open_with : (b : Bool) (ledger : LedgerState) (session : ℕ) (pinned : Pinned) → IsOpenPin ledger pinned →
    IsOpenPin (if b then ledger else with_notes (note_now Fault ledger session ∷ []) ledger) pinned
open_with true ledger session pinned o = o
open_with false ledger session pinned o = record { before = o.before; begun = o.begun; place = o.place; names = o.names }

pub notes_leave_open : (old new : DiskState) (session : ℕ) (before after : LedgerState) (pinned : Pinned) → NotesFault old new session before after → IsOpenPin before pinned →
    IsOpenPin after pinned
notes_leave_open old new session before after pinned n o = elim (cases_lt new.faults (risen old.faults)) [
  | inl less ↦ subst (λ (l : LedgerState). IsOpenPin l pinned) (sym (n.still (λ rose. omega (arith, less, rose)))) o
  | inr rose ↦ subst (λ (l : LedgerState). IsOpenPin l pinned) (sym (n.rose rose)) (open_with (is_noted is_fault before session) before session pinned o)
]

-- ---- what a session has, by which kind that is

pub untried_of : (ledger : LedgerState) (session : ℕ) (held : Hold) (pinned : Pinned) → held ≡ hold.Pinned pinned → IsHold ledger session held → IsUntried ledger session pinned
untried_of ledger session held pinned e h = subst (IsHold ledger session) e h

pub tried_of : (ledger : LedgerState) (session : ℕ) (held : Hold) (pinned : Pinned) → held ≡ hold.Tried pinned → IsHold ledger session held → IsPinOf ledger session pinned
tried_of ledger session held pinned e h = subst (IsHold ledger session) e h

pub held_pin : (ledger : LedgerState) (session : ℕ) (held : Hold) (pinned : Pinned) → Some pinned ≡ pin_in held → IsHold ledger session held → IsPinOf ledger session pinned
held_pin ledger session hold.Free pinned e h = absurd (none-some pinned (sym e))
held_pin ledger session (hold.Pinned own) pinned e h = subst (IsPinOf ledger session) (sym (same_Some pinned own e)) h.pin
held_pin ledger session (hold.Tried own) pinned e h = subst (IsPinOf ledger session) (sym (same_Some pinned own e)) h

pub held_none : (ledger : LedgerState) (session : ℕ) (held : Hold) → None ≡ pin_in held → IsHold ledger session held → IsHold ledger session hold.Free
held_none ledger session hold.Free e h = h
held_none ledger session (hold.Pinned own) e h = absurd (none-some own e)
held_none ledger session (hold.Tried own) e h = absurd (none-some own e)

-- ---- steps of stores

pub same_leaves_all : {D : Type 0} (s new : Standing D) → new ≡ s → LeavesAll s.ledger new.ledger
same_leaves_all s new e = subst (λ (x : Standing _). LeavesAll s.ledger x.ledger) (sym e) (nothing_leaves s.ledger)

pub reap_leaves : {D : Type 0} (comes : Bool) (s new : Standing D) → new ≡ (if comes then store_entries (Reap ∷ []) s else s) → LeavesAll s.ledger new.ledger
reap_leaves true s new e = subst (λ (x : Standing _). LeavesAll s.ledger x.ledger) (sym e) (reap_leaves_all s.ledger)
reap_leaves false s new e = same_leaves_all s new e

pub pin_leaves : {D : Type 0} (s new : Standing D) (own : ℕ) → new ≡ store_entries (Pin own ∷ []) s → LeavesOthers own s.ledger new.ledger
pin_leaves s new own e = subst (λ (x : Standing _). LeavesOthers own s.ledger x.ledger) (sym e) (pin_leaves_others s.ledger own)

-- the names of a pin are stored ones
pub pin_is_stored : (old : LedgerState) (session : ℕ) (names : Names) (pinned : Pinned) → names ≡ names_at old.base (history old) → AreStored names →
    pinned ≡ record { session = session; place = length old.entries; names = names_at old.base (history old) } → AreStored pinned.names
pin_is_stored old session names pinned same stored e = subst AreStored (same ∙ sym (ap (λ (p : Pinned). p.names) e)) stored

pub begun_is_untried : (old new : LedgerState) (session : ℕ) (names : Names) (pinned : Pinned) → names ≡ names_at old.base (history old) → AreStored names →
    pinned ≡ record { session = session; place = length old.entries; names = names_at old.base (history old) } → IsOpenPin new pinned → is_noted is_tried new session ≡ false →
    IsUntried new session pinned
begun_is_untried old new session names pinned same stored e opened none = record {
  pin = record { its = ap (λ (p : Pinned). p.session) e; begun = opened; stored = pin_is_stored old session names pinned same stored e };
  first = none;
}

module _ {D : Type 0} (s new : Standing D) (own : ℕ) (pinned : Pinned) (p : IsPinOf s.ledger own pinned) (e : new ≡ store_entries (Unpin pinned.session ∷ []) s) where
  pub unpin_leaves : LeavesOthers own s.ledger new.ledger
  unpin_leaves = subst (λ (x : Standing D). LeavesOthers own s.ledger x.ledger) (sym e)
      (subst (λ (t : ℕ). LeavesOthers own s.ledger (with_entries (Unpin t ∷ []) s.ledger)) (sym p.its) (unpin_leaves_others s.ledger own))

  pub unpin_leaves_none : IsHold new.ledger own hold.Free
  unpin_leaves_none = subst (λ (x : Standing D). IsHold x.ledger own hold.Free) (sym e)
      (subst (λ (t : ℕ). IsHold (with_entries (Unpin t ∷ []) s.ledger) own hold.Free) (sym p.its) (unpin_frees s.ledger own))

-- a new store has none
pub new_has_no_pins : (ledger : LedgerState) → ledger.entries ≡ [] → HasNoPins ledger
new_has_no_pins ledger e session = ap (λ (entries : List Entry). is_pinned session (reverse entries)) e

-- What a commit leaves to sessions.
use Rattle.std.proofs.Common.{◌≡◌, ℕ, Bool, true, false, ◌&&◌, [], ◌∷◌, Option, Some, IfSome, Result, Ok, Err, refl, ap, sym, subst}
use Rattle.afl_outside.specs.Disk.{DiskState}
use Rattle.array_geom.specs.declared.chunk.Changed.{Changed}
use Rattle.plan_changes.specs.declared.change.Change.{Change}
use Rattle.plan_changes.specs.Stored.{HasItsNames}
use Rattle.plan_changes.specs.Typed.{IsTypedFor}
use Rattle.event_core.specs.declared.entry.Entry.TheVariants.{Commit}
use Rattle.event_core.specs.declared.entry.Used.{Used}
use Rattle.event_core.specs.Allowed.{is_pinned}
use Rattle.event_core.specs.History.{names_at, pin_before}
use Rattle.commit_pages.specs.Changes.{AreValid, ComesWith}
use Rattle.prepared_commits.specs.declared.commits.fault.PrepareFault.{PrepareFault}
use Rattle.prepared_commits.specs.declared.commits.fault.PrepareFault.TheVariants.{SequenceEnd, Full, Memory}
use Rattle.prepared_commits.specs.declared.commits.prepared.Prepared.{Prepared}
use Rattle.prepared_commits.specs.Prepared.{IsAsked}
use Rattle.array_store.specs.Parts.{is_short}
use Rattle.store_ledger.specs.declared.pinned.Pinned.{Pinned}
use Rattle.store_ledger.specs.Ledger.{LedgerState, history, note_now, with_entries as more_entries, with_notes as more_notes, attempt}
use Rattle.store_ledger.proofs.Keeping.{pinned_of}
use Rattle.array_store.specs.Left.{IsLeft, reaped_if, tried_now}
use Rattle.store_state.specs.Calls.{NotesFault}
use Rattle.store_state.specs.Standings.{Standing}
use Rattle.array_store.specs.Steps.{sealed_ledger}
use Rattle.test_quiet.specs.declared.holds.Hold.{Hold}
use Rattle.test_quiet.specs.declared.holds.Hold.TheVariants as hold
use Rattle.test_quiet.specs.declared.quiet_disk.QuietDisk.{QuietDisk}
use Rattle.test_disks.specs.Holds.{IsHold, IsPinOf, LeavesAll, LeavesOthers, LeavesTried}
use Rattle.test_quiet.specs.Quiet.{quiet_moment}
use Rattle.test_disks.proofs.Holding.{all_then_all, held_over_entry, held_over_note, noted_pin, notes_leave_all, nothing_leaves, others_is_none, others_then_all, reap_leaves_all, untried_of}

-- ---- preparing

-- a note that a session tries a commit
tried_leaves_others : (change : Change) (ledger : LedgerState) (own : ℕ) → LeavesOthers own ledger (more_notes (note_now (attempt change) ledger own ∷ []) ledger)
tried_leaves_others change ledger own session held e h =
    held_over_note ledger (note_now (attempt change) ledger own) session (λ before. others_is_none (note_now (attempt change) ledger own) session before e) held h

tried_leaves_own : (change : Change) (ledger : LedgerState) (own : ℕ) → LeavesTried own ledger (more_notes (note_now (attempt change) ledger own ∷ []) ledger)
tried_leaves_own change ledger own pinned p = noted_pin ledger (note_now (attempt change) ledger own) own pinned p

-- what a step leaves to its own session's tried pin and to the others
pub record Leaves (own : ℕ) (old new : LedgerState) : Type 0 where
  pub tried : LeavesTried own old new
  pub others : LeavesOthers own old new

pub leaves_then_all : (own : ℕ) (a b c : LedgerState) → Leaves own a b → LeavesAll b c → Leaves own a c
leaves_then_all own a b c l f = record {
  tried = λ pinned p. f own (hold.Tried pinned) (l.tried pinned p);
  others = others_then_all own a b c l.others f;
}

reap_if : {D : Type 0} (comes : Bool) (s : Standing D) → LeavesAll s.ledger (reaped_if comes s).ledger
reap_if true s = reap_leaves_all s.ledger
reap_if false s = nothing_leaves s.ledger

after_try : {D : Type 0} (change : Change) (own : ℕ) (comes : Bool) (s new : Standing D) → new ≡ reaped_if comes (tried_now own change s) → Leaves own s.ledger new.ledger
after_try change own comes s new e =
    subst (λ (l : LedgerState). Leaves own s.ledger l) (ap (λ (x : Standing _). x.ledger) (sym e))
    (leaves_then_all own s.ledger (tried_now own change s).ledger (reaped_if comes (tried_now own change s)).ledger
    (record { tried = tried_leaves_own change s.ledger own; others = tried_leaves_others change s.ledger own }) (reap_if comes (tried_now own change s)))

pub left_leaves : {A D : Type 0} (change : Change) (own needed : ℕ) (s new : Standing D) (result : Result A PrepareFault) → IsLeft needed (tried_now own change s) result new → Leaves own s.ledger new.ledger
left_leaves change own needed s new (Ok x) e = after_try change own (is_short needed (tried_now own change s).ledger) s new e
left_leaves change own needed s new (Err SequenceEnd) e = after_try change own false s new e
left_leaves change own needed s new (Err (Full most free)) e = after_try change own (is_short needed (tried_now own change s).ledger) s new e
left_leaves change own needed s new (Err Memory) e = after_try change own (e.0 && is_short needed (tried_now own change s).ledger) s new e.1

-- ---- what is asked over a quiet disk

pub asked_quietly : (s : Standing QuietDisk) (change : Change) (changed : Option Changed) → HasItsNames change →
    IsTypedFor (names_at s.ledger.base (history s.ledger)) change → ComesWith change changed → IfSome changed AreValid → IsAsked quiet_moment s change changed
asked_quietly s change changed named typed comes valid = record { named = named; typed = typed; comes = comes; valid = valid; told = λ db began. absurd (let no : false ≡ true = began.honest in cc) }

-- ---- sealing

-- a commit leaves all
pub commit_leaves_all : (ledger : LedgerState) (session : ℕ) (change : Change) (used : Used) → LeavesAll ledger (more_entries (Commit session change used ∷ []) ledger)
commit_leaves_all ledger own change used session held h = held_over_entry ledger (Commit own change used) session refl held h

-- the session of an open pin is pinned
pub is_pinned_now : (ledger : LedgerState) (session : ℕ) (pinned : Pinned) → IsPinOf ledger session pinned → is_pinned session (history ledger) ≡ true
is_pinned_now ledger session pinned p =
    pinned_of session (history ledger) p.begun.before (subst (λ (s : ℕ). pin_before s (history ledger) ≡ Some p.begun.before) p.its p.begun.begun)

-- ---- one step after the other

-- a commit that was sealed, whether the disk failed in it or not
pub sealed_leaves_all : {D : Type 0} (s : Standing D) (p : Prepared) (old new : DiskState) (after : LedgerState) → NotesFault old new p.session (sealed_ledger s p) after →
    LeavesAll s.ledger after
sealed_leaves_all s p old new after n =
    all_then_all s.ledger (sealed_ledger s p) after (commit_leaves_all s.ledger p.session p.commit.change p.commit.used) (notes_leave_all old new p.session (sealed_ledger s p) after n)

pub all_leaves_tried : (own : ℕ) (a b : LedgerState) → LeavesAll a b → LeavesTried own a b
all_leaves_tried own a b f pinned p = f own (hold.Tried pinned) p

pub tried_then : (own s : ℕ) (a b c : LedgerState) → s ≡ own → Leaves own a b → LeavesTried s b c → LeavesTried own a c
tried_then own s a b c e l f = let g : LeavesTried own b c = subst (λ (t : ℕ). LeavesTried t b c) e f in λ pinned p. g pinned (l.tried pinned p)

pub others_then : (own s : ℕ) (a b c : LedgerState) → s ≡ own → Leaves own a b → LeavesOthers s b c → LeavesOthers own a c
others_then own s a b c e l f = let g : LeavesOthers own b c = subst (λ (t : ℕ). LeavesOthers t b c) e f in λ session held other h. g session held other (l.others session held other h)

-- a session that has an untried pin is pinned
pub untried_is_pinned : (ledger : LedgerState) (session : ℕ) (held : Hold) (pinned : Pinned) → held ≡ hold.Pinned pinned → IsHold ledger session held → is_pinned session (history ledger) ≡ true
untried_is_pinned ledger session held pinned e h = is_pinned_now ledger session pinned (untried_of ledger session held pinned e h).pin

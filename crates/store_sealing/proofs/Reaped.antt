-- What a reap leaves, where one comes.
use Rattle.std.proofs.Common.{◌≡◌, ◌∙◌, ◌+◌, ◌≤◌, ℕ, Bool, true, false, nat_le, List, [], ◌∷◌, ◌++◌, length, Option, reverse, IsTrue, refl, ap, sym, subst, arith, length-append}
use Rattle.std.specs.List.{sum_by}
use Rattle.std.proofs.lemmas.Bool.Decides.{nat_tests}
use Rattle.afl_outside.specs.Disk.{Moment}
use Rattle.array_geom.specs.declared.chunk.Changed.{Changed}
use Rattle.logical_plan.specs.declared.names.Names.{Names}
use Rattle.plan_changes.specs.declared.change.Change.{Change}
use Rattle.plan_changes.specs.Databases.{Database}
use Rattle.plan_changes.specs.Typed.{IsTypedFor}
use Rattle.event_core.specs.declared.entry.Entry.{Entry}
use Rattle.event_core.specs.declared.entry.Entry.TheVariants.{Reap}
use Rattle.event_core.specs.Allowed.{is_pinned}
use Rattle.event_core.specs.Cells.{at}
use Rattle.event_core.specs.History.{History, names_at, open_pins, pin_before}
use Rattle.event_core.specs.Legal.{has_committed}
use Rattle.store_ledger.specs.Ledger.{LedgerState, has_room, has_under, history, is_noted, reserved, reserved_by, is_tried}
use Rattle.store_ledger.proofs.Pins.{one_more}
use Rattle.prepared_commits.specs.At.{IsAt}
use Rattle.prepared_commits.specs.Standings.{Standing, WasTriedBy}
use Rattle.prepared_commits.specs.Keeping.{Keeping}
use Rattle.prepared_commits.proofs.AtOn.{at_reap}
use Rattle.prepared_commits.proofs.Attempts.{tried_on}
use Rattle.prepared_commits.specs.Prepared.{IsAsked, MayBeMade}
use Rattle.prepared_commits.specs.Parts.{reaped}
use Rattle.store_sealing.specs.Left.{reaped_if}

-- the history with a reap, if one comes
abbrev pub reaped_history : Bool → History → History
reaped_history true h = Reap ∷ h
reaped_history false h = h

pub history_of : (comes : Bool) (ledger : LedgerState) → history (reaped comes ledger) ≡ reaped_history comes (history ledger)
history_of true ledger = one_more ledger.entries Reap
history_of false ledger = refl

pub ledger_of : {D : Type 0} (comes : Bool) (s : Standing D) → (reaped_if comes s).ledger ≡ reaped comes s.ledger
ledger_of true s = refl
ledger_of false s = refl

pub at_reaped : {D : Type 0} (moment : D → Moment) (s : Standing D) (k : Keeping) (comes : Bool) → IsAt moment s k → IsAt moment (reaped_if comes s) k
at_reaped moment s k true x = at_reap moment s k x
at_reaped moment s k false x = x

-- ---- what a reap leaves as it is

pub same_pin : (comes : Bool) (session : ℕ) (h : History) → is_pinned session (reaped_history comes h) ≡ is_pinned session h
same_pin true session h = refl
same_pin false session h = refl

pub same_committed : (comes : Bool) (session : ℕ) (h : History) → has_committed session (reaped_history comes h) ≡ has_committed session h
same_committed true session h = refl
same_committed false session h = refl

pub same_database : (comes : Bool) (db : Database) (h : History) → at db (reaped_history comes h) ≡ at db h
same_database true db h = refl
same_database false db h = refl

pub same_noted : (comes : Bool) (ledger : LedgerState) (session : ℕ) → is_noted is_tried (reaped comes ledger) session ≡ is_noted is_tried ledger session
same_noted true ledger session = ap (λ (h : History). has_under is_tried ledger.notes session (pin_before session h)) (one_more ledger.entries Reap)
same_noted false ledger session = refl

pub still_tried : {D : Type 0} (comes : Bool) (s : Standing D) (session : ℕ) (change : Change) → WasTriedBy session s.ledger.notes (history s.ledger) change
    → WasTriedBy session (reaped_if comes s).ledger.notes (history (reaped_if comes s).ledger) change
still_tried true s session change x =
    subst (λ (h : History). WasTriedBy session s.ledger.notes h change) (sym (one_more s.ledger.entries Reap)) (tried_on session s.ledger.notes change Reap (history s.ledger) refl x)
still_tried false s session change x = x

-- ---- room

less_room : (a r limit : ℕ) → nat_le (a + r + 2) limit ≡ true → nat_le (a + 1 + r + 1) limit ≡ true
less_room a r limit fits = grind (arith, nat_tests)

one_room : (a r limit : ℕ) → nat_le (a + r + 2) limit ≡ true → nat_le (a + r + 1) limit ≡ true
one_room a r limit fits = grind (arith, nat_tests)

same_reserved : (ledger : LedgerState) → reserved (reaped true ledger) ≡ reserved ledger
same_reserved ledger = ap (λ (h : History). sum_by (reserved_by ledger.notes) (open_pins h)) (one_more ledger.entries Reap)

-- of room for two entries a reap takes one
pub room_left : (comes : Bool) (ledger : LedgerState) → IsTrue (has_room ledger 2) → IsTrue (has_room (reaped comes ledger) 1)
room_left true ledger room =
    let longer : length (ledger.entries ++ Reap ∷ []) ≡ length ledger.entries + 1 = length-append ledger.entries (Reap ∷ []) in
    ap (λ (n : ℕ). nat_le (n + reserved (reaped true ledger) + 1) ledger.limit) longer
    ∙ ap (λ (r : ℕ). nat_le (length ledger.entries + 1 + r + 1) ledger.limit) (same_reserved ledger)
    ∙ less_room (length ledger.entries) (reserved ledger) ledger.limit room
room_left false ledger room = one_room (length ledger.entries) (reserved ledger) ledger.limit room

-- ---- what is asked

pub asked_still : {D : Type 0} (moment : D → Moment) (s : Standing D) (k : Keeping) (comes : Bool) (change : Change) (changed : Option Changed) → IsAt moment s k → IsAsked moment s change changed
    → IsAsked moment (reaped_if comes s) change changed
asked_still moment s k true change changed x asked =
    let next = at_reap moment s k x in
    let names : names_at s.ledger.base (history s.ledger) ≡ names_at s.ledger.base (history (reaped true s.ledger)) = sym x.kept.names ∙ next.kept.names in
    record {
      named = asked.named;
      typed = subst (λ (n : Names). IsTypedFor n change) names asked.typed;
      comes = asked.comes;
      valid = asked.valid;
      told = λ db began. subst (λ (h : History). MayBeMade (at db h) change changed) (sym (history_of true s.ledger)) (asked.told db began);
    }
asked_still moment s k false change changed x asked = asked

-- Seats of a shared store, and what a look at it leaves.
use Rattle.std.proofs.Common.{arith, ◌≡◌, ◌<◌, ℕ, zero, suc, Bool, false, not, List, [], ◌∷◌, ◌++◌, length, get_or, reverse, All, IsTrue, Result, Ok, Err, IfOk, OnOk, OnErr, ap, subst, sym, ◌∙◌}
use Rattle.std.proofs.lemmas.List.{append_assoc}
use Rattle.std.specs.List.{AllByRecursion}
use Rattle.arrayvec.specs.ArrayVec.{ArrayVec}
use Rattle.afl_outside.specs.Disk.{Moment}
use Rattle.chunk_source.specs.Source.{is_among}
use Rattle.chunk_source.proofs.ReadLemmas.{all_among}
use Rattle.turn_lock.proofs.Gathering.{places_more}
use Rattle.event_core.specs.Allowed.{is_pinned}
use Rattle.store_state.specs.declared.state.event.Event.{Event}
use Rattle.snapshot_manager.specs.Told.{entries_in, ledger_of, told}
use Rattle.snapshot_manager.specs.declared.seat.Seat.{Seat}
use Rattle.snapshot_manager.specs.declared.shared.Shared.{Shared}
use Rattle.snapshot_manager.specs.Seats.{AreIdleSeats, AreNewSeats, IsIdle, IsNewSeat, IsSameSeat, IsSeatOf, ledger_seen, seen, session_of, HoldsNone, HoldsPin, start, store_seen}
use Rattle.turn_lock.specs.declared.turns.seat.Turn.{Turn}
use Rattle.snapshot_manager.specs.StoreParts.{StoreParts}
use Rattle.snapshot_manager.specs.CommitFault.{CommitFault}
use Rattle.snapshot_manager.specs.declared.committing.Commit.{Commit}
use Rattle.snapshot_manager.specs.declared.committing.Commit.TheVariants.{Stale}
use Rattle.snapshot_manager.specs.Commits.{IfStale}
use Rattle.test_quiet.specs.declared.holds.Hold.{Hold}
use Rattle.test_quiet.specs.declared.holds.Hold.TheVariants as hold
use Rattle.test_quiet.specs.declared.answers.Answer.{Answer}
use Rattle.test_stores.specs.declared.visitors.Visitor.{Visitor}
use Rattle.test_stores.specs.Visitors.{IsVisitor}
use Rattle.test_stores.specs.Visits.{IsFree, IsHeld, IsPinOf, IsUntried}
use Rattle.logical_plan.specs.declared.parts.Leaf.{Leaf}
use Rattle.plan_changes.specs.Stored.{AreStored}
use Rattle.store_ledger.specs.Ledger.{is_noted, is_tried, IsOpenPin}
use Rattle.store_ledger.specs.declared.note.NoteKind.{NoteKind}
use Rattle.store_ledger.specs.declared.pinned.PinFault.{PinFault}
use Rattle.store_ledger.specs.declared.pinned.Pinned.{Pinned}
use Rattle.store_state.specs.Calls.{chunks_at}
use Rattle.snapshot_manager.specs.Turns.{Adds}
use Rattle.snapshot_manager.proofs.Sights.{pins_see_the_same}

module _ {D : Type 0} (moment : D → Moment) (shared : Shared D) where
  free_of : (session : ℕ) (seat : Seat D) → IsNewSeat shared session seat → IsFree moment shared seat
  free_of session seat is = record {
    here = is.of_store;
    idle = is.idle;
    none = ap (λ (es : List Event). not (is_pinned (session_of seat) (reverse (entries_in es)))) is.seen_none;
  }

  -- seats that are new have no pin
  pub new_are_free : (seats : List (Seat D)) → AreNewSeats shared seats → All (IsFree moment shared) seats
  new_are_free seats new k d near = free_of k _ (new k d near)

  pub free_are_idle : (seats : List (Seat D)) → All (IsFree moment shared) seats → AreIdleSeats shared seats
  free_are_idle seats free k d near = ((free k d near).here, (free k d near).idle)

module _ {A : Type 0} (P : A → Type 0) where
  pub none_all : All P []
  none_all k d near = absurd (omega arith)

  pub one_more_all : (xs ys : List A) (x : A) → ys ≡ xs ++ x ∷ [] → All P xs → P x → All P ys
  one_more_all xs ys x e all p = subst (All P) (sym e) (places_more (λ _. P) xs x all p)

module _ {D : Type 0} (shared : Shared D) where
  pub none_are_idle : (seats : List (Seat D)) → seats ≡ [] → AreIdleSeats shared seats
  none_are_idle seats e = subst (AreIdleSeats shared) (sym e) (none_all (λ seat. IsSeatOf shared seat × IsIdle seat))

module _ {D : Type 0} (moment : D → Moment) (shared : Shared D) where
  -- the chunks of a version stay as they are under its pin, whatever a turn adds
  pub chunks_stay : (old new : Seat D) (own : List Event) (pinned : Pinned) (leaf : Leaf) → IsSeatOf shared old → HoldsPin moment shared old pinned → Adds (session_of old) own (seen old) (seen new) →
      chunks_at (store_seen moment shared new) pinned.place leaf ≡ chunks_at (store_seen moment shared old) pinned.place leaf
  chunks_stay old new own pinned leaf of holds adds =
      ap (λ (es : List Event). chunks_at (told (start moment shared) es) pinned.place leaf) (adds.grown ∙ append_assoc (seen old) adds.others own)
      ∙ (pins_see_the_same D (start moment shared) (seen old) (adds.others ++ own) pinned of.sealed holds.open_pin).chunks leaf

  -- a pin is held where nothing more was seen
  pub pin_stays : (old new : Seat D) (pinned : Pinned) → IsPinOf moment shared old pinned → IsSameSeat old new → seen new ≡ seen old
      → IsPinOf moment shared new pinned
  pin_stays old new pinned pin same e = record {
    holds = record {
      own = pin.holds.own ∙ sym same.session;
      open_pin = subst (λ (es : List Event). IsOpenPin (ledger_of (start moment shared) es) pinned) (sym e) pin.holds.open_pin;
    };
    stored = pin.stored;
  }

  -- no commit was tried under a pin that a session has just begun to have
  pub untried : (old new : Seat D) (pinned : Pinned) → IsSameSeat old new → HoldsPin moment shared new pinned → AreStored pinned.names
      → ((kinds : NoteKind → Bool) → is_noted kinds (ledger_seen moment shared new) (session_of old) ≡ false) → IsUntried moment shared new pinned
  untried old new pinned same holds stored none = record {
    pin = record { holds = holds; stored = stored };
    first = ap (is_noted is_tried (ledger_seen moment shared new)) (holds.own ∙ same.session) ∙ none is_tried;
  }

  -- what a session has that wanted a pin
  pub begun_held : (old new : Seat D) (found : Result Pinned PinFault) (held : Hold) → IsSameSeat old new → IfOk found (HoldsPin moment shared new) → IfOk found (λ pinned. AreStored pinned.names)
      → OnOk found ((kinds : NoteKind → Bool) → is_noted kinds (ledger_seen moment shared new) (session_of old) ≡ false) → OnErr found (HoldsNone moment shared new)
      → IfOk found (λ pinned. held ≡ hold.Pinned pinned) → OnErr found (held ≡ hold.Free) → IsHeld moment shared new held
  begun_held old new (Ok pinned) held same holds stored none free is isnt = subst (IsHeld moment shared new) (sym is) (untried old new pinned same holds stored none)
  begun_held old new (Err fault) held same holds stored none free is isnt = subst (IsHeld moment shared new) (sym isnt) free

  -- a visitor after a step
  pub visits_on : (now kept : Visitor D) (told given : Hold × Answer) → now ≡ kept → told ≡ given → IsSeatOf shared kept.seat × IsIdle kept.seat → IsHeld moment shared kept.seat given.0
      → IsVisitor moment shared (record { seat = now.seat; held = told.0 })
  visits_on now kept told given e f seat held =
      subst (λ (v : Visitor D). IsVisitor moment shared (record { seat = v.seat; held = told.0 })) (sym e)
      (subst (λ (t : Hold × Answer). IsVisitor moment shared (record { seat = kept.seat; held = t.0 })) (sym f) (record { here = seat.0; idle = seat.1; held = held }))

-- what is said of the turn that a commit has handed out
module _ {D : Type 0} (P : Turn (StoreParts D) → Type 0) where
  pub at_stale : (found : Result (Commit D) CommitFault) (commit : Commit D) (turn : Turn (StoreParts D)) → found ≡ Ok commit → commit ≡ Stale turn → IfStale P found → P turn
  at_stale found commit turn is stale p = subst (λ (made : Commit D). IfStale P (Ok made)) stale (subst (IfStale P) is p)

item_read : {A : Type 0} (P : A → Type 0) (xs : List A) (i : ℕ) (x : A) → AllByRecursion P xs → i < length xs → x ≡ get_or xs i x → P x
item_read P [] i x all low is = absurd (omega (arith, low))
item_read P (y ∷ xs) zero x all low is = subst P (sym is) all.0
item_read P (y ∷ xs) (suc i) x all low is = item_read P xs i x all.1 (omega (arith, low)) is

-- one of a list's chunks is among them
pub one_among : (numbers : List (ArrayVec ℕ)) (i : ℕ) (at : ArrayVec ℕ) → i < length numbers → at ≡ get_or numbers i at → IsTrue (is_among at numbers)
one_among numbers i at low is = item_read (λ k. IsTrue (is_among k numbers)) numbers i at (all_among numbers) low is

-- Seats that are given out, and that come back.
use Rattle.std.proofs.Common.{◌≡◌, ◌∙◌, ℕ, zero, suc, ◌+◌, ◌-◌, ◌<◌, List, [], ◌∷◌, ◌++◌, All, length, length-append, length-drop, arith, drop, remove, slice_get, Some, refl, ap, sym, subst, drop-drop}
use Rattle.std.specs.List.{list_all}
use Rattle.std.proofs.lemmas.Option.{slice_get_within, get_or_from_slice_get}
use Rattle.turn_lock.specs.Seats.{AreNewSeats as AreNewTurnSeats, IsNewSeat as IsNewTurnSeat}
use Rattle.turn_lock.specs.declared.turns.seat.LockSeat.{LockSeat}
use Rattle.turn_lock.proofs.Gathering.{places_more}
use Rattle.afl_outside.specs.Disk.{Moment}
use Rattle.event_core.specs.declared.entry.Entry.{Entry}
use Rattle.store_ledger.specs.declared.note.Note.{Note}
use Rattle.array_store.specs.Event.{Event}
use Rattle.array_store.specs.StoreParts.{StoreParts}
use Rattle.array_store.specs.At.{standing}
use Rattle.array_store.specs.Events.{events}
use Rattle.snapshot_manager.specs.declared.seat.Seat.{Seat}
use Rattle.snapshot_manager.specs.declared.shared.Shared.{Shared}
use Rattle.snapshot_manager.specs.Seats.{AreIdleSeats, AreNewSeats, IsIdleAt, IsNewSeat}
use Rattle.array_store.specs.Told.{entries_in, is_sealed}

module _ {A : Type 0} where
  get_dropped : (xs : List A) (n : ℕ) → slice_get (drop n xs) 0 ≡ slice_get xs n
  get_dropped xs zero = refl
  get_dropped [] (suc n) = refl
  get_dropped (x ∷ xs) (suc n) = get_dropped xs n

  -- what is taken from the front stood at that place of the whole list
  pub first_of_rest : (xs ys : List A) (n : ℕ) (x : A) → ys ≡ drop n xs → slice_get ys 0 ≡ Some x → slice_get xs n ≡ Some x
  first_of_rest xs ys n x is e = sym (get_dropped xs n) ∙ ap (λ l. slice_get l 0) (sym is) ∙ e

  -- something is left of a list of which not all is taken from the front
  pub some_left : (xs ys : List A) (n : ℕ) → ys ≡ drop n xs → n < length xs → 0 < length ys
  some_left xs ys n is near = subst (λ l. 0 < length l) (sym is) (subst (λ k. 0 < k) (sym (length-drop n xs)) (let m : ℕ = length xs in let g : 0 < m - n = omega arith in g))

  pub shorter : (xs ys : List A) (a : A) → xs ≡ ys ++ a ∷ [] → length ys < length xs
  shorter xs ys a e = subst (λ l. length ys < length l) (sym e) (subst (λ k. length ys < k) (sym (length-append ys (a ∷ []))) (let n : ℕ = length ys in let g : n < n + 1 = omega arith in g))

  pub less_one : (xs ys zs : List A) (n : ℕ) → ys ≡ drop n xs → zs ≡ remove ys 0 → zs ≡ drop (n + 1) xs
  less_one xs ys zs n is e = e ∙ ap (drop 1) is ∙ drop-drop 1 n xs

-- a store in which nothing was done yet has no event
pub no_event : {D : Type 0} (moment : D → Moment) (parts : StoreParts D) → parts.ledger.entries ≡ [] → parts.ledger.notes ≡ [] → events (standing moment parts) ≡ []
no_event moment parts entries notes =
    let s = standing moment parts in
    let ledger = parts.ledger in
    ap (λ (es : List Entry). events (record s { ledger = record ledger { entries = es } })) entries
    ∙ ap (λ (ns : List Note). events (record s { ledger = record ledger { entries = []; notes = ns } })) notes

module _ {D : Type 0} (shared : Shared D) where
  new_turn_seat : (seats : List (LockSeat (StoreParts D) Event)) (n : ℕ) (seat : LockSeat (StoreParts D) Event) → AreNewTurnSeats shared.lock seats → slice_get seats n ≡ Some seat →
      IsNewTurnSeat shared.lock n seat
  new_turn_seat seats n seat are e = subst (IsNewTurnSeat shared.lock n) (get_or_from_slice_get seats n seat seat e) (are n seat (slice_get_within seats n seat e))

  wrapped : (n : ℕ) (seat : LockSeat (StoreParts D) Event) → IsNewTurnSeat shared.lock n seat → IsNewSeat shared n (record { turn_seat = seat; entries = 0; last = 0; reads = 0 })
  wrapped n seat is = record {
    of_store = record {
      here = is.0;
      counts = ap (λ (events : List Event). length (entries_in events)) (sym is.3);
      sealed = ap (list_all is_sealed) is.3;
    };
    idle = is.1;
    session_is = is.2;
    seen_none = is.3;
    last_none = refl;
    read_none = refl;
  }

  -- the next seat is that of the next session
  pub seated_more : (seats : List (LockSeat (StoreParts D) Event)) (made items : List (Seat D)) (n : ℕ) (seat : LockSeat (StoreParts D) Event) →
      AreNewTurnSeats shared.lock seats → slice_get seats n ≡ Some seat → length made ≡ n → AreNewSeats shared made →
      items ≡ made ++ record { turn_seat = seat; entries = 0; last = 0; reads = 0 } ∷ [] → AreNewSeats shared items
  seated_more seats made items n seat are at count new e =
      subst (AreNewSeats shared) (sym e)
      (places_more (IsNewSeat shared) made (record { turn_seat = seat; entries = 0; last = 0; reads = 0 }) new
      (subst (λ (k : ℕ). IsNewSeat shared k (record { turn_seat = seat; entries = 0; last = 0; reads = 0 })) (sym count) (wrapped n seat (new_turn_seat seats n seat are at))))

  -- idle seats of a shared store are idle seats of its lock
  pub idle_at : (seats : List (Seat D)) → AreIdleSeats shared seats → All (IsIdleAt shared.lock) seats
  idle_at seats all k other near = let seat = all k other near in (seat.0.here, seat.1)

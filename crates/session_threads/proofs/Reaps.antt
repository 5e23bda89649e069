-- What a reaper adds is nobody's.
use Rattle.std.proofs.Common.{◌≡◌, ℕ, List, [], ◌++◌, Bool, true, false, Result, Ok, Err, refl, subst, sym}
use Rattle.std.specs.Prelude.{IfOk, OnErr}
use Rattle.turn_lock.specs.Owners.{none_of}
use Rattle.turn_lock.proofs.Lists.{none_append}
use Rattle.store_state.specs.declared.state.event.Event.{Event}
use Rattle.store_state.specs.Events.{owner_of}
use Rattle.snapshot_manager.specs.Seats.{seen, session_of, IsIdle, IsSameSeat, IsSeatOf}
use Rattle.snapshot_manager.specs.Turns.{reap_events, Adds}
use Rattle.snapshot_manager.specs.declared.seat.Seat.{Seat}
use Rattle.snapshot_manager.specs.declared.shared.Shared.{Shared}
use Rattle.session_threads.specs.Inner.Desks.{IsReaper}

reap_is_free : (session : ℕ) (comes : Bool) → none_of owner_of session (reap_events comes) ≡ true
reap_is_free session true = refl
reap_is_free session false = refl

-- a turn that adds nothing of a session leaves nothing of it
none_added : (session : ℕ) (own old new : List Event) → Adds session own old new → none_of owner_of session own ≡ true → none_of owner_of session old ≡ true →
    none_of owner_of session new ≡ true
none_added session own old new adds free none =
    subst (λ events. none_of owner_of session events ≡ true) (sym adds.grown)
    (none_append owner_of session (old ++ adds.others) own (none_append owner_of session old adds.others none adds.theirs) free)

none_reaped : {F : Type 0} (result : Result Bool F) (session : ℕ) (old new : List Event) → IfOk result (λ comes. Adds session (reap_events comes) old new) →
    OnErr result (Adds session [] old new) → none_of owner_of session old ≡ true → none_of owner_of session new ≡ true
none_reaped (Ok comes) session old new ok err none = none_added session (reap_events comes) old new ok (reap_is_free session comes) none
none_reaped (Err fault) session old new ok err none = none_added session [] old new err refl none

module _ {D F : Type 0} (shared : Shared D) where
  -- a reaper's seat is one still after a reap
  pub reaper_kept : (old new : Seat D) (result : Result Bool F) → IsReaper shared (session_of old) old → IsSeatOf shared new × IsIdle new → IsSameSeat old new →
      IfOk result (λ comes. Adds (session_of old) (reap_events comes) (seen old) (seen new)) → OnErr result (Adds (session_of old) [] (seen old) (seen new)) →
      IsReaper shared (session_of old) new
  reaper_kept old new result was seat same ok err = record {
    of_store = seat.0;
    idle = seat.1;
    session_is = same.session;
    none_own = none_reaped result (session_of old) (seen old) (seen new) ok err was.none_own;
  }

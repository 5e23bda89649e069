-- Desks that are set up one by one, and emptied one by one.
use Rattle.std.proofs.Common.{◌≡◌, ◌∙◌, ℕ, ◌+◌, ◌<◌, true, List, [], ◌∷◌, ◌++◌, length, drop, get_or, slice_get, Option, Some, refl, ap, sym, subst, arith, length-drop, All}
use Rattle.std.proofs.lemmas.List.Elements.{All-push}
use Rattle.std.proofs.lemmas.Option.{slice_get_within, get_or_from_slice_get}
use Rattle.afl_lexer.specs.Inner.Standing.{StandsAfter}
use Rattle.afl_outside.specs.Disk.{Moment}
use Rattle.afl_outside.specs.Sink.{SinkState}
use Rattle.afl_outside.specs.Source.{SourceState}
use Rattle.turn_lock.specs.Owners.{none_of, AreOwnedBelow, ExtendsByOthers}
use Rattle.turn_lock.proofs.Gathering.{all_last, all_left, places_more}
use Rattle.turn_lock.proofs.Lists.{below_one_less, none_append}
use Rattle.store_state.specs.declared.state.event.Event.{Event}
use Rattle.store_state.specs.Events.{owner_of}
use Rattle.snapshot_manager.specs.Seats.{seen, session_of, start, AreIdleSeats, AreNewSeats, ExtendEach, IsIdle, IsNewSeat, IsSeatOf}
use Rattle.snapshot_manager.specs.declared.seat.Seat.{Seat}
use Rattle.snapshot_manager.specs.declared.shared.Shared.{Shared}
use Rattle.run_opening.specs.declared.reports.reports.SessionReport.{SessionReport}
use Rattle.run_opening.specs.declared.reports.reports.Streams.{Streams}
use Rattle.afl_session.specs.Style.{Style}
use Rattle.session_threads.specs.Sessions.{AreOfSessions, AreSessionsOf, IsSessionOf}
use Rattle.session_threads.specs.Inner.Desks.{AllWorked, AreDone, AreEmptied, AreReady, AreSeated, HasEnded, HasServed, HasWorked, IsDone, IsReady, IsReaper, IsSeated, IsWaiting, SessionDesk}
use Rattle.session_threads.specs.declared.desk.Desk.{Desk}
use Rattle.session_threads.specs.declared.desk.Desk.TheVariants.{Waiting, Working, Done}

-- what is left behind a place of a list has a first item
pub is_left : {A : Type 0} (all rest : List A) (n : ℕ) → rest ≡ drop n all → n < length all → 0 < length rest
is_left all rest n e near = let k : length rest ≡ length (drop n all) = ap length e in omega (arith, k, length-drop n all, near)

module _ {D : Type 0} (shared : Shared D) where
  pub new_at : (seats : List (Seat D)) (n : ℕ) (seat : Seat D) → AreNewSeats shared seats → slice_get seats n ≡ Some seat → IsNewSeat shared n seat
  new_at seats n seat are e = subst (IsNewSeat shared n) (get_or_from_slice_get seats n seat seat e) (are n seat (slice_get_within seats n seat e))

  -- the seat of a session that has seen nothing has done nothing but reap
  pub reaper_new : (session : ℕ) (seat : Seat D) → IsNewSeat shared session seat → IsReaper shared (session_of seat) seat
  reaper_new session seat new = record {
    of_store = new.of_store;
    idle = new.idle;
    session_is = refl;
    none_own = subst (λ events. none_of owner_of (session_of seat) events ≡ true) (sym new.seen_none) refl;
  }

module _ {A B C : Type 0} where
  -- one desk more is set up
  pub seated_more : (seats : List A) (all : List B) (desks desks' : List (Desk A B C)) (n : ℕ) (seat : A) (own : B) →
      slice_get seats n ≡ Some seat → slice_get all n ≡ Some own → length desks ≡ n → AreSeated seats all desks → desks' ≡ desks ++ Waiting seat own ∷ [] →
      AreSeated seats all desks'
  seated_more seats all desks desks' n seat own at has len are grown =
      let P : ℕ → Desk A B C → Type 0 = λ j desk. IsSeated (slice_get seats j) (slice_get all j) desk in
      let here : P n (Waiting seat own) = (at, has) in
      subst (AreSeated seats all) (sym grown) (places_more P desks (Waiting seat own) are (subst (λ j. P j (Waiting seat own)) (sym len) here))

  -- one desk more is emptied
  pub emptied_more : (desks : List (Desk A B C)) (n : ℕ) (seat : A) (report : C) (seats seats' : List A) (reports reports' : List C) →
      slice_get desks n ≡ Some (Done seat report) → length seats ≡ n → length reports ≡ n →
      seats' ≡ seats ++ seat ∷ [] → reports' ≡ reports ++ report ∷ [] → AreEmptied desks seats reports → AreEmptied desks seats' reports'
  emptied_more desks n seat report seats seats' reports reports' at seat_count report_count seats_grown reports_grown are =
      let P : ℕ → A → Type 0 = λ j s. (r : C) × (slice_get desks j ≡ Some (Done s r)) in
      let Q : ℕ → C → Type 0 = λ j r. (s : A) × (slice_get desks j ≡ Some (Done s r)) in
      let p : P n seat = (report, at) in
      let q : Q n report = (seat, at) in
      let ps : (k : ℕ) (s : A) → k < length (seats ++ seat ∷ []) → P k (get_or (seats ++ seat ∷ []) k s) =
      places_more P seats seat are.of_seats (subst (λ j. P j seat) (sym seat_count) p) in
      let qs : (k : ℕ) (r : C) → k < length (reports ++ report ∷ []) → Q k (get_or (reports ++ report ∷ []) k r) =
      places_more Q reports report are.of_reports (subst (λ j. Q j report) (sym report_count) q) in record {
        of_seats = subst (λ l. (k : ℕ) (s : A) → k < length l → P k (get_or l k s)) (sym seats_grown) ps;
        of_reports = subst (λ l. (k : ℕ) (r : C) → k < length l → Q k (get_or l k r)) (sym reports_grown) qs;
      }

  pub emptied_none : (desks : List (Desk A B C)) → AreEmptied desks [] []
  emptied_none desks = record { of_seats = λ k s near. absurd (omega arith); of_reports = λ k r near. absurd (omega arith) }

  pub ended_at : (desks : List (Desk A B C)) (n : ℕ) (desk : Desk A B C) → All (λ d. HasEnded d) desks → slice_get desks n ≡ Some desk → HasEnded desk
  ended_at desks n desk ended e = subst (λ d. HasEnded d) (get_or_from_slice_get desks n desk desk e) (ended n desk (slice_get_within desks n desk e))

  -- what was taken is the desk of that place
  pub desk_at : (desks : List (Desk A B C)) (n : ℕ) (desk other : Desk A B C) → slice_get desks n ≡ Some desk → desk ≡ other → slice_get desks n ≡ Some other
  desk_at desks n desk other e is = e ∙ ap (λ d. Some d) is

module _ {D S K : Type 0} (shared : Shared D) where
  ready_one : (seats : List (Seat D)) (all : List (Streams S K)) (k : ℕ) (desk : SessionDesk D S K) → AreNewSeats shared seats →
      IsSeated (slice_get seats k) (slice_get all k) desk → IsReady shared k (slice_get all k) desk
  ready_one seats all k (Waiting seat own) new seated = (seated.1, new_at shared seats k seat new seated.0)
  ready_one seats all k Working new seated = absurd seated
  ready_one seats all k (Done seat report) new seated = absurd seated

  pub all_ready : (seats : List (Seat D)) (all : List (Streams S K)) (desks : List (SessionDesk D S K)) → AreNewSeats shared seats → AreSeated seats all desks →
      AreReady shared all desks
  all_ready seats all desks new are k desk near = ready_one seats all k (get_or desks k desk) new (are k desk near)

  waiting_one : (all : List (Streams S K)) (k : ℕ) (desk : SessionDesk D S K) → All (λ own. StandsAfter [] own.splitter) all → IsReady shared k (slice_get all k) desk →
      IsWaiting shared desk
  waiting_one all k (Waiting seat own) begun ready = (
    subst (λ j. IsNewSeat shared j seat) (sym ready.1.session_is) ready.1,
    subst (λ (o : Streams S K). StandsAfter [] o.splitter) (get_or_from_slice_get all k own own ready.0) (begun k own (slice_get_within all k own ready.0)),
  )
  waiting_one all k Working begun ready = absurd ready
  waiting_one all k (Done seat report) begun ready = absurd ready

  pub all_waiting : (all : List (Streams S K)) (desks : List (SessionDesk D S K)) → All (λ own. StandsAfter [] own.splitter) all → AreReady shared all desks →
      All (λ desk. IsWaiting shared desk) desks
  all_waiting all desks begun are k desk near = waiting_one all k (get_or desks k desk) begun (are k desk near)

module _ {D S K : Type 0} (style : Style) (moment : D → Moment) (source_of : S → SourceState) (sink_of : K → SinkState) (shared : Shared D) where
  done_one : (k : ℕ) (given : Option (Streams S K)) (old new : SessionDesk D S K) → IsReady shared k given old → HasWorked style moment source_of sink_of shared old new →
      IsDone style moment source_of sink_of shared k given new
  done_one k given (Waiting seat own) (Done after report) ready worked =
      (own, ready.0, subst (λ j. HasServed style moment source_of sink_of shared j own after report) ready.1.session_is worked)
  done_one k given (Waiting seat own) (Waiting after other) ready worked = absurd worked
  done_one k given (Waiting seat own) Working ready worked = absurd worked
  done_one k given Working new ready worked = absurd ready
  done_one k given (Done seat report) new ready worked = absurd ready

  pub all_done : (all : List (Streams S K)) (old new : List (SessionDesk D S K)) → AreReady shared all old → AllWorked style moment source_of sink_of shared old new →
      AreDone style moment source_of sink_of shared all new
  all_done all old new are worked k desk near =
      let low : k < length old = subst (λ n. k < n) worked.count near in
      done_one k (slice_get all k) (get_or old k desk) (get_or new k desk) (are k desk low) (worked.each k desk low)

  -- the sessions of new seats have worked, each at its desk
  pub done_by : (seats : List (Seat D)) (all : List (Streams S K)) (old new : List (SessionDesk D S K)) → AreNewSeats shared seats → AreSeated seats all old →
      AllWorked style moment source_of sink_of shared old new → AreDone style moment source_of sink_of shared all new
  done_by seats all old new fresh seated worked = all_done all old new (all_ready shared seats all old fresh seated) worked

  pub done_at : (all : List (Streams S K)) (desks : List (SessionDesk D S K)) (n : ℕ) (desk : SessionDesk D S K) → AreDone style moment source_of sink_of shared all desks →
      slice_get desks n ≡ Some desk → IsDone style moment source_of sink_of shared n (slice_get all n) desk
  done_at all desks n desk are e =
      subst (IsDone style moment source_of sink_of shared n (slice_get all n)) (get_or_from_slice_get desks n desk desk e) (are n desk (slice_get_within desks n desk e))

  ended_one : (k : ℕ) (given : Option (Streams S K)) (desk : SessionDesk D S K) → IsDone style moment source_of sink_of shared k given desk → HasEnded desk
  ended_one k given (Waiting seat own) done = done
  ended_one k given Working done = done
  ended_one k given (Done seat report) done = tt

  pub all_ended : (all : List (Streams S K)) (desks : List (SessionDesk D S K)) → AreDone style moment source_of sink_of shared all desks → All (λ desk. HasEnded desk) desks
  all_ended all desks are k desk near = ended_one k (slice_get all k) (get_or desks k desk) (are k desk near)

  session_one : (k : ℕ) (own : Streams S K) (seat : Seat D) (report : SessionReport S K) (events : List Event) →
      HasServed style moment source_of sink_of shared k own seat report → ExtendsByOthers owner_of (session_of seat) (seen seat) events →
      IsSessionOf style moment source_of sink_of (start moment shared) k own report events
  session_one k own seat report events served extend = record {
    seen = seen seat;
    sealed = served.of_store.sealed;
    later = subst (λ j. ExtendsByOthers owner_of j (seen seat) events) served.session_is extend;
    serves = served.serves;
  }

  -- the seats of desks that are done
  pub seats_idle : (all : List (Streams S K)) (desks : List (SessionDesk D S K)) (seats : List (Seat D)) (reports : List (SessionReport S K)) →
      AreDone style moment source_of sink_of shared all desks → AreEmptied desks seats reports → AreIdleSeats shared seats
  seats_idle all desks seats reports are emptied k seat near =
      let at = emptied.of_seats k seat near in
      let done : IsDone style moment source_of sink_of shared k (slice_get all k) (Done (get_or seats k seat) at.0) =
      done_at all desks k (Done (get_or seats k seat) at.0) are at.1 in (done.2.of_store, done.2.idle)

  same_seat : (place : Option (SessionDesk D S K)) (seat seat' : Seat D) (report report' : SessionReport S K) → place ≡ Some (Done seat report) →
      place ≡ Some (Done seat' report') → seat' ≡ seat
  same_seat place seat seat' report report' a b = cc

  -- and what their sessions did
  pub all_served : (all : List (Streams S K)) (desks : List (SessionDesk D S K)) (seats : List (Seat D)) (reports : List (SessionReport S K)) (events : List Event) →
      AreDone style moment source_of sink_of shared all desks → AreEmptied desks seats reports → length seats ≡ length all → length reports ≡ length all →
      ExtendEach seats events → AreSessionsOf style moment source_of sink_of (start moment shared) all reports events
  all_served all desks seats reports events are emptied seat_count report_count extend k own report near =
      let low : k < length reports = omega arith in
      let seated : k < length seats = omega arith in
      let at = emptied.of_reports k report low in
      let there = emptied.of_seats k at.0 seated in
      let same : get_or seats k at.0 ≡ at.0 = same_seat (slice_get desks k) at.0 (get_or seats k at.0) (get_or reports k report) there.0 at.1 there.1 in
      let later : ExtendsByOthers owner_of (session_of at.0) (seen at.0) events =
      subst (λ s. ExtendsByOthers owner_of (session_of s) (seen s) events) same (extend k at.0 seated) in
      let done : IsDone style moment source_of sink_of shared k (slice_get all k) (Done at.0 (get_or reports k report)) =
      done_at all desks k (Done at.0 (get_or reports k report)) are at.1 in
      subst (λ o. IsSessionOf style moment source_of sink_of (start moment shared) k o (get_or reports k report) events)
      (sym (get_or_from_slice_get all k done.0 own done.1)) (session_one k done.0 at.0 (get_or reports k report) events done.2 later)

module _ {D : Type 0} (shared : Shared D) where
  -- the reaper's seat is back, behind all others
  pub all_idle : (seats seats' list : List (Seat D)) (own : Seat D) (n : ℕ) → AreIdleSeats shared seats → IsReaper shared n own → seats' ≡ seats ++ own ∷ [] →
      list ≡ seats' → AreIdleSeats shared list
  all_idle seats seats' list own n idle reaper grown same =
      subst (AreIdleSeats shared) (sym (same ∙ grown)) (All-push (λ s. IsSeatOf shared s × IsIdle s) seats own idle (reaper.of_store, reaper.idle))

pub all_extend : {D : Type 0} (seats seats' list : List (Seat D)) (own : Seat D) (events : List Event) → seats' ≡ seats ++ own ∷ [] → list ≡ seats' →
    ExtendEach list events → ExtendEach seats events
all_extend seats seats' list own events grown same extend =
    all_left (λ s. ExtendsByOthers owner_of (session_of s) (seen s) events) seats own (subst (λ l. ExtendEach l events) (same ∙ grown) extend)

module _ {D : Type 0} (shared : Shared D) where
  -- none is the reaper's, whose number is the last
  pub of_sessions : (seats seats' list : List (Seat D)) (own : Seat D) (n count : ℕ) (events : List Event) → IsReaper shared n own → count ≡ n + 1 →
      seats' ≡ seats ++ own ∷ [] → list ≡ seats' → AreOwnedBelow owner_of count events → ExtendEach list events → AreOfSessions n events
  of_sessions seats seats' list own n count events reaper last grown same owned extend =
      let here : ExtendsByOthers owner_of (session_of own) (seen own) events =
      all_last (λ s. ExtendsByOthers owner_of (session_of s) (seen s) events) seats own (subst (λ l. ExtendEach l events) (same ∙ grown) extend) in
      let later : ExtendsByOthers owner_of n (seen own) events = subst (λ k. ExtendsByOthers owner_of k (seen own) events) reaper.session_is here in
      let none : none_of owner_of n events ≡ true = subst (λ es. none_of owner_of n es ≡ true) (sym later.1)
      (none_append owner_of n (seen own) later.0 reaper.none_own later.2) in
      below_one_less owner_of n events (subst (λ k. AreOwnedBelow owner_of k events) last owned) none

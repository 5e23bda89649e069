-- One call in a turn: the store that is in hand, and what its seat has seen before and after.
use Rattle.std.proofs.Common.{◌≡◌, ◌∙◌, ℕ, ◌⊎◌, Bool, true, false, not, ◌&&◌, List, [], ◌∷◌, ◌++◌, length, reverse, Result, Ok, Err, IfOk, IfErr, OnOk, OnErr, IsTrue, refl, ap, sym, subst, append-nil}
use Rattle.std.specs.List.{list_all}
use Rattle.std.proofs.lemmas.Bool.{eq-eqb}
use Rattle.arrayvec.specs.ArrayVec.{ArrayVec}
use Rattle.cell_values.specs.declared.schema.Schema.{Schema}
use Rattle.afl_outside.specs.Disk.{Moment}
use Rattle.logical_plan.specs.declared.parts.Leaf.{Leaf}
use Rattle.plan_changes.specs.Databases.{Database}
use Rattle.turn_lock.specs.Owners.{none_of, only_of, ExtendsByOwn}
use Rattle.event_core.specs.declared.entry.Entry.TheVariants.{Pin, Unpin}
use Rattle.event_core.specs.Allowed.{is_pinned}
use Rattle.event_core.specs.Cells.{at}
use Rattle.event_core.specs.History.{names_at}
use Rattle.store_ledger.specs.declared.note.NoteKind.{NoteKind}
use Rattle.store_ledger.specs.declared.pinned.Pinned.{Pinned}
use Rattle.store_ledger.specs.declared.pinned.PinFault.{PinFault}
use Rattle.store_ledger.specs.Ledger.{IsLedger, IsOpenPin, IsRefused, LedgerState, has_room, history, is_fault, is_noted, reap_comes}
use Rattle.store_ledger.proofs.Keeping.{pinned_of}
use Rattle.prepared_commits.specs.Event.{Event}
use Rattle.prepared_commits.specs.Event.TheVariants.{Entered}
use Rattle.prepared_commits.specs.ReadFault.{ReadFault}
use Rattle.prepared_commits.specs.StoreParts.{StoreParts}
use Rattle.prepared_commits.specs.At.{standing}
use Rattle.prepared_commits.specs.Calls.{IsUnread, NotesFault, chunks_at, history_at, payload_at}
use Rattle.prepared_commits.specs.Events.{events, owner_of}
use Rattle.prepared_commits.specs.Standings.{BeganAs, Standing}
use Rattle.array_store.specs.declared.store.start.Start.{Start}
use Rattle.array_store.specs.Growth.{AddsEvents, AddsFault, IsCounted, fault_events}
use Rattle.array_store.specs.Starts.{start_of}
use Rattle.array_store.proofs.Added.{if_ok, on_ok}
use Rattle.array_store.proofs.Ended.{fault_seen}
use Rattle.array_store.specs.Faults.{IsUnreadUnder}
use Rattle.array_store.specs.ToldLaws.{IsToldWhole}
use Rattle.array_store.specs.Told.{IsTold, entries_in, is_sealed, ledger_of, told}
use Rattle.array_store.specs.Turns.{Adds, AddsAtMostNote, found_before, pin_event, reap_events, leaves_pin_of}
use Rattle.array_store.proofs.PinReads.{AddsSome, adds_some, began_now, chunks_now, open_now, over_pin, payload_now, some_leaves, some_only, told_causes}
use Rattle.array_store.proofs.Sights.{none_later, none_unpinned, open_later, same_pinned}
use Rattle.array_store.proofs.Telling.{entries_are, stores_are_told}
use Rattle.array_store.proofs.Turning.{adds_own, before_own, done_adds, done_events, done_only, extends_own, if_both, if_left, if_on, on_both, on_err}

-- ---- a turn that begins or ends

-- what the seat has seen tells the store in hand
pub record Tells {D : Type 0} (moment : D → Moment) (parts : StoreParts D) (seen : List Event) : Type 0 where
  pub entries : parts.ledger.entries ≡ entries_in seen
  pub sealed : list_all is_sealed seen ≡ true
  pub told : IsTold (start_of (standing moment parts)) seen (standing moment parts)

pub tells : {D : Type 0} (moment : D → Moment) (parts : StoreParts D) (seen : List Event) → seen ≡ events (standing moment parts) → IsLedger parts.ledger → IsCounted (standing moment parts) →
    Tells moment parts seen
tells {D} moment parts seen e is counted =
    let s : Standing D = standing moment parts in
    let whole : IsToldWhole s = stores_are_told D s is counted in
    record {
      entries = sym (entries_are s) ∙ ap entries_in (sym e);
      sealed = ap (list_all is_sealed) e ∙ whole.sealed;
      told = subst (λ (es : List Event). IsTold (start_of s) es s) (sym e) whole.told;
    }

-- ---- a turn that found `parts`, where `value` is what the lock gave

module _ {D : Type 0} (moment : D → Moment) (start : Start D) (session : ℕ) (old seen : List Event) (parts value : StoreParts D)
    (found : Adds session [] old seen) (same : parts ≡ value) (is : IsTold start seen (standing moment value)) where
  pub seen_is : seen ≡ old ++ found.others
  seen_is = found.grown ∙ append-nil (old ++ found.others)

  pub is_now : IsTold start seen (standing moment parts)
  is_now = subst (λ (p : StoreParts D). IsTold start seen (standing moment p)) (sym same) is

  is_behind : IsTold start (old ++ found.others) (standing moment parts)
  is_behind = subst (λ (es : List Event). IsTold start es (standing moment parts)) seen_is is_now

  pub ledger_is : parts.ledger ≡ ledger_of start seen
  ledger_is = ap (λ (s : Standing D). s.ledger) is_now

  -- the session still has no pin
  pub unpinned_now : (n : ℕ) → n ≡ session → IsTrue (not (is_pinned session (history (ledger_of start old)))) → IsTrue (not (is_pinned n (history parts.ledger)))
  unpinned_now n e free =
      ap (λ (k : ℕ). not (is_pinned k (history parts.ledger))) e
      ∙ ap (λ (l : LedgerState). not (is_pinned session (history l))) ledger_is
      ∙ ap (λ (es : List Event). not (is_pinned session (reverse (entries_in es)))) seen_is
      ∙ ap not (same_pinned session old found.others found.theirs)
      ∙ free

  module _ (events_are : events (standing moment value) ≡ seen) (next : StoreParts D) where
    events_now : events (standing moment parts) ≡ seen
    events_now = ap (λ (p : StoreParts D). events (standing moment p)) same ∙ events_are

    pub extends_now : (own : List Event) (n : ℕ) → n ≡ session → only_of owner_of session own ≡ true → AddsEvents own (standing moment parts) (standing moment next) →
        ExtendsByOwn owner_of n seen (events (standing moment next))
    extends_now own n e only adds =
        subst (λ (k : ℕ). ExtendsByOwn owner_of k seen (events (standing moment next))) (sym e)
        (extends_own adds session seen events_now only)

    -- what was found is told by what is seen afterwards
    pub found_now : (own : List Event) (new : List Event) → new ≡ events (standing moment next) → AddsEvents own (standing moment parts) (standing moment next) → found_before own new ≡ seen
    found_now own new e adds = before_own own seen new (e ∙ adds.grown ∙ ap (λ (es : List Event). es ++ own) events_now)

    pub adds_now : (own : List Event) (new : List Event) → new ≡ events (standing moment next) → AddsEvents own (standing moment parts) (standing moment next) → Adds session own old new
    adds_now own new e adds = adds_own adds session old seen new found events_now e

    pub adds_none : (new : List Event) → new ≡ events (standing moment parts) → Adds session [] old new
    adds_none new e = subst (λ (es : List Event). Adds session [] old es) (sym (e ∙ events_now)) found

    -- a pin
    module _ (n : ℕ) (mine : n ≡ session) (result : Result Pinned PinFault) (new : List Event) (seen_new : new ≡ events (standing moment next))
        (adds : OnOk result (AddsEvents (Entered (Pin n) ∷ []) (standing moment parts) (standing moment next))) where
      found_pin : AddsEvents (Entered (Pin n) ∷ []) (standing moment parts) (standing moment next) → found_before (pin_event session ∷ []) new ≡ seen
      found_pin a = ap (λ (k : ℕ). found_before (pin_event k ∷ []) new) (sym mine) ∙ found_now (Entered (Pin n) ∷ []) new seen_new a

      pub pin_ok : OnOk result (Adds session (pin_event session ∷ []) old new)
      pin_ok =
          on_ok (AddsEvents (Entered (Pin n) ∷ []) (standing moment parts) (standing moment next)) (Adds session (pin_event session ∷ []) old new) result
          (λ a. subst (λ (k : ℕ). Adds session (pin_event k ∷ []) old new) mine (adds_now (Entered (Pin n) ∷ []) new seen_new a)) adds

      pub pin_err : OnErr result (standing moment next ≡ standing moment parts) → OnErr result (Adds session [] old new)
      pin_err err =
          on_err (standing moment next ≡ standing moment parts) (Adds session [] old new) result
          (λ left. adds_none new (seen_new ∙ ap events left)) err

      abbrev IsPinnedAt : Pinned → Type 0
      IsPinnedAt pinned =
          pinned ≡ record {
            session = session;
            place = length (entries_in (found_before (pin_event session ∷ []) new));
            names = names_at start.base (reverse (entries_in (found_before (pin_event session ∷ []) new)));
          }

      pub pin_is : IfOk result (λ pinned. pinned ≡ record { session = n; place = length parts.ledger.entries; names = names_at parts.ledger.base (history parts.ledger) }) → IfOk result IsPinnedAt
      pin_is told_by =
          if_on result _ _ IsPinnedAt
          (λ pinned p a.
          p
          ∙ ap (λ (k : ℕ). record { session = k; place = length parts.ledger.entries; names = names_at parts.ledger.base (history parts.ledger) }) mine
          ∙ ap (λ (l : LedgerState). record { session = session; place = length l.entries; names = names_at l.base (history l) }) ledger_is
          ∙ ap (λ (es : List Event). record { session = session; place = length (entries_in es); names = names_at start.base (reverse (entries_in es)) }) (sym (found_pin a)))
          told_by adds

      pub pin_room : OnOk result (IsTrue (has_room parts.ledger 4)) → OnOk result (IsTrue (has_room (ledger_of start (found_before (pin_event session ∷ []) new)) 4))
      pin_room room =
          on_both result _ _ _
          (λ r a. ap (λ (es : List Event). has_room (ledger_of start es) 4) (found_pin a) ∙ ap (λ (l : LedgerState). has_room l 4) (sym ledger_is) ∙ r)
          room adds

      -- where it was refused there is none still
      pub pin_none : (m : ℕ) → m ≡ session → OnErr result (standing moment next ≡ standing moment parts) → IsTrue (not (is_pinned session (history (ledger_of start old)))) →
          OnErr result (IsTrue (not (is_pinned m (reverse (entries_in new)))))
      pin_none m e err free =
          on_err (standing moment next ≡ standing moment parts) (IsTrue (not (is_pinned m (reverse (entries_in new))))) result
          (λ left.
          ap (λ (k : ℕ). not (is_pinned k (reverse (entries_in new)))) e
          ∙ none_later session old found.others new found.theirs (seen_new ∙ ap events left ∙ events_now ∙ seen_is) free)
          err

    pub unpin_none : (n m : ℕ) → n ≡ m → (new : List Event) → new ≡ events (standing moment next) → AddsEvents (Entered (Unpin m) ∷ []) (standing moment parts) (standing moment next) →
        IsTrue (not (is_pinned n (reverse (entries_in new))))
    unpin_none n m e new seen_new adds =
        ap (λ (k : ℕ). not (is_pinned k (reverse (entries_in new)))) e
        ∙ none_unpinned m seen new (seen_new ∙ adds.grown ∙ ap (λ (es : List Event). es ++ Entered (Unpin m) ∷ []) events_now)

    pub unpin_adds : (n : ℕ) → n ≡ session → (new : List Event) → new ≡ events (standing moment next) → AddsEvents (Entered (Unpin n) ∷ []) (standing moment parts) (standing moment next) →
        Adds session (Entered (Unpin session) ∷ []) old new
    unpin_adds n e new seen_new adds =
        subst (λ (k : ℕ). Adds session (Entered (Unpin k) ∷ []) old new) e (adds_now (Entered (Unpin n) ∷ []) new seen_new adds)

    -- a reap
    pub reap_is : {F : Type 0} (result : Result Bool F) (new : List Event) → new ≡ events (standing moment next) → IfOk result (λ comes. comes ≡ reap_comes parts.ledger) →
        IfOk result (λ comes. AddsEvents (reap_events comes) (standing moment parts) (standing moment next)) →
        IfOk result (λ comes. comes ≡ reap_comes (ledger_of start (found_before (reap_events comes) new)))
    reap_is result new e comes adds =
        if_both result _ _ (λ came. came ≡ reap_comes (ledger_of start (found_before (reap_events came) new)))
        (λ came p a. p ∙ ap reap_comes ledger_is ∙ ap (λ (es : List Event). reap_comes (ledger_of start es)) (sym (found_now (reap_events came) new e a)))
        comes adds

  -- what an open pin sees
  module _ (pinned : Pinned) (mine : pinned.session ≡ session) (o : IsOpenPin (ledger_of start old) pinned) where
    pub theirs_now : none_of owner_of pinned.session found.others ≡ true
    theirs_now = subst (λ (k : ℕ). none_of owner_of k found.others ≡ true) (sym mine) found.theirs

    pub open_pin_now : IsOpenPin parts.ledger pinned
    open_pin_now = open_now moment start old found.others (standing moment parts) pinned is_behind theirs_now o

    pub pinned_now : is_pinned pinned.session (history parts.ledger) ≡ true
    pinned_now =
        let here : IsOpenPin parts.ledger pinned = open_pin_now in
        pinned_of pinned.session (history parts.ledger) here.before here.begun

    pub began_in_turn : (db : Database) → BeganAs (moment start.opened.disk).state db → BeganAs (moment parts.opened.value.disk).state db
    began_in_turn = began_now moment start old found.others (standing moment parts) pinned is_behind theirs_now o

    -- it is still open, where its session added neither a pin nor an unpin
    pub open_after : (own new : List Event) → list_all (leaves_pin_of pinned.session) own ≡ true → new ≡ seen ++ own → IsOpenPin (ledger_of start new) pinned
    open_after own new leave e = open_later start old found.others own new pinned theirs_now leave (e ∙ ap (λ (es : List Event). es ++ own) seen_is) o

    pub open_left : events (standing moment value) ≡ seen → (new : List Event) → new ≡ events (standing moment parts) → IsOpenPin (ledger_of start new) pinned
    open_left events_are new e = open_after [] new refl (e ∙ events_now events_are parts ∙ sym (append-nil seen))

    module _ (sealed : list_all is_sealed old ≡ true) where
      pub chunks_in_turn : (leaf : Leaf) → chunks_at (standing moment parts) pinned.place leaf ≡ chunks_at (told start old) pinned.place leaf
      chunks_in_turn = chunks_now moment start old found.others (standing moment parts) pinned is_behind theirs_now o sealed

      pub payload_in_turn : (leaf : Leaf) (k : ArrayVec ℕ) → payload_at (standing moment parts) pinned.place leaf k ≡ payload_at (told start old) pinned.place leaf k
      payload_in_turn = payload_now moment start old found.others (standing moment parts) pinned is_behind theirs_now o sealed

      over_in_turn : (P : Database → Type 0) → ((db : Database) → BeganAs (moment parts.opened.value.disk).state db → P (at db (history_at (standing moment parts) pinned.place))) →
          (db : Database) → BeganAs (moment start.opened.disk).state db → P (at db (history_at (told start old) pinned.place))
      over_in_turn = over_pin moment start old found.others (standing moment parts) pinned is_behind theirs_now o sealed

      pub listed_ok : {F : Type 0} (leaf : Leaf) (result : Result (List (ArrayVec ℕ)) F) → IfOk result (λ chunks. chunks ≡ chunks_at (standing moment parts) pinned.place leaf) →
          IfOk result (λ chunks. chunks ≡ chunks_at (told start old) pinned.place leaf)
      listed_ok leaf (Ok chunks) e = e ∙ chunks_in_turn leaf
      listed_ok leaf (Err fault) e = e

      pub over_ok : {A F : Type 0} (P : A → Database → Type 0) (result : Result A F) →
          IfOk result (λ value. (db : Database) → BeganAs (moment parts.opened.value.disk).state db → P value (at db (history_at (standing moment parts) pinned.place))) →
          IfOk result (λ value. (db : Database) → BeganAs (moment start.opened.disk).state db → P value (at db (history_at (told start old) pinned.place)))
      over_ok P (Ok value) holds = over_in_turn (P value) holds
      over_ok P (Err fault) holds = holds

    -- a read
    module _ (events_are : events (standing moment value) ≡ seen) (next : StoreParts D) (fault : AddsFault moment pinned.session (standing moment parts) (standing moment next)) where
      some : AddsSome moment pinned.session (standing moment parts) (standing moment next)
      some = adds_some moment pinned.session (standing moment parts) (standing moment next) fault

      pub read_extends : (n : ℕ) → n ≡ session → ExtendsByOwn owner_of n seen (events (standing moment next))
      read_extends n e =
          extends_now events_are next some.own n e
          (subst (λ (k : ℕ). only_of owner_of k some.own ≡ true) mine (some_only moment pinned.session (standing moment parts) (standing moment next) some)) some.adds

      faults_are : (n : ℕ) (es : List Event) → es ≡ seen → fault_events parts.ledger pinned.session ≡ fault_events (ledger_of start es) session
      faults_are n es e =
          ap (λ (l : LedgerState). fault_events l pinned.session) ledger_is
          ∙ ap (λ (xs : List Event). fault_events (ledger_of start xs) pinned.session) (sym e)
          ∙ ap (fault_events (ledger_of start es)) mine

      pub read_adds : (new : List Event) → new ≡ events (standing moment next) → AddsAtMostNote start session old new
      read_adds new e = record {
        own = some.own;
        adds = adds_own some.adds session old seen new found (events_now events_are next) e;
        note = subst (λ (es : List Event). (some.own ≡ []) ⊎ (some.own ≡ es)) (faults_are session (found_before some.own new) (found_now events_are next some.own new e some.adds)) some.note;
      }

      pub read_open : (new : List Event) → new ≡ events (standing moment next) → IsOpenPin (ledger_of start new) pinned
      read_open new e =
          open_after some.own new (some_leaves moment pinned.session (standing moment parts) (standing moment next) some)
          (e ∙ some.adds.grown ∙ ap (λ (es : List Event). es ++ some.own) (events_now events_are next))

      pub read_causes : {A : Type 0} (new : List Event) (schema : Schema) (leaf : Leaf) (k : ArrayVec ℕ) (result : Result A ReadFault) → list_all is_sealed old ≡ true →
          IsTold start new (standing moment next) → NotesFault (moment parts.file.disk).state (moment next.file.disk).state pinned.session parts.ledger next.ledger →
          IfErr result (IsUnread (moment parts.file.disk).state (moment next.file.disk).state schema (payload_at (standing moment parts) pinned.place leaf k)) →
          IfErr result (IsUnreadUnder (ledger_of start new) session (payload_at (told start old) pinned.place leaf k))
      read_causes new schema leaf k result sealed after notes cause =
          told_causes (ledger_of start new) session (moment parts.file.disk).state (moment next.file.disk).state schema
          (payload_at (standing moment parts) pinned.place leaf k) (payload_at (told start old) pinned.place leaf k) result
          (λ rose.
          subst (λ (l : LedgerState). is_noted is_fault l session ≡ true) (ap (λ (s : Standing D). s.ledger) after)
          (subst (λ (n : ℕ). is_noted is_fault next.ledger n ≡ true) mine
          (fault_seen (moment parts.file.disk).state (moment next.file.disk).state pinned.session parts.ledger next.ledger pinned_now notes rose)))
          (payload_in_turn sealed leaf k) cause

-- ---- what a pin is told, where its seat has seen these events at the end

module _ {D : Type 0} (moment : D → Moment) (start : Start D) (new : List Event) (next : StoreParts D) (after : IsTold start new (standing moment next)) where
  ledger_then : next.ledger ≡ ledger_of start new
  ledger_then = ap (λ (s : Standing D). s.ledger) after

  pub pin_open : (result : Result Pinned PinFault) → IfOk result (λ pinned. IsOpenPin next.ledger pinned) → IfOk result (λ pinned. IsOpenPin (ledger_of start new) pinned)
  pin_open result opened =
      if_ok (λ pinned. IsOpenPin next.ledger pinned) (λ pinned. IsOpenPin (ledger_of start new) pinned) result
      (λ pinned. subst (λ (l : LedgerState). IsOpenPin l pinned) ledger_then) opened

  pub pin_cause : (result : Result Pinned PinFault) (parts : StoreParts D) → IfErr result (IsRefused parts.ledger) → OnErr result (standing moment next ≡ standing moment parts) →
      IfErr result (IsRefused (ledger_of start new))
  pin_cause result parts cause err =
      if_left result (IsRefused parts.ledger) (standing moment next ≡ standing moment parts) (IsRefused (ledger_of start new))
      (λ fault why left. subst (λ (l : LedgerState). IsRefused l fault) (ap (λ (s : Standing D). s.ledger) (sym left) ∙ ledger_then) why)
      cause err

  pub pin_untried : (n session : ℕ) → n ≡ session → (result : Result Pinned PinFault) → OnOk result ((kinds : NoteKind → Bool) → is_noted kinds next.ledger n ≡ false) →
      OnOk result ((kinds : NoteKind → Bool) → is_noted kinds (ledger_of start new) session ≡ false)
  pin_untried n session mine result none =
      on_ok ((kinds : NoteKind → Bool) → is_noted kinds next.ledger n ≡ false) ((kinds : NoteKind → Bool) → is_noted kinds (ledger_of start new) session ≡ false) result
      (λ u kinds. ap (λ (k : ℕ). is_noted kinds (ledger_of start new) k) (sym mine) ∙ ap (λ (l : LedgerState). is_noted kinds l n) (sym ledger_then) ∙ u kinds)
      none

-- ---- what is added by the answer

module _ {D : Type 0} (moment : D → Moment) (parts next : StoreParts D) where
  pub pin_done : (n : ℕ) (result : Result Pinned PinFault) → OnOk result (AddsEvents (Entered (Pin n) ∷ []) (standing moment parts) (standing moment next)) →
      OnErr result (standing moment next ≡ standing moment parts) → AddsEvents (done_events result (Entered (Pin n) ∷ [])) (standing moment parts) (standing moment next)
  pin_done n result ok err = done_adds result (Entered (Pin n) ∷ []) (standing moment parts) (standing moment next) ok err

pub pin_only : (n session : ℕ) (result : Result Pinned PinFault) → n ≡ session → only_of owner_of session (done_events result (Entered (Pin n) ∷ [])) ≡ true
pin_only n session result e = done_only result session (Entered (Pin n) ∷ []) (ap (λ (b : Bool). b && true) (eq-eqb n session e))

pub unpin_only : (n session : ℕ) → n ≡ session → only_of owner_of session (Entered (Unpin n) ∷ []) ≡ true
unpin_only n session e = ap (λ (b : Bool). b && true) (eq-eqb n session e)

-- Commits in a turn.
use Rattle.std.proofs.Common.{◌≡◌, ◌∙◌, ℕ, ◌+◌, ◌-◌, ◌^◌, ◌≤◌, ◌<◌, Bool, true, false, ◌&&◌, if◌then◌else◌, nat_eq, List, [], ◌∷◌, ◌++◌, length, reverse, inl, inr, Option, None, Some, Result, Ok, Err, IfSome, OnOk, OnErr, refl, ap, sym, subst, append-nil, append_assoc}
use Rattle.std.specs.List.{list_all}
use Rattle.std.proofs.lemmas.Bool.{eq-eqb, eqb-true}
use Rattle.std.proofs.lemmas.List.Folds.{list_all-append}
use Rattle.afl_outside.specs.Disk.{Moment}
use Rattle.array_geom.specs.declared.chunk.Changed.{Changed}
use Rattle.chunk_map.specs.declared.directory.Directory.{Directory}
use Rattle.commit_pages.specs.Changes.{AreValid, ComesWith}
use Rattle.plan_changes.specs.declared.change.Change.{Change}
use Rattle.plan_changes.specs.Databases.{Database}
use Rattle.plan_changes.specs.Stored.{HasItsNames}
use Rattle.plan_changes.specs.Typed.{IsTypedFor}
use Rattle.logical_plan.specs.declared.names.Names.{Names}
use Rattle.page_file.specs.FilesOpened.{OpenFile}
use Rattle.turn_lock.specs.Owners.{is_open_to, none_of, only_of, ExtendsByOwn}
use Rattle.event_core.specs.declared.entry.Entry.{Entry}
use Rattle.event_core.specs.declared.entry.Entry.TheVariants.{Commit, Pin, Reap, Unpin}
use Rattle.event_core.specs.declared.entry.Used.{Used}
use Rattle.event_core.specs.declared.state.Core.{Core}
use Rattle.event_core.specs.Bases.{sequence_at}
use Rattle.event_core.specs.Cells.{at}
use Rattle.event_core.specs.History.{History, names_at, pin_before, up_to}
use Rattle.event_core.proofs.Tests.{both_not}
use Rattle.store_versions.specs.Pins.{PlaceTells}
use Rattle.store_versions.proofs.Pins.{places_tell_pins}
use Rattle.array_store.specs.Fresh.{IsFresh}
use Rattle.array_store.specs.FreshLaws.{FreshChangesAreTyped}
use Rattle.array_store.specs.FreshChanges.{FreshChangesMayBeMade}
use Rattle.store_ledger.specs.declared.pinned.Pinned.{Pinned}
use Rattle.store_ledger.specs.Ledger.{LedgerState, IsOpenPin, history, is_fault, is_noted, is_tried}
use Rattle.prepared_commits.specs.Event.{Event}
use Rattle.prepared_commits.specs.Event.TheVariants.{Acknowledged, Entered}
use Rattle.prepared_commits.specs.StoreParts.{StoreParts}
use Rattle.prepared_commits.specs.At.{standing}
use Rattle.prepared_commits.specs.Calls.{database_with, history_at}
use Rattle.prepared_commits.specs.Events.{events, owner_of}
use Rattle.prepared_commits.specs.Standings.{BeganAs, Standing, base_of}
use Rattle.prepared_commits.specs.Prepared.{IsAsked, MayBeMade}
use Rattle.store_sealing.specs.Parts.{IsFull}
use Rattle.array_store.specs.declared.store.start.Start.{Start}
use Rattle.array_store.specs.Growth.{tried_events}
use Rattle.array_store.specs.Starts.{start_of}
use Rattle.array_store.specs.declared.told.commits.fault.CommitFault.{CommitFault}
use Rattle.array_store.specs.declared.told.commits.fault.CommitFault.TheVariants as faults
use Rattle.array_store.specs.Causes.{FitsAfter, IsNeeded, IsUncommitted, unused_after}
use Rattle.array_store.specs.Tried.{AddsSealed, AddsTried, IsFaultOrNone}
use Rattle.array_store.specs.Tries.{AreOfTry, MakesCommit, MakesHere, TriesCommit, TriesHere, is_fresh_since}
use Rattle.array_store.specs.Told.{IsTold, entries_in, ledger_of, told}
use Rattle.array_store.specs.Turns.{Adds, found_before, leaves_pin_of}
use Rattle.array_store.proofs.InTurn.{is_now, ledger_is, open_after, seen_is, theirs_now}
use Rattle.array_store.proofs.Notes.{notes_outlast, others_leave_notes}
use Rattle.array_store.proofs.Sights.{more_history}
use Rattle.array_store.proofs.Turning.{before_own, extends_own}

-- ---- where an open pin stands

abbrev unsome : History → Option History → History
unsome other None = other
unsome other (Some h) = h

abbrev is_there : Option History → Bool
is_there None = false
is_there (Some h) = true

not_none : (h : History) → None ≡ Some h → ⊥
not_none h e = both_not false refl (ap is_there e)

abbrev Splits : ℕ → History → History → Type 0
Splits s h before = (later : History) × (h ≡ later ++ Pin s ∷ before)

splits_more : (s : ℕ) (entry : Entry) (rest before : History) → Splits s rest before → Splits s (entry ∷ rest) before
splits_more s entry rest before p = (entry ∷ p.0, ap (λ (h : History). entry ∷ h) p.1)

splits_pin : (b : Bool) (s t : ℕ) (rest before : History) → nat_eq t s ≡ b → (if b then Some rest else pin_before s rest) ≡ Some before →
    (pin_before s rest ≡ Some before → Splits s rest before) → Splits s (Pin t ∷ rest) before
splits_pin true s t rest before same e others =
    ([], ap (λ (n : ℕ). Pin n ∷ rest) (eqb-true t s same) ∙ ap (λ (h : History). Pin s ∷ h) (ap (unsome rest) e))
splits_pin false s t rest before same e others = splits_more s (Pin t) rest before (others e)

splits_unpin : (b : Bool) (s t : ℕ) (rest before : History) → (if b then None else pin_before s rest) ≡ Some before →
    (pin_before s rest ≡ Some before → Splits s rest before) → Splits s (Unpin t ∷ rest) before
splits_unpin true s t rest before e others = absurd (not_none before e)
splits_unpin false s t rest before e others = splits_more s (Unpin t) rest before (others e)

pin_splits : (s : ℕ) (h before : History) → pin_before s h ≡ Some before → Splits s h before
pin_splits s [] before e = absurd (not_none before e)
pin_splits s (Pin t ∷ rest) before e = splits_pin (nat_eq t s) s t rest before refl e (pin_splits s rest before)
pin_splits s (Unpin t ∷ rest) before e = splits_unpin (nat_eq t s) s t rest before e (pin_splits s rest before)
pin_splits s (Commit t change used ∷ rest) before e = splits_more s (Commit t change used) rest before (pin_splits s rest before e)
pin_splits s (Reap ∷ rest) before e = splits_more s Reap rest before (pin_splits s rest before e)

-- ---- what the session adds is its own, and neither a pin nor an unpin

all_both : (a b : Bool) → a ≡ true → b ≡ true → (a && b) ≡ true
all_both true b e f = f
all_both false b e f = absurd (both_not false refl e)

all_append : (p : Event → Bool) (xs ys : List Event) → list_all p xs ≡ true → list_all p ys ≡ true → list_all p (xs ++ ys) ≡ true
all_append p xs ys e f = list_all-append p xs ys ∙ all_both (list_all p xs) (list_all p ys) e f

both_only : (session : ℕ) (xs ys : List Event) → only_of owner_of session xs ≡ true → only_of owner_of session ys ≡ true → only_of owner_of session (xs ++ ys) ≡ true
both_only session xs ys e f = all_append (λ event. is_open_to (owner_of event) session) xs ys e f

reaped_only : (comes : Bool) (session : ℕ) → only_of owner_of session (if comes then Entered Reap ∷ [] else []) ≡ true
reaped_only true session = refl
reaped_only false session = refl

tried_only : (comes : Bool) (ledger : LedgerState) (session : ℕ) (change : Change) → only_of owner_of session (tried_events comes ledger session change) ≡ true
tried_only comes ledger session change =
    all_both (nat_eq session session) (only_of owner_of session (if comes then Entered Reap ∷ [] else [])) (eq-eqb session session refl) (reaped_only comes session)

faults_only : (ledger : LedgerState) (session : ℕ) (faults : List Event) → IsFaultOrNone ledger session faults → only_of owner_of session faults ≡ true
faults_only ledger session faults (inl e) = ap (only_of owner_of session) e
faults_only ledger session faults (inr e) = ap (only_of owner_of session) e ∙ all_both (nat_eq session session) true (eq-eqb session session refl) refl

commit_only : (session : ℕ) (change : Change) (used : Used) (moment : ℕ) (directory : Directory) →
    only_of owner_of session (Acknowledged (Commit session change used) moment directory ∷ []) ≡ true
commit_only session change used moment directory = all_both (nat_eq session session) true (eq-eqb session session refl) refl

reaped_leave : (comes : Bool) (session : ℕ) → list_all (leaves_pin_of session) (if comes then Entered Reap ∷ [] else []) ≡ true
reaped_leave true session = refl
reaped_leave false session = refl

faults_leave : (ledger : LedgerState) (session : ℕ) (faults : List Event) → IsFaultOrNone ledger session faults → list_all (leaves_pin_of session) faults ≡ true
faults_leave ledger session faults (inl e) = ap (list_all (leaves_pin_of session)) e
faults_leave ledger session faults (inr e) = ap (list_all (leaves_pin_of session)) e

try_leaves : {D : Type 0} (start : Start D) (session : ℕ) (change : Change) (commit found own new : List Event) → list_all (leaves_pin_of session) commit ≡ true →
    AreOfTry start session change commit found own new → list_all (leaves_pin_of session) own ≡ true
try_leaves start session change commit found own new leaves t =
    ap (list_all (leaves_pin_of session)) t.is
    ∙ all_append (leaves_pin_of session) (tried_events t.comes (ledger_of start found) session change) (commit ++ t.faults) (reaped_leave t.comes session)
    (all_append (leaves_pin_of session) commit t.faults leaves (faults_leave (ledger_of start new) session t.faults t.fault))

-- ---- what is asked of a commit in a turn that found its change fresh

module _ {D : Type 0} (moment : D → Moment) (start : Start D) (session : ℕ) (old seen : List Event) (parts value : StoreParts D)
    (found : Adds session [] old seen) (same : parts ≡ value) (is : IsTold start seen (standing moment value))
    (pinned : Pinned) (mine : pinned.session ≡ session) (o : IsOpenPin (ledger_of start old) pinned) where
  now : parts.ledger ≡ ledger_of start seen
  now = ledger_is moment start session old seen parts value found same is

  behind : seen ≡ old ++ found.others
  behind = seen_is moment start session old seen parts value found same is

  pub untried_in_turn : is_noted is_tried (ledger_of start old) pinned.session ≡ false → is_noted is_tried parts.ledger pinned.session ≡ false
  untried_in_turn untried =
      ap (λ (l : LedgerState). is_noted is_tried l pinned.session) now
      ∙ ap (λ (es : List Event). is_noted is_tried (ledger_of start es) pinned.session) behind
      ∙ notes_outlast D start old found.others pinned.session is_tried
      (others_leave_notes is_tried pinned.session found.others (theirs_now moment start session old seen parts value found same is pinned mine o))
      ∙ untried

  -- the history since the pin
  pub since : Splits pinned.session (history parts.ledger) o.before
  since =
      let first : Splits pinned.session (history (ledger_of start old)) o.before = pin_splits pinned.session (history (ledger_of start old)) o.before o.begun in
      let others : History = reverse (entries_in found.others) in (
        others ++ first.0,
        ap history now ∙ ap (λ (es : List Event). reverse (entries_in es)) behind ∙ more_history old found.others
            ∙ ap (λ (h : History). others ++ h) first.1 ∙ sym (append_assoc others first.0 (Pin pinned.session ∷ o.before)),
      )

  began_then : (db : Database) → BeganAs (moment parts.opened.value.disk).state db → BeganAs (moment start.opened.disk).state db
  began_then db = subst (λ (f : OpenFile D). BeganAs (moment f.disk).state db) (ap (λ (s : Standing D). s.opened) (is_now moment start session old seen parts value found same is))

  at_pin : (db : Database) → database_with db (told start old) pinned.place ≡ at db o.before
  at_pin db =
      let h : History = history (ledger_of start old) in
      let tells : PlaceTells h o.before = places_tell_pins pinned.session h o.before o.begun in
      ap (λ (n : ℕ). at db (up_to n h)) o.place ∙ tells.database db

  pub asked_in_turn : FreshChangesAreTyped → FreshChangesMayBeMade → (change : Change) (changed : Option Changed) → HasItsNames change → IsTypedFor pinned.names change →
      ComesWith change changed → IfSome changed AreValid →
      ((db : Database) → BeganAs (moment start.opened.disk).state db → MayBeMade (database_with db (told start old) pinned.place) change changed) →
      ((later before : History) → history parts.ledger ≡ later ++ Pin pinned.session ∷ before → length before ≡ pinned.place →
      IsFresh parts.ledger.base later (Pin pinned.session ∷ before) change) →
      IsAsked moment (standing moment parts) change changed
  asked_in_turn are_typed may_be change changed named typed comes valid may fresh =
      let base : Core = parts.ledger.base in
      let later : History = since.0 in
      let before : History = Pin pinned.session ∷ o.before in
      let f : IsFresh base later before change = fresh later o.before since.1 (sym o.place) in
      let base_is : start.base ≡ base = sym (ap (λ (l : LedgerState). l.base) now) in
      record {
        named = named;
        typed = subst (λ (h : History). IsTypedFor (names_at base h) change) (sym since.1)
            (are_typed base later before change f.left f.room
            (subst (λ (ns : Names). IsTypedFor ns change) (o.names ∙ ap (λ (b : Core). names_at b o.before) base_is) typed));
        comes = comes;
        valid = valid;
        told = λ db began.
            subst (λ (h : History). MayBeMade (at db h) change changed) (sym since.1)
            (may_be db later before change changed f.left
            (subst (λ (d : Database). MayBeMade d change changed) (at_pin db) (may db (began_then db began))));
      }

  -- the pin is still open behind it
  tried_open : (change : Change) (commit new : List Event) → list_all (leaves_pin_of pinned.session) commit ≡ true → TriesHere start pinned.session change commit seen new →
      IsOpenPin (ledger_of start new) pinned
  tried_open change commit new leaves h =
      open_after moment start session old seen parts value found same is pinned mine o h.own new (try_leaves start pinned.session change commit seen h.own new leaves h.tried) h.grown

  pub open_tried : (change : Change) (new : List Event) → TriesHere start pinned.session change [] seen new → IsOpenPin (ledger_of start new) pinned
  open_tried change new = tried_open change [] new refl

  pub open_made : (change : Change) (new : List Event) → MakesHere start pinned.session change seen new → IsOpenPin (ledger_of start new) pinned
  open_made change new h = tried_open change (Acknowledged (Commit pinned.session change h.used) h.moment h.directory ∷ []) new refl h.tries

-- ---- what was added in a turn, which the seat then sees

module _ {D : Type 0} (session : ℕ) (change : Change) (seen : List Event) (s n : Standing D) (events_are : events s ≡ seen) where
  tried_extends : (commit : List Event) → only_of owner_of session commit ≡ true → AddsTried session change commit s n → ExtendsByOwn owner_of session seen (events n)
  tried_extends commit only a =
      extends_own a.adds session seen events_are
      (both_only session (tried_events a.comes s.ledger session change) (commit ++ a.faults) (tried_only a.comes s.ledger session change)
      (both_only session commit a.faults only (faults_only n.ledger session a.faults a.fault)))

  pub commit_extends : {A F : Type 0} (result : Result A F) → OnOk result (AddsSealed session change s n) → OnErr result (AddsTried session change [] s n) →
      ExtendsByOwn owner_of session seen (events n)
  commit_extends (Ok value) done err =
      tried_extends (Acknowledged (Commit session change done.used) done.moment done.directory ∷ []) (commit_only session change done.used done.moment done.directory) done.tried
  commit_extends (Err fault) done err = tried_extends [] refl err

  pub commit_start : {A F : Type 0} (result : Result A F) → OnOk result (AddsSealed session change s n) → OnErr result (AddsTried session change [] s n) → start_of n ≡ start_of s
  commit_start (Ok value) done err = done.tried.adds.start
  commit_start (Err fault) done err = err.adds.start

  module _ (start : Start D) (before : IsTold start seen s) (new : List Event) (new_is : new ≡ events n) (after : IsTold start new n) where
    pub tries_here : (commit : List Event) → AddsTried session change commit s n → TriesHere start session change commit seen new
    tries_here commit a = record {
      own = tried_events a.comes s.ledger session change ++ (commit ++ a.faults);
      grown = new_is ∙ a.adds.grown
          ∙ ap (λ (es : List Event). es ++ (tried_events a.comes s.ledger session change ++ (commit ++ a.faults))) events_are;
      tried = record {
        comes = a.comes;
        faults = a.faults;
        fault = subst (λ (l : LedgerState). IsFaultOrNone l session a.faults) (ap (λ (x : Standing D). x.ledger) after) a.fault;
        is = ap (λ (l : LedgerState). tried_events a.comes l session change ++ (commit ++ a.faults)) (ap (λ (x : Standing D). x.ledger) before);
      };
    }

    pub makes_here : AddsSealed session change s n → MakesHere start session change seen new
    makes_here a = record {
      used = a.used;
      moment = a.moment;
      directory = a.directory;
      tries = tries_here (Acknowledged (Commit session change a.used) a.moment a.directory ∷ []) a.tried;
    }

-- ---- and what others had added before

module _ {D : Type 0} (start : Start D) (pinned : Pinned) (change : Change) (session : ℕ) (mine : pinned.session ≡ session) (old found new : List Event)
    (turn : Adds session [] old found) (fresh : is_fresh_since pinned change (ledger_of start found) ≡ true) where
  tries_commit : (commit : List Event) → TriesHere start pinned.session change commit found new → TriesCommit start pinned change commit old new
  tries_commit commit h =
      let e : found_before h.own new ≡ found = before_own h.own found new h.grown in record {
        own = h.own;
        adds = record {
          others = turn.others;
          theirs = subst (λ (k : ℕ). none_of owner_of k turn.others ≡ true) (sym mine) turn.theirs;
          grown = h.grown ∙ ap (λ (es : List Event). es ++ h.own) (turn.grown ∙ append-nil (old ++ turn.others));
        };
        fresh = subst (λ (es : List Event). is_fresh_since pinned change (ledger_of start es) ≡ true) (sym e) fresh;
        tried = subst (λ (es : List Event). AreOfTry start pinned.session change commit es h.own new) (sym e) h.tried;
      }

  makes_commit : MakesHere start pinned.session change found new → MakesCommit start pinned change old new
  makes_commit h = record {
    used = h.used;
    moment = h.moment;
    directory = h.directory;
    tries = tries_commit (Acknowledged (Commit pinned.session change h.used) h.moment h.directory ∷ []) h.tries;
  }

-- the same of the turn's store, whose change was found fresh
module _ {D : Type 0} (moment : D → Moment) (start : Start D) (session : ℕ) (old seen : List Event) (parts value : StoreParts D)
    (found : Adds session [] old seen) (same : parts ≡ value) (is : IsTold start seen (standing moment value))
    (pinned : Pinned) (mine : pinned.session ≡ session) (change : Change) (result : Bool) (told_by : result ≡ is_fresh_since pinned change parts.ledger) (ok : result ≡ true) where
  is_fresh_found : is_fresh_since pinned change (ledger_of start seen) ≡ true
  is_fresh_found =
      ap (is_fresh_since pinned change) (sym (ledger_is moment start session old seen parts value found same is))
      ∙ sym told_by ∙ ok

  pub turn_tries : (new : List Event) → TriesHere start pinned.session change [] seen new → TriesCommit start pinned change [] old new
  turn_tries new h = tries_commit start pinned change session mine old seen new found is_fresh_found [] h

  pub turn_makes : (new : List Event) → MakesHere start pinned.session change seen new → MakesCommit start pinned change old new
  turn_makes new h = makes_commit start pinned change session mine old seen new found is_fresh_found h

-- ---- what is told of the store at the end is told of what the seat has then seen

module _ {D : Type 0} (moment : D → Moment) (start : Start D) (change : Change) (new : List Event) (n : Standing D) (after : IsTold start new n) where
  pub place_told : (place : ℕ) → place + 1 ≡ length n.ledger.entries → place + 1 ≡ length (entries_in new)
  place_told place = subst (λ (x : Standing D). place + 1 ≡ length x.ledger.entries) after

  pub typed_told : (place : ℕ) → IsTypedFor (names_at n.ledger.base (history_at n place)) change → IsTypedFor (names_at start.base (history_at (told start new) place)) change
  typed_told place = subst (λ (x : Standing D). IsTypedFor (names_at x.ledger.base (history_at x place)) change) after

  pub may_told : (changed : Option Changed) (place : ℕ) → ((db : Database) → BeganAs (moment n.opened.disk).state db → MayBeMade (database_with db n place) change changed) →
      (db : Database) → BeganAs (moment start.opened.disk).state db → MayBeMade (database_with db (told start new) place) change changed
  may_told changed place = subst (λ (x : Standing D). (db : Database) → BeganAs (moment x.opened.disk).state db → MayBeMade (database_with db x place) change changed) after

  pub next_told : (place : ℕ) → sequence_at (base_of n) (history_at n place) < 2 ^ 64 - 1 → sequence_at (base_of (told start new)) (history_at (told start new) place) < 2 ^ 64 - 1
  next_told place = subst (λ (x : Standing D). sequence_at (base_of x) (history_at x place) < 2 ^ 64 - 1) after

  needed_told : (h : Standing D → History) (count : ℕ) → IsNeeded moment n (h n) change count → IsNeeded moment (record (told start new) { disk = n.disk; doubt = n.doubt }) (h (record (told start new) { disk = n.disk; doubt = n.doubt })) change count
  needed_told h count = subst (λ (x : Standing D). IsNeeded moment x (h x) change count) after

  fits_then : (h : Standing D → History) → FitsAfter moment n (h n) change → FitsAfter moment (told start new) (h (record (told start new) { disk = n.disk; doubt = n.doubt })) change
  fits_then h f = record {
    count = f.count;
    needed = needed_told h f.count f.needed;
    fits = subst (λ (x : Standing D). f.count ≤ length (unused_after x.ledger.base (h x))) after f.fits;
  }

  pub fits_told : (place : ℕ) → FitsAfter moment n (history_at n place) change → FitsAfter moment (told start new) (history_at (told start new) place) change
  fits_told place = fits_then (λ x. history_at x place)

  pub cause_told : (session : ℕ) (fault : CommitFault) → IsUncommitted moment session change n fault → IsUncommitted moment session change (told start new) fault
  cause_told session (faults.SequenceEnd place) why = (
    subst (λ (x : Standing D). place ≡ length x.ledger.entries) after why.0,
    subst (λ (x : Standing D). 2 ^ 64 - 1 ≤ sequence_at (base_of x) (history x.ledger)) after why.1,
  )
  cause_told session (faults.Full most free place) why = (
    subst (λ (x : Standing D). place ≡ length x.ledger.entries) after why.0,
    subst (λ (x : Standing D). sequence_at (base_of x) (history x.ledger) < 2 ^ 64 - 1) after why.1,
    record {
      count = why.2.count;
      costs = needed_told (λ x. history x.ledger) why.2.count why.2.costs;
      full = subst (λ (l : LedgerState). IsFull why.2.count most free l) (ap (λ (x : Standing D). x.ledger) after) why.2.full;
    },
  )
  cause_told session (faults.Disk place) why = (
    subst (λ (x : Standing D). place ≡ length x.ledger.entries) after why.0,
    subst (λ (x : Standing D). is_noted is_fault x.ledger session ≡ true) after why.1,
    subst (λ (x : Standing D). sequence_at (base_of x) (history x.ledger) < 2 ^ 64 - 1) after why.2,
    fits_then (λ x. history x.ledger) why.3,
  )
  cause_told session faults.Memory why = tt

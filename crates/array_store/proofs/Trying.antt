-- A commit that is tried: what is added, and what is then known.
use Rattle.std.proofs.Common.{◌≡◌, ◌∙◌, ℕ, ◌+◌, ◌-◌, ◌^◌, ◌≤◌, ◌<◌, Bool, true, false, List, [], ◌∷◌, ◌++◌, length, reverse, inl, Option, Result, Ok, Err, IfErr, IfOk, OnErr, OnOk, MatchResult, refl, ap, sym, subst, arith, append-nil, length-append}
use Rattle.std.proofs.lemmas.List.{reverse-append, length-reverse}
use Rattle.afl_outside.specs.Disk.{Moment}
use Rattle.array_geom.specs.declared.chunk.Changed.{Changed}
use Rattle.page_file.specs.FilesOpened.{OpenFile}
use Rattle.plan_changes.specs.declared.change.Change.{Change}
use Rattle.plan_changes.specs.Databases.{Database}
use Rattle.plan_changes.specs.Typed.{IsTypedFor}
use Rattle.file_meaning.specs.Opening.{sequence_of}
use Rattle.event_core.specs.declared.entry.Entry.{Entry}
use Rattle.event_core.specs.declared.entry.Entry.TheVariants.{Commit, Reap}
use Rattle.event_core.specs.declared.state.Core.{Core}
use Rattle.event_core.specs.Allowed.{is_pinned}
use Rattle.event_core.specs.Bases.{commits, sequence_at}
use Rattle.event_core.specs.Cells.{at}
use Rattle.event_core.specs.History.{History, names_at, up_to}
use Rattle.store_versions.proofs.Pins.{beginnings_are_kept}
use Rattle.commit_pages.specs.Costs.{cost_from}
use Rattle.store_ledger.specs.Ledger.{history, unused_pages}
use Rattle.prepared_commits.specs.Event.{Event}
use Rattle.prepared_commits.specs.Event.TheVariants.{Acknowledged}
use Rattle.prepared_commits.specs.Calls.{NotesFault, database_with, history_at}
use Rattle.prepared_commits.specs.Standings.{Standing, BeganAs, base_of, current_slots, records_in}
use Rattle.prepared_commits.specs.declared.commits.fault.PrepareFault.{PrepareFault}
use Rattle.prepared_commits.specs.declared.commits.fault.PrepareFault.TheVariants as refusals
use Rattle.prepared_commits.specs.declared.commits.prepared.Prepared.{Prepared}
use Rattle.prepared_commits.specs.Prepared.{IsAsked, MayBeMade}
use Rattle.store_sealing.specs.Left.{FitsIn, HasNext, reaped_if, tried_now}
use Rattle.store_sealing.specs.Steps.{entry_of, made_by, sealed_ledger}
use Rattle.array_store.specs.declared.store.start.Start.{Start}
use Rattle.array_store.specs.Growth.{AddsEvents, AddsFault, tried_events}
use Rattle.array_store.specs.Sealing.{AddsCommit}
use Rattle.array_store.specs.Starts.{start_of}
use Rattle.array_store.proofs.Tried.{adds_both}
use Rattle.array_store.specs.declared.told.commits.fault.CommitFault.{CommitFault}
use Rattle.array_store.specs.declared.told.commits.fault.CommitFault.TheVariants as faults
use Rattle.array_store.specs.Causes.{FitsAfter, IsNeeded, IsStoppedSince, IsUncommitted, refused_at, unused_after}
use Rattle.array_store.specs.Tried.{AddsSealed, AddsTried}
use Rattle.array_store.proofs.Ended.{Ends, fault_seen, sealed_ends, stopped_ends}

-- ---- a reap changes neither cells nor costs

abbrev pub reap_if : Bool → History → History
reap_if true h = Reap ∷ h
reap_if false h = h

history_then : {D : Type 0} (comes : Bool) (session : ℕ) (change : Change) (s : Standing D) →
    history (reaped_if comes (tried_now session change s)).ledger ≡ reap_if comes (history s.ledger)
history_then true session change s = reverse-append s.ledger.entries (Reap ∷ [])
history_then false session change s = refl

same_commits : (comes : Bool) (h : History) → commits (reap_if comes h) ≡ commits h
same_commits true h = refl
same_commits false h = refl

same_pinned : (comes : Bool) (session : ℕ) (h : History) → is_pinned session (reap_if comes h) ≡ is_pinned session h
same_pinned true session h = refl
same_pinned false session h = refl

same_cost : (comes : Bool) (records : Option ℕ) (db : Database) (h : History) (change : Change) →
    cost_from records (at db (reap_if comes h)) (reap_if comes h) change ≡ cost_from records (at db h) h change
same_cost true records db h change = refl
same_cost false records db h change = refl

-- ---- what is told of a file that was opened, and a history

abbrev NeededIn : {D : Type 0} → (D → Moment) → OpenFile D → History → Change → ℕ → Type 0
NeededIn moment o h change count =
    (db : Database) → BeganAs (moment o.disk).state db → count ≡ cost_from (records_in o.slots.current.format (length o.slots.records)) (at db h) h change

abbrev sequence_in : {D : Type 0} → OpenFile D → History → ℕ
sequence_in o h = sequence_of (current_slots o.slots) + commits h

-- a commit was prepared, or refused: the store is then this one
pub record IsTriedIn {D : Type 0} (session : ℕ) (change : Change) (s t : Standing D) : Type 0 where
  pub comes : Bool
  pub is : t ≡ reaped_if comes (tried_now session change s)
  pub adds : AddsEvents (tried_events comes s.ledger session change) s t

module _ {D : Type 0} (moment : D → Moment) (session : ℕ) (change : Change) (s t : Standing D) (tried : IsTriedIn session change s t) where
  history_is : history t.ledger ≡ reap_if tried.comes (history s.ledger)
  history_is = ap (λ (x : Standing D). history x.ledger) tried.is ∙ history_then tried.comes session change s

  opened_is : t.opened ≡ s.opened
  opened_is = ap (λ (x : Start D). x.opened) tried.adds.start

  pub sequence_is : sequence_at (base_of t) (history t.ledger) ≡ sequence_at (base_of s) (history s.ledger)
  sequence_is =
      ap (λ (o : OpenFile D). sequence_in o (history t.ledger)) opened_is
      ∙ ap (sequence_in s.opened) history_is
      ∙ ap (λ (count : ℕ). sequence_of (current_slots s.opened.slots) + count) (same_commits tried.comes (history s.ledger))

  pub pinned_then : is_pinned session (history s.ledger) ≡ true → is_pinned session (history t.ledger) ≡ true
  pinned_then pinned = ap (is_pinned session) history_is ∙ same_pinned tried.comes session (history s.ledger) ∙ pinned

  pub needed_then : (count : ℕ) → IsNeeded moment s (history s.ledger) change count → IsNeeded moment t (history t.ledger) change count
  needed_then count needed =
      subst (λ (o : OpenFile D). NeededIn moment o (history t.ledger) change count) (sym opened_is)
      (subst (λ (h : History). NeededIn moment s.opened h change count) (sym history_is)
      (λ db began. needed db began ∙ sym (same_cost tried.comes (base_of s).records db (history s.ledger) change)))

  -- nothing but the try
  pub only_tried : AddsTried session change [] s t
  only_tried = record {
    comes = tried.comes;
    faults = [];
    fault = inl refl;
    adds = subst (λ (es : List Event). AddsEvents es s t) (sym (append-nil (tried_events tried.comes s.ledger session change))) tried.adds;
  }

  pub refused_so : (A : Type 0) (count : ℕ) → IsNeeded moment s (history s.ledger) change count → (fault : PrepareFault) → FitsIn {A = A} count (Err fault) t.ledger →
      HasNext {A = A} (sequence_at (base_of s) (history s.ledger)) (Err fault) → IsUncommitted moment session change t (refused_at (length t.ledger.entries) fault)
  refused_so A count needed refusals.SequenceEnd fits next = (refl, subst (λ (k : ℕ). 2 ^ 64 - 1 ≤ k) (sym sequence_is) next)
  refused_so A count needed (refusals.Full most free) fits next =
      (refl, subst (λ (k : ℕ). k < 2 ^ 64 - 1) (sym sequence_is) next, record { count = count; costs = needed_then count needed; full = fits })
  refused_so A count needed refusals.Memory fits next = tt

  -- and then what its end adds
  module _ (own : List Event) (entries : List Entry) (n : Standing D) (ends : Ends session own entries t n) where
    pub tried_both : AddsTried session change own s n
    tried_both = record {
      comes = tried.comes;
      faults = ends.faults;
      fault = ends.fault;
      adds = adds_both (tried_events tried.comes s.ledger session change) (own ++ ends.faults) s t n tried.adds ends.adds;
    }

-- ---- a store that began the same, and a history that was the other's

module _ {D : Type 0} (moment : D → Moment) (t n : Standing D) (start : start_of n ≡ start_of t) (h : History) (same : h ≡ history t.ledger) where
  base_is : n.ledger.base ≡ t.ledger.base
  base_is = ap (λ (x : Start D). x.base) start

  file_is : n.opened ≡ t.opened
  file_is = ap (λ (x : Start D). x.opened) start

  pub typed_there : (change : Change) → IsTypedFor (names_at t.ledger.base (history t.ledger)) change → IsTypedFor (names_at n.ledger.base h) change
  typed_there change typed =
      subst (λ (b : Core). IsTypedFor (names_at b h) change) (sym base_is)
      (subst (λ (k : History). IsTypedFor (names_at t.ledger.base k) change) (sym same) typed)

  pub may_there : (change : Change) (changed : Option Changed) → ((db : Database) → BeganAs (moment t.opened.disk).state db → MayBeMade (at db (history t.ledger)) change changed) →
      (db : Database) → BeganAs (moment n.opened.disk).state db → MayBeMade (at db h) change changed
  may_there change changed may db began =
      subst (λ (k : History). MayBeMade (at db k) change changed) (sym same)
      (may db (subst (λ (o : OpenFile D). BeganAs (moment o.disk).state db) file_is began))

  pub next_there : sequence_at (base_of t) (history t.ledger) < 2 ^ 64 - 1 → sequence_at (base_of n) h < 2 ^ 64 - 1
  next_there next =
      subst (λ (k : ℕ). k < 2 ^ 64 - 1)
      (sym (ap (λ (o : OpenFile D). sequence_in o h) file_is ∙ ap (sequence_in t.opened) same)) next

  pub fits_there : (change : Change) (count : ℕ) → IsNeeded moment t (history t.ledger) change count → count ≤ length (unused_pages t.ledger) → FitsAfter moment n h change
  fits_there change count needed fits = record {
    count = count;
    needed = subst (λ (o : OpenFile D). NeededIn moment o h change count) (sym file_is)
        (subst (λ (k : History). NeededIn moment t.opened k change count) (sym same) needed);
    fits = subst (λ (b : Core). count ≤ length (unused_after b h)) (sym base_is)
        (subst (λ (k : History). count ≤ length (unused_after t.ledger.base k)) (sym same) fits);
  }

-- ---- behind a commit

module _ {D : Type 0} (t n : Standing D) (entry : Entry) (place : ℕ)
    (entries : n.ledger.entries ≡ t.ledger.entries ++ entry ∷ []) (placed : place ≡ length t.ledger.entries) where
  pub last_place : place + 1 ≡ length n.ledger.entries
  last_place = omega (arith, ap length entries, length-append t.ledger.entries (entry ∷ []), placed)

  pub before_is : history_at n place ≡ history t.ledger
  before_is =
      ap (λ (es : List Entry). up_to place (reverse es)) entries
      ∙ ap (up_to place) (reverse-append t.ledger.entries (entry ∷ []))
      ∙ ap (λ (k : ℕ). up_to k (entry ∷ history t.ledger)) (placed ∙ sym (length-reverse t.ledger.entries))
      ∙ beginnings_are_kept (entry ∷ []) (history t.ledger)

-- ---- a commit that was prepared, and then sealed or stopped

-- all that is told of a commit that is made
pub record IsMade {D : Type 0} (moment : D → Moment) (session : ℕ) (change : Change) (changed : Option Changed) (s n : Standing D) (place : ℕ) : Type 0 where
  pub done : AddsSealed session change s n
  pub placed : place + 1 ≡ length n.ledger.entries
  pub typed : IsTypedFor (names_at n.ledger.base (history_at n place)) change
  pub may : (db : Database) → BeganAs (moment n.opened.disk).state db → MayBeMade (database_with db n place) change changed
  pub next : sequence_at (base_of n) (history_at n place) < 2 ^ 64 - 1
  pub fits : FitsAfter moment n (history_at n place) change

pub on_made : {A F : Type 0} (P : A → Type 0) (Q : Type 0) (result : Result A F) → ((value : A) → P value → Q) → IfOk result P → OnOk result Q
on_made P Q (Ok value) f p = f value p
on_made P Q (Err fault) f p = tt

module _ {D : Type 0} (moment : D → Moment) (session : ℕ) (change : Change) (changed : Option Changed) (s t n : Standing D) (tried : IsTriedIn session change s t)
    (p : Prepared) (mine : p.session ≡ session) (of : p.commit.change ≡ change) where
  abbrev Noted : {A F : Type 0} → Result A F → Type 0
  Noted result =
      MatchResult result
      (λ _. NotesFault (moment t.disk).state (moment n.disk).state p.session (sealed_ledger t p) n.ledger)
      (λ _. NotesFault (moment t.disk).state (moment n.disk).state p.session t.ledger n.ledger)

  abbrev Added : {A F : Type 0} → Result A F → Type 0
  Added result = MatchResult result (λ _. AddsCommit moment p t n) (λ _. AddsFault moment p.session t n)

  the_event : Acknowledged (entry_of p) (moment n.disk).state.moment (made_by p) ≡ Acknowledged (Commit session change p.commit.used) (moment n.disk).state.moment (made_by p)
  the_event =
      ap (λ (k : ℕ). Acknowledged (Commit k p.commit.change p.commit.used) (moment n.disk).state.moment (made_by p)) mine
      ∙ ap (λ (x : Change). Acknowledged (Commit session x p.commit.used) (moment n.disk).state.moment (made_by p)) of

  sealed_now : NotesFault (moment t.disk).state (moment n.disk).state p.session (sealed_ledger t p) n.ledger → AddsCommit moment p t n →
      Ends session (Acknowledged (Commit session change p.commit.used) (moment n.disk).state.moment (made_by p) ∷ []) (sealed_ledger t p).entries t n
  sealed_now noted a =
      subst (λ (e : Event). Ends session (e ∷ []) (sealed_ledger t p).entries t n) the_event
      (subst (λ (k : ℕ). Ends k (Acknowledged (entry_of p) (moment n.disk).state.moment (made_by p) ∷ []) (sealed_ledger t p).entries t n) mine (sealed_ends moment p t n noted a))

  module _ (asked : IsAsked moment t p.commit.change changed) (count : ℕ) (needed : IsNeeded moment s (history s.ledger) change count)
      (fits : count ≤ length (unused_pages t.ledger)) (next : sequence_at (base_of s) (history s.ledger) < 2 ^ 64 - 1) where
    next_then : sequence_at (base_of t) (history t.ledger) < 2 ^ 64 - 1
    next_then = subst (λ (k : ℕ). k < 2 ^ 64 - 1) (sym (sequence_is moment session change s t tried)) next

    needed_now : IsNeeded moment t (history t.ledger) change count
    needed_now = needed_then moment session change s t tried count needed

    made_so : (place : ℕ) → place ≡ length t.ledger.entries → NotesFault (moment t.disk).state (moment n.disk).state p.session (sealed_ledger t p) n.ledger → AddsCommit moment p t n →
        IsMade moment session change changed s n place
    made_so place placed noted a =
        let own : List Event = Acknowledged (Commit session change p.commit.used) (moment n.disk).state.moment (made_by p) ∷ [] in
        let ends : Ends session own (sealed_ledger t p).entries t n = sealed_now noted a in
        let start : start_of n ≡ start_of t = ends.adds.start in
        let before : history_at n place ≡ history t.ledger = before_is t n (entry_of p) place ends.entries_are placed in
        record {
          done = record {
            used = p.commit.used;
            moment = (moment n.disk).state.moment;
            directory = made_by p;
            tried = tried_both moment session change s t tried own (sealed_ledger t p).entries n ends;
          };
          placed = last_place t n (entry_of p) place ends.entries_are placed;
          typed = typed_there moment t n start (history_at n place) before change
              (subst (λ (x : Change). IsTypedFor (names_at t.ledger.base (history t.ledger)) x) of asked.typed);
          may = may_there moment t n start (history_at n place) before change changed
              (subst (λ (x : Change). (db : Database) → BeganAs (moment t.opened.disk).state db → MayBeMade (at db (history t.ledger)) x changed) of asked.told);
          next = next_there moment t n start (history_at n place) before next_then;
          fits = fits_there moment t n start (history_at n place) before change count needed_now fits;
        }

    pub made : {F : Type 0} (result : Result ℕ F) → IfOk result (λ place. place ≡ length t.ledger.entries) → Noted result → Added result →
        IfOk result (IsMade moment session change changed s n)
    made (Ok place) placed noted a = made_so place placed noted a
    made (Err fault) placed noted a = tt

  stopped_now : NotesFault (moment t.disk).state (moment n.disk).state p.session t.ledger n.ledger → AddsFault moment p.session t n → Ends session [] t.ledger.entries t n
  stopped_now noted a = subst (λ (k : ℕ). Ends k [] t.ledger.entries t n) mine (stopped_ends moment p t n noted a)

  pub stopped_adds : {A F : Type 0} (result : Result A F) → Noted result → Added result → OnErr result (AddsTried session change [] s n)
  stopped_adds (Ok value) noted a = tt
  stopped_adds (Err fault) noted a = tried_both moment session change s t tried [] t.ledger.entries n (stopped_now noted a)

  module _ (count : ℕ) (needed : IsNeeded moment s (history s.ledger) change count)
      (fits : count ≤ length (unused_pages t.ledger)) (next : sequence_at (base_of s) (history s.ledger) < 2 ^ 64 - 1) where
    stopped_by : is_pinned session (history t.ledger) ≡ true → NotesFault (moment t.disk).state (moment n.disk).state p.session t.ledger n.ledger → AddsFault moment p.session t n →
        (fault : CommitFault) → IsStoppedSince (moment t.disk).state.faults (moment n.disk).state.faults (length n.ledger.entries) fault →
        IsUncommitted moment session change n fault
    stopped_by pinned noted a (faults.SequenceEnd place) why = absurd why
    stopped_by pinned noted a (faults.Full most free place) why = absurd why
    stopped_by pinned noted a (faults.Disk place) why =
        let ends : Ends session [] t.ledger.entries t n = stopped_now noted a in
        let same : history n.ledger ≡ history t.ledger = ap (λ (es : List Entry). reverse es) ends.entries_are in (
          why.0,
          fault_seen (moment t.disk).state (moment n.disk).state session t.ledger n.ledger pinned
              (subst (λ (k : ℕ). NotesFault (moment t.disk).state (moment n.disk).state k t.ledger n.ledger) mine noted) why.1,
          next_there moment t n ends.adds.start (history n.ledger) same
              (subst (λ (k : ℕ). k < 2 ^ 64 - 1) (sym (sequence_is moment session change s t tried)) next),
          fits_there moment t n ends.adds.start (history n.ledger) same change count (needed_then moment session change s t tried count needed) fits,
        )
    stopped_by pinned noted a faults.Memory why = tt

    pub stopped_causes : {A : Type 0} (result : Result A CommitFault) → is_pinned session (history s.ledger) ≡ true → Noted result → Added result →
        IfErr result (IsStoppedSince (moment t.disk).state.faults (moment n.disk).state.faults (length n.ledger.entries)) →
        IfErr result (IsUncommitted moment session change n)
    stopped_causes (Ok value) pinned noted a why = tt
    stopped_causes (Err fault) pinned noted a why = stopped_by (pinned_then moment session change s t tried pinned) noted a fault why

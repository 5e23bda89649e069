-- What turns find and add.
use Rattle.std.proofs.Common.{◌≡◌, ◌∙◌, ℕ, ◌-◌, Bool, true, false, not, if◌then◌else◌, List, [], ◌∷◌, ◌++◌, length, take, Result, Ok, Err, OnOk, OnErr, IfOk, IfErr, refl, ap, sym, arith, append-nil, length-append}
use Rattle.std.proofs.Math.Seq.{take-append_seam}
use Rattle.std.proofs.lemmas.Bool.{and_parts, not-true}
use Rattle.std.proofs.lemmas.List.Elements.{filter-append}
use Rattle.event_core.proofs.Tests.{both_not}
use Rattle.turn_lock.specs.Owners.{is_owned_by, none_of, only_of, ExtendsByOthers, ExtendsByOwn}
use Rattle.prepared_commits.specs.Event.{Event}
use Rattle.prepared_commits.specs.Events.{events, owner_of}
use Rattle.prepared_commits.specs.Standings.{Standing}
use Rattle.array_store.specs.declared.store.start.Start.{Start}
use Rattle.array_store.specs.Growth.{AddsEvents}
use Rattle.array_store.specs.Starts.{start_of}
use Rattle.array_store.specs.Turns.{found_before, own_events, reap_events, Adds}
use Rattle.array_store.specs.ToldLaws.{TurnsAddOwn, TurnsFind}

-- ---- the laws

pub before_own : (own xs new : List Event) → new ≡ xs ++ own → found_before own new ≡ xs
before_own own xs new e =
    let count : length new - length own ≡ length xs = omega (arith, ap length e, length-append xs own) in
    ap (λ (n : ℕ). take n new) count ∙ ap (take (length xs)) e ∙ take-append_seam xs own

pub turns_find : TurnsFind
turns_find session own old new turn = before_own own (old ++ turn.others) new turn.grown

not_kept : (b : Bool) (event : Event) (events : List Event) → b ≡ false → events ≡ [] → (if b then event ∷ events else events) ≡ []
not_kept true event events e f = absurd (both_not true e refl)
not_kept false event events e f = f

none_own : (session : ℕ) (others : List Event) → none_of owner_of session others ≡ true → own_events session others ≡ []
none_own session [] e = refl
none_own session (event ∷ others) e =
    let p : (not (is_owned_by (owner_of event) session) ≡ true) × (none_of owner_of session others ≡ true) =
    and_parts (not (is_owned_by (owner_of event) session)) (none_of owner_of session others) e in
    not_kept (is_owned_by (owner_of event) session) event (own_events session others) (not-true _ p.0) (none_own session others p.1)

pub turns_add_own : TurnsAddOwn
turns_add_own session own old new turn =
    let mine : Event → Bool = λ event. is_owned_by (owner_of event) session in
    ap (own_events session) turn.grown
    ∙ filter-append mine (old ++ turn.others) own
    ∙ ap (λ (es : List Event). es ++ own_events session own)
    (filter-append mine old turn.others ∙ ap (λ (es : List Event). own_events session old ++ es) (none_own session turn.others turn.theirs) ∙ append-nil (own_events session old))

-- ---- one call in a turn

-- a turn that has begun has found what others had added
pub begun : (session : ℕ) (old new xs : List Event) → ExtendsByOthers owner_of session old xs → new ≡ xs → Adds session [] old new
begun session old new xs more e = record { others = more.0; theirs = more.2; grown = e ∙ more.1 ∙ sym (append-nil (old ++ more.0)) }

module _ {D : Type 0} {own : List Event} {s t : Standing D} (adds : AddsEvents own s t) where
  pub same_start : (start : Start D) → start_of s ≡ start → start_of t ≡ start
  same_start start e = adds.start ∙ e

  pub extends_own : (session : ℕ) (seen : List Event) → events s ≡ seen → only_of owner_of session own ≡ true → ExtendsByOwn owner_of session seen (events t)
  extends_own session seen e only = (own, adds.grown ∙ ap (λ (es : List Event). es ++ own) e, only)

  pub adds_own : (session : ℕ) (old seen new : List Event) → Adds session [] old seen → events s ≡ seen → new ≡ events t → Adds session own old new
  adds_own session old seen new found e f = record {
    others = found.others;
    theirs = found.theirs;
    grown = f ∙ adds.grown ∙ ap (λ (es : List Event). es ++ own) (e ∙ found.grown ∙ append-nil (old ++ found.others));
  }

-- ---- by the answer of a call

pub if_on : {A F : Type 0} (result : Result A F) (P : A → Type 0) (Q : Type 0) (R : A → Type 0) → ((value : A) → P value → Q → R value) → IfOk result P → OnOk result Q → IfOk result R
if_on (Ok value) P Q R f p q = f value p q
if_on (Err fault) P Q R f p q = tt

pub if_both : {A F : Type 0} (result : Result A F) (P Q R : A → Type 0) → ((value : A) → P value → Q value → R value) → IfOk result P → IfOk result Q → IfOk result R
if_both (Ok value) P Q R f p q = f value p q
if_both (Err fault) P Q R f p q = tt

pub on_both : {A F : Type 0} (result : Result A F) (P Q R : Type 0) → (P → Q → R) → OnOk result P → OnOk result Q → OnOk result R
on_both (Ok value) P Q R f p q = f p q
on_both (Err fault) P Q R f p q = tt

pub on_err : {A F : Type 0} (P Q : Type 0) (result : Result A F) → (P → Q) → OnErr result P → OnErr result Q
on_err P Q (Ok value) f p = tt
on_err P Q (Err fault) f p = f p

pub if_left : {A F : Type 0} (result : Result A F) (P : F → Type 0) (Q : Type 0) (R : F → Type 0) → ((fault : F) → P fault → Q → R fault) → IfErr result P → OnErr result Q → IfErr result R
if_left (Ok value) P Q R f p q = tt
if_left (Err fault) P Q R f p q = f fault p q

pub if_err : {A F : Type 0} (P Q : F → Type 0) (result : Result A F) → ((fault : F) → P fault → Q fault) → IfErr result P → IfErr result Q
if_err P Q (Ok value) f p = tt
if_err P Q (Err fault) f p = f fault p

-- what a call adds that adds these just where it is done
abbrev pub done_events : {A F : Type 0} → Result A F → List Event → List Event
done_events (Ok value) own = own
done_events (Err fault) own = []

pub nothing_added : {D : Type 0} (s t : Standing D) → t ≡ s → AddsEvents [] s t
nothing_added s t e = record { start = ap start_of e; grown = ap events e ∙ sym (append-nil (events s)) }

pub done_adds : {A F D : Type 0} (result : Result A F) (own : List Event) (s t : Standing D) → OnOk result (AddsEvents own s t) → OnErr result (t ≡ s) →
    AddsEvents (done_events result own) s t
done_adds (Ok value) own s t ok err = ok
done_adds (Err fault) own s t ok err = nothing_added s t err

pub done_only : {A F : Type 0} (result : Result A F) (session : ℕ) (own : List Event) → only_of owner_of session own ≡ true → only_of owner_of session (done_events result own) ≡ true
done_only (Ok value) session own only = only
done_only (Err fault) session own only = refl

-- what a reap adds
abbrev pub reaped : {F : Type 0} → Result Bool F → List Event
reaped (Ok comes) = reap_events comes
reaped (Err fault) = []

pub reap_adds : {F D : Type 0} (result : Result Bool F) (s t : Standing D) → IfOk result (λ comes. AddsEvents (reap_events comes) s t) → OnErr result (t ≡ s) →
    AddsEvents (reaped result) s t
reap_adds (Ok comes) s t ok err = ok
reap_adds (Err fault) s t ok err = nothing_added s t err

reap_only_if : (comes : Bool) (session : ℕ) → only_of owner_of session (reap_events comes) ≡ true
reap_only_if true session = refl
reap_only_if false session = refl

pub reap_only : {F : Type 0} (result : Result Bool F) (session : ℕ) → only_of owner_of session (reaped result) ≡ true
reap_only (Ok comes) session = reap_only_if comes session
reap_only (Err fault) session = refl

pub reap_ok : {F : Type 0} (result : Result Bool F) (session : ℕ) (old new : List Event) → Adds session (reaped result) old new →
    IfOk result (λ comes. Adds session (reap_events comes) old new)
reap_ok (Ok comes) session old new adds = adds
reap_ok (Err fault) session old new adds = tt

pub reap_err : {F : Type 0} (result : Result Bool F) (session : ℕ) (old new : List Event) → Adds session (reaped result) old new → OnErr result (Adds session [] old new)
reap_err (Ok comes) session old new adds = tt
reap_err (Err fault) session old new adds = adds

-- Changes that are fresh after an open pin.
use Rattle.std.proofs.Common.{◌≡◌, ◌∙◌, ℕ, ◌+◌, ◌<◌, List, [], ◌∷◌, ◌++◌, length, drop, reverse, IsTrue, ap, sym, arith, append_assoc}
use Rattle.std.proofs.Math.Seq.{drop-append_seam}
use Rattle.std.proofs.lemmas.List.{reverse-append, reverse-reverse, length-reverse}
use Rattle.logical_plan.specs.declared.names.Names.{Names}
use Rattle.plan_changes.specs.declared.change.Change.{Change}
use Rattle.event_core.specs.declared.entry.Entry.{Entry}
use Rattle.event_core.specs.declared.entry.Entry.TheVariants.{Pin}
use Rattle.event_core.specs.History.{History, names_at, up_to}
use Rattle.store_versions.specs.Pins.{PlaceTells}
use Rattle.store_versions.proofs.Pins.{beginnings_are_kept, places_tell_pins}
use Rattle.array_store.specs.Fresh.{IsFresh, is_fresh}
use Rattle.array_store.proofs.FreshLaws.{fresh_are_left}
use Rattle.store_ledger.specs.declared.pinned.Pinned.{Pinned}
use Rattle.store_ledger.specs.Ledger.{LedgerState, IsOpenPin, history}

-- an open pin is one of the entries
pub place_within : (ledger : LedgerState) (pinned : Pinned) → IsOpenPin ledger pinned → pinned.place < length ledger.entries
place_within ledger pinned o =
    let tells : PlaceTells (history ledger) o.before = places_tell_pins pinned.session (history ledger) o.before o.begun in
    omega (arith, o.place, tells.within, length-reverse ledger.entries)

-- the entries behind the one that has `before` behind it
behind : (entries : List Entry) (entry : Entry) (later before : History) (place : ℕ) → reverse entries ≡ later ++ entry ∷ before → length before ≡ place →
    drop (place + 1) entries ≡ reverse later
behind entries entry later before place e at =
    let first : List Entry = reverse (entry ∷ before) in
    let parts : entries ≡ first ++ reverse later = sym (reverse-reverse entries) ∙ ap reverse e ∙ reverse-append later (entry ∷ before) in
    let count : place + 1 ≡ length first = omega (arith, at, length-reverse (entry ∷ before)) in
    ap (λ (n : ℕ). drop n entries) count ∙ ap (drop (length first)) parts ∙ drop-append_seam first (reverse later)

-- what was before an open pin is told by its place
begins : (ledger : LedgerState) (pinned : Pinned) (o : IsOpenPin ledger pinned) (later before : History) →
    history ledger ≡ later ++ Pin pinned.session ∷ before → length before ≡ pinned.place → o.before ≡ before
begins ledger pinned o later before e at =
    let h : History = history ledger in
    let tells : PlaceTells h o.before = places_tell_pins pinned.session h o.before o.begun in
    let parts : h ≡ (later ++ Pin pinned.session ∷ []) ++ before = e ∙ sym (append_assoc later (Pin pinned.session ∷ []) before) in
    let found : up_to (length before) h ≡ before = ap (up_to (length before)) parts ∙ beginnings_are_kept (later ++ Pin pinned.session ∷ []) before in
    let count : length o.before ≡ length before = sym o.place ∙ sym at in
    sym tells.history ∙ ap (λ (n : ℕ). up_to n h) count ∙ found

pub fresh_since : (ledger : LedgerState) (pinned : Pinned) (change : Change) → IsOpenPin ledger pinned →
    IsTrue (is_fresh (drop (pinned.place + 1) ledger.entries) (names_at ledger.base (history ledger)) pinned.names change) →
    (later before : History) → history ledger ≡ later ++ Pin pinned.session ∷ before → length before ≡ pinned.place →
    IsFresh ledger.base later (Pin pinned.session ∷ before) change
fresh_since ledger pinned change o fresh later before e at =
    let base = ledger.base in
    let entries : drop (pinned.place + 1) ledger.entries ≡ reverse later = behind ledger.entries (Pin pinned.session) later before pinned.place e at in
    let names : pinned.names ≡ names_at base before = o.names ∙ ap (names_at base) (begins ledger pinned o later before e at) in
    let same : is_fresh (drop (pinned.place + 1) ledger.entries) (names_at base (history ledger)) pinned.names change
    ≡ is_fresh (reverse later) (names_at base (later ++ Pin pinned.session ∷ before)) (names_at base before) change =
    ap (λ (es : List Entry). is_fresh es (names_at base (history ledger)) pinned.names change) entries
    ∙ ap (λ (h : History). is_fresh (reverse later) (names_at base h) pinned.names change) e
    ∙ ap (λ (ns : Names). is_fresh (reverse later) (names_at base (later ++ Pin pinned.session ∷ before)) ns change) names in
    fresh_are_left base later (Pin pinned.session ∷ before) change (sym same ∙ fresh)

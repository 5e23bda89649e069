-- What a ledger keeps, as its parts stand after a call.
use Rattle.std.proofs.Common.{◌≡◌, ◌∙◌, ℕ, suc, ◌+◌, ◌-◌, ◌*◌, ◌≤◌, Bool, true, false, not, ◌&&◌, ◌||◌, if◌then◌else◌, nat_eq, nat_le, nat_lt, List, [], ◌∷◌, ◌++◌, length, reverse, Some, IsTrue, refl, ap, sym, subst, arith}
use Rattle.std.specs.List.{filter, list_any}
use Rattle.std.proofs.lemmas.Bool.{and_parts}
use Rattle.std.proofs.lemmas.Bool.Decides.{nat_tests}
use Rattle.std.proofs.lemmas.List.{length-reverse}
use Rattle.store_versions.specs.Change.{Change}
use Rattle.version_reaper.specs.PageSets.{pages_below}
use Rattle.store_versions.specs.Used.{Used}
use Rattle.store_versions.specs.Entry.{Entry}
use Rattle.store_versions.specs.Entry.TheVariants.{Pin, Unpin, Commit, Reap}
use Rattle.store_versions.specs.Core.{Core}
use Rattle.event_core.specs.Allowed.{allows, is_pinned}
use Rattle.store_versions.specs.History.{History, pin_before}
use Rattle.store_versions.specs.Legal.{has_committed}
use Rattle.store_versions.specs.Pages.{is_live, is_awaiting}
use Rattle.store_versions.specs.Ready.{ReadyFor}
use Rattle.store_versions.specs.Replay.{core_at, core_after, is_core_live, is_core_awaiting}
use Rattle.store_versions.proofs.Tests.{filter_agrees}
use Rattle.store_versions.proofs.Cores.{core_tells_pages}
use Rattle.store_ledger.specs.declared.note.Note.{Note}
use Rattle.store_ledger.specs.declared.pinned.Pinned.{Pinned}
use Rattle.store_ledger.specs.Ledger.{LedgerState, IsOpenPin, MayReap, reserved_by, history, reserved, has_room, unused_pages, is_tried}
use Rattle.store_ledger.specs.Inner.Kept.{IsKept}
use Rattle.store_ledger.proofs.Pins.{one_more}
use Rattle.store_ledger.proofs.Keeping.{kept_as, kept_pin, kept_reap, kept_unpin, kept_commit, begun_of, one_fits, given_back}

any_agrees : (p q : ℕ → Bool) → ((x : ℕ) → p x ≡ q x) → (xs : List ℕ) → list_any p xs ≡ list_any q xs
any_agrees p q h [] = refl
any_agrees p q h (x ∷ xs) = ap (λ (b : Bool). b || list_any p xs) (h x) ∙ ap (λ (b : Bool). q x || b) (any_agrees p q h xs)

le_from : (n m : ℕ) → nat_le n m ≡ true → n ≤ m
le_from n m e = grind (arith, nat_tests)

-- the history has room
pub room_of : (ledger : LedgerState) (core : Core) (r er nr p n : ℕ) → IsKept ledger.base ledger.limit (reverse ledger.entries) ledger.notes core r er nr p → has_room ledger n ≡ true →
    length (reverse ledger.entries) + r + n ≤ ledger.limit
room_of ledger core r er nr p n k fits =
    let le : length ledger.entries + reserved ledger + n ≤ ledger.limit = le_from (length ledger.entries + reserved ledger + n) ledger.limit fits in
    let same : r ≡ reserved ledger = k.reserved in
    omega (arith, le, same, length-reverse ledger.entries)

-- a ledger after one more entry, as its parts stand then
pub next_kept : (base : Core) (limit : ℕ) (es fs : List Entry) (entry : Entry) (ns ms : List Note) (core lore : Core) (r er nr p : ℕ) →
    IsKept base limit (entry ∷ reverse es) ns core r er nr p → fs ≡ es ++ entry ∷ [] → ms ≡ ns → lore ≡ core → IsKept base limit (reverse fs) ms lore r er nr p
next_kept base limit es fs entry ns ms core lore r er nr p k ef em ec =
    kept_as base limit (entry ∷ reverse es) (reverse fs) ns ms core lore r r er nr p k (ap reverse ef ∙ one_more es entry) em ec refl

pub pin_keeps : (ledger now : LedgerState) (session : ℕ) (core core2 : Core) (r er nr p : ℕ) (es fs : List Entry) (ms : List Note) (er2 nr2 : ℕ) → ledger ≡ now →
    IsKept ledger.base ledger.limit (reverse ledger.entries) ledger.notes core r er nr p → IsTrue (not (is_pinned session (history now))) → has_room now 4 ≡ true →
    es ≡ ledger.entries → fs ≡ es ++ Pin session ∷ [] → ms ≡ ledger.notes → core2 ≡ core_after core (Pin session) →
    length ledger.entries + (2 * r + 7) ≤ er2 → length ledger.notes + (2 * r + 7) ≤ nr2 →
    IsKept ledger.base ledger.limit (reverse fs) ms core2 (r + 3) er2 nr2 p
pin_keeps ledger now session core core2 r er nr p es fs ms er2 nr2 same k free fits ee ef em ec re rn =
    let unpinned : IsTrue (not (is_pinned session (history ledger))) = subst (λ (l : LedgerState). IsTrue (not (is_pinned session (history l)))) (sym same) free in
    let room : length (reverse ledger.entries) + r + 4 ≤ ledger.limit = room_of ledger core r er nr p 4 k (subst (λ (l : LedgerState). has_room l 4 ≡ true) (sym same) fits) in
    let long : length (reverse ledger.entries) + (2 * r + 7) ≤ er2 = omega (arith, re, length-reverse ledger.entries) in
    next_kept ledger.base ledger.limit ledger.entries fs (Pin session) ledger.notes ms (core_after core (Pin session)) core2 (r + 3) er2 nr2 p
    (kept_pin ledger.base ledger.limit (reverse ledger.entries) ledger.notes core r er nr p session er2 nr2 k unpinned room long rn)
    (ef ∙ ap (λ (xs : List Entry). xs ++ Pin session ∷ []) ee) em ec

pub reap_keeps : (ledger now : LedgerState) (core core2 : Core) (r er nr p : ℕ) (fs : List Entry) (er2 : ℕ) → ledger ≡ now →
    IsKept ledger.base ledger.limit (reverse ledger.entries) ledger.notes core r er nr p → has_room now 1 ≡ true → MayReap now →
    fs ≡ ledger.entries ++ Reap ∷ [] → core2 ≡ core_after core Reap → length ledger.entries + (2 * r + 1) ≤ er2 →
    IsKept ledger.base ledger.limit (reverse fs) ledger.notes core2 r er2 nr p
reap_keeps ledger now core core2 r er nr p fs er2 same k fits may ef ec re =
    let room : length (reverse ledger.entries) + r + 1 ≤ ledger.limit = room_of ledger core r er nr p 1 k (subst (λ (l : LedgerState). has_room l 1 ≡ true) (sym same) fits) in
    let long : length (reverse ledger.entries) + (2 * r + 1) ≤ er2 = omega (arith, re, length-reverse ledger.entries) in
    next_kept ledger.base ledger.limit ledger.entries fs Reap ledger.notes ledger.notes (core_after core Reap) core2 r er2 nr p
    (kept_reap ledger.base ledger.limit (reverse ledger.entries) ledger.notes core r er nr p er2 k room (subst MayReap (sym same) may) long) ef refl ec

-- the core tells which pages await a reap
pub awaiting_told : (ledger : LedgerState) (core : Core) (r er nr p : ℕ) → IsKept ledger.base ledger.limit (reverse ledger.entries) ledger.notes core r er nr p →
    list_any (is_core_awaiting core) (pages_below core.limit) ≡ list_any (is_awaiting ledger.base (history ledger)) (pages_below ledger.base.limit)
awaiting_told ledger core r er nr p k =
    ap (λ (c : Core). list_any (is_core_awaiting c) (pages_below c.limit)) k.made
    ∙ any_agrees (is_core_awaiting (core_at ledger.base (history ledger))) (is_awaiting ledger.base (history ledger)) (λ page. (core_tells_pages ledger.base (history ledger) page).1) (pages_below ledger.base.limit)

pub unused_told : (ledger : LedgerState) (core : Core) (r er nr p : ℕ) → IsKept ledger.base ledger.limit (reverse ledger.entries) ledger.notes core r er nr p →
    filter (λ page. not (is_core_live core page)) (pages_below core.limit) ≡ unused_pages ledger
unused_told ledger core r er nr p k =
    ap (λ (c : Core). filter (λ page. not (is_core_live c page)) (pages_below c.limit)) k.made
    ∙ filter_agrees (λ page. not (is_core_live (core_at ledger.base (history ledger)) page)) (λ page. not (is_live ledger.base (history ledger) page))
    (λ page. ap not (core_tells_pages ledger.base (history ledger) page).0) (pages_below ledger.base.limit)

-- ---- unpins

-- what an unpin gives back, by its pin's place
given_by : (now : LedgerState) (pinned : Pinned) (o : IsOpenPin now pinned) (notes : List Note) (given : ℕ) →
    given ≡ (if list_any (λ note. nat_eq note.session pinned.session && (is_tried note.kind && nat_lt pinned.place note.after)) notes then 1 else 3) →
    given ≡ reserved_by notes (record { session = pinned.session; before = o.before })
given_by now pinned o notes given e =
    e ∙ ap (λ (place : ℕ). if list_any (λ note. nat_eq note.session pinned.session && (is_tried note.kind && nat_lt place note.after)) notes then 1 else 3) o.place

begun_in : (ledger now : LedgerState) (pinned : Pinned) (o : IsOpenPin now pinned) → ledger ≡ now → pin_before pinned.session (reverse ledger.entries) ≡ Some o.before
begun_in ledger now pinned o same = ap (λ (l : LedgerState). pin_before pinned.session (history l)) same ∙ o.begun

pub unpin_fits : (ledger now : LedgerState) (pinned : Pinned) (core : Core) (r er nr p : ℕ) → ledger ≡ now →
    IsKept ledger.base ledger.limit (reverse ledger.entries) ledger.notes core r er nr p → IsOpenPin now pinned → suc (length ledger.entries) ≤ er
unpin_fits ledger now pinned core r er nr p same k o =
    let fits : suc (length (reverse ledger.entries)) ≤ er = one_fits ledger.base ledger.limit (reverse ledger.entries) ledger.notes core r er nr p pinned.session o.before k (begun_in ledger now pinned o same) in
    omega (arith, fits, length-reverse ledger.entries)

pub unpin_gives : (ledger now : LedgerState) (pinned : Pinned) (core : Core) (r er nr p given : ℕ) → ledger ≡ now →
    IsKept ledger.base ledger.limit (reverse ledger.entries) ledger.notes core r er nr p → IsOpenPin now pinned →
    given ≡ (if list_any (λ note. nat_eq note.session pinned.session && (is_tried note.kind && nat_lt pinned.place note.after)) ledger.notes then 1 else 3) → given ≤ r
unpin_gives ledger now pinned core r er nr p given same k o e =
    let back : reserved_by ledger.notes (record { session = pinned.session; before = o.before }) ≤ r =
    given_back ledger.base ledger.limit (reverse ledger.entries) ledger.notes core r er nr p pinned.session o.before k (begun_in ledger now pinned o same) in
    let is : given ≡ reserved_by ledger.notes (record { session = pinned.session; before = o.before }) = given_by now pinned o ledger.notes given e in
    omega (arith, back, is)

pub unpin_keeps : (ledger now : LedgerState) (pinned : Pinned) (core core2 : Core) (r er er2 nr p given : ℕ) (fs : List Entry) → ledger ≡ now →
    IsKept ledger.base ledger.limit (reverse ledger.entries) ledger.notes core r er nr p → IsOpenPin now pinned →
    given ≡ (if list_any (λ note. nat_eq note.session pinned.session && (is_tried note.kind && nat_lt pinned.place note.after)) ledger.notes then 1 else 3) →
    fs ≡ ledger.entries ++ Unpin pinned.session ∷ [] → core2 ≡ core_after core (Unpin pinned.session) → er2 ≡ er →
    IsKept ledger.base ledger.limit (reverse fs) ledger.notes core2 (r - given) er2 nr p
unpin_keeps ledger now pinned core core2 r er er2 nr p given fs same k o e ef ec room =
    let is : given ≡ reserved_by ledger.notes (record { session = pinned.session; before = o.before }) = given_by now pinned o ledger.notes given e in
    let less : given ≤ r = unpin_gives ledger now pinned core r er nr p given same k o e in
    let left : (r - given) + reserved_by ledger.notes (record { session = pinned.session; before = o.before }) ≡ r = omega (arith, is, less) in
    subst (λ (n : ℕ). IsKept ledger.base ledger.limit (reverse fs) ledger.notes core2 (r - given) n nr p) (sym room)
    (next_kept ledger.base ledger.limit ledger.entries fs (Unpin pinned.session) ledger.notes ledger.notes (core_after core (Unpin pinned.session)) core2 (r - given) er nr p
    (kept_unpin ledger.base ledger.limit (reverse ledger.entries) ledger.notes core r er nr p pinned.session o.before (r - given) k (begun_in ledger now pinned o same) left)
    ef refl ec)

-- ---- commits

pub put_fits : (ledger now : LedgerState) (session : ℕ) (change : Change) (used : Used) (core : Core) (r er nr p : ℕ) → ledger ≡ now →
    IsKept ledger.base ledger.limit (reverse ledger.entries) ledger.notes core r er nr p → IsTrue (allows now.base (history now) (Commit session change used)) → suc (length ledger.entries) ≤ er
put_fits ledger now session change used core r er nr p same k ok =
    let allowed : IsTrue (allows ledger.base (history ledger) (Commit session change used)) =
    subst (λ (l : LedgerState). IsTrue (allows l.base (history l) (Commit session change used))) (sym same) ok in
    let b : (before : History) × (pin_before session (reverse ledger.entries) ≡ Some before) = begun_of session (reverse ledger.entries) (and_parts (is_pinned session (reverse ledger.entries)) _ allowed).0 in
    let fits : suc (length (reverse ledger.entries)) ≤ er = one_fits ledger.base ledger.limit (reverse ledger.entries) ledger.notes core r er nr p session b.0 k b.1 in
    omega (arith, fits, length-reverse ledger.entries)

pub put_keeps : (ledger now : LedgerState) (session : ℕ) (ready commit : ReadyFor) (change : Change) (used : Used) (core core2 : Core) (r er er2 nr p : ℕ) (fs : List Entry) →
    ledger ≡ now → ready ≡ commit → change ≡ ready.change → used ≡ ready.used →
    IsKept ledger.base ledger.limit (reverse ledger.entries) ledger.notes core r er nr p →
    IsTrue (allows now.base (history now) (Commit session commit.change commit.used)) → has_committed session (history now) ≡ false → has_room now 1 ≡ true →
    fs ≡ ledger.entries ++ Commit session change used ∷ [] → core2 ≡ core_after core (Commit session ready.change ready.used) → er2 ≡ er →
    IsKept ledger.base ledger.limit (reverse fs) ledger.notes core2 r er2 nr p
put_keeps ledger now session ready commit change used core core2 r er er2 nr p fs same over is_change is_used k ok first fits ef ec same_room =
    let allowed_by : IsTrue (allows now.base (history now) (Commit session ready.change ready.used)) =
    subst (λ (c : ReadyFor). IsTrue (allows now.base (history now) (Commit session c.change c.used))) (sym over) ok in
    let allowed : IsTrue (allows ledger.base (history ledger) (Commit session ready.change ready.used)) =
    subst (λ (l : LedgerState). IsTrue (allows l.base (history l) (Commit session ready.change ready.used))) (sym same) allowed_by in
    let is_first : has_committed session (history ledger) ≡ false = subst (λ (l : LedgerState). has_committed session (history l) ≡ false) (sym same) first in
    let room : length (reverse ledger.entries) + r + 1 ≤ ledger.limit = room_of ledger core r er nr p 1 k (subst (λ (l : LedgerState). has_room l 1 ≡ true) (sym same) fits) in
    subst (λ (n : ℕ). IsKept ledger.base ledger.limit (reverse fs) ledger.notes core2 r n nr p) (sym same_room)
    (next_kept ledger.base ledger.limit ledger.entries fs (Commit session ready.change ready.used) ledger.notes ledger.notes (core_after core (Commit session ready.change ready.used)) core2 r er nr p
    (kept_commit ledger.base ledger.limit (reverse ledger.entries) ledger.notes core r er nr p session ready.change ready.used k allowed is_first room)
    (ef ∙ ap (λ (c : Change). ledger.entries ++ Commit session c used ∷ []) is_change ∙ ap (λ (u : Used). ledger.entries ++ Commit session ready.change u ∷ []) is_used) refl ec)

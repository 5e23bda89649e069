-- A ledger with more entries or notes, as its parts stand.
use Rattle.std.proofs.Common.{◌≡◌, ◌∙◌, ℕ, ◌+◌, ◌≤◌, Bool, false, if◌then◌else◌, List, [], ◌∷◌, ◌++◌, length, reverse, Option, None, Some, IfSome, refl, ap, sym, subst, arith}
use Rattle.std.specs.List.{sum_by}
use Rattle.std.proofs.lemmas.Bool.{eq-eqb}
use Rattle.std.proofs.lemmas.List.{length-reverse}
use Rattle.store_versions.specs.Core.{Core}
use Rattle.store_versions.specs.Entry.{Entry}
use Rattle.store_versions.specs.Entry.TheVariants.{Pin}
use Rattle.store_versions.specs.History.{History, names_at, open_pins, pin_before}
use Rattle.store_versions.specs.Replay.{core_at}
use Rattle.store_ledger.specs.declared.note.Note.{Note}
use Rattle.store_ledger.specs.declared.note.NoteKind.{NoteKind}
use Rattle.store_ledger.specs.declared.pinned.Pinned.{Pinned}
use Rattle.store_ledger.specs.Ledger.{IsOpenPin, LedgerState, has_note, has_under, history, with_entries, with_notes}
use Rattle.store_ledger.specs.Inner.Kept.{IsKept, HasVersionRoom, entries_to_come, notes_to_come}
use Rattle.store_ledger.proofs.Keeping.{kept_as}
use Rattle.store_ledger.proofs.Pins.{one_more}

module _ (ledger now : LedgerState) (same : ledger ≡ now) where
  pub entered : (more es : List Entry) (ns : List Note) → es ≡ ledger.entries ++ more → ns ≡ ledger.notes →
      ◌≡◌ {A = LedgerState} (record ledger { entries = es; notes = ns }) (with_entries more now)
  entered more es ns e n = (λ i. record ledger { entries = e i; notes = n i }) ∙ ap (with_entries more) same

  pub noted : (more ns : List Note) → ns ≡ ledger.notes ++ more → ◌≡◌ {A = LedgerState} (record ledger { notes = ns }) (with_notes more now)
  noted more ns n = (λ i. record ledger { notes = n i }) ∙ ap (with_notes more) same

  module _ (core : Core) (made : core ≡ core_at ledger.base (history ledger)) where
    pub entries_told : core.entries ≡ length now.entries
    entries_told = ap (λ (k : Core). k.entries) made ∙ length-reverse ledger.entries ∙ ap (λ (l : LedgerState). length l.entries) same

    pub names_told : core.names ≡ names_at now.base (history now)
    names_told = ap (λ (k : Core). k.names) made ∙ ap (λ (l : LedgerState). names_at l.base (history l)) same

pub none_yet : (kinds : NoteKind → Bool) (notes : List Note) (session : ℕ) (begun : Option History) → has_under kinds notes session begun ≡ false →
    IfSome begun (λ before. has_note kinds notes (record { session = session; before = before }) ≡ false)
none_yet kinds notes session None e = tt
none_yet kinds notes session (Some before) e = e

-- ---- more room

more_kept : (base : Core) (limit : ℕ) (h : History) (notes : List Note) (core : Core) (r er nr p er2 nr2 : ℕ) → IsKept base limit h notes core r er nr p → er ≤ er2 → nr ≤ nr2 →
    IsKept base limit h notes core r er2 nr2 p
more_kept base limit h notes core r er nr p er2 nr2 k e n =
    let fe : length h + sum_by (entries_to_come h) (open_pins h) ≤ er2 = omega (arith, k.for_entries, e) in
    let fn : length notes + sum_by (notes_to_come notes) (open_pins h) ≤ nr2 = omega (arith, k.for_notes, n) in
    record {
      begins = k.begins;
      allowed = k.allowed;
      made = k.made;
      noted = k.noted;
      reserved = k.reserved;
      within = k.within;
      for_entries = fe;
      for_notes = fn;
      marks = k.marks;
      few = k.few;
    }

pub kept_with_room : (base : Core) (limit : ℕ) (es fs : List Entry) (ns ms : List Note) (core lore : Core) (r er nr p er2 nr2 : ℕ) → IsKept base limit (reverse es) ns core r er nr p →
    fs ≡ es → ms ≡ ns → lore ≡ core → er ≤ er2 → nr ≤ nr2 → IsKept base limit (reverse fs) ms lore r er2 nr2 p
kept_with_room base limit es fs ns ms core lore r er nr p er2 nr2 k ef em ec e n =
    kept_as base limit (reverse es) (reverse fs) ns ms core lore r r er2 nr2 p (more_kept base limit (reverse es) ns core r er nr p er2 nr2 k e n) (ap reverse ef) em ec refl

pub versions_with_room : (es fs : List Entry) (old new : ℕ) → HasVersionRoom (reverse es) old → fs ≡ es → old ≤ new → HasVersionRoom (reverse fs) new
versions_with_room es fs old new room ef le =
    let more : HasVersionRoom (reverse es) new = omega (arith, room, le) in
    subst (λ (xs : List Entry). HasVersionRoom (reverse xs) new) (sym ef) more

-- ---- a pin that was just made

pub opened : (ledger : LedgerState) (session : ℕ) (pinned : Pinned) (es : List Entry) (ns : List Note) (core : Core) → core ≡ core_at ledger.base (history ledger) →
    es ≡ ledger.entries ++ Pin session ∷ [] → pinned ≡ record { session = session; place = core.entries; names = core.names } →
    IsOpenPin (record ledger { entries = es; notes = ns }) pinned
opened ledger session pinned es ns core made e is = record {
  before = history ledger;
  begun = ap (λ (s : ℕ). pin_before s (reverse es)) (ap (λ (q : Pinned). q.session) is) ∙ ap (pin_before session) (ap reverse e ∙ one_more ledger.entries (Pin session))
      ∙ ap (λ (b : Bool). if b then Some (history ledger) else pin_before session (history ledger)) (eq-eqb session session refl);
  place = ap (λ (q : Pinned). q.place) is ∙ ap (λ (k : Core). k.entries) made;
  names = ap (λ (q : Pinned). q.names) is ∙ ap (λ (k : Core). k.names) made;
}

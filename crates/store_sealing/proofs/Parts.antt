-- The parts of a store, with the ledger that preparing leaves.
use Rattle.std.proofs.Common.{◌≡◌, ◌∙◌, ◌+◌, ◌≤◌, ℕ, Bool, true, false, ◌&&◌, List, [], ◌∷◌, length, map, Result, Ok, Err, OnOk, refl, ap, sym, subst}
use Rattle.std.proofs.lemmas.List.{length-reverse}
use Rattle.afl_outside.specs.Disk.{Moment}
use Rattle.chunk_map.specs.declared.directory.Directory.{Directory}
use Rattle.chunk_map.specs.Entries.{AreRising}
use Rattle.logical_plan.specs.declared.names.Names.{Names}
use Rattle.plan_changes.specs.declared.change.Change.{Change}
use Rattle.plan_changes.specs.Changes.{name_of, newest_of}
use Rattle.version_catalog.specs.Catalogs.{names_in}
use Rattle.event_core.specs.declared.entry.Entry.TheVariants.{Reap}
use Rattle.event_core.specs.Bases.{sequence_at}
use Rattle.event_core.specs.History.{History, names_at}
use Rattle.store_ledger.specs.Ledger.{LedgerState, history}
use Rattle.store_ledger.proofs.Pins.{one_more}
use Rattle.store_versions.specs.Seen.{seen}
use Rattle.store_versions.specs.Versions.{MadeVersion, directory_of, versions_at}
use Rattle.prepared_commits.specs.At.{IsAt}
use Rattle.prepared_commits.specs.Standings.{Standing, base_of, commit_places, given_of, made_at, versions_after, with_entries}
use Rattle.prepared_commits.specs.Keeping.{Keeping}
use Rattle.prepared_commits.proofs.AtOn.{places_same, reaped_if as reaped_standing}
use Rattle.prepared_commits.specs.declared.commits.fault.PrepareFault.{PrepareFault}
use Rattle.prepared_commits.specs.declared.commits.fault.PrepareFault.TheVariants.{SequenceEnd, Full, Memory}
use Rattle.prepared_commits.specs.Needs.{newest_now, next_sequence, or_empty}
use Rattle.prepared_commits.proofs.CostLaws.{have}
use Rattle.prepared_commits.proofs.Newest.{newest_rises}
use Rattle.prepared_commits.specs.Parts.{IsLeft as IsLeftBy, is_short, newest_at, reaped}
use Rattle.store_sealing.specs.Left.{IsLeft, reaped_if}
use Rattle.store_sealing.proofs.Reaped.{at_reaped}

-- ---- the newest directory

pub newest_same : {D : Type 0} (moment : D → Moment) (s : Standing D) (k : Keeping) (change : Change) → IsAt moment s k → newest_at (names_in k.catalog) k.rows (length s.ledger.entries) change ≡ newest_now s change
newest_same moment s k change x =
    let name : List ℕ = name_of change in
    let h : History = history s.ledger in
    let sees : seen (length s.ledger.entries) k.rows ≡ versions_after s h = ap (λ (n : ℕ). seen n k.rows) (sym (length-reverse s.ledger.entries)) ∙ x.kept.versions.seen.now in
    ap (λ (names : Names). newest_at names k.rows (length s.ledger.entries) change) x.kept.names
    ∙ ap (λ (vs : List MadeVersion). or_empty (directory_of name (newest_of (names_at s.ledger.base h).arrays name) vs)) sees

pub newest_rise : {D : Type 0} (moment : D → Moment) (s : Standing D) (k : Keeping) (change : Change) → IsAt moment s k → AreRising (newest_at (names_in k.catalog) k.rows (length s.ledger.entries) change).entries
newest_rise moment s k change x =
    let names : Names = names_at s.ledger.base (history s.ledger) in
    subst (λ (d : Directory). AreRising d.entries) (sym (newest_same moment s k change x))
    (newest_rises names (versions_after s (history s.ledger)) (name_of change) (newest_of names.arrays (name_of change)) (have moment s k x) x.kept.versions.now)

-- a reap leaves it, and the next sequence number
pub newest_reaped : {D : Type 0} (comes : Bool) (s : Standing D) (change : Change) → newest_now (reaped_if comes s) change ≡ newest_now s change
newest_reaped true s change =
    let name : List ℕ = name_of change in
    let later : History = history (with_entries (Reap ∷ []) s).ledger in
    ap (λ (places : List ℕ). or_empty (directory_of name (newest_of (names_at s.ledger.base later).arrays name) (versions_at s.ledger.base (record { first = s.first; made = made_at places s.made }) later)))
    (places_same 0 s.ledger.entries Reap refl)
    ∙ ap (λ (h : History). or_empty (directory_of name (newest_of (names_at s.ledger.base h).arrays name) (versions_at s.ledger.base (given_of s) h))) (one_more s.ledger.entries Reap)
newest_reaped false s change = refl

pub next_reaped : {D : Type 0} (comes : Bool) (s : Standing D) → next_sequence (reaped_if comes s) ≡ next_sequence s
next_reaped true s = ap (λ (h : History). sequence_at (base_of s) h + 1) (one_more s.ledger.entries Reap)
next_reaped false s = refl

-- ---- the ledger

pub record Comes {D : Type 0} (s : Standing D) (l : LedgerState) : Type 0 where
  pub comes : Bool
  pub is : record s { ledger = l } ≡ reaped_if comes s

pub comes_of : {A D : Type 0} (n : ℕ) (s : Standing D) (r : Result A PrepareFault) (l : LedgerState) → IsLeftBy n s.ledger r l → Comes s l
comes_of n s (Ok p) l left = record { comes = is_short n s.ledger; is = reaped_standing s l (is_short n s.ledger) left }
comes_of n s (Err SequenceEnd) l left = absurd left
comes_of n s (Err (Full most free)) l left = record { comes = is_short n s.ledger; is = reaped_standing s l (is_short n s.ledger) left }
comes_of n s (Err Memory) l left = record { comes = left.0 && is_short n s.ledger; is = reaped_standing s l (left.0 && is_short n s.ledger) left.1 }

pub left_of : {A D : Type 0} (n : ℕ) (s : Standing D) (r : Result A PrepareFault) (l : LedgerState) → IsLeftBy n s.ledger r l → IsLeft n s r (record s { ledger = l })
left_of n s (Ok p) l left = reaped_standing s l (is_short n s.ledger) left
left_of n s (Err SequenceEnd) l left = absurd left
left_of n s (Err (Full most free)) l left = reaped_standing s l (is_short n s.ledger) left
left_of n s (Err Memory) l left = (left.0, reaped_standing s l (left.0 && is_short n s.ledger) left.1)

pub at_left : {A D : Type 0} (moment : D → Moment) (n : ℕ) (s : Standing D) (k : Keeping) (r : Result A PrepareFault) (l : LedgerState) → IsAt moment s k → IsLeftBy n s.ledger r l → IsAt moment (record s { ledger = l }) k
at_left moment n s k r l x left =
    let c = comes_of n s r l left in
    subst (λ (t : Standing _). IsAt moment t k) (sym c.is) (at_reaped moment s k c.comes x)

-- ---- room

-- what is said of two lists
pub two_lists : {A B : Type 0} (xs xs' : List A) (ys ys' : List B) (P : List A → List B → Type 0) → xs' ≡ xs → ys' ≡ ys → P xs ys → P xs' ys'
two_lists xs xs' ys ys' P a b p = subst (λ (x : List _). P x ys') (sym a) (subst (λ (y : List _). P xs y) (sym b) p)

-- what holds anyway holds where a call succeeds
pub when_ok : {T E : Type 0} (result : Result T E) (P : Type 0) → P → OnOk result P
when_ok (Ok x) P p = p
when_ok (Err e) P p = tt

-- A pin's source has each version that its names have.
use Rattle.std.proofs.Common.{◌≡◌, ◌∙◌, ◌≤◌, ℕ, Bool, true, false, cond, ◌||◌, nat_eq, List, [], ◌∷◌, Option, Some, inl, refl, sym, subst, ap, arith}
use Rattle.std.specs.List.{AllByRecursion, list_any}
use Rattle.afl_outside.specs.Disk.{Moment}
use Rattle.chunk_source.specs.Source.{Reads}
use Rattle.logical_plan.specs.declared.names.NameEntry.{NameEntry}
use Rattle.plan_changes.specs.Changes.{entry_named}
use Rattle.plan_changes.specs.Stored.{is_before, AreStored, IsStored, NamesRise, RiseBetween}
use Rattle.plan_changes.specs.Typed.{IsVersionOf}
use Rattle.plan_changes.proofs.StoredLaws.{names_in, tail_rises}
use Rattle.session_sources.specs.declared.reading.Reading.{Reading}
use Rattle.session_sources.specs.Pinned.{pinned_state}
use Rattle.session_sources.proofs.VersionLaws.{pinned_sources_hold_versions}
use Rattle.backup_writing.specs.Writing.{leaf_of, ReadsEach}
use Rattle.backup_writing.proofs.Databases.{all_behind, before_differs, bytes_itself, equal_itself}

-- ---- each entry is found by its name

own_first : (e : NameEntry) (es : List NameEntry) → entry_named (e ∷ es) e.name ≡ Some e
own_first e es = ap (λ (b : Bool). cond b (Some e) (entry_named es e.name)) (bytes_itself e.name)

found_behind : (e : NameEntry) (all es : List NameEntry) → AllByRecursion (λ f. is_before e.name f.name ≡ true) es → AllByRecursion (λ f. entry_named all f.name ≡ Some f) es
    → AllByRecursion (λ f. entry_named (e ∷ all) f.name ≡ Some f) es
found_behind e all [] later found = tt
found_behind e all (f ∷ es) later found =
    (ap (λ (b : Bool). cond b (Some e) (entry_named all f.name)) (before_differs e.name f.name later.0) ∙ found.0, found_behind e all es later.1 found.1)

all_found : (es : List NameEntry) → NamesRise (names_in es) → AllByRecursion (λ f. entry_named es f.name ≡ Some f) es
all_found [] rise = tt
all_found (e ∷ es) rise = (own_first e es, found_behind e es es (all_behind e es rise) (all_found es (tail_rises e es rise)))

-- ---- each version is among its array's

or_later : (a b : Bool) → b ≡ true → (a || b) ≡ true
or_later true b is = refl
or_later false b is = is

among_more : (n : ℕ) (ns xs : List ℕ) → AllByRecursion (λ x. list_any (λ v. nat_eq v x) ns ≡ true) xs → AllByRecursion (λ x. list_any (λ v. nat_eq v x) (n ∷ ns) ≡ true) xs
among_more n ns [] all = tt
among_more n ns (x ∷ xs) all = (or_later (nat_eq n x) (list_any (λ v. nat_eq v x) ns) all.0, among_more n ns xs all.1)

all_among : (ns : List ℕ) → AllByRecursion (λ x. list_any (λ v. nat_eq v x) ns ≡ true) ns
all_among [] = tt
all_among (n ∷ ns) = (ap (λ (b : Bool). b || list_any (λ v. nat_eq v n) ns) (equal_itself n), among_more n ns ns (all_among ns))

-- ---- so each is a leaf of the source

leaf_is : (arrays : List NameEntry) (e : NameEntry) (n : ℕ) → entry_named arrays e.name ≡ Some e → list_any (λ v. nat_eq v n) e.versions ≡ true → IsVersionOf (leaf_of e.name e.schema n) (entry_named arrays e.name)
leaf_is arrays e n found among = subst (λ (o : Option NameEntry). IsVersionOf (leaf_of e.name e.schema n) o) (sym found) (refl, inl among)

module _ {D : Type 0} (moment : D → Moment) (r : Reading D) where
  versions_read : (e : NameEntry) → entry_named r.lent.pinned.names.arrays e.name ≡ Some e → (low high : ℕ) (ns : List ℕ) → RiseBetween low high ns
      → AllByRecursion (λ x. list_any (λ v. nat_eq v x) e.versions ≡ true) ns
      → AllByRecursion (λ number. (1 ≤ number) × Reads (pinned_state moment r) (leaf_of e.name e.schema number)) ns
  versions_read e found low high [] rise among = tt
  versions_read e found low high (n ∷ ns) rise among = (
    (omega (arith, rise.0), pinned_sources_hold_versions moment r (leaf_of e.name e.schema n) (leaf_is r.lent.pinned.names.arrays e n found among.0)),
    versions_read e found n high ns rise.2 among.1,
  )

  entries_read : (es : List NameEntry) → AllByRecursion (λ e. entry_named r.lent.pinned.names.arrays e.name ≡ Some e) es → AllByRecursion IsStored es
      → AllByRecursion (ReadsEach (pinned_state moment r)) es
  entries_read [] found stored = tt
  entries_read (e ∷ es) found stored = (
    record { valid = stored.0.schema; each = versions_read e found.0 0 e.next e.versions stored.0.versions (all_among e.versions) },
    entries_read es found.1 stored.1,
  )

  pub names_are_read : AreStored r.lent.pinned.names → AllByRecursion (ReadsEach (pinned_state moment r)) r.lent.pinned.names.arrays
  names_are_read stored = entries_read r.lent.pinned.names.arrays (all_found r.lent.pinned.names.arrays stored.rising) stored.each

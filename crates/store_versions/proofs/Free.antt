-- No free page is live.
use Rattle.std.proofs.Common.{◌≡◌, ◌∙◌, ℕ, zero, suc, ◌+◌, ◌-◌, ◌<◌, ◌≤◌, Bool, true, false, not, ◌&&◌, ◌||◌, nat_eq, List, [], ◌∷◌, ◌++◌, refl, ap, sym, arith, ◌⊎◌, inl, inr}
use Rattle.std.specs.List.{filter, list_any, list_all}
use Rattle.std.proofs.lemmas.List.Folds.{list_any-append}
use Rattle.std.proofs.lemmas.Bool.{and_parts, and_from, or_parts, or_from, or_cases, not-true, not_from_false, eqb-true, eq-eqb, cases_eq, or_left, or_right}
use Rattle.plan_changes.specs.declared.change.Change.{Change}
use Rattle.plan_changes.specs.declared.change.Change.TheVariants.{Create, Store, Insert, Remove, RemoveVersions}
use Rattle.plan_changes.specs.Names.{Names}
use Rattle.plan_changes.specs.Allowed.{names_allow}
use Rattle.plan_changes.specs.Changes.{newest_of, name_of}
use Rattle.event_core.specs.PageSets.{holds, pages_from, pages_below}
use Rattle.event_core.specs.declared.entry.Used.{Used}
use Rattle.event_core.specs.declared.entry.Entry.TheVariants.{Pin, Unpin, Commit, Reap}
use Rattle.event_core.specs.declared.state.VersionPages.{VersionPages}
use Rattle.event_core.specs.declared.state.Core.{Core}
use Rattle.event_core.specs.History.{History, names_at, pages_at, catalogue_at, open_pins, pages_after, is_pages_of}
use Rattle.event_core.specs.Pages.{has_page, pin_names, is_live, is_newest, fresh_at, free_at}
use Rattle.event_core.specs.Allowed.{is_pinned, are_different}
use Rattle.event_core.proofs.Runs.{allowed_before, allowed_now}
use Rattle.event_core.proofs.Tests.{both_not, none_weaker, none_filtered, holds_filter, all_held}
use Rattle.store_versions.specs.Promises.{NoFreePageIsLive, NoFreshPageWasLive, ReapFreesTheRest, FreePagesAreWithin, ReapKeepsFreePages}

-- a change adds no pages but those that it uses
pub none_added : (names : Names) (change : Change) (used : List ℕ) (versions : List VersionPages) (page : ℕ) → holds used page ≡ false → has_page versions page ≡ false → has_page (pages_after names change used versions) page ≡ false
none_added names (Create name schema) used versions page u h = h
none_added names (Store name schema plan) used versions page u h = list_any-append (λ v. holds v.pages page) versions _ ∙ or_from _ _ h (or_from _ _ u refl)
none_added names (Insert name schema plan) used versions page u h = list_any-append (λ v. holds v.pages page) versions _ ∙ or_from _ _ h (or_from _ _ u refl)
none_added names (Remove name) used versions page u h = none_filtered (λ v. holds v.pages page) (λ v. not (is_pages_of name v)) versions h
none_added names (RemoveVersions name below) used versions page u h = none_filtered (λ v. holds v.pages page) _ versions h

-- a page of the newest version is one of a version
pub not_newest : (names : Names) (versions : List VersionPages) (name : List ℕ) (page : ℕ) → has_page versions page ≡ false → is_newest names versions name page ≡ false
not_newest names versions name page h = none_weaker (λ v. is_pages_of name v && nat_eq v.version (newest_of names.arrays name) && holds v.pages page) (λ v. holds v.pages page) (λ v e. (and_parts _ _ e).1) versions h

neither : (n c u : Bool) → n ≡ false → c ≡ false → (not (n || c) && u) ≡ u
neither n c u a b = ap (λ m. not (m || c) && u) a ∙ ap (λ m. not m && u) b

-- what is neither fresh nor was live is not used
not_used : (base : Core) (h : History) (change : Change) (used : Used) (page : ℕ) → has_page (pages_at base h) page ≡ false → holds (catalogue_at base h) page ≡ false → holds (fresh_at base h change used) page ≡ false → holds (used.version ++ used.catalogue) page ≡ false
not_used base h change used page v c f =
    sym (holds_filter (λ p. not (is_newest (names_at base h) (pages_at base h) (name_of change) p || holds (catalogue_at base h) p)) (used.version ++ used.catalogue) page
    ∙ neither _ _ _ (not_newest (names_at base h) (pages_at base h) (name_of change) page v) c)
    ∙ f

pub record Dead (base : Core) (h : History) (page : ℕ) : Type 0 where
  pub zeroth : nat_eq page 0 ≡ false
  pub catalogue : holds (catalogue_at base h) page ≡ false
  pub versions : has_page (pages_at base h) page ≡ false
  pub pins : list_any (pin_names base page) (open_pins h) ≡ false

pub dead : (base : Core) (h : History) (page : ℕ) → is_live base h page ≡ false → Dead base h page
dead base h page e =
    let z : Bool = nat_eq page 0 in
    let c : Bool = holds (catalogue_at base h) page in
    let v : Bool = has_page (pages_at base h) page in
    let p : Bool = list_any (pin_names base page) (open_pins h) in
    let one : (z ≡ false) × ((c || (v || p)) ≡ false) = or_parts z (c || (v || p)) e in
    let two : (c ≡ false) × ((v || p) ≡ false) = or_parts c (v || p) one.1 in
    let three : (v ≡ false) × (p ≡ false) = or_parts v p two.1 in
    record { zeroth = one.0; catalogue = two.0; versions = three.0; pins = three.1 }

not_live : (base : Core) (h : History) (page : ℕ) → Dead base h page → is_live base h page ≡ false
not_live base h page d = or_from _ _ d.zeroth (or_from _ _ d.catalogue (or_from _ _ d.versions d.pins))

after_pin : (base : Core) (h : History) (session page : ℕ) → Dead base h page → Dead base (Pin session ∷ h) page
after_pin base h session page d = record {
  zeroth = d.zeroth;
  catalogue = d.catalogue;
  versions = d.versions;
  pins = list_any-append (pin_names base page) (open_pins h) (record { session = session; before = h } ∷ []) ∙ or_from _ _ d.pins (or_from _ _ d.versions refl);
}

after_unpin : (base : Core) (h : History) (session page : ℕ) → Dead base h page → Dead base (Unpin session ∷ h) page
after_unpin base h session page d = record {
  zeroth = d.zeroth;
  catalogue = d.catalogue;
  versions = d.versions;
  pins = none_filtered (pin_names base page) (λ pin. not (nat_eq pin.session session)) (open_pins h) d.pins;
}

after_commit : (base : Core) (h : History) (session : ℕ) (change : Change) (used : Used) (page : ℕ) → holds (fresh_at base h change used) page ≡ false → Dead base h page → Dead base (Commit session change used ∷ h) page
after_commit base h session change used page f d =
    let u : (holds used.version page || holds used.catalogue page) ≡ false =
    sym (list_any-append (λ other. nat_eq other page) used.version used.catalogue) ∙ not_used base h change used page d.versions d.catalogue f in
    record {
      zeroth = d.zeroth;
      catalogue = (or_parts _ _ u).1;
      versions = none_added (names_at base h) change used.version (pages_at base h) page (or_parts _ _ u).0 d.versions;
      pins = d.pins;
    }

passed : (t : ℕ → Bool) (xs : List ℕ) (page : ℕ) → holds (filter (λ p. not (t p)) xs) page ≡ true → (t page ≡ false) × (holds xs page ≡ true)
passed t xs page e =
    let both : (not (t page) && holds xs page) ≡ true = sym (holds_filter (λ p. not (t p)) xs page) ∙ e in
    (not-true _ (and_parts _ _ both).0, (and_parts _ _ both).1)

pub no_free_page_is_live : NoFreePageIsLive
no_free_page_is_live base [] b ok page e = (passed (is_live base []) (pages_below base.limit) page (sym (ap (λ free. holds free page) b.free) ∙ e)).0
no_free_page_is_live base (Pin session ∷ h) b ok page e =
    not_live base (Pin session ∷ h) page (after_pin base h session page (dead base h page (no_free_page_is_live base h b (allowed_before base h (Pin session) ok) page e)))
no_free_page_is_live base (Unpin session ∷ h) b ok page e =
    not_live base (Unpin session ∷ h) page (after_unpin base h session page (dead base h page (no_free_page_is_live base h b (allowed_before base h (Unpin session) ok) page e)))
no_free_page_is_live base (Commit session change used ∷ h) b ok page e =
    let p : (holds (fresh_at base h change used) page ≡ false) × (holds (free_at base h) page ≡ true) = passed (holds (fresh_at base h change used)) (free_at base h) page e in
    not_live base (Commit session change used ∷ h) page (after_commit base h session change used page p.0 (dead base h page (no_free_page_is_live base h b (allowed_before base h (Commit session change used) ok) page p.1)))
no_free_page_is_live base (Reap ∷ h) b ok page e = (passed (is_live base h) (pages_below base.limit) page e).0

pub no_fresh_page_was_live : NoFreshPageWasLive
no_fresh_page_was_live base h session change used b ok page f =
    let typed : Bool = names_allow (names_at base h) change in
    let different : Bool = are_different (fresh_at base h change used) in
    let free : Bool = list_all (holds (free_at base h)) (fresh_at base h change used) in
    let one : (is_pinned session h ≡ true) × ((typed && (different && free)) ≡ true) = and_parts (is_pinned session h) (typed && (different && free)) (allowed_now base h (Commit session change used) ok) in
    let two : (typed ≡ true) × ((different && free) ≡ true) = and_parts typed (different && free) one.1 in
    no_free_page_is_live base h b (allowed_before base h (Commit session change used) ok) page
    (all_held (holds (free_at base h)) (fresh_at base h change used) page (and_parts different free two.1).1 f)

-- pages from one on

first_or : (first count page : ℕ) → (nat_eq first page ≡ true) ⊎ (holds (pages_from (first + 1) count) page ≡ true) → (holds (pages_from (first + 1) count) page ≡ true → (first + 1 ≤ page) × (page < first + 1 + count)) → (first ≤ page) × (page < first + suc count)
first_or first count page (inl e) ih = let same : first ≡ page = eqb-true first page e in (omega (arith, same), omega (arith, same))
first_or first count page (inr e) ih = let r : (first + 1 ≤ page) × (page < first + 1 + count) = ih e in (omega (arith, r.0), omega (arith, r.1))

pub from_within : (first count page : ℕ) → holds (pages_from first count) page ≡ true → (first ≤ page) × (page < first + count)
from_within first zero page e = absurd (both_not false refl e)
from_within first (suc count) page e = first_or first count page (or_cases _ _ e) (from_within (first + 1) count page)

at_first : (first count page : ℕ) → (first ≡ page) ⊎ (first ≡ page → ⊥) → first ≤ page → page < first + suc count → (first + 1 ≤ page → page < first + 1 + count → holds (pages_from (first + 1) count) page ≡ true) → (nat_eq first page || holds (pages_from (first + 1) count) page) ≡ true
at_first first count page (inl e) a b ih = or_left _ _ (eq-eqb first page e)
at_first first count page (inr n) a b ih = or_right _ _ (ih (omega arith) (omega arith))

pub within_from : (first count page : ℕ) → first ≤ page → page < first + count → holds (pages_from first count) page ≡ true
within_from first zero page a b = absurd (omega arith)
within_from first (suc count) page a b = at_first first count page (cases_eq first page) a b (within_from (first + 1) count page)

below : (limit page : ℕ) → holds (pages_below limit) page ≡ true → (1 ≤ page) × (page < limit)
below limit page e = let r : (1 ≤ page) × (page < 1 + (limit - 1)) = from_within 1 (limit - 1) page e in (r.0, omega (arith, r.0, r.1))

pub reap_frees_the_rest : ReapFreesTheRest
reap_frees_the_rest base h page = (
  (λ e.
      let p : (is_live base h page ≡ false) × (holds (pages_below base.limit) page ≡ true) = passed (is_live base h) (pages_below base.limit) page e in
      let r : (1 ≤ page) × (page < base.limit) = below base.limit page p.1 in
      (r.0, r.1, p.0)),
  (λ r. holds_filter (λ p. not (is_live base h p)) (pages_below base.limit) page
      ∙ and_from _ _ (not_from_false _ r.2) (within_from 1 (base.limit - 1) page r.0 (omega (arith, r.0, r.1)))),
)

pub free_pages_are_within : FreePagesAreWithin
free_pages_are_within base [] b page e = below base.limit page (passed (is_live base []) (pages_below base.limit) page (sym (ap (λ free. holds free page) b.free) ∙ e)).1
free_pages_are_within base (Pin session ∷ h) b page e = free_pages_are_within base h b page e
free_pages_are_within base (Unpin session ∷ h) b page e = free_pages_are_within base h b page e
free_pages_are_within base (Commit session change used ∷ h) b page e = free_pages_are_within base h b page (passed (holds (fresh_at base h change used)) (free_at base h) page e).1
free_pages_are_within base (Reap ∷ h) b page e = below base.limit page (passed (is_live base h) (pages_below base.limit) page e).1

pub reap_keeps_free_pages : ReapKeepsFreePages
reap_keeps_free_pages base h b ok page e =
    let r : (1 ≤ page) × (page < base.limit) = free_pages_are_within base h b page e in
    (reap_frees_the_rest base h page).1 (r.0, r.1, no_free_page_is_live base h b ok page e)

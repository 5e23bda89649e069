-- The catalogue's pages are no version's.
use Rattle.std.proofs.Common.{◌≡◌, ◌∙◌, ℕ, Bool, true, false, not, ◌&&◌, ◌||◌, nat_eq, List, [], ◌∷◌, ◌++◌, refl, ap, sym, IsTrue, inl, inr}
use Rattle.std.specs.List.{filter, list_any, list_all}
use Rattle.std.proofs.lemmas.List.Folds.{list_any-append}
use Rattle.std.proofs.lemmas.List.Elements.{filter-append}
use Rattle.std.proofs.lemmas.Bool.{and_parts, and_from, or_parts, or_from, or_cases, not-true, eqb-true}
use Rattle.plan_changes.specs.declared.change.Change.{Change}
use Rattle.plan_changes.specs.Allowed.{names_allow}
use Rattle.plan_changes.specs.Changes.{name_of}
use Rattle.event_core.specs.PageSets.{holds}
use Rattle.event_core.specs.declared.entry.Used.{Used}
use Rattle.event_core.specs.declared.entry.Entry.TheVariants.{Pin, Unpin, Commit, Reap}
use Rattle.event_core.specs.declared.state.Core.{Core}
use Rattle.event_core.specs.History.{History, names_at, pages_at, catalogue_at, open_pins}
use Rattle.event_core.specs.Pages.{has_page, pin_names, is_newest, fresh_at, free_at}
use Rattle.event_core.specs.Allowed.{IsBase, is_pinned, is_allowed, are_different}
use Rattle.event_core.specs.Apart.{SharesOwn, AreApart}
use Rattle.event_core.proofs.Tests.{both_not, none_filtered, holds_filter, all_held}
use Rattle.store_versions.proofs.Free.{Dead, dead, none_added, not_newest, no_fresh_page_was_live}
use Rattle.store_versions.specs.Promises.{CataloguesStayApart}
use Rattle.event_core.proofs.Runs.{allowed_before, allowed_now}

not_so : (a : Bool) → (a ≡ true → ⊥) → a ≡ false
not_so true h = absurd (h refl)
not_so false h = refl

-- where no page stands twice in two lists together, a page of the first is not in the second
apart_lists : (xs ys : List ℕ) (page : ℕ) → are_different (xs ++ ys) ≡ true → holds xs page ≡ true → holds ys page ≡ false
apart_lists [] ys page d e = absurd (both_not false refl e)
apart_lists (x ∷ xs) ys page d e =
    let p : (not (holds (xs ++ ys) x) ≡ true) × (are_different (xs ++ ys) ≡ true) = and_parts (not (holds (xs ++ ys) x)) (are_different (xs ++ ys)) d in
    let none : (holds xs x || holds ys x) ≡ false = sym (list_any-append (λ other. nat_eq other x) xs ys) ∙ not-true _ p.0 in
    elim (or_cases _ _ e) [ inl a ↦ sym (ap (holds ys) (eqb-true x page a)) ∙ (or_parts _ _ none).1 | inr b ↦ apart_lists xs ys page p.1 b ]

once : (t : ℕ → Bool) (xs ys : List ℕ) (page : ℕ) → are_different (filter t (xs ++ ys)) ≡ true → t page ≡ true → holds xs page ≡ true → holds ys page ≡ false
once t xs ys page d tp e =
    sym (ap (λ b. b && holds ys page) tp)
    ∙ sym (holds_filter t ys page)
    ∙ apart_lists (filter t xs) (filter t ys) page (sym (ap are_different (filter-append t xs ys)) ∙ d) (holds_filter t xs page ∙ and_from _ _ tp e)

-- a page that only the catalogue has
record Alone (base : Core) (h : History) (used : Used) (page : ℕ) : Type 0 where
  unused : holds used.version page ≡ false
  versions : has_page (pages_at base h) page ≡ false
  pins : list_any (pin_names base page) (open_pins h) ≡ false

module _ (base : Core) (h : History) (session : ℕ) (change : Change) (used : Used) (b : IsBase base) (ok : IsTrue (is_allowed base (Commit session change used ∷ h))) (s : SharesOwn base h change used) (ih : AreApart base h) where
  abbrev is_fresh : ℕ → Bool
  is_fresh page = holds (fresh_at base h change used) page

  abbrev newest : ℕ → Bool
  newest page = is_newest (names_at base h) (pages_at base h) (name_of change) page

  abbrev test : ℕ → Bool
  test page = not (newest page || holds (catalogue_at base h) page)

  fresh_dead : (page : ℕ) → is_fresh page ≡ true → Dead base h page
  fresh_dead page e = dead base h page (no_fresh_page_was_live base h session change used b ok page e)

  fresh_passes : (page : ℕ) → is_fresh page ≡ true → test page ≡ true
  fresh_passes page e =
      let both : (test page && holds (used.version ++ used.catalogue) page) ≡ true = sym (holds_filter test (used.version ++ used.catalogue) page) ∙ e in
      (and_parts _ _ both).0

  fresh_differ : are_different (fresh_at base h change used) ≡ true
  fresh_differ =
      let typed : Bool = names_allow (names_at base h) change in
      let different : Bool = are_different (fresh_at base h change used) in
      let free : Bool = list_all (holds (free_at base h)) (fresh_at base h change used) in
      let one : (is_pinned session h ≡ true) × ((typed && (different && free)) ≡ true) = and_parts (is_pinned session h) (typed && (different && free)) (allowed_now base h (Commit session change used) ok) in
      let two : (typed ≡ true) × ((different && free) ≡ true) = and_parts typed (different && free) one.1 in
      (and_parts different free two.1).0

  -- a page that is of no version is used for one only if it is fresh
  not_shared : (page : ℕ) → has_page (pages_at base h) page ≡ false → (is_fresh page ≡ true → ⊥) → holds used.version page ≡ true → ⊥
  not_shared page v f e =
      elim (or_cases (is_fresh page) (newest page) (all_held (λ p. is_fresh p || newest p) used.version page s.version e))
      [ inl a ↦ f a | inr n ↦ both_not (newest page) (not_newest (names_at base h) (pages_at base h) (name_of change) page v) n ]

  fresh_alone : (page : ℕ) → holds used.catalogue page ≡ true → is_fresh page ≡ true → Alone base h used page
  fresh_alone page e f =
      let d : Dead base h page = fresh_dead page f in
      record {
        unused = not_so _ (λ v. both_not (holds used.catalogue page) (once test used.version used.catalogue page fresh_differ (fresh_passes page f) v) e);
        versions = d.versions;
        pins = d.pins;
      }

  kept_alone : (page : ℕ) → holds (catalogue_at base h) page ≡ true → Alone base h used page
  kept_alone page c = record {
    unused = not_so _ (not_shared page (ih.now page c) (λ f. both_not (holds (catalogue_at base h) page) (fresh_dead page f).catalogue c));
    versions = ih.now page c;
    pins = ih.pinned page c;
  }

  alone : (page : ℕ) → holds used.catalogue page ≡ true → Alone base h used page
  alone page e =
      elim (or_cases (is_fresh page) (holds (catalogue_at base h) page) (all_held (λ p. is_fresh p || holds (catalogue_at base h) p) used.catalogue page s.catalogue e))
      [ inl f ↦ fresh_alone page e f | inr c ↦ kept_alone page c ]

  not_zero : is_fresh 0 ≡ true → ⊥
  not_zero f = both_not true (fresh_dead 0 f).zeroth refl

  catalogue_zero : holds used.catalogue 0 ≡ true → ⊥
  catalogue_zero e =
      elim (or_cases (is_fresh 0) (holds (catalogue_at base h) 0) (all_held (λ p. is_fresh p || holds (catalogue_at base h) p) used.catalogue 0 s.catalogue e))
      [ inl f ↦ not_zero f | inr c ↦ both_not _ ih.first.0 c ]

  pages_alone : (page : ℕ) → holds used.version page ≡ false → has_page (pages_at base h) page ≡ false → has_page (pages_at base (Commit session change used ∷ h)) page ≡ false
  pages_alone page u v = none_added (names_at base h) change used.version (pages_at base h) page u v

  pub commit_apart : AreApart base (Commit session change used ∷ h)
  commit_apart = record {
    now = λ page e. pages_alone page (alone page e).unused (alone page e).versions;
    pinned = λ page e. (alone page e).pins;
    first = (not_so _ catalogue_zero, pages_alone 0 (not_so _ (not_shared 0 ih.first.1 not_zero)) ih.first.1);
  }

pin_apart : (base : Core) (h : History) (session : ℕ) → AreApart base h → AreApart base (Pin session ∷ h)
pin_apart base h session ih = record {
  now = ih.now;
  pinned = λ page e. list_any-append (pin_names base page) (open_pins h) (record { session = session; before = h } ∷ []) ∙ or_from _ _ (ih.pinned page e) (or_from _ _ (ih.now page e) refl);
  first = ih.first;
}

unpin_apart : (base : Core) (h : History) (session : ℕ) → AreApart base h → AreApart base (Unpin session ∷ h)
unpin_apart base h session ih = record {
  now = ih.now;
  pinned = λ page e. none_filtered (pin_names base page) (λ pin. not (nat_eq pin.session session)) (open_pins h) (ih.pinned page e);
  first = ih.first;
}

pub catalogues_stay_apart : CataloguesStayApart
catalogues_stay_apart base [] b start all ok = start
catalogues_stay_apart base (Pin session ∷ h) b start all ok = pin_apart base h session (catalogues_stay_apart base h b start all (allowed_before base h (Pin session) ok))
catalogues_stay_apart base (Unpin session ∷ h) b start all ok = unpin_apart base h session (catalogues_stay_apart base h b start all (allowed_before base h (Unpin session) ok))
catalogues_stay_apart base (Commit session change used ∷ h) b start all ok =
    commit_apart base h session change used b ok all.1 (catalogues_stay_apart base h b start all.0 (allowed_before base h (Commit session change used) ok))
catalogues_stay_apart base (Reap ∷ h) b start all ok =
    let ih : AreApart base h = catalogues_stay_apart base h b start all (allowed_before base h Reap ok) in
    record { now = ih.now; pinned = ih.pinned; first = ih.first }

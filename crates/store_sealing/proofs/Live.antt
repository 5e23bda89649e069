-- What is found of a file is live, so that none of it is one of the pages that a commit writes.
use Rattle.std.proofs.Common.{◌≡◌, ◌≢◌, ℕ, Bool, true, false, ◌||◌, nat_eq, List, [], ◌∷◌, ◌++◌, map, refl, sym, ◌∙◌, ap, subst, arith}
use Rattle.std.specs.List.{AllByRecursion, filter, list_any}
use Rattle.std.proofs.lemmas.Bool.{eq-eqb}
use Rattle.std.proofs.lemmas.List.Folds.{list_any-append}
use Rattle.array_rows.specs.Boxes.{by_pairs}
use Rattle.page_chain.specs.Places.{IsNone}
use Rattle.chunk_map.specs.declared.directory.Directory.{Directory}
use Rattle.version_catalog.specs.declared.rules.catalog.CatalogArray.{CatalogArray}
use Rattle.version_catalog.specs.declared.rules.catalog.Catalog.{Catalog}
use Rattle.version_reaper.specs.PageSets.{holds}
use Rattle.file_meaning.specs.Opening.{all_of, catalogue_pages, pages_of, row_pages, stored_pages, version_pages}
use Rattle.file_meaning.specs.declared.meaning.found.Found.{Found}
use Rattle.file_meaning.proofs.Apart.{both_all}
use Rattle.event_core.specs.declared.state.Core.{Core}
use Rattle.event_core.specs.declared.state.VersionPages.{VersionPages}
use Rattle.event_core.specs.History.{History, catalogue_at, is_pages_of, open_pins, pages_at}
use Rattle.event_core.specs.Pages.{has_page, is_live, pin_names}
use Rattle.event_core.proofs.Tests.{both_not}
use Rattle.file_meaning.proofs.Free.{none_cons, weaker}
use Rattle.store_state.specs.Rows.{pages_in, pages_of_rows}
use Rattle.store_versions.specs.Versions.{Directories}
use Rattle.store_state.specs.Cells.{IsFound}
use Rattle.store_state.specs.Inner.Keeping.{log_pages}
use Rattle.store_state.proofs.Lists.{all_filter}

-- ---- tests

pub or_first : (a b : Bool) → a ≡ true → (a || b) ≡ true
or_first true b e = refl
or_first false b e = absurd cc

pub or_second : (a b : Bool) → b ≡ true → (a || b) ≡ true
or_second true b e = refl
or_second false b e = e

-- a page that passes a test which others don't is none of these

pub differ : (t : ℕ → Bool) (p q : ℕ) → t p ≡ true → t q ≡ false → q ≢ p
differ t p q passes fails same = both_not (t q) fails (ap t same ∙ passes)

none_nil : (p : ℕ) → IsNone [] p
none_nil p k low = absurd (omega (arith, low))

pub none_by : (t : ℕ → Bool) (pages : List ℕ) (p : ℕ) → t p ≡ true → AllByRecursion (λ q. t q ≡ false) pages → IsNone pages p
none_by t [] p passes none = none_nil p
none_by t (q ∷ pages) p passes none = none_cons q pages p (differ t p q passes none.0) (none_by t pages p passes none.1)

pub all_none : (ps : List ℕ) → AllByRecursion (IsNone []) ps
all_none [] = tt
all_none (p ∷ ps) = (none_nil p, all_none ps)

-- ---- pages in lists

abbrev Passes : (ℕ → Bool) → ℕ → Type 0
Passes t p = t p ≡ true

each_held : (t : ℕ → Bool) (xs : List ℕ) → ((p : ℕ) → holds xs p ≡ true → t p ≡ true) → AllByRecursion (Passes t) xs
each_held t [] go = tt
each_held t (x ∷ xs) go = (go x (or_first (nat_eq x x) (holds xs x) (eq-eqb x x refl)), each_held t xs (λ p e. go p (or_second (nat_eq x p) (holds xs p) e)))

each_version : (t : ℕ → Bool) (versions : List VersionPages) → ((p : ℕ) → has_page versions p ≡ true → t p ≡ true) → AllByRecursion (λ (v : VersionPages). AllByRecursion (Passes t) v.pages) versions
each_version t [] go = tt
each_version t (v ∷ versions) go = (
  each_held t v.pages (λ p e. go p (or_first (holds v.pages p) (has_page versions p) e)),
  each_version t versions (λ p e. go p (or_second (holds v.pages p) (has_page versions p) e)),
)

all_flat : (P : ℕ → Type 0) (lists : List (List ℕ)) → AllByRecursion (AllByRecursion P) lists → AllByRecursion P (all_of lists)
all_flat P [] all = tt
all_flat P (xs ∷ lists) all = both_all P xs (all_of lists) all.0 (all_flat P lists all.1)

all_flats : (P : ℕ → Type 0) (lists : List (List (List ℕ))) → AllByRecursion (AllByRecursion (AllByRecursion P)) lists → AllByRecursion P (all_of (map (λ (xs : List (List ℕ)). all_of xs) lists))
all_flats P [] all = tt
all_flats P (xs ∷ lists) all = both_all P (all_of xs) (all_of (map (λ (ys : List (List ℕ)). all_of ys) lists)) (all_flat P xs all.0) (all_flats P lists all.1)

pub all_map : {A B : Type 0} (f : A → B) (P : B → Type 0) (xs : List A) → AllByRecursion (λ x. P (f x)) xs → AllByRecursion P (map f xs)
all_map f P [] all = tt
all_map f P (x ∷ xs) all = (all.0, all_map f P xs all.1)

arrays_pass : (P : ℕ → Type 0) (pages : List VersionPages) → AllByRecursion (λ (v : VersionPages). AllByRecursion P v.pages) pages → (arrays : List CatalogArray)
    → AllByRecursion (AllByRecursion (AllByRecursion P)) (map (λ (array : CatalogArray). map (λ (v : VersionPages). v.pages) (filter (is_pages_of array.entry.name) pages)) arrays)
arrays_pass P pages all [] = tt
arrays_pass P pages all (array ∷ arrays) = (
  all_map (λ (v : VersionPages). v.pages) (AllByRecursion P) (filter (is_pages_of array.entry.name) pages) (all_filter (λ (v : VersionPages). AllByRecursion P v.pages) (is_pages_of array.entry.name) pages all),
  arrays_pass P pages all arrays,
)

rows_flat : (arrays : List CatalogArray) (rows : List (List Directory))
    → by_pairs row_pages arrays rows ≡ map (λ (xs : List (List ℕ)). all_of xs) (by_pairs (λ (array : CatalogArray) (row : List Directory). by_pairs version_pages array.directories row) arrays rows)
rows_flat [] rows = refl
rows_flat (array ∷ arrays) [] = refl
rows_flat (array ∷ arrays) (row ∷ rows) = ap (λ (rest : List (List ℕ)). row_pages array row ∷ rest) (rows_flat arrays rows)

-- ---- what is found is live

module _ (base : Core) (h : History) where
  catalogue_live : (p : ℕ) → holds (catalogue_at base h) p ≡ true → is_live base h p ≡ true
  catalogue_live p e =
      or_second (nat_eq p 0) (holds (catalogue_at base h) p || (has_page (pages_at base h) p || list_any (pin_names base p) (open_pins h)))
      (or_first (holds (catalogue_at base h) p) (has_page (pages_at base h) p || list_any (pin_names base p) (open_pins h)) e)

  version_live : (p : ℕ) → has_page (pages_at base h) p ≡ true → is_live base h p ≡ true
  version_live p e =
      or_second (nat_eq p 0) (holds (catalogue_at base h) p || (has_page (pages_at base h) p || list_any (pin_names base p) (open_pins h)))
      (or_second (holds (catalogue_at base h) p) (has_page (pages_at base h) p || list_any (pin_names base p) (open_pins h))
      (or_first (has_page (pages_at base h) p) (list_any (pin_names base p) (open_pins h)) e))

  module _ (given : Directories) (kept : Catalog) (log : ℕ) (found : Found) (is : IsFound base given h kept log found) where
    in_catalogue : (p : ℕ) → holds ((found.chain ++ log_pages log) ++ all_of found.logged) p ≡ true → is_live base h p ≡ true
    in_catalogue p e = catalogue_live p (ap (λ (ps : List ℕ). holds ps p) is.catalogue ∙ e)

    chain_live : AllByRecursion (Passes (is_live base h)) found.chain
    chain_live = each_held (is_live base h) found.chain
        (λ p e. in_catalogue p (list_any-append (λ other. nat_eq other p) (found.chain ++ log_pages log) (all_of found.logged)
        ∙ or_first (holds (found.chain ++ log_pages log) p) (holds (all_of found.logged) p)
        (list_any-append (λ other. nat_eq other p) found.chain (log_pages log) ∙ or_first (holds found.chain p) (holds (log_pages log) p) e)))

    logged_live : AllByRecursion (Passes (is_live base h)) (all_of found.logged)
    logged_live = each_held (is_live base h) (all_of found.logged)
        (λ p e. in_catalogue p (list_any-append (λ other. nat_eq other p) (found.chain ++ log_pages log) (all_of found.logged)
        ∙ or_second (holds (found.chain ++ log_pages log) p) (holds (all_of found.logged) p) e))

    stored_live : AllByRecursion (Passes (is_live base h)) (stored_pages found)
    stored_live =
        let lists : pages_of_rows found.catalog found.directories ≡ pages_in kept (pages_at base h) = ap (λ (k : Catalog). pages_of_rows k found.directories) is.catalog ∙ is.stored in
        subst (λ (ps : List (List ℕ)). AllByRecursion (Passes (is_live base h)) (all_of ps)) (sym (rows_flat found.catalog.arrays found.directories))
        (subst (λ (ls : List (List (List ℕ))). AllByRecursion (Passes (is_live base h)) (all_of (map (λ (xs : List (List ℕ)). all_of xs) ls))) (sym lists)
        (all_flats (Passes (is_live base h)) (pages_in kept (pages_at base h))
        (arrays_pass (Passes (is_live base h)) (pages_at base h) (each_version (is_live base h) (pages_at base h) version_live) kept.arrays)))

    pub found_live : AllByRecursion (Passes (is_live base h)) (pages_of found)
    found_live = both_all (Passes (is_live base h)) (catalogue_pages found) (stored_pages found)
        (both_all (Passes (is_live base h)) found.chain (all_of found.logged) chain_live logged_live) stored_live

    -- none of it is one of some pages that nobody can name
    pub found_apart : (pages : List ℕ) → AllByRecursion (λ q. is_live base h q ≡ false) pages → AllByRecursion (IsNone pages) (pages_of found)
    found_apart pages none = weaker (Passes (is_live base h)) (IsNone pages) (λ p live. none_by (is_live base h) pages p live none) (pages_of found) found_live

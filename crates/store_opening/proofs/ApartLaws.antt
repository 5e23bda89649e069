-- The pages of a found file's catalogue and versions lie apart.
use Rattle.std.proofs.Common.{◌≡◌, ℕ, Bool, true, false, List, [], ◌∷◌, ◌++◌, refl, sym, ◌∙◌, ap, subst, arith}
use Rattle.std.specs.Prelude.{◌&&◌, ◌||◌, ◌==◌, if◌then◌else◌, nat_eq, nat_lt, not}
use Rattle.std.specs.List.{AllByRecursion, list_any}
use Rattle.std.proofs.lemmas.Bool.Decides.{nat_tests}
use Rattle.std.proofs.lemmas.List.Folds.{list_any-append}
use Rattle.array_rows.specs.Boxes.{by_pairs}
use Rattle.chunk_map.specs.declared.directory.Directory.{Directory}
use Rattle.version_catalog.specs.declared.rules.catalog.CatalogArray.{CatalogArray}
use Rattle.version_reaper.specs.PageSets.{holds}
use Rattle.event_core.specs.declared.state.VersionPages.{VersionPages}
use Rattle.event_core.specs.Pages.{has_page as is_of_versions}
use Rattle.file_meaning.specs.Opening.{all_of, catalogue_pages, row_pages, stored_pages, version_pages}
use Rattle.file_meaning.specs.declared.meaning.found.Found.{Found}
use Rattle.file_reading.specs.Reading.{is_beside}
use Rattle.store_opening.specs.Bases.{array_pages, catalogue_with, pages_named, versions_pages}
use Rattle.store_opening.specs.Laws.{BasesLieApart}

-- ---- tests that are joined

either : (a b c d : Bool) → (a || b) ≡ true → (a ≡ true → c ≡ true) → (b ≡ true → d ≡ true) → (c || d) ≡ true
either true b c d is first second = ap (λ (x : Bool). x || d) (first refl)
either false b true d is first second = refl
either false b false d is first second = second is

held_here : (q p : ℕ) → nat_eq q p ≡ true → q ≡ p
held_here q p is = grind (arith, nat_tests)

-- what holds of all pages of a list holds of one in it
held : (P : ℕ → Type 0) (pages : List ℕ) (p : ℕ) → AllByRecursion P pages → holds pages p ≡ true → P p
held P [] p all is = absurd cc
held P (q ∷ pages) p all is = cases (nat_eq q p) refl is (held P pages p all.1)
  where
    cases : (b : Bool) → nat_eq q p ≡ b → (b || holds pages p) ≡ true → (holds pages p ≡ true → P p) → P p
    cases true e is rest = subst P (held_here q p e) all.0
    cases false e is rest = rest is

-- ---- the pages of the versions

versions_held : (name : List ℕ) (versions : List ℕ) (lists : List (List ℕ)) (page : ℕ) → is_of_versions (by_pairs (pages_named name) versions lists) page ≡ true → holds (all_of lists) page ≡ true
versions_held name [] lists page is = absurd cc
versions_held name (v ∷ versions) [] page is = absurd cc
versions_held name (v ∷ versions) (pages ∷ lists) page is =
    list_any-append (λ other. nat_eq other page) pages (all_of lists)
    ∙ either (holds pages page) (is_of_versions (by_pairs (pages_named name) versions lists) page) (holds pages page) (holds (all_of lists) page) is (λ e. e) (versions_held name versions lists page)

arrays_held : (arrays : List CatalogArray) (rows : List (List Directory)) (page : ℕ) → is_of_versions (all_of (by_pairs array_pages arrays rows)) page ≡ true → holds (all_of (by_pairs row_pages arrays rows)) page ≡ true
arrays_held [] rows page is = absurd cc
arrays_held (array ∷ arrays) [] page is = absurd cc
arrays_held (array ∷ arrays) (row ∷ rows) page is =
    let all = sym (list_any-append (λ (v : VersionPages). holds v.pages page) (array_pages array row) (all_of (by_pairs array_pages arrays rows))) ∙ is in
    list_any-append (λ other. nat_eq other page) (row_pages array row) (all_of (by_pairs row_pages arrays rows))
    ∙ either (is_of_versions (array_pages array row) page) (is_of_versions (all_of (by_pairs array_pages arrays rows)) page) (holds (row_pages array row) page) (holds (all_of (by_pairs row_pages arrays rows)) page) all
    (versions_held array.entry.name array.entry.versions (by_pairs version_pages array.directories row) page) (arrays_held arrays rows page)

-- ---- the pages of the catalogue

or_nothing : (b : Bool) → (b || false) ≡ b
or_nothing true = refl
or_nothing false = refl

-- which pages those are of a chain, of a log page that there may be, and of records
spelled : (chain logged : List ℕ) (log page : ℕ) (b : Bool)
    → holds (chain ++ (if b then [] else log ∷ []) ++ logged) page ≡ ((holds chain page || (if b then false else nat_eq log page)) || holds logged page)
spelled chain logged log page b =
    list_any-append (λ other. nat_eq other page) (chain ++ (if b then [] else log ∷ [])) logged
    ∙ ap (λ (x : Bool). x || holds logged page) (list_any-append (λ other. nat_eq other page) chain (if b then [] else log ∷ []) ∙ ap (λ (x : Bool). holds chain page || x) (of_log b))
  where
    of_log : (b : Bool) → holds (if b then [] else log ∷ []) page ≡ (if b then false else nat_eq log page)
    of_log true = refl
    of_log false = or_nothing (nat_eq log page)

-- such a page is the log page, or one of the catalogue that was found
one_of : (found : Found) (log page : ℕ) → holds (catalogue_with found log) page ≡ true → holds (log ∷ catalogue_pages found) page ≡ true
one_of found log page is =
    let chain = found.chain in
    let logged = all_of found.logged in
    ap (λ (x : Bool). nat_eq log page || x) (list_any-append (λ other. nat_eq other page) chain logged)
    ∙ moved (holds chain page) (nat_eq log page) (holds logged page) (log == 0) (sym (spelled chain logged log page (log == 0)) ∙ is)
  where
    moved : (x y z b : Bool) → ((x || (if b then false else y)) || z) ≡ true → (y || (x || z)) ≡ true
    moved x true z b is = refl
    moved true false z b is = refl
    moved false false z true is = is
    moved false false z false is = is

itself : (n : ℕ) → nat_eq n n ≡ true
itself n = grind (arith, nat_tests)

zero_is : (n : ℕ) → (n == 0) ≡ true → nat_eq 0 n ≡ true
zero_is n is = grind (arith, nat_tests)

-- the log page is page 0, or one of them
pub log_held : (found : Found) (log : ℕ) → holds (0 ∷ catalogue_with found log) log ≡ true
log_held found log = cases (log == 0) refl
  where
    any : (x y z : Bool) → y ≡ true → ((x || y) || z) ≡ true
    any true y z is = refl
    any false y z is = ap (λ (b : Bool). b || z) is

    last : (x y : Bool) → y ≡ true → (x || y) ≡ true
    last true y is = refl
    last false y is = is

    cases : (b : Bool) → (log == 0) ≡ b → (nat_eq 0 log || holds (found.chain ++ (if b then [] else log ∷ []) ++ all_of found.logged) log) ≡ true
    cases true is = ap (λ (b : Bool). b || holds (found.chain ++ [] ++ all_of found.logged) log) (zero_is log is)
    cases false is =
        last (nat_eq 0 log) (holds (found.chain ++ log ∷ [] ++ all_of found.logged) log)
        (spelled found.chain (all_of found.logged) log log false ∙ any (holds found.chain log) (nat_eq log log) (holds (all_of found.logged) log) (itself log))

-- page 0 is none of them
none_first : (found : Found) (log : ℕ) → holds (catalogue_pages found) 0 ≡ false → holds (catalogue_with found log) 0 ≡ false
none_first found log none =
    let chain = found.chain in
    let logged = all_of found.logged in
    spelled chain logged log 0 (log == 0)
    ∙ all_false (holds chain 0) (nat_eq log 0) (holds logged 0) (log == 0) refl (sym (list_any-append (λ other. nat_eq other 0) chain logged) ∙ none)
  where
    all_false : (x y z b : Bool) → y ≡ b → (x || z) ≡ false → ((x || (if b then false else y)) || z) ≡ false
    all_false true y z b same is = absurd cc
    all_false false y z true same is = is
    all_false false y z false same is = ap (λ (c : Bool). c || z) same ∙ is

-- ---- apart

both : (x y : Bool) → (x && y) ≡ true → (x ≡ true) × (y ≡ true)
both true true is = (refl, refl)
both true false is = absurd cc
both false y is = absurd cc

opposed : (b : Bool) → b ≡ true → not b ≡ true → ⊥
opposed true is other = cc
opposed false is other = cc

not_true : (b : Bool) → (b ≡ true → ⊥) → b ≡ false
not_true true none = absurd (none refl)
not_true false none = refl

pub bases_lie_apart : BasesLieApart
bases_lie_apart found log limit is =
    let others = log ∷ catalogue_pages found in
    let stored = λ (page : ℕ) (has : is_of_versions (versions_pages found) page ≡ true).
    both (nat_lt 0 page) (not (holds others page))
    (held (λ (p : ℕ). is_beside others p ≡ true) (stored_pages found) page is.stored (arrays_held found.catalog.arrays found.directories page has)) in
    record {
      now = λ page has. not_true (is_of_versions (versions_pages found) page) (λ also. opposed (holds others page) (one_of found log page has) (stored page also).1);
      pinned = λ page has. refl;
      first = (none_first found log is.front, not_true (is_of_versions (versions_pages found) 0) (λ also. let none : false ≡ true = (stored 0 also).0 in cc));
    }

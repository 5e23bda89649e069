-- A commit may use free pages that it is given.
use Rattle.std.proofs.Common.{◌≡◌, ◌∙◌, ◌⊎◌, inl, inr, ℕ, Bool, true, false, ◌&&◌, ◌||◌, List, [], ◌∷◌, ◌++◌, Option, Some, None, refl, sym, ap, subst}
use Rattle.std.specs.Prelude.{IsTrue, nat_eq}
use Rattle.std.specs.List.{AllByRecursion, list_all}
use Rattle.std.specs.Option.{is_some}
use Rattle.std.proofs.lemmas.Bool.{and_from, eqb-true, or_left, or_right, or_cases}
use Rattle.std.proofs.lemmas.List.{append_assoc}
use Rattle.chunk_map.specs.declared.directory.DirEntry.{DirEntry}
use Rattle.chunk_map.specs.declared.directory.Directory.{Directory}
use Rattle.plan_changes.specs.declared.change.Change.{Change}
use Rattle.plan_changes.specs.Allowed.{names_allow}
use Rattle.plan_changes.specs.Changes.{name_of}
use Rattle.version_reaper.specs.PageSets.{holds}
use Rattle.event_core.specs.declared.entry.Used.{Used}
use Rattle.event_core.specs.declared.state.Core.{Core}
use Rattle.event_core.specs.Allowed.{are_different, is_pinned}
use Rattle.event_core.specs.Apart.{makes_version}
use Rattle.event_core.specs.History.{History, catalogue_at, names_at, pages_at}
use Rattle.event_core.specs.Pages.{free_at, fresh_at, is_newest}
use Rattle.store_versions.proofs.Free.{dead, no_free_page_is_live, not_newest}
use Rattle.file_meaning.proofs.Apart.{both_all}
use Rattle.file_meaning.proofs.Parts.{front_all, rest_all}
use Rattle.page_file.specs.Commits.{pages_of}
use Rattle.commit_pages.specs.declared.pages.written.Written.{Written}
use Rattle.commit_pages.specs.Commits.{chain_in, rest_of, record_bytes, catalog_bytes, record_laid, base_laid}
use Rattle.commit_pages.specs.Laws.{is_known, IsApart, AreSamePages}
use Rattle.commit_pages.specs.Versions.{new_version}
use Rattle.commit_pages.proofs.Chains.{record_fills, base_fills}
use Rattle.commit_pages.proofs.Fresh.{records_use_the_given, bases_use_the_given}
use Rattle.store_state.specs.GivenLaws.{AreGiven, MayUse, RecordsMayUse, BasesMayUse}
use Rattle.store_state.proofs.Uses.{all_as, all_own, version_has}

-- ---- lists of pages

passes_by : (t : ℕ → Bool) (xs : List ℕ) → AllByRecursion (λ x. t x ≡ true) xs → list_all t xs ≡ true
passes_by t [] all = refl
passes_by t (x ∷ xs) all = and_from (t x) (list_all t xs) all.0 (passes_by t xs all.1)

held_has : (P : ℕ → Type 0) (pages : List ℕ) → AllByRecursion P pages → (page : ℕ) → holds pages page ≡ true → P page
held_has P [] all page held = absurd cc
held_has P (p ∷ pages) all page held = elim (or_cases (nat_eq p page) (holds pages page) held) [ inl a ↦ subst P (eqb-true p page a) all.0 | inr b ↦ held_has P pages all.1 page b ]

-- ---- what is given

abbrev Known : Core → History → Change → ℕ → Bool
Known base h change = is_known (names_at base h) (pages_at base h) (catalogue_at base h) change

abbrev Newest : Core → History → Change → ℕ → Bool
Newest base h change page = is_newest (names_at base h) (pages_at base h) (name_of change) page

unknown : (base : Core) (h : History) (change : Change) (newest : Directory) (pages : List ℕ) → AreGiven base h change newest pages → (page : ℕ) → IsTrue (holds (free_at base h) page) → Known base h change page ≡ false
unknown base h change newest pages given page free =
    let d = dead base h page (no_free_page_is_live base h given.begins given.allowed page free) in
    ap (λ (b : Bool). b || holds (catalogue_at base h) page) (not_newest (names_at base h) (pages_at base h) (name_of change) page d.versions) ∙ d.catalogue

apart : (base : Core) (h : History) (change : Change) (newest : Directory) (pages : List ℕ) → AreGiven base h change newest pages → IsApart (Known base h change) newest pages
apart base h change newest pages given = record {
  shared = all_as (λ (entry : DirEntry). AllByRecursion (λ page. Newest base h change page ≡ true) entry.pages)
      (λ (entry : DirEntry). AllByRecursion (λ page. Known base h change page ≡ true) entry.pages) newest.entries
      (λ entry all. all_as (λ (page : ℕ). Newest base h change page ≡ true) (λ (page : ℕ). Known base h change page ≡ true) entry.pages
      (λ page is. or_left (Newest base h change page) (holds (catalogue_at base h) page) is) all)
      given.shared;
  given = all_as (λ (page : ℕ). IsTrue (holds (free_at base h) page)) (λ (page : ℕ). Known base h change page ≡ false) pages (unknown base h change newest pages given) given.free;
}

-- ---- the commit

-- a page is a given one, or one that a test tells
abbrev IsGivenOr : List ℕ → (ℕ → Bool) → ℕ → Type 0
IsGivenOr given test page = (holds given page ≡ true) ⊎ (test page ≡ true)

fresh_or : (given fresh : List ℕ) (test : ℕ → Bool) (pages : List ℕ) → ((page : ℕ) → holds fresh page ≡ holds given page) → AllByRecursion (IsGivenOr given test) pages
    → IsTrue (list_all (λ page. holds fresh page || test page) pages)
fresh_or given fresh test pages same all =
    passes_by (λ page. holds fresh page || test page) pages (all_as (IsGivenOr given test) (λ (page : ℕ). (holds fresh page || test page) ≡ true) pages
    (λ page either. elim either [ inl a ↦ or_left (holds fresh page) (test page) (same page ∙ a) | inr b ↦ or_right (holds fresh page) (test page) b ]) all)

record AreUsed (base : Core) (h : History) (change : Change) (used : Used) (given : List ℕ) : Type 0 where
  version : AllByRecursion (IsGivenOr given (Newest base h change)) used.version
  catalogue : AllByRecursion (IsGivenOr given (holds (catalogue_at base h))) used.catalogue
  none : makes_version change ≡ false → used.version ≡ []

may_use : (base : Core) (h : History) (change : Change) (newest : Directory) (used : Used) (pages : List ℕ) → AreGiven base h change newest pages → AreSamePages (fresh_at base h change used) pages
    → AreUsed base h change used pages → MayUse base h change used pages
may_use base h change newest used pages given same uses =
    let fresh = fresh_at base h change used in
    let free = free_at base h in
    let all : AllByRecursion (λ page. holds free page ≡ true) fresh = all_as (λ (page : ℕ). holds fresh page ≡ true) (λ (page : ℕ). holds free page ≡ true) fresh
    (λ page held. held_has (λ p. holds free p ≡ true) pages given.free page (sym (same.held page) ∙ held)) (all_own fresh) in
    record {
      allowed = λ session pinned allow.
          let lists = and_from (are_different fresh) (list_all (holds free) fresh) (same.different given.different) (passes_by (holds free) fresh all) in
          and_from (is_pinned session h) (names_allow (names_at base h) change && (are_different fresh && list_all (holds free) fresh)) pinned
          (and_from (names_allow (names_at base h) change) (are_different fresh && list_all (holds free) fresh) allow lists);
      own = record {
        version = fresh_or pages fresh (Newest base h change) used.version same.held uses.version;
        catalogue = fresh_or pages fresh (holds (catalogue_at base h)) used.catalogue same.held uses.catalogue;
        none = uses.none;
      };
      many = same.many;
    }

-- ---- what is laid

no_pages : (change : Change) (written : Option Written) (newest : Directory) (pages : List ℕ) → is_some written ≡ makes_version change → makes_version change ≡ false → (new_version pages written newest).pages ≡ []
no_pages change None newest pages comes none = refl
no_pages change (Some written) newest pages comes none = absurd (let e : true ≡ false = comes ∙ none in cc)

newest_or : (base : Core) (h : History) (change : Change) (newest : Directory) (pages given : List ℕ) → AreGiven base h change newest pages
    → AllByRecursion (λ entry. AllByRecursion (IsGivenOr given (Newest base h change)) entry.pages) newest.entries
newest_or base h change newest pages given is =
    all_as (λ (entry : DirEntry). AllByRecursion (λ page. Newest base h change page ≡ true) entry.pages) (λ (entry : DirEntry). AllByRecursion (IsGivenOr given (Newest base h change)) entry.pages) newest.entries
    (λ entry all. all_as (λ (page : ℕ). Newest base h change page ≡ true) (IsGivenOr given (Newest base h change)) entry.pages (λ page is. inr is) all) is.shared

pub records_may_use : RecordsMayUse
unfolding record_laid
records_may_use base h catalog newest change written pages given is comes count =
    let catalogue = catalogue_at base h in
    let version = new_version pages written newest in
    let chain = chain_in (rest_of version pages) (record_bytes catalog change version.at) in
    let fills : pages_of version.blobs ++ chain.pages ≡ pages = (record_fills catalog newest change written pages comes is count).all in
    let own : AllByRecursion (λ page. holds pages page ≡ true) (pages_of version.blobs ++ chain.pages) = subst (AllByRecursion (λ page. holds pages page ≡ true)) (sym fills) (all_own pages) in
    let blobs = front_all (λ (page : ℕ). holds pages page ≡ true) (pages_of version.blobs) chain.pages own in
    let chained = rest_all (λ (page : ℕ). holds pages page ≡ true) (pages_of version.blobs) chain.pages own in
    let used : Used = record { version = version.pages; catalogue = catalogue ++ chain.pages } in
    may_use base h change newest used pages given
    (records_use_the_given (names_at base h) (pages_at base h) catalog catalogue newest change written pages (apart base h change newest pages given) is comes count)
    (record {
      version = version_has (IsGivenOr pages (Newest base h change)) pages written newest
          (all_as (λ (page : ℕ). holds pages page ≡ true) (IsGivenOr pages (Newest base h change)) (pages_of version.blobs) (λ page held. inl held) blobs)
          (newest_or base h change newest pages pages given);
      catalogue = both_all (IsGivenOr pages (holds catalogue)) catalogue chain.pages
          (all_as (λ (page : ℕ). holds catalogue page ≡ true) (IsGivenOr pages (holds catalogue)) catalogue (λ page held. inr held) (all_own catalogue))
          (all_as (λ (page : ℕ). holds pages page ≡ true) (IsGivenOr pages (holds catalogue)) chain.pages (λ page held. inl held) chained);
      none = no_pages change written newest pages comes;
    })

pub bases_may_use : BasesMayUse
unfolding base_laid
bases_may_use base h catalog newest change written pages log given is comes count =
    let catalogue = catalogue_at base h in
    let all = pages ++ log ∷ [] in
    let version = new_version pages written newest in
    let chain = chain_in (rest_of version pages) (catalog_bytes catalog change version.at) in
    let fills : pages_of version.blobs ++ (chain.pages ++ log ∷ []) ≡ all
    = sym (append_assoc (pages_of version.blobs) chain.pages (log ∷ [])) ∙ ap (λ (ps : List ℕ). ps ++ log ∷ []) (base_fills catalog newest change written pages is count).all in
    let own : AllByRecursion (λ page. holds all page ≡ true) (pages_of version.blobs ++ (chain.pages ++ log ∷ [])) = subst (AllByRecursion (λ page. holds all page ≡ true)) (sym fills) (all_own all) in
    let blobs = front_all (λ (page : ℕ). holds all page ≡ true) (pages_of version.blobs) (chain.pages ++ log ∷ []) own in
    let chained = rest_all (λ (page : ℕ). holds all page ≡ true) (pages_of version.blobs) (chain.pages ++ log ∷ []) own in
    let used : Used = record { version = version.pages; catalogue = chain.pages ++ log ∷ [] } in
    may_use base h change newest used all given
    (bases_use_the_given (names_at base h) (pages_at base h) catalog catalogue newest change written pages log (apart base h change newest all given) is count)
    (record {
      version = version_has (IsGivenOr all (Newest base h change)) pages written newest
          (all_as (λ (page : ℕ). holds all page ≡ true) (IsGivenOr all (Newest base h change)) (pages_of version.blobs) (λ page held. inl held) blobs)
          (newest_or base h change newest all all given);
      catalogue = all_as (λ (page : ℕ). holds all page ≡ true) (IsGivenOr all (holds catalogue)) (chain.pages ++ log ∷ []) (λ page held. inl held) chained;
      none = no_pages change written newest pages comes;
    })

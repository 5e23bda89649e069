-- The pages in which a commit is laid are free, and none of them was found.
use Rattle.std.proofs.Common.{◌≡◌, ◌<◌, ◌≤◌, ◌^◌, ℕ, zero, suc, Bool, true, false, not, ◌||◌, nat_eq, List, [], ◌∷◌, length, slice_index, IfSome, Option, IsTrue, refl, ap, sym, arith}
use Rattle.std.specs.List.{AllByRecursion, list_any}
use Rattle.std.proofs.lemmas.Bool.{eq-eqb, eqb-true, or_left, or_right}
use Rattle.array_geom.specs.declared.chunk.Changed.{Changed}
use Rattle.page_chain.specs.Links.{AreFree}
use Rattle.page_chain.specs.Pages.{AreDistinct}
use Rattle.chunk_map.specs.declared.directory.Directory.{Directory}
use Rattle.plan_changes.specs.declared.change.Change.{Change}
use Rattle.version_catalog.specs.declared.rules.catalog.Catalog.{Catalog}
use Rattle.version_reaper.specs.PageSets.{holds}
use Rattle.event_core.specs.declared.state.Core.{Core}
use Rattle.event_core.specs.Allowed.{IsBase, is_allowed}
use Rattle.event_core.specs.History.{History, catalogue_at, open_pins, pages_at}
use Rattle.event_core.specs.Pages.{free_at, has_page, is_live, pin_names}
use Rattle.store_versions.proofs.Free.{free_pages_are_within, no_free_page_is_live}
use Rattle.file_meaning.proofs.Free.{weaker}
use Rattle.page_file.specs.Commits.{commit_pages}
use Rattle.store_state.specs.Laid.{Laid}
use Rattle.store_state.specs.Changes.{AreValid, ComesWith}
use Rattle.store_state.specs.Commits.{base_laid, base_needs, record_laid, record_needs}
use Rattle.store_state.specs.Versions.{draft_of, new_version}
use Rattle.store_state.proofs.Chains.{base_lies, record_lies}
use Rattle.store_state.proofs.Records.{draft_comes, draft_written}
use Rattle.store_sealing.proofs.Live.{none_by}

each_index : (P : ℕ → Type 0) (pages : List ℕ) → AllByRecursion P pages → (k : ℕ) → k < length pages → P (slice_index pages k)
each_index P [] all k low = absurd (omega (arith, low))
each_index P (p ∷ pages) all zero low = all.0
each_index P (p ∷ pages) all (suc k) low = each_index P pages all.1 k (omega (arith, low))

module _ (base : Core) (h : History) where
  abbrev Free : ℕ → Type 0
  Free page = IsTrue (holds (free_at base h) page)

  pub log_live : (log : ℕ) → holds (0 ∷ catalogue_at base h) log ≡ true → is_live base h log ≡ true
  log_live log held = by_first (nat_eq 0 log) refl held
    where
      by_first : (b : Bool) → nat_eq 0 log ≡ b → (b || holds (catalogue_at base h) log) ≡ true → is_live base h log ≡ true
      by_first true is e =
          let same : 0 ≡ log = eqb-true 0 log is in
          or_left (nat_eq log 0) (holds (catalogue_at base h) log || (has_page (pages_at base h) log || list_any (pin_names base log) (open_pins h))) (eq-eqb log 0 (sym same))
      by_first false is e =
          or_right (nat_eq log 0) (holds (catalogue_at base h) log || (has_page (pages_at base h) log || list_any (pin_names base log) (open_pins h)))
          (or_left (holds (catalogue_at base h) log) (has_page (pages_at base h) log || list_any (pin_names base log) (open_pins h)) e)

  module _ (begins : IsBase base) (allowed : IsTrue (is_allowed base h)) where
    pub unnamed : (pages : List ℕ) → AllByRecursion Free pages → AllByRecursion (λ q. is_live base h q ≡ false) pages
    unnamed pages free = weaker Free (λ q. is_live base h q ≡ false) (λ q held. no_free_page_is_live base h begins allowed q held) pages free

    pub positive : (page : ℕ) → Free page → 0 < page
    positive page held =
        let within : (1 ≤ page) × (page < base.limit) = free_pages_are_within base h begins page held in
        let some : 1 ≤ page = within.0 in
        omega (arith, some)

    below : (page : ℕ) → base.limit ≤ 2 ^ 32 → Free page → page < 2 ^ 32
    below page limit held =
        let within : (1 ≤ page) × (page < base.limit) = free_pages_are_within base h begins page held in
        let low : page < base.limit = within.1 in
        omega (arith, low, limit)

    pub are_free : (taken pages : List ℕ) → base.limit ≤ 2 ^ 32 → AllByRecursion (λ q. is_live base h q ≡ true) taken → AllByRecursion Free pages → AreDistinct pages → AreFree taken pages
    are_free taken pages limit live free distinct = record {
      least = λ k low. positive (slice_index pages k) (each_index Free pages free k low);
      most = λ k low. below (slice_index pages k) limit (each_index Free pages free k low);
      apart = λ k low. none_by (λ q. not (is_live base h q)) taken (slice_index pages k)
          (ap not (no_free_page_is_live base h begins allowed (slice_index pages k) (each_index Free pages free k low)))
          (weaker (λ q. is_live base h q ≡ true) (λ q. not (is_live base h q) ≡ false) (λ q is. ap not is) taken live);
      distinct = distinct;
    }

-- ---- what is laid has all of them

pub record_all : (catalog : Catalog) (catalogue : List ℕ) (newest : Directory) (change : Change) (changed : Option Changed) (birth : ℕ) (pages : List ℕ) (laid : Laid) → ComesWith change changed
    → IfSome changed AreValid → length pages ≡ record_needs catalog newest change (draft_of birth changed) → laid ≡ record_laid catalog catalogue newest change (draft_of birth changed) pages
    → commit_pages laid.blobs laid.chain ≡ pages
unfolding record_laid
record_all catalog catalogue newest change changed birth pages laid comes valid enough is =
    (record_lies catalog catalogue newest change (draft_of birth changed) pages (new_version pages (draft_of birth changed) newest) laid (draft_comes change changed birth comes)
    (draft_written changed birth valid) enough refl is).all

pub base_all : (catalog : Catalog) (newest : Directory) (change : Change) (changed : Option Changed) (birth : ℕ) (pages : List ℕ) (log : ℕ) (laid : Laid)
    → IfSome changed AreValid → length pages ≡ base_needs catalog newest change (draft_of birth changed) → laid ≡ base_laid catalog newest change (draft_of birth changed) pages log
    → commit_pages laid.blobs laid.chain ≡ pages
unfolding base_laid
base_all catalog newest change changed birth pages log laid valid enough is =
    (base_lies catalog newest change (draft_of birth changed) pages log (new_version pages (draft_of birth changed) newest) laid (draft_written changed birth valid) enough refl is).all

-- What is laid in the first free pages may be used.
use Rattle.std.proofs.Common.{◌≡◌, ◌∙◌, ◌+◌, ◌≤◌, ◌<◌, ◌^◌, ℕ, true, List, [], ◌∷◌, ◌++◌, length, take, slice_index, Option, None, Some, IfSome, refl, sym, ap, subst, arith}
use Rattle.std.specs.Prelude.{IsTrue}
use Rattle.std.specs.List.{AllByRecursion}
use Rattle.std.specs.Option.{is_some}
use Rattle.std.proofs.lemmas.List.{length-take-le, take_more}
use Rattle.chunk_map.specs.declared.directory.Directory.{Directory}
use Rattle.page_chain.specs.declared.slots.slots.slots.Target.{Target}
use Rattle.page_chain.specs.declared.slots.slots.slots.Target.TheVariants.{Root, Record}
use Rattle.plan_changes.specs.declared.change.Change.{Change}
use Rattle.plan_changes.specs.Changes.{name_of}
use Rattle.version_catalog.specs.declared.rules.catalog.Catalog.{Catalog}
use Rattle.event_core.specs.declared.state.Core.{Core}
use Rattle.event_core.specs.Allowed.{IsBase, is_allowed}
use Rattle.event_core.specs.Apart.{makes_version}
use Rattle.event_core.specs.History.{History, catalogue_at, names_at, pages_at}
use Rattle.event_core.specs.Pages.{free_at, is_newest}
use Rattle.prepared_commits.specs.Laid.{Laid}
use Rattle.prepared_commits.specs.Written.{Written}
use Rattle.prepared_commits.specs.Commits.{record_needs, base_needs}
use Rattle.prepared_commits.specs.Versions.{IsWritten}
use Rattle.store_state.specs.GivenLaws.{AreFirst, AreGiven, MayUse}
use Rattle.store_state.proofs.First.{first_differ}
use Rattle.store_state.proofs.GivenPages.{records_may_use, bases_may_use}
use Rattle.prepared_commits.specs.declared.commits.prepared.NewBase.{NewBase}
use Rattle.prepared_commits.specs.Needs.{IsBase as IsBaseOf, IsRecord, all_pages, needs_by}
use Rattle.prepared_commits.specs.Layouts.{base_by, blobs_need, laid_by}

abbrev pub IsBy : Target → ℕ → Catalog → List ℕ → Directory → Change → Option Written → List ℕ → Option NewBase → Laid → Type 0
IsBy target sequence catalog catalogue newest change written pages None laid = IsRecord target catalog catalogue newest change written pages laid
IsBy target sequence catalog catalogue newest change written pages (Some base) laid = IsBaseOf target sequence base catalog newest change written pages laid

-- the history and what is asked of the newest version
pub record IsOpen (base : Core) (h : History) (newest : Directory) (change : Change) (written : Option Written) : Type 0 where
  pub begins : IsBase base
  pub allowed : IsTrue (is_allowed base h)
  pub shared : AllByRecursion (λ entry. AllByRecursion (λ page. is_newest (names_at base h) (pages_at base h) (name_of change) page ≡ true) entry.pages) newest.entries
  pub ready : IfSome written IsWritten
  pub comes : is_some written ≡ makes_version change

pub record IsUse (base : Core) (h : History) (target : Target) (sequence : ℕ) (catalog : Catalog) (newest : Directory) (change : Change) (written : Option Written) (laid : Laid) (at : Option NewBase) : Type 0 where
  pub pages : List ℕ
  pub by : IsBy target sequence catalog (catalogue_at base h) newest change written pages at laid
  pub first : AreFirst (free_at base h) (all_pages pages at)
  pub may : MayUse base h change laid.used (all_pages pages at)
  pub enough : length pages ≡ blobs_need target catalog newest change written
  pub many : length (all_pages pages at) ≡ needs_by target catalog newest change written

given : (base : Core) (h : History) (newest : Directory) (change : Change) (written : Option Written) (pages : List ℕ) → IsOpen base h newest change written → AreFirst (free_at base h) pages → AreGiven base h change newest pages
given base h newest change written pages is first = record { begins = is.begins; allowed = is.allowed; shared = is.shared; free = first.free; different = first.different }

pub use_by : (base : Core) (h : History) (target : Target) (sequence : ℕ) (catalog : Catalog) (newest : Directory) (change : Change) (written : Option Written) → IsOpen base h newest change written
    → needs_by target catalog newest change written ≤ length (free_at base h)
    → IsUse base h target sequence catalog newest change written (laid_by target catalog (catalogue_at base h) newest change written (free_at base h)) (base_by target sequence catalog newest change written (free_at base h))
use_by base h Record sequence catalog newest change written is fits =
    let n = record_needs catalog newest change written in
    let free = free_at base h in
    let pages = take n free in
    let first : AreFirst free pages = first_differ base h n is.begins in
    let enough : length pages ≡ n = length-take-le n free fits in
    record {
      pages = pages;
      by = record { target = refl; enough = enough; is = refl };
      first = first;
      may = records_may_use base h catalog newest change written pages (given base h newest change written pages is first) is.ready is.comes enough;
      enough = enough;
      many = enough;
    }
use_by base h Root sequence catalog newest change written is fits =
    let n = base_needs catalog newest change written in
    let free = free_at base h in
    let pages = take n free in
    let log = slice_index free n in
    let less : n < length free = omega (arith, fits) in
    let all : take (n + 1) free ≡ pages ++ log ∷ [] = take_more free n 0 less in
    let first : AreFirst free (pages ++ log ∷ []) = subst (AreFirst free) all (first_differ base h (n + 1) is.begins) in
    let enough : length pages ≡ n = length-take-le n free (omega (arith, less)) in
    let longer : length (take (n + 1) free) ≡ n + 1 = length-take-le (n + 1) free fits in
    record {
      pages = pages;
      by = record { target = refl; sequence = refl; enough = enough; is = refl };
      first = first;
      may = bases_may_use base h catalog newest change written pages log (given base h newest change written (pages ++ log ∷ []) is first) is.ready is.comes enough;
      enough = enough;
      many = ap (λ (ps : List ℕ). length ps) (sym all) ∙ longer;
    }

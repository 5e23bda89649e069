-- What is found of the file once a commit is sealed.
use Rattle.std.proofs.Common.{◌≡◌, ◌∙◌, ℕ, ◌<◌, Bool, if◌then◌else◌, List, [], ◌∷◌, ◌++◌, length, Option, None, Some, IsTrue, ap, sym, subst, arith}
use Rattle.std.specs.List.{AllZip}
use Rattle.std.specs.Option.{option_map}
use Rattle.std.proofs.lemmas.Bool.{ne_eqb}
use Rattle.std.proofs.lemmas.List.{append_assoc, append-nil}
use Rattle.array_geom.specs.declared.chunk.Changed.{Changed}
use Rattle.chunk_map.specs.declared.directory.Directory.{Directory}
use Rattle.logical_plan.specs.declared.names.Names.{Names}
use Rattle.plan_changes.specs.declared.change.Change.{Change}
use Rattle.plan_changes.specs.declared.change.Change.TheVariants.{Create, Store, Insert, Remove, RemoveVersions}
use Rattle.plan_changes.specs.Allowed.{names_allow}
use Rattle.version_catalog.specs.declared.rules.catalog.BlobAt.{BlobAt}
use Rattle.version_catalog.specs.declared.rules.catalog.Catalog.{Catalog}
use Rattle.version_catalog.specs.Catalogs.{IsCatalog, names_in}
use Rattle.version_catalog.specs.Changed.{after_change}
use Rattle.event_core.specs.declared.entry.Entry.TheVariants.{Commit}
use Rattle.event_core.specs.declared.entry.Used.{Used}
use Rattle.event_core.specs.declared.state.Core.{Core}
use Rattle.event_core.specs.History.{History, names_at, pages_after, pages_at}
use Rattle.file_meaning.specs.Opening.{all_of}
use Rattle.file_meaning.specs.declared.meaning.found.Found.{Found}
use Rattle.file_meaning.specs.Next.{Made, Rows, blob_of, rows_after}
use Rattle.store_state.specs.Changes.{ComesWith}
use Rattle.store_state.specs.LaidPremises.{made_by as placed_by, pages_made}
use Rattle.store_state.specs.RowsLaws.{StandInOrder}
use Rattle.store_state.specs.Rows.{IsMadeWith, IsPagesOf, directories_in, pages_in, pages_of_rows}
use Rattle.store_state.proofs.RowsDirectories.{directories_follow}
use Rattle.store_state.proofs.RowsPages.{pages_follow}
use Rattle.store_versions.specs.declared.ready.ReadyVersion.{ReadyVersion}
use Rattle.store_versions.specs.Rows.{directory_in}
use Rattle.store_versions.specs.Versions.{Directories, MadeVersion, versions_after, versions_at}
use Rattle.prepared_commits.specs.Cells.{IsFound}
use Rattle.prepared_commits.specs.Keeping.{log_pages, pages_of_catalogue}
use Rattle.store_sealing.proofs.Catalogs.{IsMadeOf}

-- ---- the version that is made

version_is : (version : Option ReadyVersion) (d : Directory) → option_map (λ ready. ready.directory) version ≡ Some d → d ≡ directory_in version
version_is None d e = absurd cc
version_is (Some ready) d e = cc

is_made : (change : Change) (changed : Changed) (at : Option BlobAt) (directory : Option Directory) (pages : List ℕ) (version : Option ReadyVersion)
    → ((own : BlobAt) (made : Directory) → made ≡ directory_in version → IsMadeWith change (placed_by (Some own) (Some made)) (directory_in version))
    → IsMadeOf (Some changed) at directory pages → option_map (λ ready. ready.directory) version ≡ directory → IsMadeWith change (placed_by at directory) (directory_in version)
is_made change changed at directory pages version one made is =
    subst (λ (a : Option BlobAt). IsMadeWith change (placed_by a directory) (directory_in version)) (sym made.at)
    (subst (λ (d : Option Directory). IsMadeWith change (placed_by (Some made.own) d) (directory_in version)) (sym made.directory)
    (one made.own made.made (version_is version made.made (is ∙ made.directory))))

none_made : (change : Change) (at : Option BlobAt) (directory : Option Directory) (version : Option ReadyVersion) → IsMadeWith change None (directory_in version) → at ≡ None
    → IsMadeWith change (placed_by at directory) (directory_in version)
none_made change at directory version none is = subst (λ (a : Option BlobAt). IsMadeWith change (placed_by a directory) (directory_in version)) (sym is) none

pub made_with : (change : Change) (changed : Option Changed) (at : Option BlobAt) (directory : Option Directory) (pages : List ℕ) (version : Option ReadyVersion) → ComesWith change changed
    → IsMadeOf changed at directory pages → option_map (λ ready. ready.directory) version ≡ directory → IsMadeWith change (placed_by at directory) (directory_in version)
made_with (Create name schema) None at directory pages version comes made is = none_made (Create name schema) at directory version tt made
made_with (Create name schema) (Some changed) at directory pages version comes made is = absurd cc
made_with (Store name schema plan) None at directory pages version comes made is = absurd comes
made_with (Store name schema plan) (Some changed) at directory pages version comes made is =
    is_made (Store name schema plan) changed at directory pages version (λ own made same. same) made is
made_with (Insert name schema plan) None at directory pages version comes made is = absurd comes
made_with (Insert name schema plan) (Some changed) at directory pages version comes made is =
    is_made (Insert name schema plan) changed at directory pages version (λ own made same. same) made is
made_with (Remove name) None at directory pages version comes made is = none_made (Remove name) at directory version tt made
made_with (Remove name) (Some changed) at directory pages version comes made is = absurd cc
made_with (RemoveVersions name below) None at directory pages version comes made is = none_made (RemoveVersions name below) at directory version tt made
made_with (RemoveVersions name below) (Some changed) at directory pages version comes made is = absurd cc

-- ---- the catalogue's pages

behind : (lists : List (List ℕ)) (pages : List ℕ) → all_of (lists ++ pages ∷ []) ≡ all_of lists ++ pages
behind [] pages = append-nil pages
behind (list ∷ lists) pages = ap (λ (ps : List ℕ). list ++ ps) (behind lists pages) ∙ sym (append_assoc list (all_of lists) pages)

pub record_catalogue : (before after chain pages : List ℕ) (log : ℕ) (logged : List (List ℕ)) → after ≡ before ++ pages → before ≡ pages_of_catalogue chain log logged
    → after ≡ pages_of_catalogue chain log (logged ++ pages ∷ [])
record_catalogue before after chain pages log logged told is =
    told ∙ ap (λ (ps : List ℕ). ps ++ pages) is ∙ append_assoc (chain ++ log_pages log) (all_of logged) pages ∙ ap (λ (ps : List ℕ). (chain ++ log_pages log) ++ ps) (sym (behind logged pages))

log_is : (log : ℕ) → 0 < log → log_pages log ≡ log ∷ []
log_is log some = ap (λ (b : Bool). if b then [] else log ∷ []) (ne_eqb log 0 (λ (same : log ≡ 0). omega (arith, some, same)))

pub base_catalogue : (after pages : List ℕ) (log : ℕ) → 0 < log → after ≡ pages ++ log ∷ [] → after ≡ pages_of_catalogue pages log []
base_catalogue after pages log some told = told ∙ ap (λ (ps : List ℕ). pages ++ ps) (sym (log_is log some)) ∙ sym (append-nil (pages ++ log_pages log))

-- ---- what is found

module _ (base : Core) (given : Directories) (h : History) (kept : Catalog) (log : ℕ) (found : Found) (change : Change) (made : Option Made) (directory : Directory) (session : ℕ) (used : Used)
    (is : IsFound base given h kept log found) (stand : StandInOrder kept (versions_at base given h)) (catalog : IsCatalog kept) (zip : AllZip IsPagesOf (pages_at base h) (versions_at base given h))
    (named : names_in kept ≡ names_at base h) (ok : IsTrue (names_allow (names_in kept) change)) (of : IsMadeWith change made directory) (its : given.made (length h) ≡ directory)
    (own : used.version ≡ pages_made made) where
  abbrev next : Catalog
  next = after_change kept change (blob_of made)

  abbrev rows : Rows
  rows = rows_after (names_in found.catalog).arrays change made found.directories

  versions_next : versions_after (names_in kept) change directory (versions_at base given h) ≡ versions_at base given (Commit session change used ∷ h)
  versions_next = ap (λ (names : Names). versions_after names change directory (versions_at base given h)) named
      ∙ ap (λ (d : Directory). versions_after (names_at base h) change d (versions_at base given h)) (sym its)

  rows_kept : rows ≡ rows_after (names_in kept).arrays change made (directories_in kept (versions_at base given h))
  rows_kept = ap (λ (c : Catalog). rows_after (names_in c).arrays change made found.directories) is.catalog ∙ ap (rows_after (names_in kept).arrays change made) is.directories

  directories_next : rows ≡ directories_in next (versions_at base given (Commit session change used ∷ h))
  directories_next = rows_kept ∙ sym (directories_follow kept (versions_at base given h) change made directory stand ok of) ∙ ap (directories_in next) versions_next

  stored_before : pages_of_rows kept (directories_in kept (versions_at base given h)) ≡ pages_in kept (pages_at base h)
  stored_before = ap (pages_of_rows kept) (sym is.directories) ∙ is.stored

  stored_next : pages_of_rows next rows ≡ pages_in next (pages_at base (Commit session change used ∷ h))
  stored_next = ap (pages_of_rows next) directories_next
      ∙ ap (λ (versions : List MadeVersion). pages_of_rows next (directories_in next versions)) (sym versions_next)
      ∙ pages_follow kept (versions_at base given h) (pages_at base h) change made directory catalog stand zip ok of stored_before
      ∙ ap (λ (names : Names). pages_in next (pages_after names change (pages_made made) (pages_at base h))) named
      ∙ ap (λ (pages : List ℕ). pages_in next (pages_after (names_at base h) change pages (pages_at base h))) (sym own)

  abbrev Next : Catalog → ℕ → List ℕ → List (List ℕ) → Type 0
  Next c at chain logged = IsFound base given (Commit session change used ∷ h) c at
      (record { chain = chain; logged = logged; catalog = after_change found.catalog change (blob_of made); directories = rows })

  pub is_next : (c : Catalog) (at : ℕ) (chain : List ℕ) (logged : List (List ℕ)) → after_change found.catalog change (blob_of made) ≡ c → used.catalogue ≡ pages_of_catalogue chain at logged
      → Next c at chain logged
  is_next c at chain logged same catalogue =
      let turned : after_change found.catalog change (blob_of made) ≡ next = ap (λ (k : Catalog). after_change k change (blob_of made)) is.catalog in
      subst (λ (k : Catalog). Next k at chain logged) (sym turned ∙ same) (record { catalog = turned; directories = directories_next; catalogue = catalogue; stored = stored_next })

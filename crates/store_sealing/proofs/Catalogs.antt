-- What is laid of a change: the next catalogue, and the version that it makes.
use Rattle.std.proofs.Common.{◌≡◌, ◌∙◌, ℕ, true, List, [], ◌∷◌, ◌++◌, length, drop, Option, None, Some, refl, ap, sym, subst}
use Rattle.std.specs.Prelude.{IfSome}
use Rattle.std.specs.Option.{option_map}
use Rattle.cell_values.specs.declared.schema.Schema.{Schema}
use Rattle.array_geom.specs.declared.chunk.Changed.{Changed}
use Rattle.chunk_map.specs.declared.directory.Directory.{Directory}
use Rattle.plan_changes.specs.declared.change.Change.{Change}
use Rattle.plan_changes.specs.declared.change.Change.TheVariants.{Create, Store, Insert, Remove, RemoveVersions}
use Rattle.version_catalog.specs.declared.rules.catalog.BlobAt.{BlobAt}
use Rattle.version_catalog.specs.declared.rules.catalog.Catalog.{Catalog}
use Rattle.version_catalog.specs.Changed.{after_change, has_its_directory}
use Rattle.file_meaning.specs.Opening.{version_pages}
use Rattle.page_file.specs.Commits.{pages_of}
use Rattle.store_state.specs.Laid.{Laid}
use Rattle.store_state.specs.NewVersion.{NewVersion}
use Rattle.store_state.specs.Written.{Written}
use Rattle.store_state.specs.Changes.{ComesWith}
use Rattle.store_state.specs.Commits.{record_laid, base_laid}
use Rattle.store_state.specs.Versions.{draft, draft_of, settled, placed, blob_at, directory_of, directory_bytes, version_in, new_version}
use Rattle.store_versions.specs.declared.ready.ReadyVersion.{ReadyVersion}
use Rattle.store_versions.specs.Rows.{directory_in}
use Rattle.prepared_commits.specs.Keeping.{IsDirectoryOf}
use Rattle.store_sealing.proofs.Schemas.{IsMadeIn, IsNew}

-- ---- the version

-- a version that was made: where its directory lies, and its pages
pub record IsMade (place : Option BlobAt) (listed : Option Directory) (used : List ℕ) : Type 0 where
  pub own : BlobAt
  pub made : Directory
  pub at : place ≡ Some own
  pub directory : listed ≡ Some made
  pub pages : used ≡ version_pages own made

-- where chunks come, one was made, and else none
abbrev pub IsMadeOf : Option Changed → Option BlobAt → Option Directory → List ℕ → Type 0
IsMadeOf None at directory pages = at ≡ None
IsMadeOf (Some changed) at directory pages = IsMade at directory pages

version_made : (pages : List ℕ) (birth : ℕ) (changed : Option Changed) (newest : Directory) (version : NewVersion) → version ≡ new_version pages (draft_of birth changed) newest →
    IsMadeOf changed version.at version.directory version.pages
unfolding version_in
version_made pages birth None newest version is = ap (λ (v : NewVersion). v.at) is
version_made pages birth (Some changed) newest version is =
    let written : Written = settled pages (draft birth changed) in
    record {
      own = blob_at (placed (drop (length (pages_of (draft birth changed).payloads)) pages) (directory_bytes written newest));
      made = directory_of written newest;
      at = ap (λ (v : NewVersion). v.at) is;
      directory = ap (λ (v : NewVersion). v.directory) is;
      pages = ap (λ (v : NewVersion). v.pages) is;
    }

-- ---- what is laid

-- the catalogue is that after the change, and the version is made of the chunks that come
pub record IsLaidOf (before : Catalog) (change : Change) (changed : Option Changed) (laid : Laid) : Type 0 where
  pub catalog : laid.catalog ≡ after_change before change laid.at
  pub version : IsMadeOf changed laid.at laid.directory laid.used.version

pub record_is : (catalog : Catalog) (catalogue : List ℕ) (newest : Directory) (change : Change) (birth : ℕ) (changed : Option Changed) (pages : List ℕ) →
    IsLaidOf catalog change changed (record_laid catalog catalogue newest change (draft_of birth changed) pages)
unfolding record_laid
record_is catalog catalogue newest change birth changed pages =
    record { catalog = refl; version = version_made pages birth changed newest (new_version pages (draft_of birth changed) newest) refl }

pub record_tells : (catalog : Catalog) (catalogue : List ℕ) (newest : Directory) (change : Change) (written : Option Written) (pages : List ℕ) →
    (record_laid catalog catalogue newest change written pages).used.catalogue ≡ catalogue ++ (record_laid catalog catalogue newest change written pages).chain.pages
unfolding record_laid
record_tells catalog catalogue newest change written pages = refl

pub base_is : (catalog : Catalog) (newest : Directory) (change : Change) (birth : ℕ) (changed : Option Changed) (pages : List ℕ) (log : ℕ) →
    IsLaidOf catalog change changed (base_laid catalog newest change (draft_of birth changed) pages log)
unfolding base_laid
base_is catalog newest change birth changed pages log =
    record { catalog = refl; version = version_made pages birth changed newest (new_version pages (draft_of birth changed) newest) refl }

pub base_tells : (catalog : Catalog) (newest : Directory) (change : Change) (written : Option Written) (pages : List ℕ) (log : ℕ) →
    (base_laid catalog newest change written pages log).used.catalogue ≡ (base_laid catalog newest change written pages log).chain.pages ++ log ∷ []
unfolding base_laid
base_tells catalog newest change written pages log = refl

-- ---- what comes with a change

pub has_its : (change : Change) (changed : Option Changed) (at : Option BlobAt) (directory : Option Directory) (pages : List ℕ) → ComesWith change changed →
    IsMadeOf changed at directory pages → has_its_directory change at ≡ true
has_its (Create name schema) None at directory pages comes made = ap (has_its_directory (Create name schema)) made
has_its (Create name schema) (Some changed) at directory pages comes made = absurd cc
has_its (Store name schema plan) None at directory pages comes made = absurd comes
has_its (Store name schema plan) (Some changed) at directory pages comes made = ap (has_its_directory (Store name schema plan)) made.at
has_its (Insert name schema plan) None at directory pages comes made = absurd comes
has_its (Insert name schema plan) (Some changed) at directory pages comes made = ap (has_its_directory (Insert name schema plan)) made.at
has_its (Remove name) None at directory pages comes made = ap (has_its_directory (Remove name)) made
has_its (Remove name) (Some changed) at directory pages comes made = absurd cc
has_its (RemoveVersions name below) None at directory pages comes made = ap (has_its_directory (RemoveVersions name below)) made
has_its (RemoveVersions name below) (Some changed) at directory pages comes made = absurd cc

-- the directory that is ready is the one that was made
pub ready_is : (ready : Option ReadyVersion) (made : Directory) → option_map (λ (r : ReadyVersion). r.directory) ready ≡ Some made → directory_in ready ≡ made
ready_is None made e = absurd cc
ready_is (Some ready) made e = cc

made_in : (changed : Changed) (ready : Option ReadyVersion) (at : Option BlobAt) (directory : Option Directory) (pages : List ℕ) →
    IsMade at directory pages → IfSome directory (IsDirectoryOf changed.schema) → option_map (λ (r : ReadyVersion). r.directory) ready ≡ directory →
    IsMadeIn changed.schema (directory_in ready) pages
made_in changed ready at directory pages made rules is =
    let same : directory_in ready ≡ made.made = ready_is ready made.made (is ∙ made.directory) in
    record {
      rules = subst (IsDirectoryOf changed.schema) (sym same) (subst (λ (o : Option Directory). IfSome o (IsDirectoryOf changed.schema)) made.directory rules);
      own = made.own;
      pages = made.pages ∙ ap (version_pages made.own) (sym same);
    }

pub new_of : (change : Change) (changed : Option Changed) (ready : Option ReadyVersion) (at : Option BlobAt) (directory : Option Directory) (pages : List ℕ) →
    ComesWith change changed → IsMadeOf changed at directory pages → IfSome changed (λ some. IfSome directory (IsDirectoryOf some.schema)) →
    option_map (λ (r : ReadyVersion). r.directory) ready ≡ directory → IsNew change (directory_in ready) pages
new_of (Create name schema) changed ready at directory pages comes made rules is = tt
new_of (Store name schema plan) None ready at directory pages comes made rules is = absurd comes
new_of (Store name schema plan) (Some changed) ready at directory pages comes made rules is =
    subst (λ (s : Schema). IsMadeIn s (directory_in ready) pages) comes.0 (made_in changed ready at directory pages made rules is)
new_of (Insert name schema plan) None ready at directory pages comes made rules is = absurd comes
new_of (Insert name schema plan) (Some changed) ready at directory pages comes made rules is =
    subst (λ (s : Schema). IsMadeIn s (directory_in ready) pages) comes.0 (made_in changed ready at directory pages made rules is)
new_of (Remove name) changed ready at directory pages comes made rules is = tt
new_of (RemoveVersions name below) changed ready at directory pages comes made rules is = tt

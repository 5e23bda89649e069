-- The chain of a commit behind the blobs of its version.
use Rattle.std.proofs.Common.{◌≡◌, ◌∙◌, IfSome, ℕ, ◌+◌, ◌-◌, ◌<◌, Bool, true, false, cond, List, [], ◌∷◌, ◌++◌, length, take, drop, Option, Some, None, refl, sym, ap, subst, arith}
use Rattle.std.specs.Int.{w32, to_le_bytes}
use Rattle.std.specs.List.{AllByRecursion, flat_map, AllZip}
use Rattle.std.specs.Option.{is_some}
use Rattle.std.proofs.lemmas.List.{length-append, length-drop, length-take-le, take-append-drop}
use Rattle.chunk_map.specs.declared.directory.Directory.{Directory}
use Rattle.page_chain.specs.Pages.{page_size, pages_for}
use Rattle.page_chain.specs.Chains.{content_size}
use Rattle.cell_values.specs.declared.schema.Schema.{Schema}
use Rattle.plan_changes.specs.declared.change.Change.{Change}
use Rattle.plan_changes.specs.declared.change.Change.TheVariants.{Create, Store, Insert, Remove, RemoveVersions}
use Rattle.plan_changes.specs.Changes.{has_array}
use Rattle.file_meaning.specs.BlobAt.{BlobAt}
use Rattle.file_meaning.specs.CatalogArray.{CatalogArray}
use Rattle.file_meaning.specs.Catalog.{Catalog}
use Rattle.file_meaning.specs.CatalogRecord.TheVariants as entries
use Rattle.file_meaning.specs.Spelling.{spell_record, spell_array, spelling}
use Rattle.file_meaning.specs.Changed.{has_its_directory, record_for, after_change}
use Rattle.file_meaning.specs.Records.{entries_of}
use Rattle.event_core.specs.Apart.{makes_version}
use Rattle.commit_pages.specs.Lengths.{AreAlike, AreAlikeArrays, AreBothAlike}
use Rattle.commit_pages.proofs.CountingLengths.{records_read_no_page, catalogs_read_no_page, changes_keep_alike}
use Rattle.commit_pages.specs.Costs.{record_length}
use Rattle.page_file.specs.Commits.{pages_of, commit_pages, IsBlobSized, IsChainSized}
use Rattle.commit_pages.specs.declared.pages.written.Written.{Written}
use Rattle.commit_pages.specs.declared.pages.version.NewVersion.{NewVersion}
use Rattle.commit_pages.specs.Versions.{version_in, new_version, version_needs, draft_at, IsWritten}
use Rattle.commit_pages.specs.Commits.{chain_count, chain_in, spelled, record_bytes, catalog_bytes, record_needs, base_needs, rest_of, with_record, with_base}
use Rattle.commit_pages.specs.declared.pages.laid.Laid.{Laid}
use Rattle.commit_pages.proofs.Blobs.{all_left}
use Rattle.commit_pages.proofs.PagesLengths.{takes}

-- ---- a directory comes where a version is made

pub has_its : (change : Change) (at : Option BlobAt) → is_some at ≡ makes_version change → has_its_directory change at ≡ true
has_its (Create name schema) None e = refl
has_its (Create name schema) (Some at) e = absurd cc
has_its (Store name schema plan) None e = absurd cc
has_its (Store name schema plan) (Some at) e = refl
has_its (Insert name schema plan) None e = absurd cc
has_its (Insert name schema plan) (Some at) e = refl
has_its (Remove name) None e = refl
has_its (Remove name) (Some at) e = absurd cc
has_its (RemoveVersions name below) None e = refl
has_its (RemoveVersions name below) (Some at) e = absurd cc

draft_comes : (written : Option Written) (newest : Directory) → is_some (draft_at written newest) ≡ is_some written
draft_comes None newest = refl
draft_comes (Some written) newest = refl

version_comes : (pages : List ℕ) (written : Option Written) (newest : Directory) → is_some (new_version pages written newest).at ≡ is_some written
unfolding version_in
version_comes pages None newest = refl
version_comes pages (Some written) newest = refl

pub draft_has_its : (change : Change) (written : Option Written) (newest : Directory) → is_some written ≡ makes_version change → has_its_directory change (draft_at written newest) ≡ true
draft_has_its change written newest e = has_its change (draft_at written newest) (draft_comes written newest ∙ e)

pub version_has_its : (change : Change) (pages : List ℕ) (written : Option Written) (newest : Directory) → is_some written ≡ makes_version change
    → has_its_directory change (new_version pages written newest).at ≡ true
version_has_its change pages written newest e = has_its change (new_version pages written newest).at (version_comes pages written newest ∙ e)

-- ---- no chain is empty

pages_for_some : (n : ℕ) → 0 < n → 0 < pages_for (content_size page_size) n
unfolding page_size
pages_for_some n some = omega (arith, some)

stored_is_some : (b : Bool) (name : List ℕ) (schema : Schema) (at : BlobAt) → 0 < length (spell_record (cond b (entries.Next name at) (entries.First name schema at)))
unfolding spell_record
stored_is_some true name schema at = omega arith
stored_is_some false name schema at = omega arith

record_is_some : (catalog : Catalog) (change : Change) (at : Option BlobAt) → has_its_directory change at ≡ true → 0 < length (record_bytes catalog change at)
unfolding spell_record
record_is_some catalog (Create name schema) at e = omega arith
record_is_some catalog (Store name schema plan) None e = absurd cc
record_is_some catalog (Store name schema plan) (Some at) e = stored_is_some (has_array (entries_of catalog.arrays) name) name schema at
record_is_some catalog (Insert name schema plan) None e = absurd cc
record_is_some catalog (Insert name schema plan) (Some at) e = omega arith
record_is_some catalog (Remove name) at e = omega arith
record_is_some catalog (RemoveVersions name below) at e = omega arith

catalog_is_some : (catalog : Catalog) → 0 < length (spelling catalog)
unfolding spelling
catalog_is_some catalog =
    let sum : length (to_le_bytes w32 (length catalog.arrays) ++ flat_map spell_array catalog.arrays) ≡ 4 + length (flat_map spell_array catalog.arrays) =
    length-append (to_le_bytes w32 (length catalog.arrays)) (flat_map spell_array catalog.arrays) in
    omega (arith, sum)

-- ---- lengths hang on no page

alike_blobs : (blobs : List BlobAt) → AllZip AreAlike blobs blobs
alike_blobs [] = tt
alike_blobs (at ∷ blobs) = (record { bytes = refl; pages = refl }, alike_blobs blobs)

alike_arrays : (arrays : List CatalogArray) → AllZip AreAlikeArrays arrays arrays
alike_arrays [] = tt
alike_arrays (array ∷ arrays) = (record { entry = refl; directories = alike_blobs array.directories }, alike_arrays arrays)

pub same_length : (catalog : Catalog) (change : Change) (at : Option BlobAt) → length (record_bytes catalog change at) ≡ record_length (record_for catalog change at)
same_length catalog change at = by_record (record_for catalog change at)
  where
    by_record : (entry : Option _) → length (spelled entry) ≡ record_length entry
    by_record None = refl
    by_record (Some entry) = refl

pub records_as_long : (catalog : Catalog) (change : Change) (d e : Option BlobAt) → AreBothAlike d e → chain_count (record_bytes catalog change d) ≡ chain_count (record_bytes catalog change e)
records_as_long catalog change d e alike =
    ap (pages_for (content_size page_size))
    (same_length catalog change d ∙ records_read_no_page catalog catalog change d e (alike_arrays catalog.arrays) alike ∙ sym (same_length catalog change e))

pub catalogs_as_long : (catalog : Catalog) (change : Change) (d e : Option BlobAt) → AreBothAlike d e → chain_count (catalog_bytes catalog change d) ≡ chain_count (catalog_bytes catalog change e)
catalogs_as_long catalog change d e alike =
    ap (pages_for (content_size page_size))
    (catalogs_read_no_page (after_change catalog change d) (after_change catalog change e) (changes_keep_alike catalog catalog change d e (alike_arrays catalog.arrays) alike))

-- ---- the chain has the pages that the version leaves

pub record Fills (pages bytes : List ℕ) (version : NewVersion) : Type 0 where
  pub sized : IsChainSized (chain_in (rest_of version pages) bytes)
  pub all : commit_pages version.blobs (chain_in (rest_of version pages) bytes) ≡ pages

fills : (pages bytes : List ℕ) (version : NewVersion) (needs : ℕ) → 0 < length bytes → length pages ≡ needs + chain_count bytes → pages_of version.blobs ≡ take needs pages → Fills pages bytes version
fills pages bytes version needs some count its =
    let n = chain_count bytes in
    let len : length (take needs pages) ≡ needs = length-take-le needs pages (omega (arith, count)) in
    let as_many : length (pages_of version.blobs) ≡ needs = ap length its ∙ len in
    let rest : rest_of version pages ≡ drop needs pages = ap (λ (k : ℕ). drop k pages) as_many in
    let all : take n (rest_of version pages) ≡ drop needs pages = ap (take n) rest ∙ all_left needs n pages count in
    let left : length (drop needs pages) ≡ length pages - needs = length-drop needs pages in
    let enough : length (take n (rest_of version pages)) ≡ n = ap length all ∙ omega (arith, left, count) in
    let positive : 0 < n = pages_for_some (length bytes) some in
    record {
      sized = record { some = subst (λ (k : ℕ). 0 < k) (sym enough) positive; enough = enough };
      all = ap (λ (ps : List ℕ). ps ++ take n (rest_of version pages)) its ∙ ap (λ (ps : List ℕ). take needs pages ++ ps) all ∙ take-append-drop needs pages;
    }

-- what is laid of a commit of a record
pub record_fills : (catalog : Catalog) (newest : Directory) (change : Change) (written : Option Written) (pages : List ℕ) → is_some written ≡ makes_version change → IfSome written IsWritten
    → length pages ≡ record_needs catalog newest change written
    → Fills pages (record_bytes catalog change (new_version pages written newest).at) (new_version pages written newest)
unfolding record_needs
record_fills catalog newest change written pages comes is count =
    let needs = version_needs written newest in
    let version = new_version pages written newest in
    let its = takes pages written newest is (omega (arith, count)) in
    let as_long = records_as_long catalog change version.at (draft_at written newest) its.alike in
    fills pages (record_bytes catalog change version.at) version needs (record_is_some catalog change version.at (version_has_its change pages written newest comes))
    (count ∙ ap (λ (k : ℕ). needs + k) (sym as_long)) its.first

pub base_fills : (catalog : Catalog) (newest : Directory) (change : Change) (written : Option Written) (pages : List ℕ) → IfSome written IsWritten
    → length pages ≡ base_needs catalog newest change written
    → Fills pages (catalog_bytes catalog change (new_version pages written newest).at) (new_version pages written newest)
unfolding base_needs
base_fills catalog newest change written pages is count =
    let needs = version_needs written newest in
    let version = new_version pages written newest in
    let its = takes pages written newest is (omega (arith, count)) in
    let as_long = catalogs_as_long catalog change version.at (draft_at written newest) its.alike in
    fills pages (catalog_bytes catalog change version.at) version needs (catalog_is_some (after_change catalog change version.at)) (count ∙ ap (λ (k : ℕ). needs + k) (sym as_long)) its.first

pub record_sized : (catalog : Catalog) (newest : Directory) (change : Change) (written : Option Written) (pages : List ℕ) → IfSome written IsWritten
    → length pages ≡ record_needs catalog newest change written → AllByRecursion IsBlobSized (new_version pages written newest).blobs
unfolding record_needs
record_sized catalog newest change written pages is count = (takes pages written newest is (omega (arith, count))).sized

pub base_sized : (catalog : Catalog) (newest : Directory) (change : Change) (written : Option Written) (pages : List ℕ) → IfSome written IsWritten
    → length pages ≡ base_needs catalog newest change written → AllByRecursion IsBlobSized (new_version pages written newest).blobs
unfolding base_needs
base_sized catalog newest change written pages is count = (takes pages written newest is (omega (arith, count))).sized

-- ---- what is laid

-- blobs and a chain of just the pages that they need, which are these
pub record Lies (laid : Laid) (pages : List ℕ) : Type 0 where
  pub blobs : AllByRecursion IsBlobSized laid.blobs
  pub chain : IsChainSized laid.chain
  pub all : commit_pages laid.blobs laid.chain ≡ pages

pub record_lies : (catalog : Catalog) (catalogue : List ℕ) (newest : Directory) (change : Change) (written : Option Written) (pages : List ℕ) (version : NewVersion) (laid : Laid) → is_some written ≡ makes_version change
    → IfSome written IsWritten → length pages ≡ record_needs catalog newest change written → version ≡ new_version pages written newest → laid ≡ with_record catalog catalogue change version pages → Lies laid pages
record_lies catalog catalogue newest change written pages version laid comes is count made e =
    let its = record_fills catalog newest change written pages comes is count in
    let all : laid ≡ with_record catalog catalogue change (new_version pages written newest) pages = e ∙ ap (λ (v : NewVersion). with_record catalog catalogue change v pages) made in
    subst (λ (l : Laid). Lies l pages) (sym all) (record { blobs = record_sized catalog newest change written pages is count; chain = its.sized; all = its.all })

pub base_lies : (catalog : Catalog) (newest : Directory) (change : Change) (written : Option Written) (pages : List ℕ) (log : ℕ) (version : NewVersion) (laid : Laid)
    → IfSome written IsWritten → length pages ≡ base_needs catalog newest change written → version ≡ new_version pages written newest → laid ≡ with_base catalog change version pages log → Lies laid pages
base_lies catalog newest change written pages log version laid is count made e =
    let its = base_fills catalog newest change written pages is count in
    let all : laid ≡ with_base catalog change (new_version pages written newest) pages log = e ∙ ap (λ (v : NewVersion). with_base catalog change v pages log) made in
    subst (λ (l : Laid). Lies l pages) (sym all) (record { blobs = base_sized catalog newest change written pages is count; chain = its.sized; all = its.all })

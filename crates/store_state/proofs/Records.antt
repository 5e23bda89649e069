-- With what is laid of a record the file stands for the database after the change.
use Rattle.std.proofs.Common.{◌≡◌, ◌∙◌, ◌+◌, ◌<◌, ℕ, true, IfSome, List, [], ◌∷◌, ◌++◌, length, slice_index, Option, Some, None, refl, sym, ap, subst, arith}
use Rattle.std.specs.Prelude.{IsTrue}
use Rattle.std.specs.List.{AllByRecursion}
use Rattle.std.specs.Option.{is_some}
use Rattle.std.proofs.lemmas.List.{append_assoc}
use Rattle.array_geom.specs.declared.chunk.Changed.{Changed}
use Rattle.page_chain.specs.Places.{IsNone, KeepsPages}
use Rattle.page_chain.specs.Links.{AreFree}
use Rattle.chunk_map.specs.declared.directory.Directory.{Directory}
use Rattle.logical_plan.specs.declared.names.Names.{Names}
use Rattle.file_meaning.specs.Change.{Change}
use Rattle.file_meaning.specs.Change.TheVariants.{Create, Store, Insert, Remove, RemoveVersions}
use Rattle.file_meaning.specs.Allowed.{names_allow}
use Rattle.file_meaning.specs.Databases.{Database, after}
use Rattle.file_meaning.specs.BlobAt.{BlobAt}
use Rattle.file_meaning.specs.Catalog.{Catalog}
use Rattle.file_meaning.specs.CatalogRecord.{CatalogRecord}
use Rattle.file_meaning.specs.CatalogRecord.TheVariants as entries
use Rattle.file_meaning.specs.Catalogs.{names_in}
use Rattle.file_meaning.specs.Spelling.{spell_record}
use Rattle.file_meaning.specs.Changed.{has_its_directory, record_for, stored_by}
use Rattle.file_meaning.proofs.Spelled.{changes_have_records}
use Rattle.commit_pages.specs.Apart.{makes_version}
use Rattle.file_meaning.specs.Slots.{Slots}
use Rattle.file_meaning.specs.Opening.{pages_of as found_pages, sequence_of}
use Rattle.file_meaning.specs.declared.meaning.found.Found.{Found}
use Rattle.file_meaning.specs.Next.{Made, with_record}
use Rattle.file_meaning.specs.NextLaws.{RecordsMakeNext, FreePagesTurn}
use Rattle.file_meaning.specs.Premises.{StandsBy, HasChain, HoldsRecord, seen_before, record_at, slots_with}
use Rattle.page_file.specs.Commits.{commit_pages, HoldsAll, record_of}
use Rattle.commit_pages.specs.declared.pages.laid.Laid.{Laid}
use Rattle.commit_pages.specs.Versions.{draft_of, new_version, IsWritten}
use Rattle.commit_pages.specs.Changes.{AreValid, ComesWith}
use Rattle.commit_pages.specs.Commits.{chain_in, spelled, record_bytes, rest_of, record_needs, record_laid}
use Rattle.commit_pages.proofs.Chains.{record_fills, version_has_its}
use Rattle.commit_pages.proofs.Drafts.{is_written}
use Rattle.store_state.specs.LaidLaws.{LaidRecordsMakeNext}
use Rattle.store_state.specs.LaidPremises.{IsCommit, made_of}
use Rattle.store_state.proofs.Made.{Seeing, AreGiven, version_made}
use Rattle.store_state.proofs.LaidPages.{in_order, found_none, none_later, below_all}

-- ---- what comes with a change

pub draft_comes : (change : Change) (changed : Option Changed) (birth : ℕ) → ComesWith change changed → is_some (draft_of birth changed) ≡ makes_version change
draft_comes (Create name schema) None birth comes = refl
draft_comes (Create name schema) (Some changed) birth comes = absurd cc
draft_comes (Store name schema plan) None birth comes = absurd comes
draft_comes (Store name schema plan) (Some changed) birth comes = refl
draft_comes (Insert name schema plan) None birth comes = absurd comes
draft_comes (Insert name schema plan) (Some changed) birth comes = refl
draft_comes (Remove name) None birth comes = refl
draft_comes (Remove name) (Some changed) birth comes = absurd cc
draft_comes (RemoveVersions name below) None birth comes = refl
draft_comes (RemoveVersions name below) (Some changed) birth comes = absurd cc

pub draft_written : (changed : Option Changed) (birth : ℕ) → IfSome changed AreValid → IfSome (draft_of birth changed) IsWritten
draft_written None birth valid = tt
draft_written (Some changed) birth valid = is_written birth changed valid.rising

pub allowed : (file : List ℕ) (slots : Slots) (db : Database) (found : Found) (change : Change) (changed : Option Changed) (newest : Directory) → IsCommit file slots db found change changed newest
    → IsTrue (names_allow (names_in found.catalog) change)
allowed file slots db found change changed newest commit = subst (λ (names : Names). IsTrue (names_allow names change)) (sym commit.stands.holds.names) commit.may.typed.0

-- the record of a change
record HasEntry (catalog : Catalog) (change : Change) (at : Option BlobAt) : Type 0 where
  entry : CatalogRecord
  is : record_for catalog change at ≡ Some entry

has_entry : (catalog : Catalog) (change : Change) (at : Option BlobAt) → has_its_directory change at ≡ true → HasEntry catalog change at
has_entry catalog (Create name schema) at has = record { entry = entries.Create name schema; is = refl }
has_entry catalog (Store name schema plan) None has = absurd cc
has_entry catalog (Store name schema plan) (Some at) has = record { entry = stored_by catalog name schema at; is = refl }
has_entry catalog (Insert name schema plan) None has = absurd cc
has_entry catalog (Insert name schema plan) (Some at) has = record { entry = entries.Next name at; is = refl }
has_entry catalog (Remove name) at has = record { entry = entries.Remove name; is = refl }
has_entry catalog (RemoveVersions name below) at has = record { entry = entries.RemoveVersions name below; is = refl }

-- ---- its pages

-- the pages are given in the order of payloads, directory and chain
pub behind_blobs : (payloads own blobs chain pages : List ℕ) → blobs ≡ payloads ++ own → blobs ++ chain ≡ pages → payloads ++ (own ++ chain) ≡ pages
behind_blobs payloads own blobs chain pages is all = sym (append_assoc payloads own chain) ∙ ap (λ (ps : List ℕ). ps ++ chain) (sym is) ∙ all

-- ---- the law

abbrev Makes : List ℕ → List ℕ → Slots → Database → Found → Change → Laid → Type 0
Makes old new slots db found change laid =
    KeepsPages (slots.current.root.log ∷ commit_pages laid.blobs laid.chain) old new → HoldsAll new laid.blobs laid.chain
    → StandsBy new (slots_with slots (record_of laid.chain)) (after db change) (with_record found laid.chain.pages change (made_of laid))

makes : RecordsMakeNext → Seeing → FreePagesTurn → (old new : List ℕ) (slots : Slots) (db : Database) (found : Found) (change : Change) (changed : Option Changed) (newest : Directory) (catalogue pages : List ℕ)
    → IsCommit old slots db found change changed newest → length pages ≡ record_needs found.catalog newest change (draft_of (sequence_of slots + 1) changed) → length pages < 4294967296
    → AreFree (slots.current.root.log ∷ found_pages found) pages
    → Makes old new slots db found change (record_laid found.catalog catalogue newest change (draft_of (sequence_of slots + 1) changed) pages)
unfolding record_laid record_needs
makes next sees turn old new slots db found change changed newest catalogue pages commit enough few free keeps holds =
    let log = slots.current.root.log in
    let written = draft_of (sequence_of slots + 1) changed in
    let version = new_version pages written newest in
    let bytes = record_bytes found.catalog change version.at in
    let chain = chain_in (rest_of version pages) bytes in
    let comes = draft_comes change changed (sequence_of slots + 1) commit.over.comes in
    let fills = record_fills found.catalog newest change written pages comes (draft_written changed (sequence_of slots + 1) commit.over.valid) enough in
    let given : AreGiven pages written newest = record { room = omega (arith, enough); few = few; each = below_all pages free.most } in
    let is = version_made sees old new slots db found change changed newest pages commit given holds.0 in
    let seen = seen_before found change in
    let has = has_entry found.catalog change version.at (version_has_its change pages written newest comes) in
    let spells : bytes ≡ spell_record has.entry = ap spelled has.is in
    let all = behind_blobs is.payloads is.own _ chain.pages pages is.blobs fills.all in
    let ordered : AreFree (log ∷ found_pages found) (chain.pages ++ (is.own ++ is.payloads))
    = in_order turn (log ∷ found_pages found) [] is.payloads is.own chain.pages (subst (AreFree (log ∷ found_pages found)) (sym all) free) in
    let record_is : HoldsRecord (commit_pages version.blobs chain) old new slots found db change is.made chain.pages has.entry = record {
      kept = keeps;
      apart = subst (λ (ps : List ℕ). AllByRecursion (IsNone ps) (found_pages found)) (sym fills.all)
          (found_none (found_pages found) pages (λ k low. none_later log (found_pages found) (slice_index pages k) (free.apart k low)));
      free = subst (λ (ps : List ℕ). AreFree (log ∷ found_pages found) (chain.pages ++ ps)) (sym is.makes) ordered;
      is_its = ap (record_for found.catalog change) is.at ∙ has.is;
      is_record = changes_have_records found.catalog change version.at has.entry commit.catalog commit.may.named (allowed old slots db found change changed newest commit) is.blob has.is;
      chained = subst (HasChain new chain.pages) spells (record { held = holds.1; enough = fills.sized.enough });
      version = is.holds;
    } in
    let stands = next (commit_pages version.blobs chain) old new slots found db change is.made chain.pages has.entry commit.stands commit.may record_is in
    subst (λ (made : Option Made). StandsBy new (slots_with slots (record_at chain.pages bytes)) (after db change) (with_record found chain.pages change made)) (sym is.is)
    (subst (λ (bs : List ℕ). StandsBy new (slots_with slots (record_at chain.pages bs)) (after db change) (with_record found chain.pages change is.made)) (sym spells) stands)

pub laid_records : RecordsMakeNext → Seeing → FreePagesTurn → LaidRecordsMakeNext
laid_records next sees turn old new slots db found change changed newest catalogue pages laid commit its =
    subst (Makes old new slots db found change) (sym its.is) (makes next sees turn old new slots db found change changed newest catalogue pages commit its.enough its.few its.free)

-- With what is laid of a new base the file stands for the database after the change.
use Rattle.std.proofs.Common.{◌≡◌, ◌+◌, ◌<◌, ℕ, List, [], ◌∷◌, ◌++◌, length, Option, sym, subst, arith}
use Rattle.std.specs.List.{AllByRecursion}
use Rattle.array_geom.specs.declared.chunk.Changed.{Changed}
use Rattle.page_chain.specs.Places.{IsNone, KeepsPages}
use Rattle.page_chain.specs.declared.slots.layout.sides.Side.{Side}
use Rattle.page_chain.specs.Links.{AreFree}
use Rattle.chunk_map.specs.declared.directory.Directory.{Directory}
use Rattle.file_meaning.specs.Change.{Change}
use Rattle.file_meaning.specs.Databases.{Database, after}
use Rattle.file_meaning.specs.BlobAt.{BlobAt}
use Rattle.file_meaning.specs.Catalogs.{IsCatalog}
use Rattle.file_meaning.specs.Spelling.{spelling}
use Rattle.file_meaning.specs.Changed.{after_change}
use Rattle.file_meaning.proofs.Spelled.{changes_keep_catalogs}
use Rattle.file_meaning.specs.Slots.{Slots}
use Rattle.file_meaning.specs.Opening.{pages_of as found_pages, sequence_of}
use Rattle.file_meaning.specs.declared.meaning.found.Found.{Found}
use Rattle.file_meaning.specs.Next.{Made, with_base}
use Rattle.file_meaning.specs.NextLaws.{BasesMakeNext, FreePagesTurn}
use Rattle.file_meaning.specs.Premises.{StandsBy, HasChain, HoldsBase, root_at, slots_of}
use Rattle.page_file.specs.Commits.{base_pages, HoldsAll, root_of}
use Rattle.commit_pages.specs.declared.pages.laid.Laid.{Laid}
use Rattle.commit_pages.specs.Versions.{draft_of, new_version}
use Rattle.commit_pages.specs.Commits.{chain_in, catalog_bytes, rest_of, base_needs, base_laid}
use Rattle.commit_pages.proofs.Chains.{base_fills, version_has_its}
use Rattle.store_state.specs.LaidLaws.{LaidBasesMakeNext}
use Rattle.store_state.specs.LaidPremises.{IsCommit, made_of}
use Rattle.store_state.proofs.Made.{Seeing, AreGiven, version_made}
use Rattle.store_state.proofs.LaidPages.{in_order, found_none, below_all, front_low}
use Rattle.store_state.proofs.Records.{draft_comes, draft_written, allowed, behind_blobs}

abbrev Makes : List ℕ → List ℕ → Slots → Database → Found → Change → ℕ → Side → Laid → Type 0
Makes old new slots db found change log side laid =
    KeepsPages (0 ∷ base_pages laid.blobs laid.chain log) old new → HoldsAll new laid.blobs laid.chain
    → StandsBy new (slots_of side (root_of (sequence_of slots + 1) laid.chain log)) (after db change) (with_base found laid.chain.pages change (made_of laid))

makes : BasesMakeNext → Seeing → FreePagesTurn → (old new : List ℕ) (slots : Slots) (db : Database) (found : Found) (change : Change) (changed : Option Changed) (newest : Directory) (pages : List ℕ) (log : ℕ) (side : Side)
    → IsCommit old slots db found change changed newest → length pages ≡ base_needs found.catalog newest change (draft_of (sequence_of slots + 1) changed) → length pages < 4294967296
    → AreFree (found_pages found) (pages ++ log ∷ [])
    → Makes old new slots db found change log side (base_laid found.catalog newest change (draft_of (sequence_of slots + 1) changed) pages log)
unfolding base_laid base_needs
makes next sees turn old new slots db found change changed newest pages log side commit enough few free keeps holds =
    let base = found_pages found in
    let birth = sequence_of slots + 1 in
    let written = draft_of birth changed in
    let version = new_version pages written newest in
    let bytes = catalog_bytes found.catalog change version.at in
    let chain = chain_in (rest_of version pages) bytes in
    let has = version_has_its change pages written newest (draft_comes change changed birth commit.over.comes) in
    let fills = base_fills found.catalog newest change written pages (draft_written changed birth commit.over.valid) enough in
    let given : AreGiven pages written newest = record { room = omega (arith, enough); few = few; each = below_all pages (front_low pages (log ∷ []) free.most) } in
    let is = version_made sees old new slots db found change changed newest pages commit given holds.0 in
    let all = behind_blobs is.payloads is.own _ chain.pages pages is.blobs fills.all in
    let turned : AreFree base ((log ∷ []) ++ pages) = turn base [] pages (log ∷ []) free in
    let ordered : AreFree base ((log ∷ []) ++ (chain.pages ++ (is.own ++ is.payloads)))
    = in_order turn base (log ∷ []) is.payloads is.own chain.pages (subst (λ (ps : List ℕ). AreFree base ((log ∷ []) ++ ps)) (sym all) turned) in
    let its : HoldsBase (base_pages version.blobs chain log) old new slots found db change is.made chain.pages birth log = record {
      kept = keeps;
      apart = subst (λ (ps : List ℕ). AllByRecursion (IsNone (ps ++ log ∷ [])) base) (sym fills.all) (found_none base (pages ++ log ∷ []) free.apart);
      free = subst (λ (ps : List ℕ). AreFree base (log ∷ (chain.pages ++ ps))) (sym is.makes) ordered;
      is_catalog = subst (λ (at : Option BlobAt). IsCatalog (after_change found.catalog change at)) (sym is.at)
          (changes_keep_catalogs found.catalog change version.at commit.catalog commit.may.named (allowed old slots db found change changed newest commit) has is.blob);
      chained = subst (λ (at : Option BlobAt). HasChain new chain.pages (spelling (after_change found.catalog change at))) (sym is.at) (record { held = holds.1; enough = fills.sized.enough });
      version = is.holds;
      later = omega arith;
    } in
    let stands = next (base_pages version.blobs chain log) old new slots found db change is.made chain.pages birth log side commit.stands commit.may its in
    subst (λ (made : Option Made). StandsBy new (slots_of side (root_at birth chain.pages bytes log)) (after db change) (with_base found chain.pages change made)) (sym is.is)
    (subst (λ (at : Option BlobAt). StandsBy new (slots_of side (root_at birth chain.pages (spelling (after_change found.catalog change at)) log)) (after db change) (with_base found chain.pages change is.made)) is.at stands)

pub laid_bases : BasesMakeNext → Seeing → FreePagesTurn → LaidBasesMakeNext
laid_bases next sees turn old new slots db found change changed newest pages log laid side commit its =
    subst (Makes old new slots db found change log side) (sym its.is) (makes next sees turn old new slots db found change changed newest pages log side commit its.enough its.few its.free)

-- With a new base of the catalogue after a change the file stands for the database after it.
use Rattle.std.proofs.Common.{◌≡◌, ◌<◌, inl, ℕ, true, List, [], ◌∷◌, ◌++◌, length, slice_index, refl, sym, ◌∙◌, ap, subst, arith}
use Rattle.std.specs.Prelude.{Ok}
use Rattle.std.specs.List.{AllByRecursion}
use Rattle.page_chain.specs.Places.{IsNone}
use Rattle.page_chain.specs.declared.slots.layout.roots.Root.{Root}
use Rattle.page_chain.specs.declared.slots.layout.sides.Side.{Side}
use Rattle.page_file.specs.Pages.{page_size, has_page}
use Rattle.page_file.specs.Chains.{chain, chain_bytes}
use Rattle.page_file.specs.Links.{AreFree}
use Rattle.page_file.proofs.PageLaws.{chain_read}
use Rattle.chunk_map.specs.declared.directory.Directory.{Directory}
use Rattle.version_catalog.specs.declared.rules.catalog.Catalog.{Catalog}
use Rattle.version_catalog.specs.Spelling.{spelling}
use Rattle.version_catalog.specs.Table.{catalog_in}
use Rattle.version_catalog.proofs.RuleLaws.{catalog_again}
use Rattle.version_catalog.specs.Changed.{after_change}
use Rattle.file_meaning.specs.Opening.{blamed, Rules, rows_in, found_in, sequence_of, catalogue_pages, stored_pages, pages_of}
use Rattle.file_meaning.specs.declared.meaning.found.Found.{Found}
use Rattle.file_meaning.proofs.Steps.{then_is}
use Rattle.file_meaning.proofs.Elsewhere.{found_steps}
use Rattle.file_meaning.proofs.More.{Beside}
use Rattle.file_meaning.specs.NextLaws.{BasesMakeNext}
use Rattle.file_meaning.specs.Next.{blob_of}
use Rattle.file_meaning.specs.Premises.{OfVersion, HoldsMade, seen_before, made_pages, root_at, slots_of}
use Rattle.file_meaning.proofs.Free.{by_index, differ_by, none_later, none_front, none_rest, none_both, turned, has_none, names_more, names_none, names_with, free_front, free_rest, distinct_cross, free_named}
use Rattle.file_meaning.proofs.Both.{again, slot_apart, pages_there, is_next}
use Rattle.file_meaning.proofs.Follow.{Fresh}

-- ---- the pages

-- what is beside all that is new isn't taken by the new catalogue
beside_new : (new taken : List ℕ) (log : ℕ) (pages made : List ℕ) → Beside ((log ∷ pages) ++ made) new taken (pages ++ log ∷ [])
beside_new new taken log pages made p none names =
    let front = none_front (log ∷ pages) made p none in
    names_with new pages (log ∷ []) p (none_later log pages p front) (names_more new [] log p (front 0 (omega arith)) (names_none new taken p names))

made_fresh : (new : List ℕ) (found : Found) (log : ℕ) (pages made : List ℕ) → AreFree (pages_of found) ((log ∷ pages) ++ made) → AllByRecursion (λ p. has_page page_size new p ≡ true) made
    → Fresh ((log ∷ pages) ++ made) new (pages ++ log ∷ []) made (stored_pages found)
made_fresh new found log pages made free there =
    let own = free_rest (pages_of found) (log ∷ pages) made free in
    let beside : AreFree (log ∷ pages) made = record { least = own.least; most = own.most; apart = distinct_cross (log ∷ pages) made free.distinct; distinct = own.distinct } in
    record {
      named = free_named new (pages ++ log ∷ []) (log ∷ pages) made (λ p none. has_none (pages ++ log ∷ []) p (none_both pages (log ∷ []) p (none_later log pages p none) (none_front (log ∷ []) pages p none))) beside there;
      differ = differ_by made own.distinct;
      within = λ p none. none_rest (log ∷ pages) made p none;
      apart = by_index (IsNone (stored_pages found)) made (λ k low. none_rest (catalogue_pages found) (stored_pages found) (slice_index made k) (own.apart k low));
    }

stored_none : (found : Found) (pages : List ℕ) → AreFree (pages_of found) pages → AllByRecursion (IsNone pages) (stored_pages found)
stored_none found pages free = turned pages (stored_pages found) (λ k low. none_rest (catalogue_pages found) (stored_pages found) (slice_index pages k) (free.apart k low))

chain_free : (found : Found) (log : ℕ) (pages made : List ℕ) → AreFree (pages_of found) ((log ∷ pages) ++ made) → AreFree (log ∷ []) pages
chain_free found log pages made free =
    let base = pages_of found in
    let all = free_front base base (log ∷ pages) made (λ p none. none) free in
    let own = free_rest base (log ∷ []) pages all in
    record { least = own.least; most = own.most; apart = distinct_cross (log ∷ []) pages all.distinct; distinct = own.distinct }

-- ---- the catalogue

some_bytes : (catalog : Catalog) → 0 < length (spelling catalog)
unfolding spelling
some_bytes catalog = omega arith

found_next : (new : List ℕ) (side : Side) (root : Root) (pages : List ℕ) (catalog : Catalog) (directories : List (List Directory)) → chain page_size new (root.log ∷ []) 0 root.first root.length ≡ Ok pages
    → catalog_in (chain_bytes page_size new pages root.length) ≡ Ok catalog → rows_in new (record { first = root.first; sequence = sequence_of (slots_of side root) }) (pages ++ root.log ∷ []) catalog.arrays ≡ Ok directories
    → found_in new (slots_of side root) ≡ Ok (record { chain = pages; logged = []; catalog = catalog; directories = directories })
unfolding found_in
found_next new side root pages catalog directories chained read rows =
    then_is (chain page_size new (root.log ∷ []) 0 root.first root.length) _ pages chained
    ∙ then_is (blamed root.first (catalog_in (chain_bytes page_size new pages root.length))) _ catalog (ap (blamed root.first) read)
    ∙ then_is (rows_in new (record { first = root.first; sequence = sequence_of (slots_of side root) }) (pages ++ root.log ∷ []) catalog.arrays) _ directories rows

pub bases_make_next : BasesMakeNext
bases_make_next written old new slots found db change made pages sequence log side stands may holds =
    let seen = seen_before found change in
    let all = made_pages seen made in
    let catalog = after_change found.catalog change (blob_of made) in
    let bytes = spelling catalog in
    let root = root_at sequence pages bytes log in
    let once_more = again (0 ∷ written) old new slots db found holds.kept (slot_apart 0 written old slots found (inl refl) stands.finds holds.apart) stands in
    let steps = found_steps new slots found once_more.finds in
    let other : Rules = record { first = slice_index pages 0; sequence = sequence_of (slots_of side root) } in
    let same : sequence_of (slots_of side root) ≡ sequence = omega arith in
    let version : OfVersion (HoldsMade old new seen other.sequence) db change made = subst (λ (n : ℕ). OfVersion (HoldsMade old new seen n) db change made) (sym same) holds.version in
    let fresh = made_fresh new found log pages all holds.free (pages_there old new other.sequence seen db change made version) in
    let next = is_next (0 ∷ written) old new ((log ∷ pages) ++ all) (pages ++ log ∷ []) slots found db change made other holds.kept stands.database may once_more steps (omega (arith, same, holds.later))
    (beside_new new steps.logged.taken log pages all) (stored_none found ((log ∷ pages) ++ all) holds.free) fresh version in
    let c = chain_read new (log ∷ []) pages bytes 0 holds.chained.held (chain_free found log pages all holds.free) (some_bytes catalog) holds.chained.enough in
    record {
      finds = found_next new side root pages catalog _ c.0 (catalog_again (chain_bytes page_size new pages (length bytes)) catalog holds.is_catalog c.1) next.rows;
      database = next.database;
      holds = record { names = next.names; versions = next.versions };
    }

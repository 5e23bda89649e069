-- With the record of a change the file stands for the database after it.
use Rattle.std.proofs.Common.{◌≡◌, inr, ℕ, ◌+◌, false, true, Bool, ◌||◌, List, [], ◌∷◌, ◌++◌, length, slice_index, Option, refl, sym, ◌∙◌, ap, subst, arith}
use Rattle.std.specs.Prelude.{nat_eq, Ok, IsTrue}
use Rattle.std.specs.List.{AllByRecursion, list_any}
use Rattle.std.proofs.lemmas.List.{length-append}
use Rattle.page_chain.specs.Places.{IsNone}
use Rattle.page_chain.specs.declared.slots.layout.logs.RecordAt.{RecordAt}
use Rattle.page_file.specs.Pages.{page_size, has_page}
use Rattle.page_file.specs.Chains.{chain, chain_bytes}
use Rattle.page_file.specs.Links.{AreFree}
use Rattle.page_file.proofs.PageLaws.{chain_read}
use Rattle.plan_changes.specs.Names.{Names}
use Rattle.plan_changes.specs.declared.change.Change.{Change}
use Rattle.plan_changes.specs.Allowed.{names_allow}
use Rattle.version_catalog.specs.declared.rules.catalog.Catalog.{Catalog}
use Rattle.version_catalog.specs.declared.rules.catalog_record.CatalogRecord.{CatalogRecord}
use Rattle.version_catalog.specs.Catalogs.{names_in}
use Rattle.version_catalog.specs.Spelling.{spell_record}
use Rattle.version_catalog.specs.Table.{catalog_in}
use Rattle.version_catalog.proofs.RuleLaws.{record_again}
use Rattle.version_catalog.specs.Records.{is_allowed, after_record}
use Rattle.version_catalog.specs.Changed.{after_change}
use Rattle.version_catalog.proofs.DirectoryLaws.{are_allowed, do_their_change}
use Rattle.file_meaning.specs.Slots.{Slots}
use Rattle.file_meaning.specs.Opening.{blamed, Logged, logged_in, Rules, rows_in, found_in, sequence_of, catalogue_pages, stored_pages, pages_of}
use Rattle.file_meaning.specs.declared.meaning.found.Found.{Found}
use Rattle.chunk_map.specs.declared.directory.Directory.{Directory}
use Rattle.file_meaning.proofs.Steps.{then_is}
use Rattle.file_meaning.proofs.Apart.{has_either, taken_are}
use Rattle.file_meaning.proofs.Elsewhere.{FoundSteps, found_steps}
use Rattle.file_meaning.proofs.More.{beside_these}
use Rattle.file_meaning.specs.NextLaws.{RecordsMakeNext}
use Rattle.file_meaning.specs.Next.{Made, blob_of}
use Rattle.file_meaning.specs.Premises.{OfVersion, HoldsMade, seen_before, made_pages, record_at, slots_with}
use Rattle.file_meaning.proofs.Free.{by_index, differ_by, none_front, none_rest, none_both, turned, has_none, free_front, free_rest, distinct_cross, free_named}
use Rattle.file_meaning.proofs.Both.{again, slot_apart, pages_there, is_next}
use Rattle.file_meaning.proofs.Follow.{Fresh}
use Rattle.file_meaning.proofs.Logged.{IsRead, logged_more, some_bytes, none_of_has}

-- what is free beside all that was found isn't taken
not_taken : (new : List ℕ) (slots : Slots) (found : Found) (steps : FoundSteps new slots found) (p : ℕ) → IsNone (slots.current.root.log ∷ pages_of found) p → list_any (λ page. nat_eq page p) steps.logged.taken ≡ false
not_taken new slots found steps p none =
    let front = slots.current.root.log ∷ catalogue_pages found in
    taken_are new slots found steps p ∙ has_none front p (none_front front (stored_pages found) p none)

-- ---- the new version's pages

made_fresh : (new : List ℕ) (slots : Slots) (found : Found) (steps : FoundSteps new slots found) (pages made : List ℕ) → AreFree (slots.current.root.log ∷ pages_of found) (pages ++ made) → AllByRecursion (λ p. has_page page_size new p ≡ true) made
    → Fresh (pages ++ made) new (pages ++ steps.logged.taken) made (stored_pages found)
made_fresh new slots found steps pages made free there =
    let base = slots.current.root.log ∷ pages_of found in
    let front = slots.current.root.log ∷ catalogue_pages found in
    let taken = steps.logged.taken in
    let own = free_rest base pages made free in
    let beside : AreFree (pages ++ base) made = record {
      least = own.least;
      most = own.most;
      apart = λ k low. none_both pages base (slice_index made k) (distinct_cross pages made free.distinct k low) (own.apart k low);
      distinct = own.distinct;
    } in
    record {
      named = free_named new (pages ++ taken) (pages ++ base) made (λ p none. has_either pages taken p ∙ ap (λ (b : Bool). b || list_any (λ page. nat_eq page p) taken) (has_none pages p (none_front pages base p none))
          ∙ not_taken new slots found steps p (none_rest pages base p none)) beside there;
      differ = differ_by made own.distinct;
      within = λ p none. none_rest pages made p none;
      apart = by_index (IsNone (stored_pages found)) made (λ k low. none_rest front (stored_pages found) (slice_index made k) (own.apart k low));
    }

stored_none : (slots : Slots) (found : Found) (pages : List ℕ) → AreFree (slots.current.root.log ∷ pages_of found) pages → AllByRecursion (IsNone pages) (stored_pages found)
stored_none slots found pages free =
    turned pages (stored_pages found) (λ k low. none_rest (slots.current.root.log ∷ catalogue_pages found) (stored_pages found) (slice_index pages k) (free.apart k low))

-- ---- the log

one_later : (slots : Slots) (at : RecordAt) → sequence_of (slots_with slots at) ≡ sequence_of slots + 1
one_later slots at =
    let more : length (slots.records ++ at ∷ []) ≡ length slots.records + length (at ∷ []) = length-append slots.records (at ∷ []) in
    omega (arith, more)

-- with one more record this is found
found_next : (new : List ℕ) (slots : Slots) (found : Found) (change : Change) (made : Option Made) (pages : List ℕ) (at : RecordAt) (entry : CatalogRecord) (directories : List (List Directory)) (steps : FoundSteps new slots found)
    → IsRead new slots.current.root.log steps.logged at pages entry → after_record found.catalog entry ≡ after_change found.catalog change (blob_of made)
    → rows_in new (record { first = slots.current.root.first; sequence = sequence_of (slots_with slots at) }) (pages ++ steps.logged.taken) (after_change found.catalog change (blob_of made)).arrays ≡ Ok directories
    → found_in new (slots_with slots at) ≡ Ok (record { chain = found.chain; logged = found.logged ++ pages ∷ []; catalog = after_change found.catalog change (blob_of made); directories = directories })
unfolding found_in
found_next new slots found change made pages at entry directories steps read does rows =
    let root = slots.current.root in
    let rules : Rules = record { first = root.first; sequence = sequence_of (slots_with slots at) } in
    let less = pages ++ steps.logged.taken in
    let logged : Logged = record { pages = steps.logged.pages ++ pages ∷ []; catalog = after_record steps.logged.catalog entry; taken = less } in
    let same : after_record steps.logged.catalog entry ≡ after_change found.catalog change (blob_of made) = ap (λ (k : Catalog). after_record k entry) steps.catalog ∙ does in
    then_is (chain page_size new (root.log ∷ []) 0 root.first root.length) _ found.chain steps.chained
    ∙ then_is (blamed root.first (catalog_in (chain_bytes page_size new found.chain root.length))) _ steps.base steps.read
    ∙ then_is (logged_in new root.log (found.chain ++ root.log ∷ []) steps.base (slots.records ++ at ∷ [])) _ logged
    (logged_more new root.log slots.records (found.chain ++ root.log ∷ []) steps.base steps.logged at pages entry steps.logs read)
    ∙ then_is (rows_in new rules less (after_record steps.logged.catalog entry).arrays) _ directories (ap (λ (k : Catalog). rows_in new rules less k.arrays) same ∙ rows)
    ∙ ap (λ (ps : List (List ℕ)). Ok (record { chain = found.chain; logged = ps ++ pages ∷ []; catalog = after_record steps.logged.catalog entry; directories = directories })) steps.pages
    ∙ ap (λ (k : Catalog). Ok (record { chain = found.chain; logged = found.logged ++ pages ∷ []; catalog = k; directories = directories })) same

pub records_make_next : RecordsMakeNext
records_make_next written old new slots found db change made pages entry stands may holds =
    let log = slots.current.root.log in
    let seen = seen_before found change in
    let all = made_pages seen made in
    let bytes = spell_record entry in
    let at = record_at pages bytes in
    let once_more = again (log ∷ written) old new slots db found holds.kept (slot_apart log written old slots found (inr refl) stands.finds holds.apart) stands in
    let steps = found_steps new slots found once_more.finds in
    let taken = steps.logged.taken in
    let other : Rules = record { first = slots.current.root.first; sequence = sequence_of (slots_with slots at) } in
    let sequence = one_later slots at in
    let version : OfVersion (HoldsMade old new seen other.sequence) db change made = subst (λ (n : ℕ). OfVersion (HoldsMade old new seen n) db change made) (sym sequence) holds.version in
    let fresh = made_fresh new slots found steps pages all holds.free (pages_there old new other.sequence seen db change made version) in
    let next = is_next (log ∷ written) old new (pages ++ all) (pages ++ taken) slots found db change made other holds.kept stands.database may once_more steps (omega (arith, sequence))
    (λ p none names. beside_these pages new taken p (none_front pages all p none) names) (stored_none slots found (pages ++ all) holds.free) fresh version in
    let c = chain_read new taken pages bytes log holds.chained.held (free_front (log ∷ pages_of found) taken pages all (λ p none. none_of_has taken p (not_taken new slots found steps p none)) holds.free) (some_bytes entry) holds.chained.enough in
    let allow : IsTrue (names_allow (names_in found.catalog) change) = subst (λ (n : Names). IsTrue (names_allow n change)) (sym stands.holds.names) may.typed.0 in
    let read : IsRead new log steps.logged at pages entry = record {
      chained = c.0;
      spelled = record_again (chain_bytes page_size new pages (length bytes)) entry holds.is_record c.1;
      allowed = subst (λ (k : Catalog). is_allowed k entry ≡ true) (sym steps.catalog) (are_allowed found.catalog change (blob_of made) entry allow holds.is_its);
    } in
    record {
      finds = found_next new slots found change made pages at entry _ steps read (do_their_change found.catalog change (blob_of made) entry allow holds.is_its) next.rows;
      database = next.database;
      holds = record { names = next.names; versions = next.versions };
    }

-- A file that holds what is restored finds just that.
use Rattle.std.proofs.Common.{◌≡◌, ℕ, zero, suc, ◌+◌, ◌/◌, ◌^◌, ◌<◌, ◌≤◌, Bool, true, false, List, [], ◌∷◌, ◌++◌, length, slice_index, refl, sym, ◌∙◌, ap, arith}
use Rattle.std.specs.Prelude.{if◌then◌else◌, ◌&&◌, nat_le, sum_by, Ok, Err}
use Rattle.std.specs.List.{AllByRecursion}
use Rattle.std.proofs.lemmas.Bool.{and_from}
use Rattle.std.proofs.lemmas.Bool.Decides.{nat_tests}
use Rattle.std.proofs.lemmas.List.Sums.{sum_by-cons}
use Rattle.file_items.specs.Items.{◌>>=◌}
use Rattle.cell_values.specs.declared.schema.Dimension.{Dimension}
use Rattle.cell_values.specs.declared.schema.Schema.{Schema}
use Rattle.array_geom.specs.Geometry.{has_core}
use Rattle.page_chain.specs.Places.{IsNone}
use Rattle.page_chain.specs.declared.slots.layout.sides.Side.{Side}
use Rattle.page_file.specs.Pages.{page_size, pages_for, blob}
use Rattle.page_file.specs.Chains.{chain, chain_bytes, content_size}
use Rattle.page_file.specs.Links.{AreFree}
use Rattle.page_file.proofs.PageLaws.{chain_read}
use Rattle.chunk_map.specs.declared.directory.DirEntry.{DirEntry}
use Rattle.chunk_map.specs.Spelling.{spelling as directory_spelling}
use Rattle.chunk_map.specs.Table.{directory_in}
use Rattle.chunk_map.proofs.Laws.{directory_again}
use Rattle.chunk_map.proofs.Rules.{are_entries}
use Rattle.version_catalog.specs.Catalogs.{IsCatalog}
use Rattle.version_catalog.specs.Spelling.{spelling as catalog_spelling}
use Rattle.version_catalog.specs.Table.{catalog_in}
use Rattle.version_catalog.proofs.RuleLaws.{catalog_again}
use Rattle.file_meaning.specs.Opening.{blamed, claimed, are_pages, is_seen, is_entry, payload_in, payloads_in, Rules, directory_from, row_in, rows_in, found_in}
use Rattle.file_meaning.specs.Premises.{slots_of}
use Rattle.file_meaning.proofs.Counts.{counts_agree}
use Rattle.file_meaning.proofs.Free.{none_both}
use Rattle.file_meaning.proofs.Steps.{then_is}
use Rattle.backup_format.specs.Pieces.{Piece, PiecesVersion, PiecesArray}
use Rattle.backup_restoring.specs.Restores.{payload_pages, directory_length, directory_pages, version_pages, array_pages, catalogue_length}
use Rattle.backup_restoring.specs.Inner.Layout.{pages_from, laid, entry_at, directory_at, behind_payloads, blob_at, array_at, row_at, catalog_of, rows_of, behind_versions, chain_count, chain_of, log_of, root_of, HoldsPayload, HoldsPayloads, HoldsPieces, HoldsVersions, HoldsArrays, HoldsRestored}
use Rattle.backup_restoring.proofs.Laid.{length_from, index_from, none_below, distinct_from}
use Rattle.backup_restoring.proofs.Claims.{AreUntaken, Takes, takes_none, takes_on, takes_back, HasPages, claims_from, are_pages_from, is_held}
use Rattle.backup_restoring.proofs.Lengths.{directory_long, catalogue_long}
use Rattle.backup_restoring.proofs.Rules.{IsPieceOf, ArePiecesOf, AreVersionsOf, is_directory}

-- ---- payloads

record FindsPayload (file : List ℕ) (named : ℕ) (seen : List DirEntry) (first : ℕ) (piece : Piece) (taken : List ℕ) : Type 0 where
  now : List ℕ
  is : payload_in file named seen taken (entry_at first piece) ≡ Ok now
  takes : Takes first (payload_pages piece) taken now

finds_payload : (file : List ℕ) (named : ℕ) (seen : List DirEntry) (first : ℕ) (piece : Piece) (taken : List ℕ) → 0 < first → AreUntaken first (payload_pages piece) taken
    → HasPages file first (payload_pages piece) → FindsPayload file named seen first piece taken
finds_payload file named seen first piece taken some free there = by_seen (is_seen seen (entry_at first piece)) refl
  where
    by_seen : (b : Bool) → is_seen seen (entry_at first piece) ≡ b → FindsPayload file named seen first piece taken
    by_seen true was = record {
      now = taken;
      is = ap (λ (b : Bool). if b then Ok taken else claimed file named taken (pages_from first (payload_pages piece))) was;
      takes = takes_none first (payload_pages piece) taken;
    }
    by_seen false was =
        let c = claims_from file named first (payload_pages piece) taken some free there in
        record { now = c.now; is = ap (λ (b : Bool). if b then Ok taken else claimed file named taken (pages_from first (payload_pages piece))) was ∙ c.is; takes = c.takes }

held_pages : (file : List ℕ) (first : ℕ) (piece : Piece) → HoldsPayload file first piece → HasPages file first (payload_pages piece)
held_pages file first piece held = (is_held file first (payload_pages piece) piece.payload (counts_agree (length piece.payload)) held).there

is_an_entry : (file : List ℕ) (sequence : ℕ) (dims : List Dimension) (first : ℕ) (piece : Piece) → 2 ≤ sequence → 0 < first → has_core dims piece.at ≡ true → HasPages file first (payload_pages piece)
    → is_entry file sequence dims (entry_at first piece) ≡ true
is_an_entry file sequence dims first piece early some core there =
    let pages = pages_from first (payload_pages piece) in
    let born : nat_le 2 sequence ≡ true = grind (arith, nat_tests) in
    and_from (has_core dims piece.at) (nat_le 2 sequence && are_pages file pages) core
    (and_from (nat_le 2 sequence) (are_pages file pages) born (are_pages_from file first (payload_pages piece) some there))

record FindsPayloads (file : List ℕ) (sequence : ℕ) (dims : List Dimension) (named : ℕ) (seen : List DirEntry) (first : ℕ) (pieces : List Piece) (taken : List ℕ) : Type 0 where
  now : List ℕ
  is : payloads_in file sequence dims named seen taken (laid payload_pages entry_at first pieces) ≡ Ok now
  takes : Takes first (sum_by payload_pages pieces) taken now

finds_payloads : (file : List ℕ) (sequence : ℕ) (schema : Schema) (named : ℕ) (seen : List DirEntry) (first : ℕ) (pieces : List Piece) (taken : List ℕ) → 2 ≤ sequence → 0 < first
    → AreUntaken first (sum_by payload_pages pieces) taken → AllByRecursion (IsPieceOf schema) pieces → HoldsPayloads file first pieces → FindsPayloads file sequence schema.dimensions named seen first pieces taken
finds_payloads file sequence schema named seen first [] taken early some free each held = record { now = taken; is = refl; takes = takes_none first 0 taken }
finds_payloads file sequence schema named seen first (p ∷ pieces) taken early some free each held =
    let dims = schema.dimensions in
    let s = sum_by-cons payload_pages p pieces in
    let there = held_pages file first p held.0 in
    let one = finds_payload file named seen first p taken some (λ q low high. free q low (omega (arith, high, s))) there in
    let later = finds_payloads file sequence schema named seen (first + payload_pages p) pieces one.now early (omega (arith, some))
    (λ q low high. one.takes.behind q low (free q (omega (arith, low)) (omega (arith, high, s)))) each.1 held.1 in
    record {
      now = later.now;
      is = ap (λ (b : Bool). if b then (payload_in file named seen taken (entry_at first p)
          >>= λ now. payloads_in file sequence dims named seen now (laid payload_pages entry_at (first + payload_pages p) pieces)) else Err named) (is_an_entry file sequence dims first p early some each.0.core there)
          ∙ then_is (payload_in file named seen taken (entry_at first p)) _ one.now one.is ∙ later.is;
      takes = takes_on first (payload_pages p) (sum_by payload_pages pieces) (sum_by payload_pages (p ∷ pieces)) taken one.now later.now (sym s) one.takes later.takes;
    }

-- ---- directories

record FindsDirectory (file : List ℕ) (rules : Rules) (dims : List Dimension) (seen : List DirEntry) (first : ℕ) (version : PiecesVersion) (taken : List ℕ) : Type 0 where
  now : List ℕ
  is : directory_from file rules dims seen taken (blob_at first version) ≡ Ok (record { directory = directory_at first version; taken = now })
  takes : Takes first (version_pages version) taken now

finds_directory : (file : List ℕ) (rules : Rules) (schema : Schema) (seen : List DirEntry) (first last : ℕ) (version : PiecesVersion) (taken : List ℕ) → 2 ≤ rules.sequence → 0 < first
    → first + version_pages version ≤ last → last ≤ 2 ^ 32 → AreUntaken first (version_pages version) taken → ArePiecesOf schema version → HoldsPieces file first version
    → FindsDirectory file rules schema.dimensions seen first version taken
finds_directory file rules schema seen first last version taken early some fits small free are held =
    let dims = schema.dimensions in
    let from = behind_payloads first version in
    let count = directory_pages version in
    let pages = pages_from from count in
    let named = slice_index pages 0 in
    let directory = directory_at first version in
    let bytes = directory_spelling directory in
    let long : length bytes ≡ directory_length version = directory_long first version in
    let agree = counts_agree (length bytes) in
    let enough : count ≡ pages_for page_size (length bytes) = sym (ap (λ (n : ℕ). (n + 4095) / 4096) long) ∙ agree in
    let h = is_held file from count bytes enough held.1 in
    let own = claims_from file rules.first from count taken (omega (arith, some)) (λ p low high. free p (omega (arith, low)) (omega (arith, high))) h.there in
    let read : directory_in (length dims) (blob page_size file pages (directory_length version)) ≡ Ok directory =
    ap (λ (n : ℕ). directory_in (length dims) (blob page_size file pages n)) (sym long) ∙ ap (directory_in (length dims)) h.read
    ∙ directory_again (length dims) directory (are_entries (length dims) directory are.dims (is_directory schema first last version some fits small are)) in
    let all = finds_payloads file rules.sequence schema named seen first version.pieces own.now early some
    (λ p low high. own.takes.below p high (free p low (omega (arith, high)))) are.each held.0 in
    record {
      now = all.now;
      is = then_is (claimed file rules.first taken pages) _ own.now own.is
          ∙ then_is (blamed named (directory_in (length dims) (blob page_size file pages (directory_length version)))) _ directory (ap (blamed named) read)
          ∙ then_is (payloads_in file rules.sequence dims named seen own.now directory.entries) _ all.now all.is;
      takes = takes_back first (sum_by payload_pages version.pieces) count (version_pages version) taken own.now all.now refl own.takes all.takes;
    }

record FindsRow (file : List ℕ) (rules : Rules) (dims : List Dimension) (seen : List DirEntry) (first : ℕ) (versions : List PiecesVersion) (taken : List ℕ) : Type 0 where
  now : List ℕ
  is : row_in file rules dims seen taken (laid version_pages blob_at first versions) ≡ Ok (record { directories = laid version_pages directory_at first versions; taken = now })
  takes : Takes first (sum_by version_pages versions) taken now

finds_row : (file : List ℕ) (rules : Rules) (schema : Schema) (seen : List DirEntry) (first last : ℕ) (versions : List PiecesVersion) (taken : List ℕ) → 2 ≤ rules.sequence → 0 < first
    → first + sum_by version_pages versions ≤ last → last ≤ 2 ^ 32 → AreUntaken first (sum_by version_pages versions) taken → AllByRecursion (ArePiecesOf schema) versions → HoldsVersions file first versions
    → FindsRow file rules schema.dimensions seen first versions taken
finds_row file rules schema seen first last [] taken early some fits small free are held = record { now = taken; is = refl; takes = takes_none first 0 taken }
finds_row file rules schema seen first last (v ∷ versions) taken early some fits small free are held =
    let dims = schema.dimensions in
    let s = sum_by-cons version_pages v versions in
    let directory = directory_at first v in
    let one = finds_directory file rules schema seen first last v taken early some (omega (arith, fits, s)) small (λ p low high. free p low (omega (arith, high, s))) are.0 held.0 in
    let later = finds_row file rules schema (directory.entries ++ seen) (first + version_pages v) last versions one.now early (omega (arith, some)) (omega (arith, fits, s)) small
    (λ p low high. one.takes.behind p low (free p (omega (arith, low)) (omega (arith, high, s)))) are.1 held.1 in
    record {
      now = later.now;
      is = then_is (directory_from file rules dims seen taken (blob_at first v)) _ (record { directory = directory; taken = one.now }) one.is
          ∙ then_is (row_in file rules dims (directory.entries ++ seen) one.now (laid version_pages blob_at (first + version_pages v) versions)) _
          (record { directories = laid version_pages directory_at (first + version_pages v) versions; taken = later.now }) later.is;
      takes = takes_on first (version_pages v) (sum_by version_pages versions) (sum_by version_pages (v ∷ versions)) taken one.now later.now (sym s) one.takes later.takes;
    }

finds_rows : (file : List ℕ) (rules : Rules) (first last : ℕ) (arrays : List PiecesArray) (taken : List ℕ) → 2 ≤ rules.sequence → 0 < first
    → first + sum_by array_pages arrays ≤ last → last ≤ 2 ^ 32 → AreUntaken first (sum_by array_pages arrays) taken → AllByRecursion AreVersionsOf arrays → HoldsArrays file first arrays
    → rows_in file rules taken (laid array_pages array_at first arrays) ≡ Ok (laid array_pages row_at first arrays)
finds_rows file rules first last [] taken early some fits small free are held = refl
finds_rows file rules first last (a ∷ arrays) taken early some fits small free are held =
    let s = sum_by-cons array_pages a arrays in
    let one = finds_row file rules a.schema [] first last a.versions taken early some (omega (arith, fits, s)) small (λ p low high. free p low (omega (arith, high, s))) are.0 held.0 in
    let later = finds_rows file rules (first + array_pages a) last arrays one.now early (omega (arith, some)) (omega (arith, fits, s)) small
    (λ p low high. one.takes.behind p low (free p (omega (arith, low)) (omega (arith, high, s)))) are.1 held.1 in
    then_is (row_in file rules a.schema.dimensions [] taken (laid version_pages blob_at first a.versions)) _ (record { directories = row_at first a; taken = one.now }) one.is
    ∙ then_is (rows_in file rules one.now (laid array_pages array_at (first + array_pages a) arrays)) _ (laid array_pages row_at (first + array_pages a) arrays) later

-- ---- the file

chain_free : (first n last : ℕ) → 0 < first → first + n ≤ last → last < 2 ^ 32 → AreFree (last ∷ []) (pages_from first n)
chain_free first n last some fits small = record {
  least = λ k low. let at = index_from first n k (inside k low) in omega (arith, at, some);
  most = λ k low. let at = index_from first n k (inside k low) in let i = inside k low in omega (arith, at, i, fits, small);
  apart = λ k low. apart k (inside k low);
  distinct = distinct_from first n;
}
  where
    inside : (k : ℕ) → k < length (pages_from first n) → k < n
    inside k low = let long = length_from first n in omega (arith, low, long)

    apart : (k : ℕ) → k < n → IsNone (last ∷ []) (slice_index (pages_from first n) k)
    apart k low zero less = let at = index_from first n k low in λ same. omega (arith, at, same, low, fits)
    apart k low (suc j) less = absurd (omega (arith, less))

-- THE RESTORED FILE finds the catalogue and the directories of what is restored
pub finds_restored : (file : List ℕ) (side : Side) (arrays : List PiecesArray) → AllByRecursion AreVersionsOf arrays → IsCatalog (catalog_of arrays) → HoldsRestored file arrays
    → found_in file (slots_of side (root_of arrays)) ≡ Ok (record { chain = chain_of arrays; logged = []; catalog = catalog_of arrays; directories = rows_of arrays })
unfolding found_in
finds_restored file side arrays are rules held =
    let root = root_of arrays in
    let first = behind_versions arrays in
    let pages = chain_of arrays in
    let log = log_of arrays in
    let catalog = catalog_of arrays in
    let bytes = catalog_spelling catalog in
    let long : length bytes ≡ catalogue_length arrays = catalogue_long arrays in
    let counted : length pages ≡ pages_for (content_size page_size) (length bytes) = length_from first (chain_count arrays) ∙ ap (pages_for (content_size page_size)) (sym long) in
    let c = chain_read file (log ∷ []) pages bytes 0 held.chained (chain_free first (chain_count arrays) log (omega arith) (omega arith) held.small) (omega (arith, long)) counted in
    let chained : chain page_size file (log ∷ []) 0 root.first root.length ≡ Ok pages = ap (λ (n : ℕ). chain page_size file (log ∷ []) 0 root.first n) (sym long) ∙ c.0 in
    let spelled : chain_bytes page_size file pages root.length ≡ bytes = ap (λ (n : ℕ). chain_bytes page_size file pages n) (sym long) ∙ c.1 in
    let read : catalog_in (chain_bytes page_size file pages root.length) ≡ Ok catalog = catalog_again (chain_bytes page_size file pages root.length) catalog rules spelled in
    let other : Rules = record { first = root.first; sequence = 2 } in
    let free : AreUntaken 3 (sum_by array_pages arrays) (pages ++ log ∷ []) =
    λ p low high. none_both pages (log ∷ []) p (none_below first (chain_count arrays) p high) (none_one log p (omega (arith, high))) in
    let rows = finds_rows file other 3 first arrays (pages ++ log ∷ []) (omega arith) (omega arith) (omega arith) (omega (arith, held.small)) free are held.held in
    then_is (chain page_size file (log ∷ []) 0 root.first root.length) _ pages chained
    ∙ then_is (blamed root.first (catalog_in (chain_bytes page_size file pages root.length))) _ catalog (ap (blamed root.first) read)
    ∙ then_is (rows_in file other (pages ++ log ∷ []) catalog.arrays) _ (rows_of arrays) rows
  where
    none_one : (q p : ℕ) → p < q → IsNone (q ∷ []) p
    none_one q p less zero low = λ same. omega (arith, same, less)
    none_one q p less (suc k) low = absurd (omega (arith, low))

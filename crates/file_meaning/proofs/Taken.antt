-- A page that is none of what was claimed may be named afterwards as before.
use Rattle.std.proofs.Common.{◌≡◌, ℕ, Bool, true, false, List, [], ◌∷◌, ◌++◌, slice_index, sym, subst, arith}
use Rattle.std.specs.Prelude.{if◌then◌else◌, Ok}
use Rattle.std.specs.List.{AllByRecursion, flat_map}
use Rattle.cell_values.specs.declared.schema.Dimension.{Dimension}
use Rattle.array_rows.specs.Boxes.{by_pairs}
use Rattle.page_chain.specs.Places.{IsNone}
use Rattle.page_chain.specs.declared.slots.layout.logs.RecordAt.{RecordAt}
use Rattle.page_file.specs.Pages.{page_size}
use Rattle.page_file.specs.Chains.{names_page}
use Rattle.page_file.proofs.LinkLaws.{chain_linked}
use Rattle.chunk_map.specs.declared.directory.DirEntry.{DirEntry}
use Rattle.chunk_map.specs.declared.directory.Directory.{Directory}
use Rattle.version_catalog.specs.declared.rules.catalog.BlobAt.{BlobAt}
use Rattle.version_catalog.specs.declared.rules.catalog.CatalogArray.{CatalogArray}
use Rattle.version_catalog.specs.declared.rules.catalog.Catalog.{Catalog}
use Rattle.file_meaning.specs.Slots.{Slots}
use Rattle.file_meaning.specs.Opening.{Logged, logged_in, claimed, are_pages, is_entry, is_seen, payloads_in, Listed, Rules, directory_from, Row, row_in, rows_in, found_in, all_of, version_pages, catalogue_pages, stored_pages, pages_of}
use Rattle.file_meaning.specs.declared.meaning.found.Found.{Found}
use Rattle.file_meaning.proofs.Parts.{claim_parts}
use Rattle.file_meaning.proofs.Apart.{both_all, stored_apart}
use Rattle.file_meaning.proofs.Elsewhere.{record_steps, entry_steps, entry_pages, directory_steps, row_steps, rows_steps, found_steps}
use Rattle.file_meaning.proofs.More.{Beside}
use Rattle.file_meaning.proofs.Free.{AreNamed, weaker, by_index, none_later, none_front, none_rest, names_more, names_first, names_rest}

claimed_beside : (file : List ℕ) (named : ℕ) (pages taken now : List ℕ) → claimed file named taken pages ≡ Ok now → Beside pages file taken now
claimed_beside file named [] taken now is p none names = let same : taken ≡ now = cc in subst (λ (ts : List ℕ). names_page page_size file ts p ≡ true) same names
claimed_beside file named (q ∷ pages) taken now is p none names =
    let e = claim_parts file named taken pages now q is in
    claimed_beside file named pages (q ∷ taken) now e.1 p (none_later q pages p none) (names_more file taken q p (none 0 (omega arith)) names)

payload_beside : (file : List ℕ) (named : ℕ) (pages taken now : List ℕ) (b : Bool) → (if b then Ok taken else claimed file named taken pages) ≡ Ok now → Beside pages file taken now
payload_beside file named pages taken now true is p none names = let same : taken ≡ now = cc in subst (λ (ts : List ℕ). names_page page_size file ts p ≡ true) same names
payload_beside file named pages taken now false is p none names = claimed_beside file named pages taken now is p none names

payloads_beside : (file : List ℕ) (sequence : ℕ) (dims : List Dimension) (named : ℕ) (seen entries : List DirEntry) (taken now : List ℕ) → payloads_in file sequence dims named seen taken entries ≡ Ok now
    → Beside (flat_map (λ e. e.pages) entries) file taken now
payloads_beside file sequence dims named seen [] taken now is p none names = let same : taken ≡ now = cc in subst (λ (ts : List ℕ). names_page page_size file ts p ≡ true) same names
payloads_beside file sequence dims named seen (entry ∷ entries) taken now is p none names =
    let s = entry_steps file sequence dims named seen taken entry entries now is in
    payloads_beside file sequence dims named seen entries s.after now s.rest p (none_rest entry.pages (flat_map (λ e. e.pages) entries) p none)
    (payload_beside file named entry.pages taken s.after (is_seen seen entry) s.claims p (none_front entry.pages (flat_map (λ e. e.pages) entries) p none) names)

directory_beside : (file : List ℕ) (rules : Rules) (dims : List Dimension) (seen : List DirEntry) (taken : List ℕ) (at : BlobAt) (listed : Listed) → directory_from file rules dims seen taken at ≡ Ok listed
    → Beside (version_pages at listed.directory) file taken listed.taken
directory_beside file rules dims seen taken at listed is p none names =
    let s = directory_steps file rules dims seen taken at listed is in
    let apart : IsNone (at.pages ++ flat_map (λ (e : DirEntry). e.pages) s.directory.entries) p = subst (λ (l : Listed). IsNone (version_pages at l.directory) p) (sym s.is) none in
    let own = claimed_beside file rules.first at.pages taken s.own s.claims p (none_front at.pages (flat_map (λ (e : DirEntry). e.pages) s.directory.entries) p apart) names in
    subst (λ (l : Listed). names_page page_size file l.taken p ≡ true) s.is
    (payloads_beside file rules.sequence dims (slice_index at.pages 0) seen s.directory.entries s.own s.all s.payloads p (none_rest at.pages (flat_map (λ (e : DirEntry). e.pages) s.directory.entries) p apart) own)

pub row_beside : (file : List ℕ) (rules : Rules) (dims : List Dimension) (blobs : List BlobAt) (seen : List DirEntry) (taken : List ℕ) (row : Row) → row_in file rules dims seen taken blobs ≡ Ok row
    → Beside (all_of (by_pairs version_pages blobs row.directories)) file taken row.taken
row_beside file rules dims [] seen taken row is p none names =
    let same : record { directories = []; taken = taken } ≡ row = cc in
    subst (λ (r : Row). names_page page_size file r.taken p ≡ true) same names
row_beside file rules dims (at ∷ blobs) seen taken row is p none names =
    let s = row_steps file rules dims seen taken at blobs row is in
    let front = version_pages at s.first.directory in
    let behind = all_of (by_pairs version_pages blobs s.later.directories) in
    let apart : IsNone (front ++ behind) p = subst (λ (r : Row). IsNone (all_of (by_pairs version_pages (at ∷ blobs) r.directories)) p) (sym s.is) none in
    subst (λ (r : Row). names_page page_size file r.taken p ≡ true) s.is
    (row_beside file rules dims blobs (s.first.directory.entries ++ seen) s.first.taken s.later s.rest p (none_rest front behind p apart)
    (directory_beside file rules dims seen taken at s.first s.found p (none_front front behind p apart) names))

-- ---- each entry is one

-- what each entry that passes its test meets
abbrev pub Meets : List ℕ → ℕ → (DirEntry → Type 0) → Type 0
Meets file sequence P = (dims : List Dimension) (e : DirEntry) → is_entry file sequence dims e ≡ true → P e

payloads_meet : (file : List ℕ) (sequence : ℕ) (P : DirEntry → Type 0) → Meets file sequence P → (dims : List Dimension) (named : ℕ) (seen entries : List DirEntry) (taken now : List ℕ) → payloads_in file sequence dims named seen taken entries ≡ Ok now
    → AllByRecursion P entries
payloads_meet file sequence P meets dims named seen [] taken now is = tt
payloads_meet file sequence P meets dims named seen (entry ∷ entries) taken now is =
    let s = entry_steps file sequence dims named seen taken entry entries now is in
    (meets dims entry s.tested, payloads_meet file sequence P meets dims named seen entries s.after now s.rest)

directory_meets : (file : List ℕ) (rules : Rules) (P : DirEntry → Type 0) → Meets file rules.sequence P → (dims : List Dimension) (seen : List DirEntry) (taken : List ℕ) (at : BlobAt) (listed : Listed) → directory_from file rules dims seen taken at ≡ Ok listed
    → AllByRecursion P listed.directory.entries
directory_meets file rules P meets dims seen taken at listed is =
    let s = directory_steps file rules dims seen taken at listed is in
    subst (λ (l : Listed). AllByRecursion P l.directory.entries) s.is (payloads_meet file rules.sequence P meets dims (slice_index at.pages 0) seen s.directory.entries s.own s.all s.payloads)

row_meets : (file : List ℕ) (rules : Rules) (P : DirEntry → Type 0) → Meets file rules.sequence P → (dims : List Dimension) (blobs : List BlobAt) (seen : List DirEntry) (taken : List ℕ) (row : Row) → row_in file rules dims seen taken blobs ≡ Ok row
    → AllByRecursion (λ d. AllByRecursion P d.entries) row.directories
row_meets file rules P meets dims [] seen taken row is =
    let same : record { directories = []; taken = taken } ≡ row = cc in
    subst (λ (r : Row). AllByRecursion (λ d. AllByRecursion P d.entries) r.directories) same tt
row_meets file rules P meets dims (at ∷ blobs) seen taken row is =
    let s = row_steps file rules dims seen taken at blobs row is in
    subst (λ (r : Row). AllByRecursion (λ d. AllByRecursion P d.entries) r.directories) s.is
    (directory_meets file rules P meets dims seen taken at s.first s.found, row_meets file rules P meets dims blobs (s.first.directory.entries ++ seen) s.first.taken s.later s.rest)

pub rows_meet : (file : List ℕ) (rules : Rules) (P : DirEntry → Type 0) → Meets file rules.sequence P → (arrays : List CatalogArray) (taken : List ℕ) (rows : List (List Directory)) → rows_in file rules taken arrays ≡ Ok rows
    → AllByRecursion (AllByRecursion (λ d. AllByRecursion P d.entries)) rows
rows_meet file rules P meets [] taken rows is =
    let none : [] ≡ rows = cc in
    subst (AllByRecursion (AllByRecursion (λ (d : Directory). AllByRecursion P d.entries))) none tt
rows_meet file rules P meets (array ∷ arrays) taken rows is =
    let s = rows_steps file rules taken array arrays rows is in
    subst (AllByRecursion (AllByRecursion (λ (d : Directory). AllByRecursion P d.entries))) s.is
    (row_meets file rules P meets array.entry.schema.dimensions array.directories [] taken s.row s.found, rows_meet file rules P meets arrays s.row.taken s.later s.rest)

-- each payload lies in pages of the file
abbrev pub ArePaged : List ℕ → List DirEntry → Type 0
ArePaged file entries = AllByRecursion (λ e. are_pages file e.pages ≡ true) entries

pub rows_paged : (file : List ℕ) (rules : Rules) (arrays : List CatalogArray) (taken : List ℕ) (rows : List (List Directory)) → rows_in file rules taken arrays ≡ Ok rows
    → AllByRecursion (AllByRecursion (λ d. ArePaged file d.entries)) rows
rows_paged file rules arrays taken rows is = rows_meet file rules (λ e. are_pages file e.pages ≡ true) (λ dims e tested. entry_pages file rules.sequence dims e tested) arrays taken rows is

-- ---- all pages that are found are pages of the file, and none is the log page

logged_named : (file : List ℕ) (log : ℕ) (records : List RecordAt) (taken : List ℕ) (catalog : Catalog) (logged : Logged) → logged_in file log taken catalog records ≡ Ok logged → AreNamed file taken (all_of logged.pages)
logged_named file log [] taken catalog logged is =
    let same : record { pages = []; catalog = catalog; taken = taken } ≡ logged = cc in
    subst (λ (l : Logged). AreNamed file taken (all_of l.pages)) same tt
logged_named file log (at ∷ records) taken catalog logged is =
    let s = record_steps file log taken catalog at records logged is in
    let later = logged_named file log records (s.pages ++ taken) _ s.later s.rest in
    subst (λ (l : Logged). AreNamed file taken (all_of l.pages)) s.is
    (both_all (λ p. names_page page_size file taken p ≡ true) s.pages (all_of s.later.pages)
    (by_index (λ p. names_page page_size file taken p ≡ true) s.pages (chain_linked file taken s.pages log at.first at.length s.chained).named)
    (weaker (λ p. names_page page_size file (s.pages ++ taken) p ≡ true) (λ p. names_page page_size file taken p ≡ true) (λ p names. names_rest file s.pages taken p names) (all_of s.later.pages) later))

pub found_named : (file : List ℕ) (slots : Slots) (found : Found) → found_in file slots ≡ Ok found → AreNamed file (slots.current.root.log ∷ []) (pages_of found)
found_named file slots found is =
    let s = found_steps file slots found is in
    let log = slots.current.root.log in
    let root = slots.current.root in
    let chained : AreNamed file (log ∷ []) found.chain = by_index (λ p. names_page page_size file (log ∷ []) p ≡ true) found.chain (chain_linked file (log ∷ []) found.chain 0 root.first root.length s.chained).named in
    let records : AreNamed file (log ∷ []) (all_of s.logged.pages)
    = weaker (λ p. names_page page_size file (found.chain ++ log ∷ []) p ≡ true) (λ p. names_page page_size file (log ∷ []) p ≡ true) (λ p names. names_rest file found.chain (log ∷ []) p names) (all_of s.logged.pages)
    (logged_named file log slots.records (found.chain ++ log ∷ []) s.base s.logged s.logs) in
    let again : AreNamed file (log ∷ []) (all_of found.logged) = subst (λ (ps : List (List ℕ)). AreNamed file (log ∷ []) (all_of ps)) s.pages records in
    let stored : AreNamed file (log ∷ []) (stored_pages found)
    = weaker (λ p. names_page page_size file (log ∷ catalogue_pages found) p ≡ true) (λ p. names_page page_size file (log ∷ []) p ≡ true) (λ p names. names_first file log (catalogue_pages found) p names) (stored_pages found) (stored_apart file slots found is) in
    both_all (λ p. names_page page_size file (log ∷ []) p ≡ true) (catalogue_pages found) (stored_pages found)
    (both_all (λ p. names_page page_size file (log ∷ []) p ≡ true) found.chain (all_of found.logged) chained again) stored

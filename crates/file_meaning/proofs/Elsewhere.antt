-- What is found stays where other pages are written.
use Rattle.std.proofs.Common.{◌≡◌, ◌≤◌, ℕ, Bool, true, false, List, [], ◌∷◌, ◌++◌, length, slice_index, refl, sym, ◌∙◌, ap, subst}
use Rattle.std.specs.Prelude.{if◌then◌else◌, ◌&&◌, nat_le, None, Result, Ok, Err}
use Rattle.std.specs.List.{AllByRecursion, AllZip, flat_map}
use Rattle.file_items.specs.Items.{◌>>=◌}
use Rattle.file_items.proofs.BytesLaws.{bind_ok, ok_is}
use Rattle.chunk_source.specs.Boxes.{by_pairs}
use Rattle.chunk_source.specs.Geometry.{has_core}
use Rattle.cell_values.specs.declared.schema.Dimension.{Dimension}
use Rattle.cell_values.specs.declared.schema.Schema.{Schema}
use Rattle.cell_values.specs.declared.datum.Row.{Row as TheRow}
use Rattle.chunk_rle.specs.Frames.{frame_of}
use Rattle.chunk_rle.specs.Chunks.{chunk_payload}
use Rattle.version_catalog.specs.Databases.{Database, Version}
use Rattle.file_meaning.specs.Standing.{HoldsPart, HoldsVersion, HoldsVersions, HoldsDatabase, HoldsFound, Stands}
use Rattle.page_chain.specs.Places.{IsNone, KeepsPages}
use Rattle.page_chain.specs.declared.slots.layout.logs.RecordAt.{RecordAt}
use Rattle.page_file.specs.Pages.{page_size, first_past, blob}
use Rattle.page_file.specs.Chains.{chain, chain_bytes}
use Rattle.page_file.proofs.PageLaws.{chain_kept}
use Rattle.chunk_map.specs.declared.directory.DirEntry.{DirEntry}
use Rattle.chunk_map.specs.declared.directory.Directory.{Directory}
use Rattle.chunk_map.specs.Table.{directory_in}
use Rattle.version_catalog.specs.declared.rules.catalog.BlobAt.{BlobAt}
use Rattle.version_catalog.specs.declared.rules.catalog.CatalogArray.{CatalogArray}
use Rattle.version_catalog.specs.declared.rules.catalog.Catalog.{Catalog}
use Rattle.version_catalog.specs.declared.rules.catalog_record.CatalogRecord.{CatalogRecord}
use Rattle.version_catalog.specs.Records.{after_record}
use Rattle.version_catalog.specs.Table.{catalog_in, record_in}
use Rattle.file_meaning.specs.Slots.{Slots, slots_in}
use Rattle.file_meaning.specs.Opening.{blamed, if_allowed, Logged, logged_in, claimed, are_pages, is_seen, is_entry, payload_in, payloads_in, Listed, Rules, directory_from, Row, row_in, rows_in, found_in, opened, all_of, version_pages, row_pages, stored_pages, catalogue_pages, pages_of, sequence_of, Opens}
use Rattle.file_meaning.specs.declared.meaning.found.Found.{Found}
use Rattle.file_meaning.proofs.Steps.{then_is}
use Rattle.file_meaning.proofs.Parts.{front_all, rest_all, each_none, pages_still, pages_there, both_true, claimed_still, claimed_there, blob_still}

-- ---- the catalogue

-- the steps by which a record was found, and those behind it
pub record RecordSteps (file : List ℕ) (log : ℕ) (taken : List ℕ) (catalog : Catalog) (at : RecordAt) (records : List RecordAt) (logged : Logged) : Type 0 where
  pub pages : List ℕ
  pub spelled : CatalogRecord
  pub entry : CatalogRecord
  pub later : Logged
  pub chained : chain page_size file taken log at.first at.length ≡ Ok pages
  pub read : blamed at.first (record_in (chain_bytes page_size file pages at.length)) ≡ Ok spelled
  pub allowed : if_allowed catalog at.first spelled ≡ Ok entry
  pub rest : logged_in file log (pages ++ taken) (after_record catalog entry) records ≡ Ok later
  pub is : record { pages = pages ∷ later.pages; catalog = later.catalog; taken = later.taken } ≡ logged

pub record_steps : (file : List ℕ) (log : ℕ) (taken : List ℕ) (catalog : Catalog) (at : RecordAt) (records : List RecordAt) (logged : Logged)
    → logged_in file log taken catalog (at ∷ records) ≡ Ok logged → RecordSteps file log taken catalog at records logged
record_steps file log taken catalog at records logged is =
    let a = bind_ok (chain page_size file taken log at.first at.length) _ logged is in
    let b = bind_ok (blamed at.first (record_in (chain_bytes page_size file a.0 at.length))) _ logged a.2 in
    let c = bind_ok (if_allowed catalog at.first b.0) _ logged b.2 in
    let d = bind_ok (logged_in file log (a.0 ++ taken) (after_record catalog c.0) records) _ logged c.2 in
    record { pages = a.0; spelled = b.0; entry = c.0; later = d.0; chained = a.1; read = b.1; allowed = c.1; rest = d.1; is = ok_is (record { pages = a.0 ∷ d.0.pages; catalog = d.0.catalog; taken = d.0.taken }) logged d.2 }

logged_still : (written old new : List ℕ) (log : ℕ) → KeepsPages written old new → (records : List RecordAt) (taken : List ℕ) (catalog : Catalog) (logged : Logged)
    → logged_in old log taken catalog records ≡ Ok logged → AllByRecursion (IsNone written) (all_of logged.pages) → logged_in new log taken catalog records ≡ Ok logged
logged_still written old new log kept [] taken catalog logged is apart = is
logged_still written old new log kept (at ∷ records) taken catalog logged is apart =
    let s = record_steps old log taken catalog at records logged is in
    let all : AllByRecursion (IsNone written) (s.pages ++ all_of s.later.pages) = subst (λ (l : Logged). AllByRecursion (IsNone written) (all_of l.pages)) (sym s.is) apart in
    let c = chain_kept written old new taken s.pages log at.first at.length kept (each_none written s.pages (front_all (IsNone written) s.pages (all_of s.later.pages) all)) s.chained in
    then_is (chain page_size new taken log at.first at.length) _ s.pages c.0
    ∙ then_is (blamed at.first (record_in (chain_bytes page_size new s.pages at.length))) _ s.spelled (ap (λ (bytes : List ℕ). blamed at.first (record_in bytes)) c.1 ∙ s.read)
    ∙ then_is (if_allowed catalog at.first s.spelled) _ s.entry s.allowed
    ∙ then_is (logged_in new log (s.pages ++ taken) (after_record catalog s.entry) records) _ s.later
    (logged_still written old new log kept records (s.pages ++ taken) (after_record catalog s.entry) s.later s.rest (rest_all (IsNone written) s.pages (all_of s.later.pages) all))
    ∙ ap Ok s.is

-- ---- payloads

-- the file has the pages of each payload
abbrev pub AreThere : List ℕ → List DirEntry → Type 0
AreThere file entries = AllByRecursion (λ e. first_past page_size file e.pages ≡ None) entries

entry_case : (file : List ℕ) (sequence : ℕ) (dims : List Dimension) (named : ℕ) (entry : DirEntry) (more : Result (List ℕ) ℕ) (now : List ℕ) (b : Bool) → is_entry file sequence dims entry ≡ b
    → (if b then more else Err named) ≡ Ok now → (is_entry file sequence dims entry ≡ true) × (more ≡ Ok now)
entry_case file sequence dims named entry more now true tested is = (tested, is)
entry_case file sequence dims named entry more now false tested is = absurd cc

pub record EntrySteps (file : List ℕ) (sequence : ℕ) (dims : List Dimension) (named : ℕ) (seen : List DirEntry) (taken : List ℕ) (entry : DirEntry) (entries : List DirEntry) (now : List ℕ) : Type 0 where
  pub after : List ℕ
  pub tested : is_entry file sequence dims entry ≡ true
  pub claims : payload_in file named seen taken entry ≡ Ok after
  pub rest : payloads_in file sequence dims named seen after entries ≡ Ok now

pub entry_steps : (file : List ℕ) (sequence : ℕ) (dims : List Dimension) (named : ℕ) (seen : List DirEntry) (taken : List ℕ) (entry : DirEntry) (entries : List DirEntry) (now : List ℕ)
    → payloads_in file sequence dims named seen taken (entry ∷ entries) ≡ Ok now → EntrySteps file sequence dims named seen taken entry entries now
entry_steps file sequence dims named seen taken entry entries now is =
    let c = entry_case file sequence dims named entry (payload_in file named seen taken entry >>= λ after. payloads_in file sequence dims named seen after entries) now (is_entry file sequence dims entry) refl is in
    let a = bind_ok (payload_in file named seen taken entry) _ now c.1 in
    record { after = a.0; tested = c.0; claims = a.1; rest = a.2 }

seen_case : (old new : List ℕ) (named : ℕ) (taken now pages : List ℕ) → length old ≤ length new → (b : Bool)
    → (if b then Ok taken else claimed old named taken pages) ≡ Ok now → (if b then Ok taken else claimed new named taken pages) ≡ Ok now
seen_case old new named taken now pages more true is = is
seen_case old new named taken now pages more false is = claimed_still old new named pages taken now more is

pub entry_pages : (file : List ℕ) (sequence : ℕ) (dims : List Dimension) (entry : DirEntry) → is_entry file sequence dims entry ≡ true → are_pages file entry.pages ≡ true
entry_pages file sequence dims entry is =
    let a = both_true (has_core dims entry.at.items) (nat_le entry.birth sequence && are_pages file entry.pages) is in
    (both_true (nat_le entry.birth sequence) (are_pages file entry.pages) a.1).1

entry_still : (old new : List ℕ) (sequence : ℕ) (dims : List Dimension) (entry : DirEntry) → length old ≤ length new → is_entry old sequence dims entry ≡ true → is_entry new sequence dims entry ≡ true
entry_still old new sequence dims entry more is =
    let had = entry_pages old sequence dims entry is in
    ap (λ (b : Bool). has_core dims entry.at.items && (nat_le entry.birth sequence && b)) (pages_still old new entry.pages more had ∙ sym had) ∙ is

payloads_still : (old new : List ℕ) (sequence : ℕ) (dims : List Dimension) (named : ℕ) (seen : List DirEntry) → length old ≤ length new → (entries : List DirEntry) (taken now : List ℕ)
    → payloads_in old sequence dims named seen taken entries ≡ Ok now → payloads_in new sequence dims named seen taken entries ≡ Ok now
payloads_still old new sequence dims named seen more [] taken now is = is
payloads_still old new sequence dims named seen more (entry ∷ entries) taken now is =
    let s = entry_steps old sequence dims named seen taken entry entries now is in
    ap (λ (b : Bool). if b then (payload_in new named seen taken entry >>= λ after. payloads_in new sequence dims named seen after entries) else Err named) (entry_still old new sequence dims entry more s.tested)
    ∙ then_is (payload_in new named seen taken entry) (λ after. payloads_in new sequence dims named seen after entries) s.after (seen_case old new named taken s.after entry.pages more (is_seen seen entry) s.claims)
    ∙ payloads_still old new sequence dims named seen more entries s.after now s.rest

pub payloads_there : (file : List ℕ) (sequence : ℕ) (dims : List Dimension) (named : ℕ) (seen entries : List DirEntry) (taken now : List ℕ)
    → payloads_in file sequence dims named seen taken entries ≡ Ok now → AreThere file entries
payloads_there file sequence dims named seen [] taken now is = tt
payloads_there file sequence dims named seen (entry ∷ entries) taken now is =
    let s = entry_steps file sequence dims named seen taken entry entries now is in
    (pages_there file entry.pages (entry_pages file sequence dims entry s.tested), payloads_there file sequence dims named seen entries s.after now s.rest)

-- ---- directories

pub record DirectorySteps (file : List ℕ) (rules : Rules) (dims : List Dimension) (seen : List DirEntry) (taken : List ℕ) (at : BlobAt) (listed : Listed) : Type 0 where
  pub own : List ℕ
  pub directory : Directory
  pub all : List ℕ
  pub claims : claimed file rules.first taken at.pages ≡ Ok own
  pub read : blamed (slice_index at.pages 0) (directory_in (length dims) (blob page_size file at.pages at.length)) ≡ Ok directory
  pub payloads : payloads_in file rules.sequence dims (slice_index at.pages 0) seen own directory.entries ≡ Ok all
  pub is : record { directory = directory; taken = all } ≡ listed

pub directory_steps : (file : List ℕ) (rules : Rules) (dims : List Dimension) (seen : List DirEntry) (taken : List ℕ) (at : BlobAt) (listed : Listed)
    → directory_from file rules dims seen taken at ≡ Ok listed → DirectorySteps file rules dims seen taken at listed
directory_steps file rules dims seen taken at listed is =
    let a = bind_ok (claimed file rules.first taken at.pages) _ listed is in
    let b = bind_ok (blamed (slice_index at.pages 0) (directory_in (length dims) (blob page_size file at.pages at.length))) _ listed a.2 in
    let c = bind_ok (payloads_in file rules.sequence dims (slice_index at.pages 0) seen a.0 b.0.entries) _ listed b.2 in
    record { own = a.0; directory = b.0; all = c.0; claims = a.1; read = b.1; payloads = c.1; is = ok_is (record { directory = b.0; taken = c.0 }) listed c.2 }

directory_still : (written old new : List ℕ) → KeepsPages written old new → (rules : Rules) (dims : List Dimension) (seen : List DirEntry) (taken : List ℕ) (at : BlobAt) (listed : Listed)
    → directory_from old rules dims seen taken at ≡ Ok listed → AllByRecursion (IsNone written) at.pages → directory_from new rules dims seen taken at ≡ Ok listed
directory_still written old new kept rules dims seen taken at listed is apart =
    let s = directory_steps old rules dims seen taken at listed is in
    let same = blob_still written old new at.pages at.length kept apart (claimed_there old rules.first at.pages taken s.own s.claims) in
    then_is (claimed new rules.first taken at.pages) _ s.own (claimed_still old new rules.first at.pages taken s.own kept.no_shorter s.claims)
    ∙ then_is (blamed (slice_index at.pages 0) (directory_in (length dims) (blob page_size new at.pages at.length))) _ s.directory
    (ap (λ (bytes : List ℕ). blamed {A = Directory} (slice_index at.pages 0) (directory_in (length dims) bytes)) same ∙ s.read)
    ∙ then_is (payloads_in new rules.sequence dims (slice_index at.pages 0) seen s.own s.directory.entries) _ s.all
    (payloads_still old new rules.sequence dims (slice_index at.pages 0) seen kept.no_shorter s.directory.entries s.own s.all s.payloads)
    ∙ ap Ok s.is

directory_there : (file : List ℕ) (rules : Rules) (dims : List Dimension) (seen : List DirEntry) (taken : List ℕ) (at : BlobAt) (listed : Listed)
    → directory_from file rules dims seen taken at ≡ Ok listed → AreThere file listed.directory.entries
directory_there file rules dims seen taken at listed is =
    let s = directory_steps file rules dims seen taken at listed is in
    subst (λ (l : Listed). AreThere file l.directory.entries) s.is (payloads_there file rules.sequence dims (slice_index at.pages 0) seen s.directory.entries s.own s.all s.payloads)

pub record RowSteps (file : List ℕ) (rules : Rules) (dims : List Dimension) (seen : List DirEntry) (taken : List ℕ) (at : BlobAt) (blobs : List BlobAt) (row : Row) : Type 0 where
  pub first : Listed
  pub later : Row
  pub found : directory_from file rules dims seen taken at ≡ Ok first
  pub rest : row_in file rules dims (first.directory.entries ++ seen) first.taken blobs ≡ Ok later
  pub is : record { directories = first.directory ∷ later.directories; taken = later.taken } ≡ row

pub row_steps : (file : List ℕ) (rules : Rules) (dims : List Dimension) (seen : List DirEntry) (taken : List ℕ) (at : BlobAt) (blobs : List BlobAt) (row : Row)
    → row_in file rules dims seen taken (at ∷ blobs) ≡ Ok row → RowSteps file rules dims seen taken at blobs row
row_steps file rules dims seen taken at blobs row is =
    let a = bind_ok (directory_from file rules dims seen taken at) _ row is in
    let b = bind_ok (row_in file rules dims (a.0.directory.entries ++ seen) a.0.taken blobs) _ row a.2 in
    record { first = a.0; later = b.0; found = a.1; rest = b.1; is = ok_is (record { directories = a.0.directory ∷ b.0.directories; taken = b.0.taken }) row b.2 }

-- no page of the directories is written; those of their payloads may be
unfoldable pub NoneOf : List ℕ → List BlobAt → Type 0
NoneOf written blobs = AllByRecursion (λ at. AllByRecursion (IsNone written) at.pages) blobs

row_still : (written old new : List ℕ) → KeepsPages written old new → (rules : Rules) (dims : List Dimension) (blobs : List BlobAt) (seen : List DirEntry) (taken : List ℕ) (row : Row)
    → row_in old rules dims seen taken blobs ≡ Ok row → NoneOf written blobs → row_in new rules dims seen taken blobs ≡ Ok row
unfolding NoneOf
row_still written old new kept rules dims [] seen taken row is apart = is
row_still written old new kept rules dims (at ∷ blobs) seen taken row is apart =
    let s = row_steps old rules dims seen taken at blobs row is in
    then_is (directory_from new rules dims seen taken at) _ s.first (directory_still written old new kept rules dims seen taken at s.first s.found apart.0)
    ∙ then_is (row_in new rules dims (s.first.directory.entries ++ seen) s.first.taken blobs) _ s.later
    (row_still written old new kept rules dims blobs (s.first.directory.entries ++ seen) s.first.taken s.later s.rest apart.1)
    ∙ ap Ok s.is

-- ---- all directories

pub record RowsSteps (file : List ℕ) (rules : Rules) (taken : List ℕ) (array : CatalogArray) (arrays : List CatalogArray) (rows : List (List Directory)) : Type 0 where
  pub row : Row
  pub later : List (List Directory)
  pub found : row_in file rules array.entry.schema.dimensions [] taken array.directories ≡ Ok row
  pub rest : rows_in file rules row.taken arrays ≡ Ok later
  pub is : row.directories ∷ later ≡ rows

pub rows_steps : (file : List ℕ) (rules : Rules) (taken : List ℕ) (array : CatalogArray) (arrays : List CatalogArray) (rows : List (List Directory))
    → rows_in file rules taken (array ∷ arrays) ≡ Ok rows → RowsSteps file rules taken array arrays rows
rows_steps file rules taken array arrays rows is =
    let a = bind_ok (row_in file rules array.entry.schema.dimensions [] taken array.directories) _ rows is in
    let b = bind_ok (rows_in file rules a.0.taken arrays) _ rows a.2 in
    record { row = a.0; later = b.0; found = a.1; rest = b.1; is = ok_is (a.0.directories ∷ b.0) rows b.2 }

-- no page of a list is written
unfoldable pub AreApart : List ℕ → List ℕ → Type 0
AreApart written pages = AllByRecursion (IsNone written) pages

-- what holds of a directory whose payloads stay
pub record IsKept (written file : List ℕ) (directory : Directory) : Type 0 where
  pub there : AreThere file directory.entries
  pub apart : AllByRecursion (λ e. AreApart written e.pages) directory.entries

entries_apart : (written : List ℕ) (entries : List DirEntry) → AreApart written (flat_map (λ e. e.pages) entries) → AllByRecursion (λ e. AreApart written e.pages) entries
unfolding AreApart
entries_apart written [] all = tt
entries_apart written (e ∷ entries) all =
    (front_all (IsNone written) e.pages (flat_map (λ x. x.pages) entries) all, entries_apart written entries (rest_all (IsNone written) e.pages (flat_map (λ x. x.pages) entries) all))

pub row_apart : (written file : List ℕ) (rules : Rules) (dims : List Dimension) (blobs : List BlobAt) (seen : List DirEntry) (taken : List ℕ) (row : Row)
    → row_in file rules dims seen taken blobs ≡ Ok row → AreApart written (all_of (by_pairs version_pages blobs row.directories))
    → NoneOf written blobs × AllByRecursion (IsKept written file) row.directories
unfolding NoneOf AreApart
row_apart written file rules dims [] seen taken row is apart =
    let none : [] ≡ row.directories = ap (λ (r : Row). r.directories) (ok_is (record { directories = []; taken = taken }) row is) in
    (tt, subst (AllByRecursion (IsKept written file)) none tt)
row_apart written file rules dims (at ∷ blobs) seen taken row is apart =
    let s = row_steps file rules dims seen taken at blobs row is in
    let d : s.first.directory ∷ s.later.directories ≡ row.directories = ap (λ (r : Row). r.directories) s.is in
    let all : AllByRecursion (IsNone written) ((at.pages ++ flat_map (λ e. e.pages) s.first.directory.entries) ++ all_of (by_pairs version_pages blobs s.later.directories))
    = subst (λ (ds : List Directory). AllByRecursion (IsNone written) (all_of (by_pairs version_pages (at ∷ blobs) ds))) (sym d) apart in
    let first = front_all (IsNone written) (at.pages ++ flat_map (λ e. e.pages) s.first.directory.entries) (all_of (by_pairs version_pages blobs s.later.directories)) all in
    let later = row_apart written file rules dims blobs (s.first.directory.entries ++ seen) s.first.taken s.later s.rest
    (rest_all (IsNone written) (at.pages ++ flat_map (λ e. e.pages) s.first.directory.entries) (all_of (by_pairs version_pages blobs s.later.directories)) all) in
    let kept : IsKept written file s.first.directory = record {
      there = directory_there file rules dims seen taken at s.first s.found;
      apart = entries_apart written s.first.directory.entries (rest_all (IsNone written) at.pages (flat_map (λ e. e.pages) s.first.directory.entries) first);
    } in (
      (front_all (IsNone written) at.pages (flat_map (λ e. e.pages) s.first.directory.entries) first, later.0),
      subst (AllByRecursion (IsKept written file)) d (kept, later.1),
    )

-- the directories are found again, and their payloads stay
pub rows_still : (written old new : List ℕ) → KeepsPages written old new → (rules : Rules) (arrays : List CatalogArray) (taken : List ℕ) (rows : List (List Directory))
    → rows_in old rules taken arrays ≡ Ok rows → AreApart written (all_of (by_pairs row_pages arrays rows))
    → (rows_in new rules taken arrays ≡ Ok rows) × AllByRecursion (AllByRecursion (IsKept written old)) rows
unfolding AreApart
rows_still written old new kept rules [] taken rows is apart =
    let none : [] ≡ rows = ok_is [] rows is in
    (is, subst (AllByRecursion (AllByRecursion (IsKept written old))) none tt)
rows_still written old new kept rules (array ∷ arrays) taken rows is apart =
    let s = rows_steps old rules taken array arrays rows is in
    let dims = array.entry.schema.dimensions in
    let front = all_of (by_pairs version_pages array.directories s.row.directories) in
    let behind = all_of (by_pairs row_pages arrays s.later) in
    let all : AllByRecursion (IsNone written) (front ++ behind) = subst (λ (rs : List (List Directory)). AllByRecursion (IsNone written) (all_of (by_pairs row_pages (array ∷ arrays) rs))) (sym s.is) apart in
    let mine = row_apart written old rules dims array.directories [] taken s.row s.found (front_all (IsNone written) front behind all) in
    let later = rows_still written old new kept rules arrays s.row.taken s.later s.rest (rest_all (IsNone written) front behind all) in (
      then_is (row_in new rules dims [] taken array.directories) _ s.row (row_still written old new kept rules dims array.directories [] taken s.row s.found mine.0)
          ∙ then_is (rows_in new rules s.row.taken arrays) _ s.later later.0 ∙ ap Ok s.is,
      subst (AllByRecursion (AllByRecursion (IsKept written old))) s.is (mine.1, later.1),
    )

-- ---- the file

pub record FoundSteps (file : List ℕ) (slots : Slots) (found : Found) : Type 0 where
  pub base : Catalog
  pub logged : Logged
  pub chained : chain page_size file (slots.current.root.log ∷ []) 0 slots.current.root.first slots.current.root.length ≡ Ok found.chain
  pub read : blamed slots.current.root.first (catalog_in (chain_bytes page_size file found.chain slots.current.root.length)) ≡ Ok base
  pub logs : logged_in file slots.current.root.log (found.chain ++ slots.current.root.log ∷ []) base slots.records ≡ Ok logged
  pub rows : rows_in file (record { first = slots.current.root.first; sequence = sequence_of slots }) logged.taken logged.catalog.arrays ≡ Ok found.directories
  pub pages : logged.pages ≡ found.logged
  pub catalog : logged.catalog ≡ found.catalog

pub found_steps : (file : List ℕ) (slots : Slots) (found : Found) → found_in file slots ≡ Ok found → FoundSteps file slots found
unfolding found_in
found_steps file slots found is =
    let root = slots.current.root in
    let rules : Rules = record { first = root.first; sequence = sequence_of slots } in
    let a = bind_ok (chain page_size file (root.log ∷ []) 0 root.first root.length) _ found is in
    let b = bind_ok (blamed root.first (catalog_in (chain_bytes page_size file a.0 root.length))) _ found a.2 in
    let c = bind_ok (logged_in file root.log (a.0 ++ root.log ∷ []) b.0 slots.records) _ found b.2 in
    let d = bind_ok (rows_in file rules c.0.taken c.0.catalog.arrays) _ found c.2 in
    let e : record { chain = a.0; logged = c.0.pages; catalog = c.0.catalog; directories = d.0 } ≡ found = ok_is (record { chain = a.0; logged = c.0.pages; catalog = c.0.catalog; directories = d.0 }) found d.2 in
    subst (FoundSteps file slots) e (record { base = b.0; logged = c.0; chained = a.1; read = b.1; logs = c.1; rows = d.1; pages = refl; catalog = refl })

pub record FoundAgain (written old new : List ℕ) (slots : Slots) (found : Found) : Type 0 where
  pub again : found_in new slots ≡ Ok found
  pub kept : AllByRecursion (AllByRecursion (IsKept written old)) found.directories

pub found_again : (written old new : List ℕ) (slots : Slots) (found : Found) → KeepsPages written old new → found_in old slots ≡ Ok found → AreApart written (pages_of found) → FoundAgain written old new slots found
unfolding AreApart found_in
found_again written old new slots found kept is apart =
    let s = found_steps old slots found is in
    let root = slots.current.root in
    let rules : Rules = record { first = root.first; sequence = sequence_of slots } in
    let catalogue = front_all (IsNone written) (catalogue_pages found) (stored_pages found) apart in
    let stored = rest_all (IsNone written) (catalogue_pages found) (stored_pages found) apart in
    let c = chain_kept written old new (root.log ∷ []) found.chain 0 root.first root.length kept (each_none written found.chain (front_all (IsNone written) found.chain (all_of found.logged) catalogue)) s.chained in
    let records : AllByRecursion (IsNone written) (all_of s.logged.pages) = subst (λ (ps : List (List ℕ)). AllByRecursion (IsNone written) (all_of ps)) (sym s.pages) (rest_all (IsNone written) found.chain (all_of found.logged) catalogue) in
    let directories : AllByRecursion (IsNone written) (all_of (by_pairs row_pages s.logged.catalog.arrays found.directories))
    = subst (λ (k : Catalog). AllByRecursion (IsNone written) (all_of (by_pairs row_pages k.arrays found.directories))) (sym s.catalog) stored in
    let rows = rows_still written old new kept rules s.logged.catalog.arrays s.logged.taken found.directories s.rows directories in
    record {
      again =
          then_is (chain page_size new (root.log ∷ []) 0 root.first root.length) _ found.chain c.0
          ∙ then_is (blamed root.first (catalog_in (chain_bytes page_size new found.chain root.length))) _ s.base (ap (λ (bytes : List ℕ). blamed root.first (catalog_in bytes)) c.1 ∙ s.read)
          ∙ then_is (logged_in new root.log (found.chain ++ root.log ∷ []) s.base slots.records) _ s.logged
          (logged_still written old new root.log kept slots.records (found.chain ++ root.log ∷ []) s.base s.logged s.logs records)
          ∙ then_is (rows_in new rules s.logged.taken s.logged.catalog.arrays) _ found.directories rows.0
          ∙ ap (λ (ps : List (List ℕ)). Ok (record { chain = found.chain; logged = ps; catalog = s.logged.catalog; directories = found.directories })) s.pages
          ∙ ap (λ (k : Catalog). Ok (record { chain = found.chain; logged = found.logged; catalog = k; directories = found.directories })) s.catalog;
      kept = rows.1;
    }

-- ---- what the file stands for

pub part_still : (written old new : List ℕ) → KeepsPages written old new → (schema : Schema) (rows : List TheRow) (entries : List DirEntry) → AreThere old entries → AllByRecursion (λ e. AreApart written e.pages) entries
    → AllByRecursion (HoldsPart old schema rows) entries → AllByRecursion (HoldsPart new schema rows) entries
unfolding AreApart
part_still written old new kept schema rows [] there apart hold = tt
part_still written old new kept schema rows (e ∷ entries) there apart hold = (
  ap (λ (bytes : List ℕ). chunk_payload (frame_of schema e.at.items) e.at schema.attributes bytes) (blob_still written old new e.pages e.length kept apart.0 there.0) ∙ hold.0,
  part_still written old new kept schema rows entries there.1 apart.1 hold.1,
)

version_still : (written old new : List ℕ) → KeepsPages written old new → (schema : Schema) (directory : Directory) (rows : List TheRow) → IsKept written old directory → HoldsVersion old schema directory rows → HoldsVersion new schema directory rows
version_still written old new kept schema directory rows stays holds = record {
  listed = holds.listed;
  payloads = part_still written old new kept schema rows directory.entries stays.there stays.apart holds.payloads;
}

pub all_zip : {A B : Type 0} (P R : A → B → Type 0) (Q : B → Type 0) (xs : List A) (ys : List B) → ((x : A) (y : B) → P x y → Q y → R x y) → AllZip P xs ys → AllByRecursion Q ys → AllZip R xs ys
all_zip P R Q [] [] go zip all = tt
all_zip P R Q [] (y ∷ ys) go zip all = absurd zip
all_zip P R Q (x ∷ xs) [] go zip all = absurd zip
all_zip P R Q (x ∷ xs) (y ∷ ys) go zip all = (go x y zip.0 all.0, all_zip P R Q xs ys go zip.1 all.1)

pub holds_still : (written old new : List ℕ) → KeepsPages written old new → (db : Database) (found : Found) → AllByRecursion (AllByRecursion (IsKept written old)) found.directories
    → HoldsDatabase old db found → HoldsDatabase new db found
holds_still written old new kept db found stays holds = record {
  names = holds.names;
  versions = all_zip (HoldsVersions old) (HoldsVersions new) (AllByRecursion (IsKept written old)) db found.directories
      (λ a row zip all. all_zip (λ (v : Version) (d : Directory). HoldsVersion old a.schema d v.rows) (λ (v : Version) (d : Directory). HoldsVersion new a.schema d v.rows) (IsKept written old) a.versions row
      (λ v d version is. version_still written old new kept a.schema d v.rows is version) zip all)
      holds.versions stays;
}

pub elsewhere : (written old new : List ℕ) (found : Found) (db : Database) → KeepsPages written old new → slots_in new ≡ slots_in old → opened old ≡ Ok found → AllByRecursion (IsNone written) (pages_of found)
    → Opens new found × (Stands old db → Stands new db)
unfolding opened AreApart
elsewhere written old new found db kept same is apart =
    let s = bind_ok (slots_in old) (λ slots. found_in old slots) found is in
    let again = found_again written old new s.0 found kept s.2 apart in
    let opens : opened new ≡ Ok found = then_is (slots_in new) (λ slots. found_in new slots) s.0 (same ∙ s.1) ∙ again.again in (
      opens,
      λ stands. record {
        database = stands.database;
        holds = subst (HoldsFound new db) (sym opens) (holds_still written old new kept db found again.kept (subst (HoldsFound old db) is stands.holds));
      },
    )

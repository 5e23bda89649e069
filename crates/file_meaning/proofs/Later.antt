-- Directories are found again by a later sequence.
use Rattle.std.proofs.Common.{◌≡◌, ◌≤◌, ℕ, Bool, true, List, [], ◌∷◌, ◌++◌, length, slice_index, sym, ◌∙◌, ap, arith}
use Rattle.std.specs.Prelude.{if◌then◌else◌, ◌&&◌, nat_le, Ok, Err}
use Rattle.std.proofs.lemmas.Bool.Decides.{nat_tests}
use Rattle.file_items.specs.Items.{◌>>=◌}
use Rattle.cell_values.specs.declared.schema.Dimension.{Dimension}
use Rattle.chunk_map.specs.Geometry.{has_core}
use Rattle.page_file.specs.Pages.{page_size, blob}
use Rattle.chunk_map.specs.declared.directory.DirEntry.{DirEntry}
use Rattle.chunk_map.specs.declared.directory.Directory.{Directory}
use Rattle.chunk_map.specs.Table.{directory_in}
use Rattle.version_catalog.specs.declared.rules.catalog.BlobAt.{BlobAt}
use Rattle.version_catalog.specs.declared.rules.catalog.CatalogArray.{CatalogArray}
use Rattle.file_meaning.specs.Opening.{blamed, claimed, are_pages, is_entry, payload_in, payloads_in, Listed, Rules, directory_from, Row, row_in, rows_in}
use Rattle.file_meaning.proofs.Steps.{then_is}
use Rattle.file_meaning.proofs.Parts.{both_true, claim_parts}
use Rattle.file_meaning.proofs.Elsewhere.{entry_steps, directory_steps, row_steps, rows_steps}

entry_later : (file : List ℕ) (less more : ℕ) (dims : List Dimension) (entry : DirEntry) → less ≤ more → is_entry file less dims entry ≡ true → is_entry file more dims entry ≡ true
entry_later file less more dims entry le is =
    let a = both_true (has_core dims entry.at.items) (nat_le entry.birth less && are_pages file entry.pages) is in
    let b = both_true (nat_le entry.birth less) (are_pages file entry.pages) a.1 in
    let early : nat_le entry.birth less ≡ true = b.0 in
    let still : nat_le entry.birth more ≡ true = grind (arith, nat_tests) in
    ap (λ (x : Bool). has_core dims entry.at.items && (x && are_pages file entry.pages)) (still ∙ sym early) ∙ is

payloads_later : (file : List ℕ) (less more : ℕ) (dims : List Dimension) (named : ℕ) (seen : List DirEntry) → less ≤ more → (entries : List DirEntry) (taken now : List ℕ)
    → payloads_in file less dims named seen taken entries ≡ Ok now → payloads_in file more dims named seen taken entries ≡ Ok now
payloads_later file less more dims named seen le [] taken now is = is
payloads_later file less more dims named seen le (entry ∷ entries) taken now is =
    let s = entry_steps file less dims named seen taken entry entries now is in
    ap (λ (b : Bool). if b then (payload_in file named seen taken entry >>= λ after. payloads_in file more dims named seen after entries) else Err named) (entry_later file less more dims entry le s.tested)
    ∙ then_is (payload_in file named seen taken entry) (λ after. payloads_in file more dims named seen after entries) s.after s.claims
    ∙ payloads_later file less more dims named seen le entries s.after now s.rest

claimed_named : (file : List ℕ) (a b : ℕ) (pages taken now : List ℕ) → claimed file a taken pages ≡ Ok now → claimed file b taken pages ≡ Ok now
claimed_named file a b [] taken now is = is
claimed_named file a b (p ∷ pages) taken now is =
    let e = claim_parts file a taken pages now p is in
    ap (λ (x : Bool). if x then claimed file b (p ∷ taken) pages else Err b) e.0 ∙ claimed_named file a b pages (p ∷ taken) now e.1

directory_later : (file : List ℕ) (rules other : Rules) → rules.sequence ≤ other.sequence → (dims : List Dimension) (seen : List DirEntry) (taken : List ℕ) (at : BlobAt) (listed : Listed)
    → directory_from file rules dims seen taken at ≡ Ok listed → directory_from file other dims seen taken at ≡ Ok listed
directory_later file rules other le dims seen taken at listed is =
    let s = directory_steps file rules dims seen taken at listed is in
    then_is (claimed file other.first taken at.pages) _ s.own (claimed_named file rules.first other.first at.pages taken s.own s.claims)
    ∙ then_is (blamed (slice_index at.pages 0) (directory_in (length dims) (blob page_size file at.pages at.length))) _ s.directory s.read
    ∙ then_is (payloads_in file other.sequence dims (slice_index at.pages 0) seen s.own s.directory.entries) _ s.all
    (payloads_later file rules.sequence other.sequence dims (slice_index at.pages 0) seen le s.directory.entries s.own s.all s.payloads)
    ∙ ap Ok s.is

row_later : (file : List ℕ) (rules other : Rules) → rules.sequence ≤ other.sequence → (dims : List Dimension) (blobs : List BlobAt) (seen : List DirEntry) (taken : List ℕ) (row : Row)
    → row_in file rules dims seen taken blobs ≡ Ok row → row_in file other dims seen taken blobs ≡ Ok row
row_later file rules other le dims [] seen taken row is = is
row_later file rules other le dims (at ∷ blobs) seen taken row is =
    let s = row_steps file rules dims seen taken at blobs row is in
    then_is (directory_from file other dims seen taken at) _ s.first (directory_later file rules other le dims seen taken at s.first s.found)
    ∙ then_is (row_in file other dims (s.first.directory.entries ++ seen) s.first.taken blobs) _ s.later
    (row_later file rules other le dims blobs (s.first.directory.entries ++ seen) s.first.taken s.later s.rest)
    ∙ ap Ok s.is

pub rows_later : (file : List ℕ) (rules other : Rules) → rules.sequence ≤ other.sequence → (arrays : List CatalogArray) (taken : List ℕ) (rows : List (List Directory))
    → rows_in file rules taken arrays ≡ Ok rows → rows_in file other taken arrays ≡ Ok rows
rows_later file rules other le [] taken rows is = is
rows_later file rules other le (array ∷ arrays) taken rows is =
    let s = rows_steps file rules taken array arrays rows is in
    then_is (row_in file other array.entry.schema.dimensions [] taken array.directories) _ s.row (row_later file rules other le array.entry.schema.dimensions array.directories [] taken s.row s.found)
    ∙ then_is (rows_in file other s.row.taken arrays) _ s.later (rows_later file rules other le arrays s.row.taken s.later s.rest)
    ∙ ap Ok s.is

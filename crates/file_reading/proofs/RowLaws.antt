-- The directories of an array, and of all arrays, one after the other.
use Rattle.std.proofs.Common.{◌≡◌, ℕ, ◌+◌, ◌<◌, ◌≤◌, Bool, false, List, [], ◌∷◌, ◌++◌, length, drop, get_or, slice_index, Option, Some, Ok, Err, Result, refl, sym, ◌∙◌, ap, subst, append_assoc, append-nil}
use Rattle.std.specs.List.{AllByRecursion, AllZip}
use Rattle.std.proofs.lemmas.List.{drop_more, drop_all}
use Rattle.cell_values.specs.declared.schema.Dimension.{Dimension}
use Rattle.file_items.specs.Items.{◌>>=◌}
use Rattle.page_chain.specs.Pages.{page_size, blob}
use Rattle.page_chain.specs.declared.fault.OpenCause.{OpenCause}
use Rattle.page_chain.specs.declared.fault.OpenCause.TheVariants.{Disk, NotDatabase, Memory}
use Rattle.chunk_map.specs.declared.directory.DirEntry.{DirEntry}
use Rattle.chunk_map.specs.declared.directory.Directory.{Directory}
use Rattle.chunk_map.specs.Entries.{AreRising}
use Rattle.chunk_map.specs.Spelling.{IsDirectory}
use Rattle.chunk_map.specs.Table.{directory_in}
use Rattle.version_catalog.specs.declared.rules.catalog.BlobAt.{BlobAt}
use Rattle.version_catalog.specs.declared.rules.catalog.CatalogArray.{CatalogArray}
use Rattle.file_meaning.specs.Opening.{blamed, claimed, payloads_in, Listed, Row, Rules, directory_from, row_in, rows_in}
use Rattle.file_meaning.proofs.Steps.{then_is}
use Rattle.file_reading.specs.Reading.{Answers}
use Rattle.file_reading.specs.Inner.Rows.{entries_of, listed, rowed, behind_row, behind_rows}
use Rattle.file_reading.specs.Inner.Taken.{IsTaken, IsClaimed, Takes}
use Rattle.file_reading.proofs.Steps.{unless}
use Rattle.file_reading.proofs.EntryLaws.{entries_push}

-- ---- one directory

-- what is asked for a directory
pub record Asked : Type 0 where
  pub file : List ℕ
  pub rules : Rules
  pub dims : List Dimension
  pub seen : List DirEntry
  pub taken : List ℕ
  pub at : BlobAt

abbrev pub from_ : Asked → Result Listed ℕ
from_ a = directory_from a.file a.rules a.dims a.seen a.taken a.at

abbrev pub spelled : Asked → Result Directory ℕ
spelled a = blamed (slice_index a.at.pages 0) (directory_in (length a.dims) (blob page_size a.file a.at.pages a.at.length))

abbrev pub paid : Asked → List ℕ → Directory → Result (List ℕ) ℕ
paid a own directory = payloads_in a.file a.rules.sequence a.dims (slice_index a.at.pages 0) a.seen own directory.entries

pub unclaimed : (a : Asked) (set : List Bool) → IsClaimed a.file false set (claimed a.file a.rules.first a.taken a.at.pages) a.rules.first → from_ a ≡ Err a.rules.first
unclaimed a set is = unless (claimed a.file a.rules.first a.taken a.at.pages) _ a.rules.first is

pub unread : (a : Asked) (own : List ℕ) (cause : OpenCause) (set : List Bool) → claimed a.file a.rules.first a.taken a.at.pages ≡ Ok own → Answers (Err cause) (spelled a)
    → Takes a.file listed (Err cause) set (from_ a)
unread a own Disk set is step = tt
unread a own (NotDatabase page) set is step = then_is (claimed a.file a.rules.first a.taken a.at.pages) _ own is ∙ unless (spelled a) _ page step
unread a own Memory set is step = tt

pub unpaid : (a : Asked) (own : List ℕ) (directory : Directory) → claimed a.file a.rules.first a.taken a.at.pages ≡ Ok own → spelled a ≡ Ok directory
    → paid a own directory ≡ Err (slice_index a.at.pages 0) → from_ a ≡ Err (slice_index a.at.pages 0)
unpaid a own directory is step wrong =
    then_is (claimed a.file a.rules.first a.taken a.at.pages) _ own is ∙ then_is (spelled a) _ directory step ∙ unless (paid a own directory) _ (slice_index a.at.pages 0) wrong

pub whole : (a : Asked) (own all : List ℕ) (directory : Directory) → claimed a.file a.rules.first a.taken a.at.pages ≡ Ok own → spelled a ≡ Ok directory
    → paid a own directory ≡ Ok all → from_ a ≡ Ok (listed directory all)
whole a own all directory is step right =
    then_is (claimed a.file a.rules.first a.taken a.at.pages) _ own is ∙ then_is (spelled a) _ directory step ∙ then_is (paid a own directory) _ all right

-- what a call claimed, by its answer and by the pages themselves
pub claims_of : (file taken pages slice : List ℕ) (named : ℕ) (done b : Bool) (set : List Bool) → slice ≡ pages → done ≡ b → IsClaimed file done set (claimed file named taken slice) named
    → IsClaimed file b set (claimed file named taken pages) named
claims_of file taken pages slice named done b set pages_is done_is claims =
    subst (λ (c : Bool). IsClaimed file c set (claimed file named taken pages) named) done_is (subst (λ (ps : List ℕ). IsClaimed file done set (claimed file named taken ps) named) pages_is claims)

pub paid_of : (a : Asked) (own : List ℕ) (directory : Directory) (slice : List DirEntry) (done b : Bool) (set : List Bool) → slice ≡ directory.entries → done ≡ b
    → IsClaimed a.file done set (payloads_in a.file a.rules.sequence a.dims (slice_index a.at.pages 0) a.seen own slice) (slice_index a.at.pages 0)
    → IsClaimed a.file b set (paid a own directory) (slice_index a.at.pages 0)
paid_of a own directory slice done b set slice_is done_is claims =
    subst (λ (c : Bool). IsClaimed a.file c set (paid a own directory) (slice_index a.at.pages 0)) done_is
    (subst (λ (es : List DirEntry). IsClaimed a.file done set (payloads_in a.file a.rules.sequence a.dims (slice_index a.at.pages 0) a.seen own es) (slice_index a.at.pages 0)) slice_is claims)

-- each directory of a row rises
pub all_rising : (dims : ℕ) (row slice : List Directory) → slice ≡ row → AllByRecursion (IsDirectory dims) row → AllByRecursion (λ directory. AreRising directory.entries) slice
all_rising dims row slice is all = subst (AllByRecursion (λ directory. AreRising directory.entries)) (sym is) (go row all)
  where
    go : (ds : List Directory) → AllByRecursion (IsDirectory dims) ds → AllByRecursion (λ directory. AreRising directory.entries) ds
    go [] all = tt
    go (d ∷ ds) all = (all.0.rising, go ds all.1)

-- ---- the directories of an array

-- one more directory
behind_more : (row : List Directory) (directory : Directory) (step : Result Row ℕ)
    → behind_row (row ++ directory ∷ []) step ≡ behind_row row (step >>= λ later. Ok (rowed (directory ∷ later.directories) later.taken))
behind_more row directory (Ok later) = ap (λ (ds : List Directory). Ok (rowed ds later.taken)) (append_assoc row (directory ∷ []) later.directories)
behind_more row directory (Err page) = refl

-- what is asked for a row
pub record AskedRow : Type 0 where
  pub rules : Rules
  pub dims : List Dimension
  pub blobs : List BlobAt

abbrev pub row_of : AskedRow → List ℕ → List Directory → List ℕ → List BlobAt → Result Row ℕ
row_of a file row taken left = behind_row row (row_in file a.rules a.dims (entries_of [] row) taken left)

-- the directories that are left
abbrev pub GoingRow : AskedRow → Option (List ℕ) → List Bool → ℕ → List Directory → List Bool → Type 0
GoingRow a told old i row set = (seen : List ℕ) → told ≡ Some seen → (taken : List ℕ) → IsTaken seen old taken
    → (so_far : List ℕ) × IsTaken seen set so_far × (row_of a seen row so_far (drop i a.blobs) ≡ row_in seen a.rules a.dims [] taken a.blobs)

behind_none : (step : Result Row ℕ) → behind_row [] step ≡ step
behind_none (Ok later) = refl
behind_none (Err page) = refl

pub row_begins : (a : AskedRow) (told : Option (List ℕ)) (old : List Bool) → GoingRow a told old 0 [] old
row_begins a told old seen is taken has = (taken, has, behind_none (row_in seen a.rules a.dims [] taken a.blobs))

-- a call that read a directory
abbrev pub ReadsOne : AskedRow → Option (List ℕ) → List Bool → List Directory → BlobAt → Result Directory OpenCause → List Bool → Type 0
ReadsOne a told set row at result now = (seen : List ℕ) → told ≡ Some seen → (taken : List ℕ) → IsTaken seen set taken
    → Takes seen listed result now (directory_from seen a.rules a.dims (entries_of [] row) taken at)

next_blob : (a : AskedRow) (i : ℕ) (at : BlobAt) → i < length a.blobs → at ≡ get_or a.blobs i at → drop i a.blobs ≡ at ∷ drop (i + 1) a.blobs
next_blob a i at low is = drop_more a.blobs i at low ∙ ap (λ (b : BlobAt). b ∷ drop (i + 1) a.blobs) (sym is)

one_directory : (a : AskedRow) (file : List ℕ) (row : List Directory) (taken now : List ℕ) (directory : Directory) (at : BlobAt) (left : List BlobAt)
    → directory_from file a.rules a.dims (entries_of [] row) taken at ≡ Ok (listed directory now)
    → row_of a file row taken (at ∷ left) ≡ row_of a file (row ++ directory ∷ []) now left
one_directory a file row taken now directory at left is =
    ap (behind_row row) (then_is (directory_from file a.rules a.dims (entries_of [] row) taken at) _ (listed directory now) is)
    ∙ sym (behind_more row directory (row_in file a.rules a.dims (directory.entries ++ entries_of [] row) now left))
    ∙ ap (λ (es : List DirEntry). behind_row (row ++ directory ∷ []) (row_in file a.rules a.dims es now left)) (sym (entries_push [] row directory))

pub row_goes : (a : AskedRow) (told mid : Option (List ℕ)) (old set now : List Bool) (i : ℕ) (row more : List Directory) (directory : Directory) (at : BlobAt)
    → i < length a.blobs → at ≡ get_or a.blobs i at → mid ≡ told → more ≡ row ++ directory ∷ [] → ReadsOne a mid set row at (Ok directory) now → GoingRow a told old i row set → GoingRow a told old (i + 1) more now
row_goes a told mid old set now i row more directory at low is same more_is reads going seen seen_is taken has =
    let g = going seen seen_is taken has in
    let r = reads seen (same ∙ seen_is) g.0 g.1 in (
      r.0,
      r.2,
      ap (λ (ds : List Directory). row_of a seen ds r.0 (drop (i + 1) a.blobs)) more_is ∙ sym (one_directory a seen row g.0 r.0 directory at (drop (i + 1) a.blobs) r.1)
          ∙ ap (row_of a seen row g.0) (sym (next_blob a i at low is)) ∙ g.2,
    )

pub row_stops : (a : AskedRow) (told mid : Option (List ℕ)) (old set now : List Bool) (i : ℕ) (row : List Directory) (at : BlobAt) (cause : OpenCause)
    → i < length a.blobs → at ≡ get_or a.blobs i at → mid ≡ told → ReadsOne a mid set row at (Err cause) now → GoingRow a told old i row set
    → (seen : List ℕ) → told ≡ Some seen → (taken : List ℕ) → IsTaken seen old taken → Takes seen rowed (Err cause) now (row_in seen a.rules a.dims [] taken a.blobs)
row_stops a told mid old set now i row at Disk low is same reads going seen seen_is taken has = tt
row_stops a told mid old set now i row at (NotDatabase page) low is same reads going seen seen_is taken has =
    let g = going seen seen_is taken has in
    let wrong = reads seen (same ∙ seen_is) g.0 g.1 in
    sym g.2 ∙ ap (row_of a seen row g.0) (next_blob a i at low is)
    ∙ ap (behind_row row) (unless (directory_from seen a.rules a.dims (entries_of [] row) g.0 at) _ page wrong)
row_stops a told mid old set now i row at Memory low is same reads going seen seen_is taken has = tt

pub row_ends : (a : AskedRow) (told : Option (List ℕ)) (old set : List Bool) (i : ℕ) (row : List Directory) → length a.blobs ≤ i → GoingRow a told old i row set
    → (seen : List ℕ) → told ≡ Some seen → (taken : List ℕ) → IsTaken seen old taken → Takes seen rowed (Ok row) set (row_in seen a.rules a.dims [] taken a.blobs)
row_ends a told old set i row past going seen seen_is taken has =
    let g = going seen seen_is taken has in (
      g.0,
      sym g.2 ∙ ap (row_of a seen row g.0) (drop_all i a.blobs past) ∙ ap (λ (ds : List Directory). Ok (rowed ds g.0)) (append-nil row),
      g.1,
    )

-- each of a row, and one more
pub each_more : {A : Type 0} (P : A → Type 0) (xs more : List A) (x : A) → more ≡ xs ++ x ∷ [] → AllByRecursion P xs → P x → AllByRecursion P more
each_more P xs more x is all one = subst (AllByRecursion P) (sym is) (go xs all)
  where
    go : (ys : List _) → AllByRecursion P ys → AllByRecursion P (ys ++ x ∷ [])
    go [] all = (one, tt)
    go (y ∷ ys) all = (all.0, go ys all.1)

-- ---- the directories of all arrays

behind_rows_more : (rows : List (List Directory)) (row : List Directory) (step : Result (List (List Directory)) ℕ)
    → behind_rows (rows ++ row ∷ []) step ≡ behind_rows rows (step >>= λ later. Ok (row ∷ later))
behind_rows_more rows row (Ok later) = ap (λ (rs : List (List Directory)). Ok rs) (append_assoc rows (row ∷ []) later)
behind_rows_more rows row (Err page) = refl

behind_no_rows : (step : Result (List (List Directory)) ℕ) → behind_rows [] step ≡ step
behind_no_rows (Ok later) = refl
behind_no_rows (Err page) = refl

abbrev pub GoingRows : Rules → List CatalogArray → Option (List ℕ) → List Bool → ℕ → List (List Directory) → List Bool → Type 0
GoingRows rules arrays told old i rows set = (seen : List ℕ) → told ≡ Some seen → (taken : List ℕ) → IsTaken seen old taken
    → (so_far : List ℕ) × IsTaken seen set so_far × (behind_rows rows (rows_in seen rules so_far (drop i arrays)) ≡ rows_in seen rules taken arrays)

pub rows_begin : (rules : Rules) (arrays : List CatalogArray) (told : Option (List ℕ)) (old : List Bool) → GoingRows rules arrays told old 0 [] old
rows_begin rules arrays told old seen is taken has = (taken, has, behind_no_rows (rows_in seen rules taken arrays))

abbrev pub ReadsRow : Rules → CatalogArray → Option (List ℕ) → List Bool → Result (List Directory) OpenCause → List Bool → Type 0
ReadsRow rules array told set result now = (seen : List ℕ) → told ≡ Some seen → (taken : List ℕ) → IsTaken seen set taken
    → Takes seen rowed result now (row_in seen rules array.entry.schema.dimensions [] taken array.directories)

next_array : (arrays : List CatalogArray) (i : ℕ) (array : CatalogArray) → i < length arrays → array ≡ get_or arrays i array → drop i arrays ≡ array ∷ drop (i + 1) arrays
next_array arrays i array low is = drop_more arrays i array low ∙ ap (λ (a : CatalogArray). a ∷ drop (i + 1) arrays) (sym is)

pub rows_go : (rules : Rules) (arrays : List CatalogArray) (told mid : Option (List ℕ)) (old set now : List Bool) (i : ℕ) (rows more : List (List Directory)) (row : List Directory) (array : CatalogArray)
    → i < length arrays → array ≡ get_or arrays i array → mid ≡ told → more ≡ rows ++ row ∷ [] → ReadsRow rules array mid set (Ok row) now → GoingRows rules arrays told old i rows set
    → GoingRows rules arrays told old (i + 1) more now
rows_go rules arrays told mid old set now i rows more row array low is same more_is reads going seen seen_is taken has =
    let g = going seen seen_is taken has in
    let r = reads seen (same ∙ seen_is) g.0 g.1 in
    let left = drop (i + 1) arrays in (
      r.0,
      r.2,
      ap (λ (rs : List (List Directory)). behind_rows rs (rows_in seen rules r.0 left)) more_is
          ∙ behind_rows_more rows row (rows_in seen rules r.0 left)
          ∙ sym (ap (behind_rows rows) (then_is (row_in seen rules array.entry.schema.dimensions [] g.0 array.directories) _ (rowed row r.0) r.1))
          ∙ ap (λ (as_ : List CatalogArray). behind_rows rows (rows_in seen rules g.0 as_)) (sym (next_array arrays i array low is)) ∙ g.2,
    )

pub rows_stop : (rules : Rules) (arrays : List CatalogArray) (told mid : Option (List ℕ)) (old set now : List Bool) (i : ℕ) (rows : List (List Directory)) (array : CatalogArray) (cause : OpenCause)
    → i < length arrays → array ≡ get_or arrays i array → mid ≡ told → ReadsRow rules array mid set (Err cause) now → GoingRows rules arrays told old i rows set
    → (seen : List ℕ) → told ≡ Some seen → (taken : List ℕ) → IsTaken seen old taken → Answers {X = List (List Directory)} (Err cause) (rows_in seen rules taken arrays)
rows_stop rules arrays told mid old set now i rows array Disk low is same reads going seen seen_is taken has = tt
rows_stop rules arrays told mid old set now i rows array (NotDatabase page) low is same reads going seen seen_is taken has =
    let g = going seen seen_is taken has in
    let wrong = reads seen (same ∙ seen_is) g.0 g.1 in
    sym g.2 ∙ ap (λ (as_ : List CatalogArray). behind_rows rows (rows_in seen rules g.0 as_)) (next_array arrays i array low is)
    ∙ ap (behind_rows rows) (unless (row_in seen rules array.entry.schema.dimensions [] g.0 array.directories) _ page wrong)
rows_stop rules arrays told mid old set now i rows array Memory low is same reads going seen seen_is taken has = tt

pub rows_end : (rules : Rules) (arrays : List CatalogArray) (told : Option (List ℕ)) (old set : List Bool) (i : ℕ) (rows : List (List Directory)) → length arrays ≤ i → GoingRows rules arrays told old i rows set
    → (seen : List ℕ) → told ≡ Some seen → (taken : List ℕ) → IsTaken seen old taken → rows_in seen rules taken arrays ≡ Ok rows
rows_end rules arrays told old set i rows past going seen seen_is taken has =
    let g = going seen seen_is taken has in
    sym g.2 ∙ ap (λ (as_ : List CatalogArray). behind_rows rows (rows_in seen rules g.0 as_)) (drop_all i arrays past) ∙ ap (λ (rs : List (List Directory)). Ok rs) (append-nil rows)

-- what is left of two lists that go on together
abbrev pub Zipping : {A B : Type 0} → (A → B → Type 0) → List A → ℕ → List B → Type 0
Zipping P xs i ys = (later : List _) → AllZip P (drop i xs) later → AllZip P xs (ys ++ later)

pub zip_begins : {A B : Type 0} (P : A → B → Type 0) (xs : List A) → Zipping P xs 0 []
zip_begins P xs later zips = zips

pub zip_goes : {A B : Type 0} (P : A → B → Type 0) (xs : List A) (i : ℕ) (x : A) (ys more : List B) (y : B) → i < length xs → x ≡ get_or xs i x → more ≡ ys ++ y ∷ []
    → P x y → Zipping P xs i ys → Zipping P xs (i + 1) more
zip_goes P xs i x ys more y low is more_is one zipping later zips =
    let left : drop i xs ≡ x ∷ drop (i + 1) xs = drop_more xs i x low ∙ ap (λ (z : _). z ∷ drop (i + 1) xs) (sym is) in
    let all : AllZip P (x ∷ drop (i + 1) xs) (y ∷ later) = (one, zips) in
    let behind = zipping (y ∷ later) (subst (λ (zs : List _). AllZip P zs (y ∷ later)) (sym left) all) in
    subst (AllZip P xs) (sym (ap (λ (zs : List _). zs ++ later) more_is ∙ append_assoc ys (y ∷ []) later)) behind

pub zip_ends : {A B : Type 0} (P : A → B → Type 0) (xs : List A) (i : ℕ) (ys : List B) → length xs ≤ i → Zipping P xs i ys → AllZip P xs ys
zip_ends P xs i ys past zipping =
    let none : AllZip P [] [] = tt in
    subst (AllZip P xs) (append-nil ys) (zipping [] (subst (λ (zs : List _). AllZip P zs []) (sym (drop_all i xs past)) none))

-- Directories whose pages lie beside others.
use Rattle.std.proofs.Common.{◌≡◌, ℕ, ◌*◌, ◌/◌, Bool, true, false, List, [], ◌∷◌, ◌++◌, length, replicate, slice_index, Ok, IsTrue, refl, sym, ◌∙◌, ap, subst, append_assoc, append-nil, arith}
use Rattle.std.proofs.lemmas.List.{length-replicate}
use Rattle.std.specs.Prelude.{if◌then◌else◌, ◌&&◌, ◌||◌, not, nat_eq, nat_lt}
use Rattle.std.specs.List.{AllByRecursion, AllZip, flat_map, list_any}
use Rattle.cell_values.specs.declared.schema.Dimension.{Dimension}
use Rattle.array_rows.specs.Boxes.{by_pairs}
use Rattle.array_geom.specs.Geometry.{has_core}
use Rattle.page_chain.specs.Pages.{page_size, has_page}
use Rattle.page_chain.specs.Chains.{names_page}
use Rattle.chunk_map.specs.declared.directory.DirEntry.{DirEntry}
use Rattle.chunk_map.specs.declared.directory.Directory.{Directory}
use Rattle.version_catalog.specs.declared.rules.catalog.BlobAt.{BlobAt}
use Rattle.version_catalog.specs.declared.rules.catalog.CatalogArray.{CatalogArray}
use Rattle.version_reaper.specs.PageSets.{holds}
use Rattle.file_meaning.specs.Opening.{all_of, claimed, is_same, is_seen, payloads_in, row_pages, version_pages}
use Rattle.file_meaning.proofs.Apart.{both_all, has_either, same_pages}
use Rattle.file_meaning.proofs.Elsewhere.{entry_steps}
use Rattle.file_meaning.proofs.Parts.{both_true, claim_parts}
use Rattle.file_reading.specs.Reading.{HaveCores, is_beside}
use Rattle.file_reading.specs.Inner.Rows.{AreBeside, ArePaidBeside, IsBeside, IsRowBeside, entries_of}
use Rattle.file_reading.specs.Inner.Taken.{HaveAll, IsTaken, LeaveBeside, LeavesBeside}
use Rattle.file_reading.proofs.EntryLaws.{entries_push}
use Rattle.file_reading.proofs.RowLaws.{Asked, Zipping, paid}

-- ---- claims

less : (x b rest : Bool) → (x && not (b || rest)) ≡ true → (x && not rest) ≡ true
less true true rest is = absurd cc
less true false rest is = is
less false b rest is = absurd cc

without : (file taken : List ℕ) (p q : ℕ) → names_page page_size file (p ∷ taken) q ≡ true → names_page page_size file taken q ≡ true
without file taken p q names = less (nat_lt 0 q && has_page page_size file q) (nat_eq p q) (list_any (λ page. nat_eq page q) taken) names

record AreClaimed (file others pages now : List ℕ) : Type 0 where
  beside : AreBeside others pages
  later : LeaveBeside file now others

claims_beside : (file others : List ℕ) (named : ℕ) (pages taken now : List ℕ) → LeaveBeside file taken others → claimed file named taken pages ≡ Ok now → AreClaimed file others pages now
claims_beside file others named [] taken now before is =
    let same : taken ≡ now = cc in
    record { beside = tt; later = subst (λ (ps : List ℕ). LeaveBeside file ps others) same before }
claims_beside file others named (p ∷ pages) taken now before is =
    let e = claim_parts file named taken pages now p is in
    let c = claims_beside file others named pages (p ∷ taken) now (λ q names. before q (without file taken p q names)) e.1 in
    record { beside = (before p e.0, c.beside); later = c.later }

-- ---- payloads

seen_beside : (others : List ℕ) (entry : DirEntry) (seen : List DirEntry) → ArePaidBeside others seen → is_seen seen entry ≡ true → AreBeside others entry.pages
seen_beside others entry [] all is = absurd cc
seen_beside others entry (e ∷ seen) all is = cases (is_same entry e) refl is (seen_beside others entry seen all.1)
  where
    cases : (b : Bool) → is_same entry e ≡ b → (b || is_seen seen entry) ≡ true → (is_seen seen entry ≡ true → AreBeside others entry.pages) → AreBeside others entry.pages
    cases true same more later = subst (AreBeside others) (sym (same_pages entry e same)) all.0
    cases false same more later = later more

payload_beside : (file others : List ℕ) (named : ℕ) (seen : List DirEntry) (taken now : List ℕ) (entry : DirEntry) → LeaveBeside file taken others → ArePaidBeside others seen → (b : Bool) → is_seen seen entry ≡ b
    → (if b then Ok taken else claimed file named taken entry.pages) ≡ Ok now → AreClaimed file others entry.pages now
payload_beside file others named seen taken now entry before all true had is =
    let same : taken ≡ now = cc in
    record { beside = seen_beside others entry seen all had; later = subst (λ (ps : List ℕ). LeaveBeside file ps others) same before }
payload_beside file others named seen taken now entry before all false had is = claims_beside file others named entry.pages taken now before is

record AreListed (file others : List ℕ) (dims : List Dimension) (entries : List DirEntry) (now : List ℕ) : Type 0 where
  beside : ArePaidBeside others entries
  cores : AllByRecursion (λ entry. IsTrue (has_core dims entry.at.items)) entries
  later : LeaveBeside file now others

payloads_beside : (file others : List ℕ) (sequence : ℕ) (dims : List Dimension) (named : ℕ) (seen : List DirEntry) → ArePaidBeside others seen → (entries : List DirEntry) (taken now : List ℕ) → LeaveBeside file taken others
    → payloads_in file sequence dims named seen taken entries ≡ Ok now → AreListed file others dims entries now
payloads_beside file others sequence dims named seen all [] taken now before is =
    let same : taken ≡ now = cc in
    record { beside = tt; cores = tt; later = subst (λ (ps : List ℕ). LeaveBeside file ps others) same before }
payloads_beside file others sequence dims named seen all (entry ∷ entries) taken now before is =
    let s = entry_steps file sequence dims named seen taken entry entries now is in
    let c = payload_beside file others named seen taken s.after entry before all (is_seen seen entry) refl s.claims in
    let d = payloads_beside file others sequence dims named seen all entries s.after now c.later s.rest in
    record {
      beside = (c.beside, d.beside);
      cores = ((both_true (has_core dims entry.at.items) _ s.tested).0, d.cores);
      later = d.later;
    }

-- ---- directories

pub version_beside : (a : Asked) (others own all : List ℕ) (directory : Directory) (set : List Bool) → LeaveBeside a.file a.taken others → claimed a.file a.rules.first a.taken a.at.pages ≡ Ok own
    → ArePaidBeside others a.seen → paid a own directory ≡ Ok all → IsTaken a.file set all → LeavesBeside a.file set others × IsBeside others a.dims a.at directory
version_beside a others own all directory set before claims seen pays is =
    let c = claims_beside a.file others a.rules.first a.at.pages a.taken own before claims in
    let d = payloads_beside a.file others a.rules.sequence a.dims (slice_index a.at.pages 0) a.seen seen directory.entries own all c.later pays in
    ((all, is, d.later), record { own = c.beside; paid = d.beside; cores = d.cores })

-- the first directories of a row
pub record RowGoes (file others : List ℕ) (dims : List Dimension) (blobs : List BlobAt) (i : ℕ) (row : List Directory) (set : List Bool) : Type 0 where
  pub taken : LeavesBeside file set others
  pub before : ArePaidBeside others (entries_of [] row)
  pub zipping : Zipping (IsBeside others dims) blobs i row

pub paid_more : (others : List ℕ) (row more : List Directory) (directory : Directory) → more ≡ row ++ directory ∷ [] → ArePaidBeside others (entries_of [] row) → ArePaidBeside others directory.entries
    → ArePaidBeside others (entries_of [] more)
paid_more others row more directory is before one =
    subst (ArePaidBeside others) (sym (ap (entries_of []) is ∙ entries_push [] row directory)) (both_all (λ (e : DirEntry). AreBeside others e.pages) directory.entries (entries_of [] row) one before)

-- ---- all directories

one_list : (others : List ℕ) (entries : List DirEntry) → ArePaidBeside others entries → AreBeside others (flat_map (λ e. e.pages) entries)
one_list others [] all = tt
one_list others (e ∷ entries) all = both_all (λ (p : ℕ). IsTrue (is_beside others p)) e.pages (flat_map (λ x. x.pages) entries) all.0 (one_list others entries all.1)

row_beside : (others : List ℕ) (dims : List Dimension) (blobs : List BlobAt) (row : List Directory) → AllZip (IsBeside others dims) blobs row → AreBeside others (all_of (by_pairs version_pages blobs row))
row_beside others dims [] [] all = tt
row_beside others dims [] (directory ∷ row) all = absurd all
row_beside others dims (at ∷ blobs) [] all = absurd all
row_beside others dims (at ∷ blobs) (directory ∷ row) all =
    let P = λ (p : ℕ). IsTrue (is_beside others p) in
    let pages = flat_map (λ (e : DirEntry). e.pages) directory.entries in
    both_all P (at.pages ++ pages) (all_of (by_pairs version_pages blobs row)) (both_all P at.pages pages all.0.own (one_list others directory.entries all.0.paid)) (row_beside others dims blobs row all.1)

pub rows_beside : (others : List ℕ) (arrays : List CatalogArray) (rows : List (List Directory)) → AllZip (IsRowBeside others) arrays rows → AreBeside others (all_of (by_pairs row_pages arrays rows))
rows_beside others [] [] all = tt
rows_beside others [] (row ∷ rows) all = absurd all
rows_beside others (array ∷ arrays) [] all = absurd all
rows_beside others (array ∷ arrays) (row ∷ rows) all =
    both_all (λ (p : ℕ). IsTrue (is_beside others p)) (row_pages array row) (all_of (by_pairs row_pages arrays rows)) (row_beside others array.entry.schema.dimensions array.directories row all.0)
    (rows_beside others arrays rows all.1)

row_cores : (others : List ℕ) (dims : List Dimension) (blobs : List BlobAt) (row : List Directory) → AllZip (IsBeside others dims) blobs row → AllByRecursion (HaveCores dims) row
row_cores others dims blobs [] all = tt
row_cores others dims [] (directory ∷ row) all = absurd all
row_cores others dims (at ∷ blobs) (directory ∷ row) all = (all.0.cores, row_cores others dims blobs row all.1)

pub rows_cores : (others : List ℕ) (arrays : List CatalogArray) (rows : List (List Directory)) → AllZip (IsRowBeside others) arrays rows
    → AllZip (λ (array : CatalogArray) (row : List Directory). AllByRecursion (HaveCores array.entry.schema.dimensions) row) arrays rows
rows_cores others [] [] all = tt
rows_cores others [] (row ∷ rows) all = absurd all
rows_cores others (array ∷ arrays) [] all = absurd all
rows_cores others (array ∷ arrays) (row ∷ rows) all = (row_cores others array.entry.schema.dimensions array.directories row all.0, rows_cores others arrays rows all.1)

-- ---- what is taken at the start

dropped : (x y z : Bool) → (x && y && z) ≡ true → (x && z) ≡ true
dropped true true z is = is
dropped true false z is = absurd cc
dropped false y z is = absurd cc

pub taken_beside : (file taken : List ℕ) (set : List Bool) → IsTaken file set taken → LeavesBeside file set taken
taken_beside file taken set is = (taken, is, λ page names. dropped (nat_lt 0 page) (has_page page_size file page) (not (list_any (λ p. nat_eq p page) taken)) names)

-- what is beside more is beside fewer
turned : (x a b : Bool) → (b ≡ true → a ≡ true) → (x && not a) ≡ true → (x && not b) ≡ true
turned true true b only is = absurd cc
turned true false true only is = absurd (let e : false ≡ true = only refl in cc)
turned true false false only is = refl
turned false a b only is = absurd cc

pub beside_fewer : (more fewer pages : List ℕ) → HaveAll more fewer → AreBeside more pages → AreBeside fewer pages
beside_fewer more fewer [] all beside = tt
beside_fewer more fewer (p ∷ pages) all beside = (turned (nat_lt 0 p) (holds more p) (holds fewer p) (all p) beside.0, beside_fewer more fewer pages all beside.1)

-- ---- the pages of the log

all_of_more : (lists : List (List ℕ)) (pages : List ℕ) → all_of (lists ++ pages ∷ []) ≡ all_of lists ++ pages
all_of_more [] pages = append-nil pages
all_of_more (list ∷ lists) pages = ap (λ (ps : List ℕ). list ++ ps) (all_of_more lists pages) ∙ sym (append_assoc list (all_of lists) pages)

either_of : (a b c d : Bool) → (a || b) ≡ true → (a ≡ true → d ≡ true) → (c || d) ≡ (b || d) → (c || d) ≡ true
either_of true b c d is first same = same ∙ ap (λ (x : Bool). b || x) (first refl) ∙ always b
  where
    always : (x : Bool) → (x || true) ≡ true
    always true = refl
    always false = refl
either_of false b c d is first same = same ∙ ap (λ (x : Bool). x || d) is

-- one more record's pages
pub keeps_all : (others taken pages now : List ℕ) (logged more : List (List ℕ)) → now ≡ pages ++ taken → more ≡ logged ++ pages ∷ [] → HaveAll taken (others ++ all_of logged) → HaveAll now (others ++ all_of more)
keeps_all others taken pages now logged more now_is more_is all page is =
    let listed : others ++ all_of more ≡ (others ++ all_of logged) ++ pages =
    ap (λ (ls : List (List ℕ)). others ++ all_of ls) more_is ∙ ap (λ (ps : List ℕ). others ++ ps) (all_of_more logged pages) ∙ sym (append_assoc others (all_of logged) pages) in
    let split : (holds (others ++ all_of logged) page || holds pages page) ≡ true =
    sym (has_either (others ++ all_of logged) pages page) ∙ ap (λ (ps : List ℕ). holds ps page) (sym listed) ∙ is in
    ap (λ (ps : List ℕ). holds ps page) now_is ∙ has_either pages taken page
    ∙ either_of (holds (others ++ all_of logged) page) (holds pages page) (holds pages page) (holds taken page) split (all page) refl

-- the pages of a catalogue among those that are taken, in whichever order
pub log_first : (chain logged taken : List ℕ) (log : ℕ) → HaveAll taken ((chain ++ log ∷ []) ++ logged) → HaveAll taken (log ∷ (chain ++ logged))
log_first chain logged taken log all page is =
    all page (has_either (chain ++ log ∷ []) logged page ∙ ap (λ (b : Bool). b || holds logged page) (has_either chain (log ∷ []) page)
    ∙ moved (holds chain page) (nat_eq log page) (holds logged page) (ap (λ (b : Bool). nat_eq log page || b) (sym (has_either chain logged page)) ∙ is))
  where
    moved : (a b c : Bool) → (b || (a || c)) ≡ true → ((a || (b || false)) || c) ≡ true
    moved true true c is = refl
    moved true false c is = refl
    moved false true c is = refl
    moved false false c is = is

-- before the first record
pub starts_all : (others taken : List ℕ) (logged : List (List ℕ)) → taken ≡ others → logged ≡ [] → HaveAll taken (others ++ all_of logged)
starts_all others taken logged taken_is none page is =
    ap (λ (ts : List ℕ). holds ts page) taken_is
    ∙ sym (ap (λ (ls : List (List ℕ)). holds (others ++ all_of ls) page) none ∙ ap (λ (ps : List ℕ). holds ps page) (append-nil others)) ∙ is

-- ---- a file of so many pages

times_back : (n m : ℕ) → m ≡ 4096 * n → m / 4096 ≡ n
times_back n m is = omega (arith, is)

pub pages_of_zeros : (n : ℕ) → length {A = ℕ} (replicate (4096 * n) 0) / 4096 ≡ n
pages_of_zeros n = times_back n (length {A = ℕ} (replicate (4096 * n) 0)) (length-replicate {A = ℕ} (4096 * n) 0)

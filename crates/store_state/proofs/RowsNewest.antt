-- The directory of an array's newest version.
use Rattle.std.proofs.Common.{◌≡◌, ◌∙◌, ℕ, suc, ◌-◌, ◌<◌, Bool, true, false, cond, ◌&&◌, ◌||◌, nat_eq, List, [], ◌∷◌, map, length, Option, None, Some, refl, ap, sym, subst, arith}
use Rattle.std.specs.Prelude.{slice_index_or}
use Rattle.std.specs.List.{AllByRecursion, filter, find}
use Rattle.std.specs.Option.{option_map}
use Rattle.std.specs.Cmp.Lexicographic.{bytes_decides}
use Rattle.std.proofs.lemmas.Bool.Decides.{nat_tests}
use Rattle.chunk_map.specs.declared.directory.Directory.{Directory}
use Rattle.file_meaning.specs.Changes.{is_named, has_array, last_of, newest_or, newest_of}
use Rattle.file_meaning.specs.Stored.{IsStored, RiseBetween}
use Rattle.file_meaning.specs.CatalogArray.{CatalogArray}
use Rattle.file_meaning.specs.Catalogs.{names_in}
use Rattle.file_meaning.specs.Records.{entries_of, is_array}
use Rattle.store_state.specs.LaidPremises.{last_of_row}
use Rattle.file_meaning.specs.Premises.{row_of}
use Rattle.store_versions.specs.Versions.{MadeVersion, is_of, is_numbered, directory_of}
use Rattle.store_state.specs.RowsLaws.{NewestAreLast}
use Rattle.store_state.proofs.Filters.{itself}
use Rattle.store_state.proofs.Items.{rows_of, IsOrdered}
use Rattle.store_state.proofs.RowsDirectories.{name_of_version, number_of_version, directory_of_version, none_of}

-- ---- numbers that rise

last_behind : (n m : ℕ) (ns : List ℕ) → last_of (n ∷ m ∷ ns) ≡ last_of (m ∷ ns)
last_behind n m ns =
    let a : length (n ∷ m ∷ ns) - 1 ≡ suc (length ns) = omega arith in
    let b : length (m ∷ ns) - 1 ≡ length ns = omega arith in
    ap (λ (k : ℕ). slice_index_or (n ∷ m ∷ ns) k 0) a ∙ sym (ap (λ (k : ℕ). slice_index_or (m ∷ ns) k 0) b)

above_first : (low high n : ℕ) (ns : List ℕ) → RiseBetween low high (n ∷ ns) → low < last_of (n ∷ ns)
above_first low high n [] rise = rise.0
above_first low high n (m ∷ ns) rise =
    let later : n < last_of (m ∷ ns) = above_first n high m ns rise.2 in
    let first : low < n = rise.0 in
    let same = last_behind n m ns in
    omega (arith, later, first, same)

another : (n m : ℕ) → n < m → nat_eq n m ≡ false
another n m less = grind (arith, nat_tests)

-- the version of the last number is the last one
last_found : (low high : ℕ) (versions : List MadeVersion) (newest : Directory) → RiseBetween low high (map number_of_version versions)
    → option_map directory_of_version (find (λ v. nat_eq v.version (last_of (map number_of_version versions))) versions) ≡ Some newest → last_of_row (map directory_of_version versions) ≡ newest
last_found low high [] newest rise is = absurd cc
last_found low high (v ∷ []) newest rise is =
    let found : Some v.directory ≡ Some newest = ap (λ (b : Bool). option_map directory_of_version (cond b (Some v) None)) (sym (itself v.version)) ∙ is in
    cc
last_found low high (v ∷ w ∷ versions) newest rise is =
    let numbers = map number_of_version versions in
    let last = last_of (w.version ∷ numbers) in
    let less : v.version < last = above_first v.version high w.version numbers rise.2 in
    last_found v.version high (w ∷ versions) newest rise.2
    (ap (λ (b : Bool). option_map directory_of_version (cond b (Some v) (find (λ x. nat_eq x.version last) (w ∷ versions)))) (sym (another v.version last less))
    ∙ ap (λ (n : ℕ). option_map directory_of_version (find (λ x. nat_eq x.version n) (v ∷ w ∷ versions))) (sym (last_behind v.version w.version numbers)) ∙ is)

-- ---- the array of the name

find_in : (n : List ℕ) (number : ℕ) (versions : List MadeVersion) → find (is_numbered n number) versions ≡ find (λ v. nat_eq v.version number) (filter (is_of n) versions)
find_in n number [] = refl
find_in n number (v ∷ versions) = by_test (is_of n v) (find_in n number versions)
  where
    by_test : (b : Bool) → find (is_numbered n number) versions ≡ find (λ w. nat_eq w.version number) (filter (is_of n) versions)
        → cond (b && nat_eq v.version number) (Some v) (find (is_numbered n number) versions)
        ≡ find (λ w. nat_eq w.version number) (cond b (v ∷ filter (is_of n) versions) (filter (is_of n) versions))
    by_test true later = ap (λ (o : Option MadeVersion). cond (nat_eq v.version number) (Some v) o) later
    by_test false later = later

-- what is found of an array of the name
record IsFound (n : List ℕ) (versions : List MadeVersion) (arrays : List CatalogArray) : Type 0 where
  high : ℕ
  rise : RiseBetween 0 high (map number_of_version (filter (is_of n) versions))
  newest : newest_of (entries_of arrays) n ≡ last_of (map number_of_version (filter (is_of n) versions))
  row : row_of n (entries_of arrays) (rows_of name_of_version directory_of_version versions arrays) ≡ map directory_of_version (filter (is_of n) versions)

array_found : (n : List ℕ) (versions : List MadeVersion) (arrays : List CatalogArray) → AllByRecursion IsStored (entries_of arrays) → AllByRecursion (IsOrdered name_of_version number_of_version versions) (entries_of arrays)
    → has_array (entries_of arrays) n ≡ true → IsFound n versions arrays
array_found n versions [] stored order has = absurd cc
array_found n versions (a ∷ arrays) stored order has = by_test (is_array n a) refl has (array_found n versions arrays stored.1 order.1)
  where
    by_test : (b : Bool) → is_array n a ≡ b → (b || has_array (entries_of arrays) n) ≡ true → (has_array (entries_of arrays) n ≡ true → IsFound n versions arrays) → IsFound n versions (a ∷ arrays)
    by_test true is has later =
        let same : a.entry.name ≡ n = (bytes_decides a.entry.name n).0 is in
        let ordered : map number_of_version (filter (is_of n) versions) ≡ a.entry.versions
        = ap (λ (m : List ℕ). map number_of_version (filter (is_of m) versions)) (sym same) ∙ order.0 in
        record {
          high = a.entry.next;
          rise = subst (RiseBetween 0 a.entry.next) (sym ordered) stored.0.versions;
          newest = ap (λ (b : Bool). newest_or (cond b (Some a.entry) (find (is_named n) (entries_of arrays)))) is ∙ ap last_of (sym ordered);
          row = ap (λ (b : Bool). cond b (map directory_of_version (filter (is_of a.entry.name) versions)) (row_of n (entries_of arrays) (rows_of name_of_version directory_of_version versions arrays))) is
              ∙ ap (λ (m : List ℕ). map directory_of_version (filter (is_of m) versions)) same;
        }
    by_test false is has later =
        let found = later has in
        record {
          high = found.high;
          rise = found.rise;
          newest = ap (λ (b : Bool). newest_or (cond b (Some a.entry) (find (is_named n) (entries_of arrays)))) is ∙ found.newest;
          row = ap (λ (b : Bool). cond b (map directory_of_version (filter (is_of a.entry.name) versions)) (row_of n (entries_of arrays) (rows_of name_of_version directory_of_version versions arrays))) is ∙ found.row;
        }

pub newest_are_last : NewestAreLast
newest_are_last catalog versions name newest stand is = by_test (has_array (entries_of catalog.arrays) name) refl
  where
    own : directory_of name (newest_of (entries_of catalog.arrays) name) versions ≡ Some newest → option_map directory_of_version (find (λ v. nat_eq v.version (newest_of (entries_of catalog.arrays) name)) (filter (is_of name) versions)) ≡ Some newest
    own given = ap (option_map directory_of_version) (sym (find_in name (newest_of (entries_of catalog.arrays) name) versions)) ∙ given

    by_test : (b : Bool) → has_array (entries_of catalog.arrays) name ≡ b → last_of_row (row_of name (entries_of catalog.arrays) (rows_of name_of_version directory_of_version versions catalog.arrays)) ≡ newest
    by_test true has =
        let found = array_found name versions catalog.arrays stand.stored.each stand.order has in
        ap last_of_row found.row
        ∙ last_found 0 found.high (filter (is_of name) versions) newest found.rise
        (ap (λ (k : ℕ). option_map directory_of_version (find (λ v. nat_eq v.version k) (filter (is_of name) versions))) (sym found.newest) ∙ own is)
    by_test false has =
        let none = none_of (names_in catalog) versions name stand.have has in
        let bad : None ≡ Some newest
        = ap (λ (vs : List MadeVersion). option_map directory_of_version (find (λ v. nat_eq v.version (newest_of (entries_of catalog.arrays) name)) vs)) (sym none) ∙ own is in
        absurd cc

-- Tests, one after the other.
use Rattle.std.proofs.Common.{◌≡◌, ℕ, ◌+◌, ◌<◌, ◌≤◌, List, [], ◌∷◌, length, drop, get_or, Option, Result, Ok, Err, refl, sym, ◌∙◌, ap, subst, arith}
use Rattle.std.specs.List.{AllByRecursion, AllZip}
use Rattle.std.proofs.lemmas.List.{drop_more, drop_all}
use Rattle.afl_outside.specs.Counts.{Rose}
use Rattle.afl_outside.specs.Disk.{DiskState}
use Rattle.cell_values.specs.declared.schema.Schema.{Schema}
use Rattle.chunk_map.specs.declared.directory.Directory.{Directory}
use Rattle.version_catalog.specs.declared.rules.catalog.CatalogArray.{CatalogArray}
use Rattle.file_checking.specs.Checks.{Answers, HasCause, Tested, behind, each, test_overlaps, test_payloads, test_rows}
use Rattle.file_checking.specs.Inner.Steps.{AreChecked, AreRowsChecked, AreSmall, IsChecked, Stops, overlap_fault}
use Rattle.file_checking.specs.declared.sound.CheckFault.{CheckFault}
use Rattle.file_checking.specs.declared.sound.CheckFault.TheVariants.{Disk, NotDatabase, Damaged, WrongOverlap, Memory}

-- ---- causes

rose_since : (old mid now : ℕ) → old ≤ mid → Rose mid now → Rose old now
rose_since old mid now later rose = omega (arith, later, rose)

pub cause_since : (fault : CheckFault) (old mid now : DiskState) → old.faults ≤ mid.faults → HasCause fault mid now → HasCause fault old now
cause_since Disk old mid now later is = rose_since old.faults mid.faults now.faults later is
cause_since (NotDatabase page) old mid now later is = tt
cause_since (Damaged page) old mid now later is = tt
cause_since (WrongOverlap page) old mid now later is = tt
cause_since Memory old mid now later is = tt

-- ---- a step behind a test

-- where a test stops so does what is behind it
pub stops_then : {A : Type 0} (fault : CheckFault) (test : Tested) (step : Result A CheckFault) → Stops fault test → Answers {A = A} (Err fault) (behind test step)
stops_then Disk test step is = tt
stops_then (NotDatabase page) test step is = ap (λ (t : Tested). behind t step) is
stops_then (Damaged page) test step is = ap (λ (t : Tested). behind t step) is
stops_then (WrongOverlap page) test step is = ap (λ (t : Tested). behind t step) is
stops_then Memory test step is = tt

pub passed : {A : Type 0} (test : Tested) (step : Result A CheckFault) → test ≡ Ok tt → behind test step ≡ step
passed test step is = ap (λ (t : Tested). behind t step) is

-- a test that passes doesn't stop
pub passes_on : {A : Type 0} (fault : CheckFault) (test : Tested) (step : Result A CheckFault) → test ≡ Ok tt → Stops fault test → Answers {A = A} (Err fault) step
passes_on Disk test step is stops = tt
passes_on (NotDatabase page) test step is stops = absurd cc
passes_on (Damaged page) test step is stops = absurd cc
passes_on (WrongOverlap page) test step is stops = absurd cc
passes_on Memory test step is stops = tt

behind_behind : {A : Type 0} (a b : Tested) (step : Result A CheckFault) → behind (behind a b) step ≡ behind a (behind b step)
behind_behind (Ok u) b step = refl
behind_behind (Err fault) b step = refl

behind_nothing : (a : Tested) → behind a (Ok tt) ≡ a
behind_nothing (Ok u) = refl
behind_nothing (Err fault) = refl

pub both_pass : {A : Type 0} (a : Tested) (step : Result A CheckFault) (x : A) → behind a step ≡ Ok x → (a ≡ Ok tt) × (step ≡ Ok x)
both_pass (Ok u) step x is = (refl, is)
both_pass (Err fault) step x is = absurd cc

-- ---- over a list

pub next_at : {A : Type 0} (xs : List A) (i : ℕ) (x : A) → i < length xs → x ≡ get_or xs i x → drop i xs ≡ x ∷ drop (i + 1) xs
next_at xs i x low is = drop_more xs i x low ∙ ap (λ (z : _). z ∷ drop (i + 1) xs) (sym is)

-- what is left of a list passes where all of it does, and what holds of that holds of all
pub record Left {A : Type 0} (test : A → Tested) (P : A → Type 0) (xs : List A) (i : ℕ) : Type 0 where
  pub tests : each test (drop i xs) ≡ each test xs
  pub holds : AllByRecursion P (drop i xs) → AllByRecursion P xs

pub left_begins : {A : Type 0} (test : A → Tested) (P : A → Type 0) (xs : List A) → Left test P xs 0
left_begins test P xs = record { tests = refl; holds = λ all. all }

pub tests_on : {A : Type 0} (test : A → Tested) (xs : List A) (i : ℕ) (x : A) → i < length xs → x ≡ get_or xs i x → test x ≡ Ok tt → each test (drop i xs) ≡ each test xs → each test (drop (i + 1) xs) ≡ each test xs
tests_on test xs i x low is passes left =
    sym (passed (test x) (each test (drop (i + 1) xs)) passes) ∙ ap (each test) (sym (next_at xs i x low is)) ∙ left

pub left_on : {A : Type 0} (test : A → Tested) (P : A → Type 0) (xs : List A) (i : ℕ) (x : A) → i < length xs → x ≡ get_or xs i x → test x ≡ Ok tt → P x → Left test P xs i → Left test P xs (i + 1)
left_on test P xs i x low is passes one left = record {
  tests = tests_on test xs i x low is passes left.tests;
  holds = λ all. left.holds (subst (AllByRecursion P) (sym (next_at xs i x low is)) (one, all));
}

pub stops_at : {A : Type 0} (fault : CheckFault) (test : A → Tested) (xs : List A) (i : ℕ) (x : A) → i < length xs → x ≡ get_or xs i x → Stops fault (test x) → each test (drop i xs) ≡ each test xs → Stops fault (each test xs)
stops_at fault test xs i x low is stops left =
    subst (Stops fault) (ap (each test) (sym (next_at xs i x low is)) ∙ left) (stops_then fault (test x) (each test (drop (i + 1) xs)) stops)

pub left_stops : {A : Type 0} (fault : CheckFault) (test : A → Tested) (P : A → Type 0) (xs : List A) (i : ℕ) (x : A) → i < length xs → x ≡ get_or xs i x → Stops fault (test x) → Left test P xs i → Stops fault (each test xs)
left_stops fault test P xs i x low is stops left = stops_at fault test xs i x low is stops left.tests

pub tests_end : {A : Type 0} (test : A → Tested) (xs : List A) (i : ℕ) → length xs ≤ i → each test (drop i xs) ≡ each test xs → each test xs ≡ Ok tt
tests_end test xs i past left = sym left ∙ ap (each test) (drop_all i xs past)

pub left_holds : {A : Type 0} (test : A → Tested) (P : A → Type 0) (xs : List A) (i : ℕ) → length xs ≤ i → Left test P xs i → AllByRecursion P xs
left_holds test P xs i past left = left.holds (subst (AllByRecursion P) (sym (drop_all i xs past)) tt)

-- ---- the first wrong overlap

-- of all of them by the one so far and what is left
abbrev pub LeavesFirst : {A : Type 0} → (A → Tested) → List A → ℕ → Option ℕ → Option ℕ → Type 0
LeavesFirst test xs i old now = behind (overlap_fault now) (each test (drop i xs)) ≡ behind (overlap_fault old) (each test xs)

pub first_on : {A : Type 0} (test : A → Tested) (xs : List A) (i : ℕ) (x : A) (old now next : Option ℕ) → i < length xs → x ≡ get_or xs i x → overlap_fault next ≡ behind (overlap_fault now) (test x) → LeavesFirst test xs i old now → LeavesFirst test xs (i + 1) old next
first_on test xs i x old now next low is one left =
    ap (λ (t : Tested). behind t (each test (drop (i + 1) xs))) one
    ∙ behind_behind (overlap_fault now) (test x) (each test (drop (i + 1) xs))
    ∙ ap (λ (ys : List _). behind (overlap_fault now) (each test ys)) (sym (next_at xs i x low is)) ∙ left

pub first_ends : {A : Type 0} (test : A → Tested) (xs : List A) (i : ℕ) (old now : Option ℕ) → length xs ≤ i → LeavesFirst test xs i old now → overlap_fault now ≡ behind (overlap_fault old) (each test xs)
first_ends test xs i old now past left =
    sym (behind_nothing (overlap_fault now)) ∙ ap (λ (ys : List _). behind (overlap_fault now) (each test ys)) (sym (drop_all i xs past)) ∙ left

-- where none was wrong before, and where one was
pub first_of_all : (now : Option ℕ) (test : Tested) → overlap_fault now ≡ test → (old : Option ℕ) → overlap_fault old ≡ Ok tt → overlap_fault now ≡ behind (overlap_fault old) test
first_of_all now test is old none = is ∙ sym (passed (overlap_fault old) test none)

-- ---- over arrays and their rows

abbrev pub VersionTest : Type 0
VersionTest = Schema → Directory → Tested

abbrev pub row_test : VersionTest → CatalogArray → List Directory → Tested
row_test test array row = each (test array.entry.schema) row

pub next_row : (test : VersionTest) (arrays : List CatalogArray) (i : ℕ) (array : CatalogArray) (left rest : List (List Directory)) (row : List Directory) → i < length arrays → array ≡ get_or arrays i array → left ≡ row ∷ rest
    → test_rows test (drop i arrays) left ≡ behind (row_test test array row) (test_rows test (drop (i + 1) arrays) rest)
next_row test arrays i array left rest row low is split =
    ap (λ (as_ : List CatalogArray). test_rows test as_ left) (next_at arrays i array low is) ∙ ap (test_rows test (array ∷ drop (i + 1) arrays)) split

-- what is left of all rows
pub record RowsLeft (test : VersionTest) (P : Directory → Type 0) (arrays : List CatalogArray) (rows : List (List Directory)) (i : ℕ) (left : List (List Directory)) : Type 0 where
  pub tests : test_rows test (drop i arrays) left ≡ test_rows test arrays rows
  pub holds : AllByRecursion (AllByRecursion P) left → AllByRecursion (AllByRecursion P) rows

pub rows_begin : (test : VersionTest) (P : Directory → Type 0) (arrays : List CatalogArray) (rows : List (List Directory)) → RowsLeft test P arrays rows 0 rows
rows_begin test P arrays rows = record { tests = refl; holds = λ all. all }

pub rows_on : (test : VersionTest) (P : Directory → Type 0) (arrays : List CatalogArray) (rows : List (List Directory)) (i : ℕ) (array : CatalogArray) (left rest : List (List Directory)) (row : List Directory)
    → i < length arrays → array ≡ get_or arrays i array → left ≡ row ∷ rest → row_test test array row ≡ Ok tt → AllByRecursion P row → RowsLeft test P arrays rows i left → RowsLeft test P arrays rows (i + 1) rest
rows_on test P arrays rows i array left rest row low is split passes each_one before = record {
  tests = sym (passed (row_test test array row) (test_rows test (drop (i + 1) arrays) rest) passes) ∙ sym (next_row test arrays i array left rest row low is split) ∙ before.tests;
  holds = λ all. before.holds (subst (AllByRecursion (AllByRecursion P)) (sym split) (each_one, all));
}

pub rows_stop : (fault : CheckFault) (test : VersionTest) (P : Directory → Type 0) (arrays : List CatalogArray) (rows : List (List Directory)) (i : ℕ) (array : CatalogArray) (left rest : List (List Directory)) (row : List Directory)
    → i < length arrays → array ≡ get_or arrays i array → left ≡ row ∷ rest → Stops fault (row_test test array row) → RowsLeft test P arrays rows i left → Stops fault (test_rows test arrays rows)
rows_stop fault test P arrays rows i array left rest row low is split stops before =
    subst (Stops fault) (sym (next_row test arrays i array left rest row low is split) ∙ before.tests) (stops_then fault (row_test test array row) (test_rows test (drop (i + 1) arrays) rest) stops)

abbrev pub RowsLeaveFirst : VersionTest → List CatalogArray → List (List Directory) → ℕ → List (List Directory) → Option ℕ → Option ℕ → Type 0
RowsLeaveFirst test arrays rows i left old now = behind (overlap_fault now) (test_rows test (drop i arrays) left) ≡ behind (overlap_fault old) (test_rows test arrays rows)

pub rows_first_on : (test : VersionTest) (arrays : List CatalogArray) (rows : List (List Directory)) (i : ℕ) (array : CatalogArray) (left rest : List (List Directory)) (row : List Directory) (old now next : Option ℕ)
    → i < length arrays → array ≡ get_or arrays i array → left ≡ row ∷ rest → overlap_fault next ≡ behind (overlap_fault now) (row_test test array row) → RowsLeaveFirst test arrays rows i left old now → RowsLeaveFirst test arrays rows (i + 1) rest old next
rows_first_on test arrays rows i array left rest row old now next low is split one before =
    ap (λ (t : Tested). behind t (test_rows test (drop (i + 1) arrays) rest)) one
    ∙ behind_behind (overlap_fault now) (row_test test array row) (test_rows test (drop (i + 1) arrays) rest)
    ∙ ap (behind (overlap_fault now)) (sym (next_row test arrays i array left rest row low is split)) ∙ before

no_rows : (test : VersionTest) (arrays : List CatalogArray) (i : ℕ) (left : List (List Directory)) → length arrays ≤ i → test_rows test (drop i arrays) left ≡ Ok tt
no_rows test arrays i left past = ap (λ (as_ : List CatalogArray). test_rows test as_ left) (drop_all i arrays past)

pub rows_end : (test : VersionTest) (P : Directory → Type 0) (arrays : List CatalogArray) (rows : List (List Directory)) (i : ℕ) (left : List (List Directory)) → length arrays ≤ i → RowsLeft test P arrays rows i left → test_rows test arrays rows ≡ Ok tt
rows_end test P arrays rows i left past before = sym before.tests ∙ no_rows test arrays i left past

pub rows_first_end : (test : VersionTest) (arrays : List CatalogArray) (rows : List (List Directory)) (i : ℕ) (left : List (List Directory)) (old now : Option ℕ) → length arrays ≤ i → RowsLeaveFirst test arrays rows i left old now → overlap_fault now ≡ behind (overlap_fault old) (test_rows test arrays rows)
rows_first_end test arrays rows i left old now past before =
    sym (behind_nothing (overlap_fault now)) ∙ ap (behind (overlap_fault now)) (sym (no_rows test arrays i left past)) ∙ before

pub rows_hold : (test : VersionTest) (P : Directory → Type 0) (arrays : List CatalogArray) (rows : List (List Directory)) (i : ℕ) (left : List (List Directory)) → left ≡ [] → RowsLeft test P arrays rows i left → AllByRecursion (AllByRecursion P) rows
rows_hold test P arrays rows i left none before = before.holds (subst (AllByRecursion (AllByRecursion P)) (sym none) tt)

-- ---- the versions of an array, one after the other

pub record RowGoes (file : List ℕ) (schema : Schema) (row : List Directory) (i : ℕ) (old now : Option ℕ) : Type 0 where
  pub left : Left (test_payloads file schema) (AreSmall file) row i
  pub first : LeavesFirst (test_overlaps file schema) row i old now

pub row_begins : (file : List ℕ) (schema : Schema) (row : List Directory) (old : Option ℕ) → RowGoes file schema row 0 old old
row_begins file schema row old = record { left = left_begins (test_payloads file schema) (AreSmall file) row; first = refl }

pub row_on : (file : List ℕ) (schema : Schema) (row : List Directory) (i : ℕ) (directory : Directory) (old now next : Option ℕ) → i < length row → directory ≡ get_or row i directory → IsChecked file schema directory now next → RowGoes file schema row i old now
    → RowGoes file schema row (i + 1) old next
row_on file schema row i directory old now next low is one before = record {
  left = left_on (test_payloads file schema) (AreSmall file) row i directory low is one.are.whole one.are.small before.left;
  first = first_on (test_overlaps file schema) row i directory old now next low is one.overlaps before.first;
}

pub row_stops : (fault : CheckFault) (file : List ℕ) (schema : Schema) (row : List Directory) (i : ℕ) (directory : Directory) (old now : Option ℕ) → i < length row → directory ≡ get_or row i directory → Stops fault (test_payloads file schema directory)
    → RowGoes file schema row i old now → Stops fault (each (test_payloads file schema) row)
row_stops fault file schema row i directory old now low is stops before = left_stops fault (test_payloads file schema) (AreSmall file) row i directory low is stops before.left

pub row_ends : (file : List ℕ) (schema : Schema) (row : List Directory) (i : ℕ) (old now : Option ℕ) → length row ≤ i → RowGoes file schema row i old now → AreChecked file schema row old now
row_ends file schema row i old now past before = record {
  whole = tests_end (test_payloads file schema) row i past before.left.tests;
  small = left_holds (test_payloads file schema) (AreSmall file) row i past before.left;
  overlaps = first_ends (test_overlaps file schema) row i old now past before.first;
}

-- ---- all arrays, one after the other

pub record RowsGo (file : List ℕ) (arrays : List CatalogArray) (rows : List (List Directory)) (i : ℕ) (left : List (List Directory)) (old now : Option ℕ) : Type 0 where
  pub whole : RowsLeft (test_payloads file) (AreSmall file) arrays rows i left
  pub first : RowsLeaveFirst (test_overlaps file) arrays rows i left old now

pub all_begin : (file : List ℕ) (arrays : List CatalogArray) (rows : List (List Directory)) (old : Option ℕ) → RowsGo file arrays rows 0 rows old old
all_begin file arrays rows old = record { whole = rows_begin (test_payloads file) (AreSmall file) arrays rows; first = refl }

pub all_on : (file : List ℕ) (arrays : List CatalogArray) (rows : List (List Directory)) (i : ℕ) (array : CatalogArray) (left rest : List (List Directory)) (row slice : List Directory) (old now next : Option ℕ) → i < length arrays → array ≡ get_or arrays i array
    → left ≡ row ∷ rest → slice ≡ row → AreChecked file array.entry.schema slice now next → RowsGo file arrays rows i left old now → RowsGo file arrays rows (i + 1) rest old next
all_on file arrays rows i array left rest row slice old now next low is split same checked before =
    let one = subst (λ (r : List Directory). AreChecked file array.entry.schema r now next) same checked in
    record {
      whole = rows_on (test_payloads file) (AreSmall file) arrays rows i array left rest row low is split one.whole one.small before.whole;
      first = rows_first_on (test_overlaps file) arrays rows i array left rest row old now next low is split one.overlaps before.first;
    }

pub all_stop : (fault : CheckFault) (file : List ℕ) (arrays : List CatalogArray) (rows : List (List Directory)) (i : ℕ) (array : CatalogArray) (left rest : List (List Directory)) (row slice : List Directory) (old now : Option ℕ) → i < length arrays → array ≡ get_or arrays i array
    → left ≡ row ∷ rest → slice ≡ row → Stops fault (each (test_payloads file array.entry.schema) slice) → RowsGo file arrays rows i left old now → Stops fault (test_rows (test_payloads file) arrays rows)
all_stop fault file arrays rows i array left rest row slice old now low is split same stops before =
    rows_stop fault (test_payloads file) (AreSmall file) arrays rows i array left rest row low is split (subst (λ (r : List Directory). Stops fault (each (test_payloads file array.entry.schema) r)) same stops) before.whole

pub all_end : (file : List ℕ) (arrays : List CatalogArray) (rows : List (List Directory)) (i : ℕ) (left : List (List Directory)) (old now : Option ℕ) → length arrays ≤ i → left ≡ [] → RowsGo file arrays rows i left old now → AreRowsChecked file arrays rows old now
all_end file arrays rows i left old now past none before = record {
  whole = rows_end (test_payloads file) (AreSmall file) arrays rows i left past before.whole;
  small = rows_hold (test_payloads file) (AreSmall file) arrays rows i left none before.whole;
  overlaps = rows_first_end (test_overlaps file) arrays rows i left old now past before.first;
}

-- ---- arrays beside their rows

-- there is a row for an array that is left
pub row_left : {A B : Type 0} (P : A → B → Type 0) (xs : List A) (i : ℕ) (x : A) (left rest : List B) (y : B) → i < length xs → x ≡ get_or xs i x → left ≡ y ∷ rest → AllZip P (drop i xs) left → P x y × AllZip P (drop (i + 1) xs) rest
row_left P xs i x left rest y low is split all =
    subst (λ (zs : List _). AllZip P zs (y ∷ rest)) (next_at xs i x low is) (subst (AllZip P (drop i xs)) split all)

pub no_row_left : {A B : Type 0} (P : A → B → Type 0) (xs : List A) (i : ℕ) (x : A) (left : List B) → i < length xs → x ≡ get_or xs i x → left ≡ [] → AllZip P (drop i xs) left → ⊥
no_row_left P xs i x left low is none all =
    subst (λ (zs : List _). AllZip P zs []) (next_at xs i x low is) (subst (AllZip P (drop i xs)) none all)

pub none_left : {A B : Type 0} (P : A → B → Type 0) (xs : List A) (i : ℕ) (left : List B) → length xs ≤ i → AllZip P (drop i xs) left → left ≡ []
none_left P xs i left past all = go left (subst (λ (zs : List _). AllZip P zs left) (drop_all i xs past) all)
  where
    go : (ys : List _) → AllZip P [] ys → ys ≡ []
    go [] all = refl
    go (y ∷ ys) all = absurd all

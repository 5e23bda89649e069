-- Which database the directories after a change are of.
use Rattle.std.proofs.Common.{◌≡◌, ℕ, zero, suc, ◌+◌, ◌≤◌, Bool, true, false, cond, not, nat_lt, List, [], ◌∷◌, ◌++◌, map, drop, refl, sym, ◌∙◌, ap, subst, arith}
use Rattle.std.specs.Prelude.{Some}
use Rattle.std.specs.List.{AllByRecursion, AllZip, filter, insert, count_by}
use Rattle.std.proofs.lemmas.Bool.Decides.{nat_tests}
use Rattle.std.proofs.lemmas.List.Sums.{sum_by-cons}
use Rattle.cell_values.specs.declared.datum.Row.{Row}
use Rattle.chunk_map.specs.declared.directory.Directory.{Directory}
use Rattle.plan_changes.specs.Databases.{Database, Stored, Version, is_array, with_rows, from_version, entry_of}
use Rattle.plan_changes.specs.Stored.{RiseBetween, IsStored}
use Rattle.file_meaning.specs.Standing.{HoldsVersion, HoldsVersions}
use Rattle.file_meaning.specs.Next.{Made, with_made, without_row, from_version as rows_from_version}

-- ---- pairs

pub zip_insert : {A B : Type 0} (R : A → B → Type 0) (xs : List A) (ys : List B) (i : ℕ) (x : A) (y : B) → R x y → AllZip R xs ys → AllZip R (insert xs i x) (insert ys i y)
zip_insert R [] [] zero x y r zip = (r, tt)
zip_insert R [] [] (suc i) x y r zip = (r, tt)
zip_insert R [] (w ∷ ys) i x y r zip = absurd zip
zip_insert R (v ∷ xs) [] i x y r zip = absurd zip
zip_insert R (v ∷ xs) (w ∷ ys) zero x y r zip = (r, zip)
zip_insert R (v ∷ xs) (w ∷ ys) (suc i) x y r zip = (zip.0, zip_insert R xs ys i x y r zip.1)

zip_last : {A B : Type 0} (R : A → B → Type 0) (xs : List A) (ys : List B) (x : A) (y : B) → R x y → AllZip R xs ys → AllZip R (xs ++ x ∷ []) (ys ++ y ∷ [])
zip_last R [] [] x y r zip = (r, tt)
zip_last R [] (w ∷ ys) x y r zip = absurd zip
zip_last R (v ∷ xs) [] x y r zip = absurd zip
zip_last R (v ∷ xs) (w ∷ ys) x y r zip = (zip.0, zip_last R xs ys x y r zip.1)

-- ---- an array goes

pub zip_without : (R : Stored → List Directory → Type 0) (name : List ℕ) (db : Database) (rows : List (List Directory)) → AllZip R db rows → AllZip R (filter (λ a. not (is_array name a)) db) (without_row name (map entry_of db) rows)
zip_without R name [] [] zip = tt
zip_without R name [] (row ∷ rows) zip = absurd zip
zip_without R name (a ∷ db) [] zip = absurd zip
zip_without R name (a ∷ db) (row ∷ rows) zip = by_test (is_array name a) (zip_without R name db rows zip.1)
  where
    by_test : (b : Bool) → AllZip R (filter (λ a. not (is_array name a)) db) (without_row name (map entry_of db) rows)
        → AllZip R (cond (not b) (a ∷ filter (λ a. not (is_array name a)) db) (filter (λ a. not (is_array name a)) db)) (cond b (without_row name (map entry_of db) rows) (row ∷ without_row name (map entry_of db) rows))
    by_test true later = later
    by_test false later = (zip.0, later)

-- ---- an array gets a version

abbrev pub Suits : List ℕ → List ℕ → Made → List Row → Stored → Type 0
Suits file name made rows a = is_array name a ≡ true → HoldsVersion file a.schema made.directory rows

pub zip_made : (file name : List ℕ) (made : Made) (new : List Row) (db : Database) (rows : List (List Directory)) → AllByRecursion (Suits file name made new) db → AllZip (HoldsVersions file) db rows
    → AllZip (HoldsVersions file) (map (with_rows name new) db) (with_made name (Some made) (map entry_of db) rows)
zip_made file name made new [] [] suits zip = tt
zip_made file name made new [] (row ∷ rows) suits zip = absurd zip
zip_made file name made new (a ∷ db) [] suits zip = absurd zip
zip_made file name made new (a ∷ db) (row ∷ rows) suits zip = (by_test (is_array name a) refl, zip_made file name made new db rows suits.1 zip.1)
  where
    by_test : (b : Bool) → is_array name a ≡ b
        → HoldsVersions file (cond b (record { name = a.name; schema = a.schema; next = a.next + 1; versions = a.versions ++ record { number = a.next; rows = new } ∷ [] }) a) (cond b (row ++ made.directory ∷ []) row)
    by_test true is =
        zip_last (λ (version : Version) (directory : Directory). HoldsVersion file a.schema directory version.rows) a.versions row (record { number = a.next; rows = new }) made.directory (suits.0 is) zip.0
    by_test false is = zip.0

-- ---- the first versions go

nothing_more : (n : ℕ) → n ≡ 0 → 0 + n ≡ 0
nothing_more n is = omega (arith, is)

none_below : (low high below : ℕ) (numbers : List ℕ) → below ≤ low → RiseBetween low high numbers → count_by (λ v. nat_lt v below) numbers ≡ 0
none_below low high below [] le rise = refl
none_below low high below (n ∷ numbers) le rise =
    let lt = rise.0 in
    let not_below : nat_lt n below ≡ false = grind (arith, nat_tests) in
    sum_by-cons (λ v. cond (nat_lt v below) 1 0) n numbers ∙ ap (λ (b : Bool). cond b 1 0 + count_by (λ v. nat_lt v below) numbers) not_below
    ∙ nothing_more (count_by (λ v. nat_lt v below) numbers) (none_below n high below numbers (omega (arith, lt, le)) rise.2)

drop_none : {A : Type 0} (xs : List A) → drop 0 xs ≡ xs
drop_none [] = refl
drop_none (x ∷ xs) = refl

abbrev none : List Directory
none = []

drop_nothing : (k : ℕ) → drop k none ≡ none
drop_nothing zero = refl
drop_nothing (suc k) = refl

abbrev kept : ℕ → List Version → List Version
kept below versions = filter (λ v. not (nat_lt v.number below)) versions

abbrev gone : ℕ → List Version → ℕ
gone below versions = count_by (λ v. nat_lt v below) (map (λ (v : Version). v.number) versions)

zip_cut_one : (R : Version → Directory → Type 0) (low high below : ℕ) (versions : List Version) (row : List Directory) → RiseBetween low high (map (λ (v : Version). v.number) versions) → AllZip R versions row
    → AllZip R (kept below versions) (drop (gone below versions) row)
zip_cut_one R low high below [] [] rise zip = subst (λ (ds : List Directory). AllZip R [] ds) (sym (drop_nothing (gone below []))) tt
zip_cut_one R low high below [] (d ∷ row) rise zip = absurd zip
zip_cut_one R low high below (v ∷ versions) [] rise zip = absurd zip
zip_cut_one R low high below (v ∷ versions) (d ∷ row) rise zip =
    subst (λ (k : ℕ). AllZip R (kept below (v ∷ versions)) (drop k (d ∷ row))) (sym (sum_by-cons (λ n. cond (nat_lt n below) 1 0) v.number (map (λ (x : Version). x.number) versions)))
    (by_test (nat_lt v.number below) refl (zip_cut_one R v.number high below versions row rise.2 zip.1))
  where
    by_test : (b : Bool) → nat_lt v.number below ≡ b → AllZip R (kept below versions) (drop (gone below versions) row)
        → AllZip R (cond (not b) (v ∷ kept below versions) (kept below versions)) (drop (cond b 1 0 + gone below versions) (d ∷ row))
    by_test true is later =
        let one : suc (gone below versions) ≡ 1 + gone below versions = omega arith in
        subst (λ (k : ℕ). AllZip R (kept below versions) (drop k (d ∷ row))) one later
    by_test false is later =
        let le : below ≤ v.number = grind (arith, nat_tests) in
        let all_behind : gone below versions ≡ 0 = none_below v.number high below (map (λ (x : Version). x.number) versions) le rise.2 in
        let all : AllZip R (kept below versions) row = subst (λ (ds : List Directory). AllZip R (kept below versions) ds) (drop_none row) (subst (λ (k : ℕ). AllZip R (kept below versions) (drop k row)) all_behind later) in
        subst (λ (k : ℕ). AllZip R (v ∷ kept below versions) (drop k (d ∷ row))) (sym (nothing_more (gone below versions) all_behind)) (zip.0, all)

pub zip_cut : (file name : List ℕ) (below : ℕ) (db : Database) (rows : List (List Directory)) → AllByRecursion IsStored (map entry_of db) → AllZip (HoldsVersions file) db rows
    → AllZip (HoldsVersions file) (map (from_version name below) db) (rows_from_version name below (map entry_of db) rows)
zip_cut file name below [] [] stored zip = tt
zip_cut file name below [] (row ∷ rows) stored zip = absurd zip
zip_cut file name below (a ∷ db) [] stored zip = absurd zip
zip_cut file name below (a ∷ db) (row ∷ rows) stored zip = (by_test (is_array name a), zip_cut file name below db rows stored.1 zip.1)
  where
    by_test : (b : Bool) → HoldsVersions file (cond b (record { name = a.name; schema = a.schema; next = a.next; versions = kept below a.versions }) a) (cond b (drop (gone below a.versions) row) row)
    by_test true = zip_cut_one (λ (version : Version) (directory : Directory). HoldsVersion file a.schema directory version.rows) 0 a.next below a.versions row stored.0.versions zip.0
    by_test false = zip.0

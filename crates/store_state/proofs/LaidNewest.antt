-- The newest version of an array, as it is found.
use Rattle.std.proofs.Common.{◌≡◌, ◌∙◌, ◌-◌, ◌<◌, ℕ, suc, Bool, true, false, cond, ◌||◌, List, [], ◌∷◌, length, map, Some, None, refl, sym, ap, subst, arith}
use Rattle.std.specs.Prelude.{nat_eq, slice_index_or}
use Rattle.std.specs.List.{AllByRecursion, AllZip, find}
use Rattle.std.proofs.lemmas.Bool.Decides.{nat_tests}
use Rattle.cell_values.specs.declared.datum.Row.{Row}
use Rattle.cell_values.specs.declared.schema.Schema.{Schema}
use Rattle.chunk_map.specs.declared.directory.Directory.{Directory}
use Rattle.logical_plan.specs.Query.{Query}
use Rattle.file_meaning.specs.Changes.{is_named, has_array, last_of}
use Rattle.file_meaning.specs.Databases.{Database, Version, entry_of, is_array, rows_or, rows_in, newest_in as newest_number}
use Rattle.file_meaning.specs.Stored.{IsStored, RiseBetween}
use Rattle.file_meaning.specs.Typed.{FitsInto}
use Rattle.file_meaning.specs.Standing.{HoldsVersion, HoldsVersions}
use Rattle.file_meaning.specs.Premises.{row_of}
use Rattle.store_state.specs.LaidPremises.{last_of_row}

-- ---- numbers that rise

last_behind : (n m : ℕ) (ns : List ℕ) → last_of (n ∷ m ∷ ns) ≡ last_of (m ∷ ns)
last_behind n m ns =
    let a : length (n ∷ m ∷ ns) - 1 ≡ suc (length ns) = omega arith in
    let b : length (m ∷ ns) - 1 ≡ length ns = omega arith in
    ap (λ (k : ℕ). slice_index_or (n ∷ m ∷ ns) k 0) a ∙ sym (ap (λ (k : ℕ). slice_index_or (m ∷ ns) k 0) b)

above_first : (low high n : ℕ) (ns : List ℕ) → RiseBetween low high (n ∷ ns) → low < last_of (n ∷ ns)
above_first low high n [] rise = rise.0
above_first low high n (m ∷ ns) rise =
    let later : n < last_of (m ∷ ns) = above_first n high m ns rise.2 in
    let first : low < n = rise.0 in
    let same = last_behind n m ns in
    omega (arith, later, first, same)

itself : (n : ℕ) → nat_eq n n ≡ true
itself n = grind (arith, nat_tests)

another : (n m : ℕ) → n < m → nat_eq n m ≡ false
another n m less = grind (arith, nat_tests)

-- ---- of an array

none_held : (file : List ℕ) (schema : Schema) → HoldsVersion file schema (record { entries = [] }) []
none_held file schema = record { listed = λ k len. refl; payloads = tt }

abbrev Newest : List Version → List Row
Newest versions = rows_or (find (λ v. nat_eq v.number (last_of (map (λ v. v.number) versions))) versions)

last_held : (file : List ℕ) (schema : Schema) (low high : ℕ) (versions : List Version) (row : List Directory) → RiseBetween low high (map (λ v. v.number) versions)
    → AllZip (λ (version : Version) (directory : Directory). HoldsVersion file schema directory version.rows) versions row → HoldsVersion file schema (last_of_row row) (Newest versions)
last_held file schema low high [] [] rise all = none_held file schema
last_held file schema low high [] (d ∷ row) rise all = absurd all
last_held file schema low high (v ∷ versions) [] rise all = absurd all
last_held file schema low high (v ∷ []) (d ∷ []) rise all =
    subst (λ (b : Bool). HoldsVersion file schema d (rows_or (cond b (Some v) None))) (sym (itself v.number)) all.0
last_held file schema low high (v ∷ []) (d ∷ e ∷ row) rise all = absurd all.1
last_held file schema low high (v ∷ w ∷ versions) (d ∷ []) rise all = absurd all.1
last_held file schema low high (v ∷ w ∷ versions) (d ∷ e ∷ row) rise all =
    let last = last_of (w.number ∷ map (λ (x : Version). x.number) versions) in
    let same : last_of (v.number ∷ w.number ∷ map (λ (x : Version). x.number) versions) ≡ last = last_behind v.number w.number (map (λ (x : Version). x.number) versions) in
    let less : v.number < last = above_first v.number high w.number (map (λ (x : Version). x.number) versions) rise.2 in
    let later = last_held file schema v.number high (w ∷ versions) (e ∷ row) rise.2 all.1 in
    let skips = subst (λ (b : Bool). HoldsVersion file schema (last_of_row (e ∷ row)) (rows_or (cond b (Some v) (find (λ x. nat_eq x.number last) (w ∷ versions))))) (sym (another v.number last less)) later in
    subst (λ (n : ℕ). HoldsVersion file schema (last_of_row (e ∷ row)) (rows_or (find (λ x. nat_eq x.number n) (v ∷ w ∷ versions)))) (sym same) skips

-- ---- of the database

pub newest_held : (file name : List ℕ) (schema : Schema) (plan : Query) (db : Database) (rows : List (List Directory)) → AllByRecursion IsStored (map entry_of db) → has_array (map entry_of db) name ≡ true
    → FitsInto (find (is_named name) (map entry_of db)) schema plan → AllZip (HoldsVersions file) db rows
    → HoldsVersion file schema (last_of_row (row_of name (map entry_of db) rows)) (rows_in (find (is_array name) db) (newest_number (find (is_array name) db)))
newest_held file name schema plan [] rows stored has fits all = absurd cc
newest_held file name schema plan (a ∷ db) [] stored has fits all = absurd all
newest_held file name schema plan (a ∷ db) (row ∷ rows) stored has fits all =
    by_test (is_array name a) has fits (λ has fits. newest_held file name schema plan db rows stored.1 has fits all.1)
  where
    by_test : (b : Bool) → (b || has_array (map entry_of db) name) ≡ true → FitsInto (cond b (Some (entry_of a)) (find (is_named name) (map entry_of db))) schema plan
        → (has_array (map entry_of db) name ≡ true → FitsInto (find (is_named name) (map entry_of db)) schema plan
        → HoldsVersion file schema (last_of_row (row_of name (map entry_of db) rows)) (rows_in (find (is_array name) db) (newest_number (find (is_array name) db))))
        → HoldsVersion file schema (last_of_row (cond b row (row_of name (map entry_of db) rows)))
        (rows_in (cond b (Some a) (find (is_array name) db)) (newest_number (cond b (Some a) (find (is_array name) db))))
    by_test true is fit later = subst (λ (s : Schema). HoldsVersion file s (last_of_row row) (Newest a.versions)) (sym fit.0) (last_held file a.schema 0 a.next a.versions row stored.0.versions all.0)
    by_test false is fit later = later is fit

-- The last directory of an array is of the rows of its newest version.
use Rattle.std.proofs.Common.{◌≡◌, ◌∙◌, ◌-◌, ◌<◌, ℕ, suc, Bool, true, false, cond, List, [], ◌∷◌, length, map, Some, None, refl, sym, ap, subst, arith}
use Rattle.std.specs.Prelude.{nat_eq, slice_index_or}
use Rattle.std.specs.List.{AllByRecursion, AllZip, find}
use Rattle.std.proofs.lemmas.Bool.Decides.{nat_tests}
use Rattle.cell_values.specs.declared.datum.Row.{Row}
use Rattle.cell_values.specs.declared.schema.Schema.{Schema}
use Rattle.cell_values.specs.Schemas.{IsValid}
use Rattle.chunk_map.specs.declared.directory.Directory.{Directory}
use Rattle.logical_plan.specs.declared.names.NameEntry.{NameEntry}
use Rattle.plan_changes.specs.Changes.{is_named, entry_named, last_of}
use Rattle.plan_changes.specs.Databases.{Database, Version, entry_of, is_array, rows_or, rows_in, newest_in as newest_number}
use Rattle.plan_changes.specs.Stored.{IsStored, RiseBetween}
use Rattle.file_meaning.specs.Premises.{row_of}
use Rattle.store_state.specs.LaidPremises.{last_of_row}
use Rattle.store_state.proofs.FoundRows.{IsOf, IsOfVersion, AreOfArray}

-- ---- numbers that rise

last_behind : (n m : ℕ) (ns : List ℕ) → last_of (n ∷ m ∷ ns) ≡ last_of (m ∷ ns)
last_behind n m ns =
    let a : length (n ∷ m ∷ ns) - 1 ≡ suc (length ns) = omega arith in
    let b : length (m ∷ ns) - 1 ≡ length ns = omega arith in
    ap (λ (k : ℕ). slice_index_or (n ∷ m ∷ ns) k 0) a ∙ sym (ap (λ (k : ℕ). slice_index_or (m ∷ ns) k 0) b)

above_first : (low high n : ℕ) (ns : List ℕ) → RiseBetween low high (n ∷ ns) → low < last_of (n ∷ ns)
above_first low high n [] rise = rise.0
above_first low high n (m ∷ ns) rise =
    let later : n < last_of (m ∷ ns) = above_first n high m ns rise.2 in
    let first : low < n = rise.0 in
    let same = last_behind n m ns in
    omega (arith, later, first, same)

itself : (n : ℕ) → nat_eq n n ≡ true
itself n = grind (arith, nat_tests)

another : (n m : ℕ) → n < m → nat_eq n m ≡ false
another n m less = grind (arith, nat_tests)

-- ---- of an array

none_of : (schema : Schema) → IsValid schema → IsOf schema [] (record { entries = [] })
none_of schema valid = (
  record { valid = valid; are_rows = record { rising = tt; in_bounds = tt }; kinds = tt },
  record { listed = record { rising = tt; sized = tt; listed = λ k len. refl }; lengths = tt },
)

abbrev Newest : List Version → List Row
Newest versions = rows_or (find (λ v. nat_eq v.number (last_of (map (λ v. v.number) versions))) versions)

last_told : (schema : Schema) (low high : ℕ) (versions : List Version) (row : List Directory) → IsValid schema → RiseBetween low high (map (λ v. v.number) versions)
    → AllZip (IsOfVersion schema) versions row → IsOf schema (Newest versions) (last_of_row row)
last_told schema low high [] [] valid rise all = none_of schema valid
last_told schema low high [] (d ∷ row) valid rise all = absurd all
last_told schema low high (v ∷ versions) [] valid rise all = absurd all
last_told schema low high (v ∷ []) (d ∷ []) valid rise all = subst (λ (b : Bool). IsOf schema (rows_or (cond b (Some v) None)) d) (sym (itself v.number)) all.0
last_told schema low high (v ∷ []) (d ∷ e ∷ row) valid rise all = absurd all.1
last_told schema low high (v ∷ w ∷ versions) (d ∷ []) valid rise all = absurd all.1
last_told schema low high (v ∷ w ∷ versions) (d ∷ e ∷ row) valid rise all =
    let last = last_of (w.number ∷ map (λ (x : Version). x.number) versions) in
    let same : last_of (v.number ∷ w.number ∷ map (λ (x : Version). x.number) versions) ≡ last = last_behind v.number w.number (map (λ (x : Version). x.number) versions) in
    let less : v.number < last = above_first v.number high w.number (map (λ (x : Version). x.number) versions) rise.2 in
    let later = last_told schema v.number high (w ∷ versions) (e ∷ row) valid rise.2 all.1 in
    let skips = subst (λ (b : Bool). IsOf schema (rows_or (cond b (Some v) (find (λ x. nat_eq x.number last) (w ∷ versions)))) (last_of_row (e ∷ row))) (sym (another v.number last less)) later in
    subst (λ (n : ℕ). IsOf schema (rows_or (find (λ x. nat_eq x.number n) (v ∷ w ∷ versions))) (last_of_row (e ∷ row))) (sym same) skips

-- ---- of the database

pub newest_told : (name : List ℕ) (array : NameEntry) (db : Database) (rows : List (List Directory)) → AllByRecursion IsStored (map entry_of db) → entry_named (map entry_of db) name ≡ Some array
    → AllZip AreOfArray db rows → IsOf array.schema (rows_in (find (is_array name) db) (newest_number (find (is_array name) db))) (last_of_row (row_of name (map entry_of db) rows))
newest_told name array [] rows stored has all = absurd cc
newest_told name array (a ∷ db) [] stored has all = absurd all
newest_told name array (a ∷ db) (row ∷ rows) stored has all = by_test (is_array name a) has (λ has. newest_told name array db rows stored.1 has all.1)
  where
    by_test : (b : Bool) → cond b (Some (entry_of a)) (find (is_named name) (map entry_of db)) ≡ Some array
        → (find (is_named name) (map entry_of db) ≡ Some array → IsOf array.schema (rows_in (find (is_array name) db) (newest_number (find (is_array name) db))) (last_of_row (row_of name (map entry_of db) rows)))
        → IsOf array.schema (rows_in (cond b (Some a) (find (is_array name) db)) (newest_number (cond b (Some a) (find (is_array name) db)))) (last_of_row (cond b row (row_of name (map entry_of db) rows)))
    by_test true is later =
        let same : entry_of a ≡ array = cc in
        subst (λ (e : NameEntry). IsOf e.schema (Newest a.versions) (last_of_row row)) same (last_told a.schema 0 a.next a.versions row stored.0.schema stored.0.versions all.0)
    by_test false is later = later is

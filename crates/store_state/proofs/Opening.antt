-- At the opening the versions are those of the directories, array by array.
use Rattle.std.proofs.Common.{◌≡◌, ◌∙◌, ℕ, Bool, false, cond, List, [], ◌∷◌, ◌++◌, map, length, get_or, drop, refl, ap, arith}
use Rattle.std.specs.List.{AllByRecursion, AllZip, filter}
use Rattle.std.specs.Str.{bytes_eq}
use Rattle.std.proofs.lemmas.Bool.{or_parts}
use Rattle.std.proofs.lemmas.List.{append-nil, map-append}
use Rattle.std.proofs.lemmas.List.Elements.{filter-append}
use Rattle.chunk_map.specs.declared.directory.Directory.{Directory}
use Rattle.logical_plan.specs.declared.names.NameEntry.{NameEntry}
use Rattle.file_meaning.specs.Changes.{is_named, has_array}
use Rattle.file_meaning.specs.Stored.{NamesRise}
use Rattle.file_meaning.proofs.StoredLaws.{names_in, tail_rises}
use Rattle.file_meaning.specs.CatalogArray.{CatalogArray}
use Rattle.file_meaning.specs.Records.{entries_of}
use Rattle.store_versions.proofs.Agree.{name_refl}
use Rattle.file_meaning.specs.Next.{Rows}
use Rattle.store_versions.specs.Rows.{array_rows, first_rows}
use Rattle.store_versions.specs.Seen.{version_of}
use Rattle.store_versions.specs.Versions.{MadeVersion, is_of}
use Rattle.store_state.specs.RowsLaws.{FirstRowsAreInOrder}
use Rattle.store_state.proofs.Filters.{name_sym}
use Rattle.store_state.proofs.Items.{rows_of, IsOrdered, none_behind}
use Rattle.store_state.proofs.RowsDirectories.{name_of_version, number_of_version, directory_of_version}

-- ---- the versions of one array

abbrev versions_of : NameEntry → List Directory → List MadeVersion
versions_of e row = map version_of (array_rows e.name e.versions row)

abbrev first_versions : List NameEntry → Rows → List MadeVersion
first_versions es rows = map version_of (first_rows es rows)

own_versions : (name numbers : List ℕ) (row : List Directory) → filter (is_of name) (map version_of (array_rows name numbers row)) ≡ map version_of (array_rows name numbers row)
own_versions name [] row = refl
own_versions name (number ∷ numbers) [] = refl
own_versions name (number ∷ numbers) (directory ∷ row) =
    let first : MadeVersion = record { name = name; version = number; directory = directory } in
    let others = map version_of (array_rows name numbers row) in
    ap (λ (b : Bool). cond b (first ∷ filter (is_of name) others) (filter (is_of name) others)) (name_refl name)
    ∙ ap (λ (vs : List MadeVersion). first ∷ vs) (own_versions name numbers row)

no_versions : (n name numbers : List ℕ) (row : List Directory) → bytes_eq name n ≡ false → filter (is_of n) (map version_of (array_rows name numbers row)) ≡ []
no_versions n name [] row other = refl
no_versions n name (number ∷ numbers) [] other = refl
no_versions n name (number ∷ numbers) (directory ∷ row) other =
    let first : MadeVersion = record { name = name; version = number; directory = directory } in
    let others = map version_of (array_rows name numbers row) in
    ap (λ (b : Bool). cond b (first ∷ filter (is_of n) others) (filter (is_of n) others)) other ∙ no_versions n name numbers row other

directories_are : (name numbers : List ℕ) (row : List Directory) → length numbers ≡ length row → map directory_of_version (map version_of (array_rows name numbers row)) ≡ row
directories_are name [] [] same = refl
directories_are name [] (directory ∷ row) same = absurd (omega (arith, same))
directories_are name (number ∷ numbers) [] same = absurd (omega (arith, same))
directories_are name (number ∷ numbers) (directory ∷ row) same = ap (λ (ds : List Directory). directory ∷ ds) (directories_are name numbers row (omega (arith, same)))

numbers_are : (name numbers : List ℕ) (row : List Directory) → length numbers ≡ length row → map number_of_version (map version_of (array_rows name numbers row)) ≡ numbers
numbers_are name [] [] same = refl
numbers_are name [] (directory ∷ row) same = absurd (omega (arith, same))
numbers_are name (number ∷ numbers) [] same = absurd (omega (arith, same))
numbers_are name (number ∷ numbers) (directory ∷ row) same = ap (λ (ns : List ℕ). number ∷ ns) (numbers_are name numbers row (omega (arith, same)))

-- ---- of all arrays

-- the first array's versions stand in front
split : (e : NameEntry) (es : List NameEntry) (row : List Directory) (rows : Rows) (n : List ℕ)
    → filter (is_of n) (first_versions (e ∷ es) (row ∷ rows)) ≡ filter (is_of n) (versions_of e row) ++ filter (is_of n) (first_versions es rows)
split e es row rows n =
    ap (filter (is_of n)) (map-append version_of (array_rows e.name e.versions row) (first_rows es rows)) ∙ filter-append (is_of n) (versions_of e row) (first_versions es rows)

none_first : (n : List ℕ) (es : List NameEntry) (rows : Rows) → has_array es n ≡ false → filter (is_of n) (first_versions es rows) ≡ []
none_first n [] rows none = refl
none_first n (e ∷ es) [] none = refl
none_first n (e ∷ es) (row ∷ rows) none =
    let parts = or_parts (is_named n e) (has_array es n) none in
    split e es row rows n
    ∙ ap (λ (vs : List MadeVersion). vs ++ filter (is_of n) (first_versions es rows)) (no_versions n e.name e.versions row parts.0)
    ∙ none_first n es rows parts.1

-- an array's versions are those of its directories, one each
record IsFirst (all : List MadeVersion) (e : NameEntry) (row : List Directory) : Type 0 where
  own : filter (is_of e.name) all ≡ versions_of e row
  each : length e.versions ≡ length row

behind : (e : NameEntry) (row : List Directory) (rows : Rows) (es left : List NameEntry) (others : Rows) → has_array left e.name ≡ false
    → AllZip (IsFirst (first_versions es rows)) left others → AllZip (IsFirst (first_versions (e ∷ es) (row ∷ rows))) left others
behind e row rows es [] [] none first = tt
behind e row rows es [] (other ∷ others) none first = absurd first
behind e row rows es (f ∷ left) [] none first = absurd first
behind e row rows es (f ∷ left) (other ∷ others) none first =
    let parts = or_parts (is_named e.name f) (has_array left e.name) none in (
      record {
        own = split e es row rows f.name
            ∙ ap (λ (vs : List MadeVersion). vs ++ filter (is_of f.name) (first_versions es rows)) (no_versions f.name e.name e.versions row (name_sym e.name f.name ∙ parts.0))
            ∙ first.0.own;
        each = first.0.each;
      },
      behind e row rows es left others parts.1 first.1,
    )

firsts : (es : List NameEntry) (rows : Rows) → NamesRise (names_in es) → map (λ e. length e.versions) es ≡ map (λ row. length row) rows → AllZip (IsFirst (first_versions es rows)) es rows
firsts [] [] rise same = tt
firsts [] (row ∷ rows) rise same = absurd (omega (arith, ap length same))
firsts (e ∷ es) [] rise same = absurd (omega (arith, ap length same))
firsts (e ∷ es) (row ∷ rows) rise same =
    let none = none_behind e.name e.name es (name_refl e.name) rise in (
      record {
        own = split e es row rows e.name
            ∙ ap (λ (vs : List MadeVersion). filter (is_of e.name) (versions_of e row) ++ vs) (none_first e.name es rows none)
            ∙ append-nil (filter (is_of e.name) (versions_of e row)) ∙ own_versions e.name e.versions row;
        each = ap (λ ns. get_or ns 0 0) same;
      },
      behind e row rows es es rows none (firsts es rows (tail_rises e es rise) (ap (drop 1) same)),
    )

found_first : (all : List MadeVersion) (arrays : List CatalogArray) (rows : Rows) → AllZip (IsFirst all) (entries_of arrays) rows → rows_of name_of_version directory_of_version all arrays ≡ rows
found_first all [] [] first = refl
found_first all [] (row ∷ rows) first = absurd first
found_first all (a ∷ arrays) [] first = absurd first
found_first all (a ∷ arrays) (row ∷ rows) first =
    let own = ap (map directory_of_version) first.0.own ∙ directories_are a.entry.name a.entry.versions row first.0.each in
    let others = found_first all arrays rows first.1 in
    λ i. own i ∷ others i

ordered_first : (all : List MadeVersion) (es : List NameEntry) (rows : Rows) → AllZip (IsFirst all) es rows → AllByRecursion (IsOrdered name_of_version number_of_version all) es
ordered_first all [] rows first = tt
ordered_first all (e ∷ es) [] first = absurd first
ordered_first all (e ∷ es) (row ∷ rows) first =
    (ap (map number_of_version) first.0.own ∙ numbers_are e.name e.versions row first.0.each, ordered_first all es rows first.1)

pub first_rows_are_in_order : FirstRowsAreInOrder
first_rows_are_in_order catalog rows stored same =
    let first = firsts (entries_of catalog.arrays) rows stored.rising same in
    record { directories = found_first (first_versions (entries_of catalog.arrays) rows) catalog.arrays rows first; order = ordered_first (first_versions (entries_of catalog.arrays) rows) (entries_of catalog.arrays) rows first }

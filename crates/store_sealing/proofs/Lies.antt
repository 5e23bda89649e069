-- Where what is found has the versions in order, each lies in the file with the rows that the database has of it.
use Rattle.std.proofs.Common.{◌≡◌, ◌<◌, ◌≤◌, ℕ, Bool, true, false, cond, nat_eq, List, [], ◌∷◌, map, Option, Some, IfSome, refl, sym, ◌∙◌, ap, subst, arith}
use Rattle.std.specs.Prelude.{if◌then◌else◌}
use Rattle.std.specs.List.{AllByRecursion, AllZip, filter, find}
use Rattle.std.specs.Str.{bytes_eq}
use Rattle.std.proofs.lemmas.Bool.{eq-eqb}
use Rattle.std.proofs.lemmas.Bool.Decides.{nat_tests}
use Rattle.std.specs.Cmp.Lexicographic.{bytes_decides}
use Rattle.cell_values.specs.declared.datum.Row.{Row}
use Rattle.cell_values.specs.declared.schema.Schema.{Schema}
use Rattle.chunk_map.specs.declared.directory.Directory.{Directory}
use Rattle.logical_plan.specs.declared.names.NameEntry.{NameEntry}
use Rattle.logical_plan.specs.declared.names.Names.{Names}
use Rattle.plan_changes.specs.Changes.{entry_named, is_named}
use Rattle.plan_changes.specs.Databases.{Database, Stored, Version, entry_of, is_array, names_of, rows_in, rows_of, rows_or}
use Rattle.plan_changes.specs.Stored.{is_before, IsStored, NamesRise, RiseBetween}
use Rattle.plan_changes.proofs.DatabaseLaws.{apart}
use Rattle.plan_changes.proofs.StoredLaws.{RiseAfter, after_next, names_in as names_among, tail_rises}
use Rattle.version_catalog.specs.declared.rules.catalog.CatalogArray.{CatalogArray}
use Rattle.version_catalog.specs.declared.rules.catalog.Catalog.{Catalog}
use Rattle.version_catalog.specs.Catalogs.{names_in}
use Rattle.file_meaning.specs.Opening.{Rules, sequence_of}
use Rattle.file_meaning.specs.Standing.{HoldsVersion, HoldsVersions}
use Rattle.file_meaning.proofs.Elsewhere.{FoundSteps, found_steps}
use Rattle.event_core.specs.Cells.{at}
use Rattle.file_meaning.proofs.Free.{weaker}
use Rattle.file_meaning.proofs.Taken.{ArePaged, rows_paged}
use Rattle.store_state.specs.Rows.{AreInOrder, directories_in}
use Rattle.store_versions.specs.Versions.{MadeVersion, is_of, versions_at}
use Rattle.store_state.specs.Inner.Keeping.{LieIn, LiesIn}
use Rattle.store_state.specs.Standings.{current_slots}
use Rattle.store_sealing.specs.ImagesLaws.{FoundVersionsLie}

-- ---- lists

all_swap : {A B : Type 0} (Q : A → B → Type 0) (xs : List A) (ys : List B) → AllByRecursion (λ x. AllByRecursion (Q x) ys) xs → AllByRecursion (λ y. AllByRecursion (λ x. Q x y) xs) ys
all_swap Q xs [] all = tt
all_swap Q xs (y ∷ ys) all = (
  weaker (λ x. AllByRecursion (Q x) (y ∷ ys)) (λ x. Q x y) (λ x both. both.0) xs all,
  all_swap Q xs ys (weaker (λ x. AllByRecursion (Q x) (y ∷ ys)) (λ x. AllByRecursion (Q x) ys) (λ x both. both.1) xs all),
)

unfiltered : {A : Type 0} (P : A → Type 0) (t : A → Bool) (xs : List A) → AllByRecursion P (filter t xs) → AllByRecursion (λ x. t x ≡ true → P x) xs
unfiltered P t [] all = tt
unfiltered {A = A} P t (x ∷ xs) all = by_test (t x) refl all (unfiltered P t xs)
  where
    by_test : (b : Bool) → t x ≡ b → AllByRecursion P (if b then x ∷ filter t xs else filter t xs) → (AllByRecursion P (filter t xs) → AllByRecursion (λ (y : A). t y ≡ true → P y) xs)
        → AllByRecursion (λ (y : A). t y ≡ true → P y) (x ∷ xs)
    by_test true e all later = (λ yes. all.0, later all.1)
    by_test false e all later = (λ yes. absurd cc, later all)

zip_self : {A B : Type 0} (R : A → B → Type 0) (f : A → B) (xs : List A) → AllZip R xs (map f xs) → AllByRecursion (λ x. R x (f x)) xs
zip_self R f [] zip = tt
zip_self R f (x ∷ xs) zip = (zip.0, zip_self R f xs zip.1)

unmapped : {A B : Type 0} (f : A → B) (P : B → Type 0) (xs : List A) → AllByRecursion P (map f xs) → AllByRecursion (λ x. P (f x)) xs
unmapped f P [] all = tt
unmapped f P (x ∷ xs) all = (all.0, unmapped f P xs all.1)

-- ---- each array and each version is found under its own name and number

not_same : (a b : List ℕ) → is_before a b ≡ true → bytes_eq a b ≡ false
not_same a b before = by_test (bytes_eq a b) refl
  where
    by_test : (t : Bool) → bytes_eq a b ≡ t → t ≡ false
    by_test false e = refl
    by_test true e = absurd (apart b a b e before ((bytes_decides b b).1 refl))

names_behind : (name : List ℕ) (db : Database) → RiseAfter name (map entry_of db) → AllByRecursion (λ (b : Stored). bytes_eq name b.name ≡ false) db
names_behind name [] rise = tt
names_behind name (b ∷ db) rise = (not_same name b.name rise.0, names_behind name db (after_next name (entry_of b) (map entry_of db) rise))

-- one more array in front
found_behind : (a : Stored) (all db : Database) → AllByRecursion (λ (b : Stored). bytes_eq a.name b.name ≡ false) db → AllByRecursion (λ (b : Stored). find (is_array b.name) all ≡ Some b) db
    → AllByRecursion (λ (b : Stored). find (is_array b.name) (a ∷ all) ≡ Some b) db
found_behind a all [] others found = tt
found_behind a all (b ∷ db) others found = (ap (λ (t : Bool). cond t (Some a) (find (is_array b.name) all)) others.0 ∙ found.0, found_behind a all db others.1 found.1)

arrays_found : (db : Database) → NamesRise (names_among (map entry_of db)) → AllByRecursion (λ (a : Stored). find (is_array a.name) db ≡ Some a) db
arrays_found [] rise = tt
arrays_found (a ∷ db) rise = (
  ap (λ (t : Bool). cond t (Some a) (find (is_array a.name) db)) ((bytes_decides a.name a.name).1 refl),
  found_behind a db db (names_behind a.name db rise) (arrays_found db (tail_rises (entry_of a) (map entry_of db) rise)),
)

rise_lower : (low more high : ℕ) (numbers : List ℕ) → low ≤ more → RiseBetween more high numbers → RiseBetween low high numbers
rise_lower low more high [] le rise = tt
rise_lower low more high (n ∷ numbers) le rise = (omega (arith, le, rise.0), rise.1, rise.2)

numbers_behind : (n high : ℕ) (versions : List Version) → RiseBetween n high (map (λ (v : Version). v.number) versions) → AllByRecursion (λ (w : Version). nat_eq n w.number ≡ false) versions
numbers_behind n high [] rise = tt
numbers_behind n high (w ∷ versions) rise =
    let less : n < w.number = rise.0 in
    let le : n ≤ w.number = omega (arith, less) in
    (unequal, numbers_behind n high versions (rise_lower n w.number high (map (λ (v : Version). v.number) versions) le rise.2))
  where
    unequal : nat_eq n w.number ≡ false
    unequal = let less : n < w.number = rise.0 in grind (arith, nat_tests)

versions_behind : (v : Version) (all versions : List Version) → AllByRecursion (λ (w : Version). nat_eq v.number w.number ≡ false) versions → AllByRecursion (λ (w : Version). find (λ (u : Version). nat_eq u.number w.number) all ≡ Some w) versions
    → AllByRecursion (λ (w : Version). find (λ (u : Version). nat_eq u.number w.number) (v ∷ all) ≡ Some w) versions
versions_behind v all [] others found = tt
versions_behind v all (w ∷ versions) others found =
    (ap (λ (t : Bool). cond t (Some v) (find (λ (u : Version). nat_eq u.number w.number) all)) others.0 ∙ found.0, versions_behind v all versions others.1 found.1)

versions_found : (low high : ℕ) (versions : List Version) → RiseBetween low high (map (λ (v : Version). v.number) versions) → AllByRecursion (λ (w : Version). find (λ (u : Version). nat_eq u.number w.number) versions ≡ Some w) versions
versions_found low high [] rise = tt
versions_found low high (v ∷ versions) rise = (
  ap (λ (t : Bool). cond t (Some v) (find (λ (u : Version). nat_eq u.number v.number) versions)) (eq-eqb v.number v.number refl),
  versions_behind v versions versions (numbers_behind v.number high versions rise.2) (versions_found v.number high versions rise.2),
)

-- ---- the versions of an array

abbrev made_in : List MadeVersion → List Directory
made_in versions = map (λ (w : MadeVersion). w.directory) versions

row_lies : (file : List ℕ) (schema : Schema) (all versions : List Version) (made : List MadeVersion) → map (λ (w : MadeVersion). w.version) made ≡ map (λ (v : Version). v.number) versions
    → AllByRecursion (λ (v : Version). find (λ (u : Version). nat_eq u.number v.number) all ≡ Some v) versions → AllZip (λ (v : Version) (d : Directory). HoldsVersion file schema d v.rows) versions (made_in made)
    → AllByRecursion (λ (d : Directory). ArePaged file d.entries) (made_in made) → AllByRecursion (λ (w : MadeVersion). LiesIn file schema w.directory (rows_or (find (λ (u : Version). nat_eq u.number w.version) all))) made
row_lies file schema all [] [] numbers found zip paged = tt
row_lies file schema all [] (w ∷ made) numbers found zip paged = absurd cc
row_lies file schema all (v ∷ versions) [] numbers found zip paged = absurd cc
row_lies file schema all (v ∷ versions) (w ∷ made) numbers found zip paged =
    let number : w.version ≡ v.number = cc in
    let others : map (λ (x : MadeVersion). x.version) made ≡ map (λ (x : Version). x.number) versions = cc in
    let rows : rows_or (find (λ (u : Version). nat_eq u.number w.version) all) ≡ v.rows =
    ap (λ (n : ℕ). rows_or (find (λ (u : Version). nat_eq u.number n) all)) number ∙ ap rows_or found.0 in (
      record { holds = subst (λ (rs : List Row). HoldsVersion file schema w.directory rs) (sym rows) zip.0; pages = paged.0 },
      row_lies file schema all versions made others found.1 zip.1 paged.1,
    )

-- ---- all arrays

-- what is known of an array of the database
record HasRow (file : List ℕ) (db : Database) (versions : List MadeVersion) (a : Stored) : Type 0 where
  found : find (is_array a.name) db ≡ Some a
  stored : IsStored (entry_of a)
  order : map (λ (w : MadeVersion). w.version) (filter (is_of a.name) versions) ≡ map (λ (v : Version). v.number) a.versions
  holds : HoldsVersions file a (made_in (filter (is_of a.name) versions))
  paged : AllByRecursion (λ (d : Directory). ArePaged file d.entries) (made_in (filter (is_of a.name) versions))

has_rows : (file : List ℕ) (db : Database) (versions : List MadeVersion) (arrays : Database) → AllByRecursion (λ (a : Stored). find (is_array a.name) db ≡ Some a) arrays → AllByRecursion (λ (a : Stored). IsStored (entry_of a)) arrays
    → AllByRecursion (λ (a : Stored). map (λ (w : MadeVersion). w.version) (filter (is_of a.name) versions) ≡ map (λ (v : Version). v.number) a.versions) arrays
    → AllByRecursion (λ (a : Stored). HoldsVersions file a (made_in (filter (is_of a.name) versions))) arrays
    → AllByRecursion (λ (a : Stored). AllByRecursion (λ (d : Directory). ArePaged file d.entries) (made_in (filter (is_of a.name) versions))) arrays → AllByRecursion (HasRow file db versions) arrays
has_rows file db versions [] found stored order holds paged = tt
has_rows file db versions (a ∷ arrays) found stored order holds paged =
    (record { found = found.0; stored = stored.0; order = order.0; holds = holds.0; paged = paged.0 }, has_rows file db versions arrays found.1 stored.1 order.1 holds.1 paged.1)

abbrev LiesOf : List ℕ → Database → Stored → MadeVersion → Type 0
LiesOf file db a w = LiesIn file a.schema w.directory (rows_of db a.name w.version)

array_lies : (file : List ℕ) (db : Database) (versions : List MadeVersion) (a : Stored) → HasRow file db versions a → AllByRecursion (λ (w : MadeVersion). is_of a.name w ≡ true → LiesOf file db a w) versions
array_lies file db versions a has =
    let made : List MadeVersion = filter (is_of a.name) versions in
    let lie = row_lies file a.schema a.versions a.versions made has.order (versions_found 0 a.next a.versions has.stored.versions) has.holds has.paged in
    unfiltered (LiesOf file db a) (is_of a.name) versions
    (weaker (λ (w : MadeVersion). LiesIn file a.schema w.directory (rows_or (find (λ (u : Version). nat_eq u.number w.version) a.versions))) (LiesOf file db a)
    (λ w lies. subst (λ (o : Option Stored). LiesIn file a.schema w.directory (rows_in o w.version)) (sym has.found) lies) made lie)

-- a version is looked up by its name
named_lies : (file : List ℕ) (db : Database) (w : MadeVersion) (arrays : Database) → AllByRecursion (λ (a : Stored). is_of a.name w ≡ true → LiesOf file db a w) arrays
    → IfSome (find (is_named w.name) (map entry_of arrays)) (λ entry. LiesIn file entry.schema w.directory (rows_of db w.name w.version))
named_lies file db w [] all = tt
named_lies file db w (a ∷ arrays) all = by_test (bytes_eq a.name w.name) refl (named_lies file db w arrays all.1)
  where
    by_test : (b : Bool) → bytes_eq a.name w.name ≡ b → IfSome (find (is_named w.name) (map entry_of arrays)) (λ (entry : NameEntry). LiesIn file entry.schema w.directory (rows_of db w.name w.version))
        → IfSome (cond b (Some (entry_of a)) (find (is_named w.name) (map entry_of arrays))) (λ (entry : NameEntry). LiesIn file entry.schema w.directory (rows_of db w.name w.version))
    by_test true e later =
        let same : a.name ≡ w.name = (bytes_decides a.name w.name).0 e in
        let turned : bytes_eq w.name a.name ≡ true = (bytes_decides w.name a.name).1 (sym same) in
        subst (λ (name : List ℕ). LiesIn file a.schema w.directory (rows_of db name w.version)) same (all.0 turned)
    by_test false e later = later

lie_all : (file : List ℕ) (db : Database) (versions : List MadeVersion) → AllByRecursion (HasRow file db versions) db → LieIn file db versions
lie_all file db versions all =
    weaker (λ (w : MadeVersion). AllByRecursion (λ (a : Stored). is_of a.name w ≡ true → LiesOf file db a w) db) (λ w. IfSome (entry_named (names_of db).arrays w.name) (λ entry. LiesIn file entry.schema w.directory (rows_of db w.name w.version)))
    (λ w each. named_lies file db w db each) versions
    (all_swap (λ (a : Stored) (w : MadeVersion). is_of a.name w ≡ true → LiesOf file db a w) db versions
    (weaker (HasRow file db versions) (λ (a : Stored). AllByRecursion (λ (w : MadeVersion). is_of a.name w ≡ true → LiesOf file db a w) versions) (λ a has. array_lies file db versions a has) db all))

-- ---- what is found

-- the directories by the database's names
abbrev rows_by : List MadeVersion → Stored → List Directory
rows_by versions a = made_in (filter (is_of a.name) versions)

by_entries : (versions : List MadeVersion) (arrays : List CatalogArray) → map (λ (array : CatalogArray). made_in (filter (is_of array.entry.name) versions)) arrays
    ≡ map (λ (e : NameEntry). made_in (filter (is_of e.name) versions)) (map (λ (array : CatalogArray). array.entry) arrays)
by_entries versions [] = refl
by_entries versions (array ∷ arrays) = ap (λ (rest : List (List Directory)). made_in (filter (is_of array.entry.name) versions) ∷ rest) (by_entries versions arrays)

by_arrays : (versions : List MadeVersion) (db : Database) → map (λ (e : NameEntry). made_in (filter (is_of e.name) versions)) (map entry_of db) ≡ map (rows_by versions) db
by_arrays versions [] = refl
by_arrays versions (a ∷ db) = ap (λ (rest : List (List Directory)). rows_by versions a ∷ rest) (by_arrays versions db)

rows_are : (versions : List MadeVersion) (catalog : Catalog) (db : Database) → names_in catalog ≡ names_of db → directories_in catalog versions ≡ map (rows_by versions) db
rows_are versions catalog db same =
    by_entries versions catalog.arrays ∙ ap (λ (names : Names). map (λ (e : NameEntry). made_in (filter (is_of e.name) versions)) names.arrays) same ∙ by_arrays versions db

pub found_versions_lie : FoundVersionsLie
found_versions_lie base given db h slots found file x stands =
    let now : Database = at db h in
    let versions : List MadeVersion = versions_at base.core given h in
    let same : names_in x.catalog ≡ names_of now = ap names_in (sym x.is_found.catalog) ∙ stands.holds.names in
    let order : AreInOrder (names_of now) versions = subst (λ (names : Names). AreInOrder names versions) (sym x.names ∙ same) x.in_order in
    let rows : found.directories ≡ map (rows_by versions) now = x.is_found.directories ∙ rows_are versions x.catalog now same in
    let s : FoundSteps file (current_slots slots) found = found_steps file (current_slots slots) found stands.finds in
    let rules : Rules = record { first = slots.current.root.first; sequence = sequence_of (current_slots slots) } in
    let paged : AllByRecursion (AllByRecursion (λ (d : Directory). ArePaged file d.entries)) found.directories = rows_paged file rules s.logged.catalog.arrays s.logged.taken found.directories s.rows in
    lie_all file now versions
    (has_rows file now versions now (arrays_found now stands.database.names.rising) (unmapped entry_of IsStored now stands.database.names.each)
    (unmapped entry_of (λ (e : NameEntry). map (λ (w : MadeVersion). w.version) (filter (is_of e.name) versions) ≡ e.versions) now order)
    (zip_self (HoldsVersions file) (rows_by versions) now (subst (AllZip (HoldsVersions file) now) rows stands.holds.versions))
    (unmapped (rows_by versions) (AllByRecursion (λ (d : Directory). ArePaged file d.entries)) now (subst (AllByRecursion (AllByRecursion (λ (d : Directory). ArePaged file d.entries))) rows paged)))

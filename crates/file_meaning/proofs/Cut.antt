-- The directories of all arrays, where the first versions of one go.
use Rattle.std.proofs.Common.{◌≡◌, ℕ, Bool, true, false, cond, not, List, [], ◌∷◌, ◌++◌, map, drop, refl, sym, ◌∙◌, ap, subst, nat_lt}
use Rattle.std.specs.Prelude.{Ok}
use Rattle.std.specs.List.{AllByRecursion, filter, count_by}
use Rattle.page_chain.specs.Places.{IsNone}
use Rattle.chunk_map.specs.declared.directory.Directory.{Directory}
use Rattle.chunk_map.specs.Entries.{AreRising}
use Rattle.version_catalog.specs.declared.rules.catalog.CatalogArray.{CatalogArray}
use Rattle.version_catalog.specs.Records.{entries_of, is_array, from_version}
use Rattle.file_meaning.specs.Opening.{Rules, Row, row_in, rows_in}
use Rattle.file_meaning.proofs.Steps.{then_is}
use Rattle.file_meaning.proofs.Parts.{front_all, rest_all}
use Rattle.file_meaning.proofs.Elsewhere.{rows_steps}
use Rattle.file_meaning.proofs.More.{Beside}
use Rattle.file_meaning.specs.Next.{from_version as rows_from_version}
use Rattle.file_meaning.proofs.Rows.{first_pages, all_pages, row_again, by_name}
use Rattle.file_meaning.proofs.Shed.{row_cut}

array_cut : (name : List ℕ) (below : ℕ) (a : CatalogArray) → is_array name a ≡ true
    → from_version name below a ≡ record { entry = record { name = a.entry.name; schema = a.entry.schema; next = a.entry.next; versions = filter (λ v. not (nat_lt v below)) a.entry.versions }; directories = drop (count_by (λ version. nat_lt version below) a.entry.versions) a.directories }
array_cut name below a is =
    ap (λ (t : Bool). cond t (record { entry = cond t (record { name = a.entry.name; schema = a.entry.schema; next = a.entry.next; versions = filter (λ v. not (nat_lt v below)) a.entry.versions }) a.entry; directories = drop (count_by (λ version. nat_lt version below) a.entry.versions) a.directories }) a) is

array_left : (name : List ℕ) (below : ℕ) (a : CatalogArray) → is_array name a ≡ false → from_version name below a ≡ a
array_left name below a is =
    ap (λ (t : Bool). cond t (record { entry = cond t (record { name = a.entry.name; schema = a.entry.schema; next = a.entry.next; versions = filter (λ v. not (nat_lt v below)) a.entry.versions }) a.entry; directories = drop (count_by (λ version. nat_lt version below) a.entry.versions) a.directories }) a) is

-- the first array, whose row is found as `others`, and the rest
pub one_cut : (file : List ℕ) (rules : Rules) (name : List ℕ) (below : ℕ) (array changed : CatalogArray) (arrays : List CatalogArray) (less : List ℕ) (others : Row) (row directories : List Directory) (later : List (List Directory))
    → from_version name below array ≡ changed → row_in file rules changed.entry.schema.dimensions [] less changed.directories ≡ Ok others → others.directories ≡ row
    → rows_in file rules others.taken (map (from_version name below) arrays) ≡ Ok (rows_from_version name below (entries_of arrays) later)
    → cond (is_array name array) (drop (count_by (λ version. nat_lt version below) array.entry.versions) directories) directories ≡ row
    → rows_in file rules less (map (from_version name below) (array ∷ arrays)) ≡ Ok (rows_from_version name below (entries_of (array ∷ arrays)) (directories ∷ later))
one_cut file rules name below array changed arrays less others row directories later is found same rest moved =
    let more = rows_from_version name below (entries_of arrays) later in
    ap (λ (a : CatalogArray). rows_in file rules less (a ∷ map (from_version name below) arrays)) is
    ∙ then_is (row_in file rules changed.entry.schema.dimensions [] less changed.directories) _ others found
    ∙ then_is (rows_in file rules others.taken (map (from_version name below) arrays)) _ more rest
    ∙ ap (λ (ds : List Directory). Ok (ds ∷ more)) same
    ∙ ap (λ (ds : List Directory). Ok (ds ∷ more)) (sym moved)

pub rows_cut : (extra file : List ℕ) (rules : Rules) (name : List ℕ) (below : ℕ) (arrays : List CatalogArray) (more less : List ℕ) (rows : List (List Directory)) → rows_in file rules more arrays ≡ Ok rows → Beside extra file more less
    → AllByRecursion (IsNone extra) (all_pages arrays rows) → AllByRecursion (AllByRecursion (λ d. AreRising d.entries)) rows
    → rows_in file rules less (map (from_version name below) arrays) ≡ Ok (rows_from_version name below (entries_of arrays) rows)
rows_cut extra file rules name below [] more less rows is beside apart rising = refl
rows_cut extra file rules name below (array ∷ arrays) more less rows is beside apart rising =
    let s = rows_steps file rules more array arrays rows is in
    let front = first_pages array s.row.directories in
    let behind = all_pages arrays s.later in
    let all : AllByRecursion (IsNone extra) (front ++ behind) = subst (λ (rs : List (List Directory)). AllByRecursion (IsNone extra) (all_pages (array ∷ arrays) rs)) (sym s.is) apart in
    let rise : AllByRecursion (AllByRecursion (λ (d : Directory). AreRising d.entries)) (s.row.directories ∷ s.later) = subst (AllByRecursion (AllByRecursion (λ (d : Directory). AreRising d.entries))) (sym s.is) rising in
    let c = row_again extra file rules array more less s.row s.found beside (front_all (IsNone extra) front behind all) in
    let k = count_by (λ version. nat_lt version below) array.entry.versions in
    let left = row_cut file rules array.entry.schema.dimensions k array.directories less c.others (subst (AllByRecursion (λ (d : Directory). AreRising d.entries)) (sym c.same) rise.0) c.is in
    let rest = rest_all (IsNone extra) front behind all in
    subst (λ (rs : List (List Directory)). rows_in file rules less (map (from_version name below) (array ∷ arrays)) ≡ Ok (rows_from_version name below (entries_of (array ∷ arrays)) rs)) s.is
    (by_name name array (rows_in file rules less (map (from_version name below) (array ∷ arrays)) ≡ Ok (rows_from_version name below (entries_of (array ∷ arrays)) (s.row.directories ∷ s.later)))
    (λ named. one_cut file rules name below array _ arrays less left.others (drop k s.row.directories) s.row.directories s.later (array_cut name below array named) left.is (left.same ∙ ap (drop k) c.same)
    (rows_cut extra file rules name below arrays s.row.taken left.others.taken s.later s.rest (λ p none names. left.fewer p (c.fewer p none names)) rest rise.1)
    (ap (λ (b : Bool). cond b (drop k s.row.directories) s.row.directories) named))
    (λ other. one_cut file rules name below array array arrays less c.others s.row.directories s.row.directories s.later (array_left name below array other) c.is c.same
    (rows_cut extra file rules name below arrays s.row.taken c.others.taken s.later s.rest c.fewer rest rise.1)
    (ap (λ (b : Bool). cond b (drop k s.row.directories) s.row.directories) other)))

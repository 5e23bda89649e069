-- The directories of all arrays, where an array is made, gets a version, or goes.
use Rattle.std.proofs.Common.{◌≡◌, ℕ, zero, suc, ◌+◌, Bool, true, false, cond, not, List, [], ◌∷◌, ◌++◌, map, refl, sym, ◌∙◌, ap, subst}
use Rattle.std.specs.Prelude.{if◌then◌else◌, Ok, Some}
use Rattle.std.specs.List.{AllByRecursion, insert}
use Rattle.std.proofs.lemmas.Bool.{or_parts}
use Rattle.file_items.specs.Items.{◌>>=◌}
use Rattle.cell_values.specs.declared.schema.Schema.{Schema}
use Rattle.array_rows.specs.Boxes.{by_pairs}
use Rattle.page_chain.specs.Places.{IsNone}
use Rattle.chunk_map.specs.declared.directory.DirEntry.{DirEntry}
use Rattle.chunk_map.specs.declared.directory.Directory.{Directory}
use Rattle.plan_changes.specs.NameEntry.{NameEntry}
use Rattle.plan_changes.specs.Changes.{is_named, has_array, new_entry}
use Rattle.version_catalog.specs.declared.rules.catalog.BlobAt.{BlobAt}
use Rattle.version_catalog.specs.declared.rules.catalog.CatalogArray.{CatalogArray}
use Rattle.version_catalog.specs.Records.{entries_of, is_array, with_directory, without}
use Rattle.file_meaning.specs.Opening.{is_seen, Listed, Rules, directory_from, Row, row_in, rows_in, all_of, version_pages, row_pages}
use Rattle.file_meaning.proofs.Steps.{then_is}
use Rattle.file_meaning.proofs.Parts.{front_all, rest_all}
use Rattle.file_meaning.proofs.Apart.{row_free}
use Rattle.file_meaning.proofs.Elsewhere.{rows_steps, AreApart, NoneOf, row_apart}
use Rattle.file_meaning.proofs.More.{Beside, Rows as AreRows, row_fewer, rows_fewer, kept_apart}
use Rattle.file_meaning.specs.Next.{Made, with_made, without_row}
use Rattle.file_meaning.specs.Premises.{row_of}
use Rattle.file_meaning.proofs.Free.{AreNamed, Differ, with_pages, may_claim, weaker, none_front, none_rest, named_beside, beside_pages}
use Rattle.file_meaning.proofs.Taken.{row_beside}
use Rattle.file_meaning.proofs.Appended.{entries_back, entries_in, seen_all, fresh_pages, IsNew, directory_new, row_appended}

-- the pages of an array's directories and payloads, and those of the arrays behind it
abbrev pub first_pages : CatalogArray → List Directory → List ℕ
first_pages array row = all_of (by_pairs version_pages array.directories row)

abbrev pub all_pages : List CatalogArray → List (List Directory) → List ℕ
all_pages arrays rows = all_of (by_pairs row_pages arrays rows)

-- an array's row is found again beside other pages
pub row_again : (extra file : List ℕ) (rules : Rules) (array : CatalogArray) (more less : List ℕ) (row : Row) → row_in file rules array.entry.schema.dimensions [] more array.directories ≡ Ok row → Beside extra file more less
    → AllByRecursion (IsNone extra) (first_pages array row.directories) → AreRows extra file row (row_in file rules array.entry.schema.dimensions [] less array.directories)
unfolding AreApart NoneOf
row_again extra file rules array more less row is beside apart =
    let dims = array.entry.schema.dimensions in
    let mine = row_apart extra file rules dims array.directories [] more row is apart in
    row_fewer extra file rules dims array.directories [] more less row mine.0 (kept_apart extra file row.directories mine.1) beside is

-- ---- an array without versions is put in

pub rows_insert : (extra file : List ℕ) (rules : Rules) (name : List ℕ) (schema : Schema) (arrays : List CatalogArray) (i : ℕ) (more less : List ℕ) (rows : List (List Directory)) → rows_in file rules more arrays ≡ Ok rows → Beside extra file more less
    → AllByRecursion (IsNone extra) (all_pages arrays rows) → rows_in file rules less (insert arrays i (record { entry = new_entry name schema; directories = [] })) ≡ Ok (insert rows i [])
rows_insert extra file rules name schema [] zero more less rows is beside apart =
    let none : [] ≡ rows = cc in
    subst (λ (rs : List (List Directory)). rows_in file rules less (insert [] 0 (record { entry = new_entry name schema; directories = [] })) ≡ Ok (insert rs 0 [])) none refl
rows_insert extra file rules name schema [] (suc i) more less rows is beside apart =
    let none : [] ≡ rows = cc in
    subst (λ (rs : List (List Directory)). rows_in file rules less (insert [] (suc i) (record { entry = new_entry name schema; directories = [] })) ≡ Ok (insert rs (suc i) [])) none refl
rows_insert extra file rules name schema (array ∷ arrays) zero more less rows is beside apart =
    then_is (rows_in file rules less (array ∷ arrays)) (λ later. Ok ([] ∷ later)) rows (rows_fewer extra file rules (array ∷ arrays) more less rows apart beside is)
rows_insert extra file rules name schema (array ∷ arrays) (suc i) more less rows is beside apart =
    let s = rows_steps file rules more array arrays rows is in
    let all : AllByRecursion (IsNone extra) (first_pages array s.row.directories ++ all_pages arrays s.later) = subst (λ (rs : List (List Directory)). AllByRecursion (IsNone extra) (all_pages (array ∷ arrays) rs)) (sym s.is) apart in
    let c = row_again extra file rules array more less s.row s.found beside (front_all (IsNone extra) (first_pages array s.row.directories) (all_pages arrays s.later) all) in
    let later = rows_insert extra file rules name schema arrays i s.row.taken c.others.taken s.later s.rest c.fewer (rest_all (IsNone extra) (first_pages array s.row.directories) (all_pages arrays s.later) all) in
    then_is (row_in file rules array.entry.schema.dimensions [] less array.directories) _ c.others c.is
    ∙ then_is (rows_in file rules c.others.taken (insert arrays i (record { entry = new_entry name schema; directories = [] }))) _ (insert s.later i []) later
    ∙ ap (λ (ds : List Directory). Ok (ds ∷ insert s.later i [])) c.same
    ∙ ap (λ (rs : List (List Directory)). Ok (insert rs (suc i) [])) s.is

-- ---- an array goes

left_or_kept : (file : List ℕ) (rules : Rules) (array : CatalogArray) (arrays : List CatalogArray) (less : List ℕ) (others : Row) (directories : List Directory) (later : List (List Directory))
    → row_in file rules array.entry.schema.dimensions [] less array.directories ≡ Ok others → others.directories ≡ directories
    → rows_in file rules less arrays ≡ Ok later → rows_in file rules others.taken arrays ≡ Ok later
    → (b : Bool) → rows_in file rules less (cond (not b) (array ∷ arrays) arrays) ≡ Ok (cond b later (directories ∷ later))
left_or_kept file rules array arrays less others directories later is same left kept true = left
left_or_kept file rules array arrays less others directories later is same left kept false =
    then_is (row_in file rules array.entry.schema.dimensions [] less array.directories) _ others is
    ∙ then_is (rows_in file rules others.taken arrays) _ later kept
    ∙ ap (λ (ds : List Directory). Ok (ds ∷ later)) same

pub rows_without : (extra file : List ℕ) (rules : Rules) (name : List ℕ) (arrays : List CatalogArray) (more less : List ℕ) (rows : List (List Directory)) → rows_in file rules more arrays ≡ Ok rows → Beside extra file more less
    → AllByRecursion (IsNone extra) (all_pages arrays rows) → rows_in file rules less (without name arrays) ≡ Ok (without_row name (entries_of arrays) rows)
rows_without extra file rules name [] more less rows is beside apart = refl
rows_without extra file rules name (array ∷ arrays) more less rows is beside apart =
    let s = rows_steps file rules more array arrays rows is in
    let all : AllByRecursion (IsNone extra) (first_pages array s.row.directories ++ all_pages arrays s.later) = subst (λ (rs : List (List Directory)). AllByRecursion (IsNone extra) (all_pages (array ∷ arrays) rs)) (sym s.is) apart in
    let front = front_all (IsNone extra) (first_pages array s.row.directories) (all_pages arrays s.later) all in
    let behind = rest_all (IsNone extra) (first_pages array s.row.directories) (all_pages arrays s.later) all in
    let gone = row_free file more rules array.entry.schema.dimensions array.directories [] more s.row tt (λ p names. names) s.found in
    let c = row_again extra file rules array more less s.row s.found beside front in
    subst (λ (rs : List (List Directory)). rows_in file rules less (without name (array ∷ arrays)) ≡ Ok (without_row name (entries_of (array ∷ arrays)) rs)) s.is
    (left_or_kept file rules array (without name arrays) less c.others s.row.directories (without_row name (entries_of arrays) s.later) c.is c.same
    (rows_without extra file rules name arrays s.row.taken less s.later s.rest (λ p none names. beside p none (gone.fewer p names)) behind)
    (rows_without extra file rules name arrays s.row.taken c.others.taken s.later s.rest c.fewer behind)
    (is_array name array))

-- ---- an array gets a version

-- no two arrays have the name
abbrev pub HasOnce : List ℕ → List NameEntry → Type 0
HasOnce name [] = Unit {0}
HasOnce name (e ∷ es) = (is_named name e ≡ true → has_array es name ≡ false) × HasOnce name es

-- the directory may stand behind those of each array of the name
abbrev pub AreNew : List ℕ → Rules → List ℕ → Made → List CatalogArray → Type 0
AreNew file rules name made arrays = AllByRecursion (λ array. is_array name array ≡ true → IsNew file rules array.entry.schema.dimensions made.at made.directory) arrays

abbrev pub new_pages : List DirEntry → Made → List ℕ
new_pages before made = made.at.pages ++ fresh_pages before made.directory.entries

abbrev row_with : List ℕ → Made → NameEntry → List Directory → List Directory
row_with name made entry row = if is_named name entry then row ++ made.directory ∷ [] else row

array_made : (name : List ℕ) (at : BlobAt) (a : CatalogArray) → is_array name a ≡ true
    → with_directory name at a ≡ record { entry = record { name = a.entry.name; schema = a.entry.schema; next = a.entry.next + 1; versions = a.entry.versions ++ a.entry.next ∷ [] }; directories = a.directories ++ at ∷ [] }
array_made name at a is =
    ap (λ (t : Bool). cond t (record { entry = cond t (record { name = a.entry.name; schema = a.entry.schema; next = a.entry.next + 1; versions = a.entry.versions ++ a.entry.next ∷ [] }) a.entry; directories = a.directories ++ at ∷ [] }) a) is

array_left : (name : List ℕ) (at : BlobAt) (a : CatalogArray) → is_array name a ≡ false → with_directory name at a ≡ a
array_left name at a is =
    ap (λ (t : Bool). cond t (record { entry = cond t (record { name = a.entry.name; schema = a.entry.schema; next = a.entry.next + 1; versions = a.entry.versions ++ a.entry.next ∷ [] }) a.entry; directories = a.directories ++ at ∷ [] }) a) is

none_made : (name : List ℕ) (at : BlobAt) (arrays : List CatalogArray) → has_array (entries_of arrays) name ≡ false → map (with_directory name at) arrays ≡ arrays
none_made name at [] none = refl
none_made name at (a ∷ arrays) none =
    let n = or_parts (is_named name a.entry) (has_array (entries_of arrays) name) none in
    ap (λ (x : CatalogArray). x ∷ map (with_directory name at) arrays) (array_left name at a n.0) ∙ ap (λ (xs : List CatalogArray). a ∷ xs) (none_made name at arrays n.1)

none_with : (file : List ℕ) (rules : Rules) (name : List ℕ) (made : Made) (arrays : List CatalogArray) (taken : List ℕ) (rows : List (List Directory)) → rows_in file rules taken arrays ≡ Ok rows → has_array (entries_of arrays) name ≡ false
    → with_made name (Some made) (entries_of arrays) rows ≡ rows
none_with file rules name made [] taken rows is none = let e : [] ≡ rows = cc in e
none_with file rules name made (a ∷ arrays) taken rows is none =
    let s = rows_steps file rules taken a arrays rows is in
    let n = or_parts (is_named name a.entry) (has_array (entries_of arrays) name) none in
    subst (λ (rs : List (List Directory)). with_made name (Some made) (entries_of (a ∷ arrays)) rs ≡ rs) s.is
    (ap (λ (b : Bool). cond b (s.row.directories ++ made.directory ∷ []) s.row.directories ∷ with_made name (Some made) (entries_of arrays) s.later) n.0
    ∙ ap (λ (rs : List (List Directory)). s.row.directories ∷ rs) (none_with file rules name made arrays s.row.taken s.later s.rest n.1))

-- the array of the name, behind which no other has it
made_here : (extra file : List ℕ) (rules : Rules) (name : List ℕ) (made : Made) (before : List DirEntry) (array : CatalogArray) (arrays : List CatalogArray) (middle less : List ℕ) (others : Row) (directories : List Directory) (later : List (List Directory))
    → is_array name array ≡ true → row_in file rules array.entry.schema.dimensions [] less array.directories ≡ Ok others → others.directories ≡ directories → Beside extra file middle others.taken → rows_in file rules middle arrays ≡ Ok later
    → AllByRecursion (IsNone extra) (all_pages arrays later) → AreNamed file others.taken (new_pages before made) → Differ (new_pages before made) → ((p : ℕ) → IsNone extra p → IsNone (new_pages before made) p)
    → has_array (entries_of arrays) name ≡ false → before ≡ entries_in directories → IsNew file rules array.entry.schema.dimensions made.at made.directory
    → rows_in file rules less (map (with_directory name made.at) (array ∷ arrays)) ≡ Ok (with_made name (Some made) (entries_of (array ∷ arrays)) (directories ∷ later))
made_here extra file rules name made before array arrays middle less others directories later named is same fewer rest behind free distinct within once seen new =
    let dims = array.entry.schema.dimensions in
    let pages = new_pages before made in
    let all : List ℕ = with_pages pages others.taken in
    let listed : Listed = record { directory = made.directory; taken = all } in
    let tests : (e : DirEntry) → is_seen (entries_back others.directories []) e ≡ is_seen before e
    = λ e. seen_all others.directories e ∙ ap (λ (ds : List Directory). is_seen (entries_in ds) e) same ∙ ap (λ (es : List DirEntry). is_seen es e) (sym seen) in
    let next : directory_from file rules dims (entries_back others.directories []) others.taken made.at ≡ Ok listed
    = directory_new file rules dims (entries_back others.directories []) before others.taken made.at made.directory tests new (may_claim file pages others.taken free distinct) in
    let row = row_appended file rules dims array.directories [] less others made.at listed is next in
    let after = rows_fewer extra file rules arrays middle all later behind (λ p none names. beside_pages file pages others.taken p (within p none) (fewer p none names)) rest in
    ap (λ (a : CatalogArray). rows_in file rules less (a ∷ map (with_directory name made.at) arrays)) (array_made name made.at array named)
    ∙ then_is (row_in file rules dims [] less (array.directories ++ made.at ∷ [])) _ (record { directories = others.directories ++ made.directory ∷ []; taken = all }) row
    ∙ ap (λ (left : List CatalogArray). rows_in file rules all left >>= λ rs. Ok ((others.directories ++ made.directory ∷ []) ∷ rs)) (none_made name made.at arrays once)
    ∙ then_is (rows_in file rules all arrays) _ later after
    ∙ ap (λ (ds : List Directory). Ok ((ds ++ made.directory ∷ []) ∷ later)) same
    ∙ ap (λ (b : Bool). Ok (cond b (directories ++ made.directory ∷ []) directories ∷ later)) (sym named)
    ∙ ap (λ (rs : List (List Directory)). Ok (row_with name made array.entry directories ∷ rs)) (sym (none_with file rules name made arrays middle later rest once))

-- another array
made_later : (file : List ℕ) (rules : Rules) (name : List ℕ) (made : Made) (array : CatalogArray) (arrays : List CatalogArray) (less : List ℕ) (others : Row) (directories : List Directory) (later : List (List Directory))
    → is_array name array ≡ false → row_in file rules array.entry.schema.dimensions [] less array.directories ≡ Ok others → others.directories ≡ directories
    → rows_in file rules others.taken (map (with_directory name made.at) arrays) ≡ Ok (with_made name (Some made) (entries_of arrays) later)
    → rows_in file rules less (map (with_directory name made.at) (array ∷ arrays)) ≡ Ok (with_made name (Some made) (entries_of (array ∷ arrays)) (directories ∷ later))
made_later file rules name made array arrays less others directories later other is same rest =
    let more = with_made name (Some made) (entries_of arrays) later in
    ap (λ (a : CatalogArray). rows_in file rules less (a ∷ map (with_directory name made.at) arrays)) (array_left name made.at array other)
    ∙ then_is (row_in file rules array.entry.schema.dimensions [] less array.directories) _ others is
    ∙ then_is (rows_in file rules others.taken (map (with_directory name made.at) arrays)) _ more rest
    ∙ ap (λ (ds : List Directory). Ok (ds ∷ more)) same
    ∙ ap (λ (b : Bool). Ok (cond b (directories ++ made.directory ∷ []) directories ∷ more)) (sym other)

pub by_name : (name : List ℕ) (array : CatalogArray) (G : Type 0) → (is_array name array ≡ true → G) → (is_array name array ≡ false → G) → G
by_name name array G here later = by_test (is_array name array) refl
  where
    by_test : (b : Bool) → is_array name array ≡ b → G
    by_test true is = here is
    by_test false is = later is

pub rows_made : (extra file : List ℕ) (rules : Rules) (name : List ℕ) (made : Made) (before : List DirEntry) (arrays : List CatalogArray) (more less : List ℕ) (rows : List (List Directory)) → rows_in file rules more arrays ≡ Ok rows → Beside extra file more less
    → AllByRecursion (IsNone extra) (all_pages arrays rows) → AreNamed file less (new_pages before made) → Differ (new_pages before made) → ((p : ℕ) → IsNone extra p → IsNone (new_pages before made) p)
    → AllByRecursion (IsNone (all_pages arrays rows)) (new_pages before made) → HasOnce name (entries_of arrays) → before ≡ entries_in (row_of name (entries_of arrays) rows) → AreNew file rules name made arrays
    → rows_in file rules less (map (with_directory name made.at) arrays) ≡ Ok (with_made name (Some made) (entries_of arrays) rows)
rows_made extra file rules name made before [] more less rows is beside apart free distinct within others once seen new = refl
rows_made extra file rules name made before (array ∷ arrays) more less rows is beside apart free distinct within others once seen new =
    let s = rows_steps file rules more array arrays rows is in
    let pages = new_pages before made in
    let front = first_pages array s.row.directories in
    let behind = all_pages arrays s.later in
    let all : AllByRecursion (IsNone extra) (front ++ behind) = subst (λ (rs : List (List Directory)). AllByRecursion (IsNone extra) (all_pages (array ∷ arrays) rs)) (sym s.is) apart in
    let none : AllByRecursion (IsNone (front ++ behind)) pages = subst (λ (rs : List (List Directory)). AllByRecursion (IsNone (all_pages (array ∷ arrays) rs)) pages) (sym s.is) others in
    let c = row_again extra file rules array more less s.row s.found beside (front_all (IsNone extra) front behind all) in
    let mine : AllByRecursion (IsNone (first_pages array c.others.directories)) pages
    = subst (λ (ds : List Directory). AllByRecursion (IsNone (first_pages array ds)) pages) (sym c.same) (weaker (IsNone (front ++ behind)) (IsNone front) (λ p. none_front front behind p) pages none) in
    let named = named_beside file (first_pages array c.others.directories) less c.others.taken pages
    (row_beside file rules array.entry.schema.dimensions array.directories [] less c.others c.is) mine free in
    let before_is : before ≡ entries_in (row_of name (entries_of (array ∷ arrays)) (s.row.directories ∷ s.later)) = seen ∙ ap (λ (rs : List (List Directory)). entries_in (row_of name (entries_of (array ∷ arrays)) rs)) (sym s.is) in
    let row_is : (b : Bool) → is_array name array ≡ b → before ≡ entries_in (cond b s.row.directories (row_of name (entries_of arrays) s.later))
    = λ b is_b. before_is ∙ ap (λ (t : Bool). entries_in (cond t s.row.directories (row_of name (entries_of arrays) s.later))) is_b in
    let later_none = weaker (IsNone (front ++ behind)) (IsNone behind) (λ p. none_rest front behind p) pages none in
    let recursion : before ≡ entries_in (row_of name (entries_of arrays) s.later) → rows_in file rules c.others.taken (map (with_directory name made.at) arrays) ≡ Ok (with_made name (Some made) (entries_of arrays) s.later)
    = λ seen_later. rows_made extra file rules name made before arrays s.row.taken c.others.taken s.later s.rest c.fewer (rest_all (IsNone extra) front behind all) named distinct within later_none once.1 seen_later new.1 in
    subst (λ (rs : List (List Directory)). rows_in file rules less (map (with_directory name made.at) (array ∷ arrays)) ≡ Ok (with_made name (Some made) (entries_of (array ∷ arrays)) rs)) s.is
    (by_name name array (rows_in file rules less (map (with_directory name made.at) (array ∷ arrays)) ≡ Ok (with_made name (Some made) (entries_of (array ∷ arrays)) (s.row.directories ∷ s.later)))
    (λ is_named_so. made_here extra file rules name made before array arrays s.row.taken less c.others s.row.directories s.later is_named_so c.is c.same c.fewer s.rest
    (rest_all (IsNone extra) front behind all) named distinct within (once.0 is_named_so) (row_is true is_named_so) (new.0 is_named_so))
    (λ other. made_later file rules name made array arrays less c.others s.row.directories s.later other c.is c.same (recursion (row_is false other))))

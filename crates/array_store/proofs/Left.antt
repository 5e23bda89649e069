-- Entry by entry.
use Rattle.std.proofs.Common.{◌≡◌, ◌∙◌, ℕ, zero, suc, Bool, true, false, cond, not, ◌&&◌, nat_lt, List, [], ◌∷◌, ◌++◌, Option, refl, ap}
use Rattle.std.specs.List.{AllByRecursion, filter, find, list_all}
use Rattle.std.specs.Str.{bytes_eq}
use Rattle.std.proofs.lemmas.Bool.{and_parts, not-true}
use Rattle.logical_plan.specs.declared.names.Names.{Names}
use Rattle.logical_plan.specs.declared.parts.Leaf.{Leaf}
use Rattle.logical_plan.specs.Leaves.{leaves}
use Rattle.logical_plan.specs.Meaning.{version_rows}
use Rattle.plan_changes.specs.declared.change.Change.{Change}
use Rattle.plan_changes.specs.declared.change.Change.TheVariants.{Create, Store, Insert, Remove, RemoveVersions}
use Rattle.plan_changes.specs.Changes.{name_of, next_of}
use Rattle.plan_changes.specs.Databases.{Stored, Database, is_array, rows_in, rows_of}
use Rattle.event_core.specs.declared.entry.Entry.TheVariants.{Pin, Unpin, Commit, Reap}
use Rattle.event_core.specs.declared.state.VersionPages.{VersionPages}
use Rattle.event_core.specs.Cells.{at}
use Rattle.event_core.specs.History.{History, names_at, pages_at, pages_after, is_pages_of}
use Rattle.logical_plan.proofs.LeafMeanings.{same_meaning}
use Rattle.plan_changes.proofs.Stays.{not_both, entries_stay, by_arrays}
use Rattle.array_store.specs.ChangesLeft.{leaves_alone, IsLeft, LeftNamesStay, LeftPagesStay, LeftRowsStay, LeftPlansStay}

-- a commit, and the entries before it
module _ (name : List ℕ) (s : ℕ) (change : Change) (later : History) (h : (not (bytes_eq (name_of change) name) && list_all (leaves_alone name) later) ≡ true) where
  pub of_other : bytes_eq (name_of change) name ≡ false
  of_other = not-true (bytes_eq (name_of change) name) (and_parts (not (bytes_eq (name_of change) name)) (list_all (leaves_alone name) later) h).0

  pub of_earlier : IsLeft later name
  of_earlier = (and_parts (not (bytes_eq (name_of change) name)) (list_all (leaves_alone name) later) h).1

-- ---- names

pub names_stay : LeftNamesStay
names_stay base [] before name left = refl
names_stay base (Pin s ∷ later) before name left = names_stay base later before name left
names_stay base (Unpin s ∷ later) before name left = names_stay base later before name left
names_stay base (Commit s change used ∷ later) before name left =
    entries_stay (names_at base (later ++ before)) change name (of_other name s change later left) ∙ names_stay base later before name (of_earlier name s change later left)
names_stay base (Reap ∷ later) before name left = names_stay base later before name left

-- ---- pages

filter_more : {A : Type 0} (t : A → Bool) (x : A) → t x ≡ false → (xs : List A) → filter t (xs ++ x ∷ []) ≡ filter t xs
filter_more t x not_it [] = ap (λ (b : Bool). cond b (x ∷ []) []) not_it
filter_more t x not_it (y ∷ ys) = ap (λ zs. cond (t y) (y ∷ zs) zs) (filter_more t x not_it ys)

filter_kept : {A : Type 0} (t p : A → Bool) → ((x : A) → t x ≡ true → p x ≡ true) → (xs : List A) → filter t (filter p xs) ≡ filter t xs
filter_kept t p keeps [] = refl
filter_kept t p keeps (x ∷ xs) = by_test (t x) (p x) refl refl (filter_kept t p keeps xs)
  where
    by_test : (b c : Bool) → t x ≡ b → p x ≡ c → filter t (filter p xs) ≡ filter t xs → filter t (cond c (x ∷ filter p xs) (filter p xs)) ≡ cond b (x ∷ filter t xs) (filter t xs)
    by_test true true is kept later = ap (λ (b : Bool). cond b (x ∷ filter t (filter p xs)) (filter t (filter p xs))) is ∙ ap (λ zs. x ∷ zs) later
    by_test true false is kept later = let yes : p x ≡ true = keeps x is in absurd cc
    by_test false true is kept later = ap (λ (b : Bool). cond b (x ∷ filter t (filter p xs)) (filter t (filter p xs))) is ∙ later
    by_test false false is kept later = later

not_cut : (b c : Bool) → b ≡ false → not (b && c) ≡ true
not_cut true c e = absurd cc
not_cut false c e = refl

pages_stay_by : (names : Names) (change : Change) (used : List ℕ) (name : List ℕ) → bytes_eq (name_of change) name ≡ false → (pages : List VersionPages)
    → filter (is_pages_of name) (pages_after names change used pages) ≡ filter (is_pages_of name) pages
pages_stay_by names (Create of schema) used name apart pages = refl
pages_stay_by names (Store of schema plan) used name apart pages = filter_more (is_pages_of name) (record { name = of; version = next_of names.arrays of; pages = used }) apart pages
pages_stay_by names (Insert of schema plan) used name apart pages = filter_more (is_pages_of name) (record { name = of; version = next_of names.arrays of; pages = used }) apart pages
pages_stay_by names (Remove of) used name apart pages =
    filter_kept (is_pages_of name) (λ v. not (is_pages_of of v)) (λ v is. ap not (not_both v.name name of apart is)) pages
pages_stay_by names (RemoveVersions of below) used name apart pages =
    filter_kept (is_pages_of name) (λ v. not (is_pages_of of v && nat_lt v.version below)) (λ v is. not_cut (is_pages_of of v) (nat_lt v.version below) (not_both v.name name of apart is)) pages

pub pages_stay : LeftPagesStay
pages_stay base [] before name left = refl
pages_stay base (Pin s ∷ later) before name left = pages_stay base later before name left
pages_stay base (Unpin s ∷ later) before name left = pages_stay base later before name left
pages_stay base (Commit s change used ∷ later) before name left =
    pages_stay_by (names_at base (later ++ before)) change used.version name (of_other name s change later left) (pages_at base (later ++ before))
    ∙ pages_stay base later before name (of_earlier name s change later left)
pages_stay base (Reap ∷ later) before name left = pages_stay base later before name left

-- ---- rows

pub array_stays : (db : Database) (later before : History) (name : List ℕ) → IsLeft later name → find (is_array name) (at db (later ++ before)) ≡ find (is_array name) (at db before)
array_stays db [] before name left = refl
array_stays db (Pin s ∷ later) before name left = array_stays db later before name left
array_stays db (Unpin s ∷ later) before name left = array_stays db later before name left
array_stays db (Commit s change used ∷ later) before name left =
    by_arrays (at db (later ++ before)) change name (of_other name s change later left) ∙ array_stays db later before name (of_earlier name s change later left)
array_stays db (Reap ∷ later) before name left = array_stays db later before name left

pub rows_stay : LeftRowsStay
rows_stay db later before name left number = ap (λ (o : Option Stored). rows_in o number) (array_stays db later before name left)

leaf_stays : (db : Database) (later before : History) (leaf : Leaf) → IsLeft later leaf.name
    → version_rows (rows_of (at db (later ++ before))) leaf.name leaf.version ≡ version_rows (rows_of (at db before)) leaf.name leaf.version
leaf_stays db later before leaf left = by_number leaf.version
  where
    by_number : (n : ℕ) → version_rows (rows_of (at db (later ++ before))) leaf.name n ≡ version_rows (rows_of (at db before)) leaf.name n
    by_number zero = refl
    by_number (suc n) = rows_stay db later before leaf.name left (suc n)

each_stays : (db : Database) (later before : History) (ls : List Leaf) → AllByRecursion (λ leaf. IsLeft later leaf.name) ls
    → AllByRecursion (λ leaf. version_rows (rows_of (at db (later ++ before))) leaf.name leaf.version ≡ version_rows (rows_of (at db before)) leaf.name leaf.version) ls
each_stays db later before [] all = tt
each_stays db later before (leaf ∷ ls) all = (leaf_stays db later before leaf all.0, each_stays db later before ls all.1)

pub plans_stay : LeftPlansStay
plans_stay db later before plan left = same_meaning (rows_of (at db (later ++ before))) (rows_of (at db before)) plan (each_stays db later before (leaves plan) left)

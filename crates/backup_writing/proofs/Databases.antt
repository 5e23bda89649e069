-- A database is what its names name, with its rows.
use Rattle.std.proofs.Common.{◌≡◌, ◌∙◌, ℕ, ◌<◌, Bool, true, false, cond, List, [], ◌∷◌, map, Some, refl, sym, ap, arith}
use Rattle.std.specs.Prelude.{nat_eq}
use Rattle.std.specs.List.{AllByRecursion, find}
use Rattle.std.specs.Str.{bytes_eq}
use Rattle.std.proofs.lemmas.Bool.{eqb-true}
use Rattle.std.proofs.lemmas.Slice.Eq.{bytes_eq-Decides}
use Rattle.cell_values.specs.declared.datum.Row.{Row}
use Rattle.logical_plan.specs.declared.names.NameEntry.{NameEntry}
use Rattle.plan_changes.specs.Databases.{Version, Stored, Database, entry_of, is_array, rows_or, rows_in, rows_of}
use Rattle.plan_changes.specs.Stored.{is_before, NamesRise, RiseBetween, IsStored}
use Rattle.plan_changes.proofs.StoredLaws.{names_in, before_trans, tail_rises}
use Rattle.plan_changes.proofs.DatabaseLaws.{apart}
use Rattle.backup_format.specs.Pieces.{PiecesArray, array_of}
use Rattle.backup_format.specs.Backups.{backup}
use Rattle.backup_format.specs.Spelling.{spell_arrays, signed}
use Rattle.backup_writing.specs.Writing.{stored_in, BackupsAreOfDatabases}

maps_alike : {A B : Type 0} (f g : A → B) (xs : List A) → AllByRecursion (λ x. f x ≡ g x) xs → map f xs ≡ map g xs
maps_alike f g [] all = refl
maps_alike {B = B} f g (x ∷ xs) all = ap (λ (y : B). y ∷ map f xs) all.0 ∙ ap (λ (ys : List B). g x ∷ ys) (maps_alike f g xs all.1)

map_of_map : {A B C : Type 0} (g : B → C) (f : A → B) (xs : List A) → map g (map f xs) ≡ map (λ x. g (f x)) xs
map_of_map g f [] = refl
map_of_map {C = C} g f (x ∷ xs) = ap (λ (ys : List C). g (f x) ∷ ys) (map_of_map g f xs)

-- ---- versions, by rising numbers

pub equal_itself : (n : ℕ) → nat_eq n n ≡ true
equal_itself n = grind arith

later_differs : (m n : ℕ) → m < n → nat_eq m n ≡ false
later_differs m n lt = by_test (nat_eq m n) refl
  where
    by_test : (b : Bool) → nat_eq m n ≡ b → b ≡ false
    by_test true e = let same = eqb-true m n e in absurd (omega (arith, lt, same))
    by_test false e = refl

above : (low mid high : ℕ) (ns : List ℕ) → low < mid → RiseBetween mid high ns → AllByRecursion (λ n. low < n) ns
above low mid high [] lt rise = tt
above low mid high (n ∷ ns) lt rise = (omega (arith, lt, rise.0), above low n high ns (omega (arith, lt, rise.0)) rise.2)

all_above : (low high : ℕ) (ns : List ℕ) → RiseBetween low high ns → AllByRecursion (λ n. low < n) ns
all_above low high [] rise = tt
all_above low high (n ∷ ns) rise = (rise.0, above low n high ns rise.0 rise.2)

abbrev rows_at : List Version → ℕ → List Row
rows_at vs n = rows_or (find (λ v. nat_eq v.number n) vs)

abbrev with_rows_of : List Version → ℕ → Version
with_rows_of vs n = record { number = n; rows = rows_at vs n }

behind_first : (v : Version) (vs : List Version) (ns : List ℕ) → AllByRecursion (λ n. v.number < n) ns → AllByRecursion (λ n. with_rows_of (v ∷ vs) n ≡ with_rows_of vs n) ns
behind_first v vs [] all = tt
behind_first v vs (n ∷ ns) all =
    (ap (λ (b : Bool). record { number = n; rows = rows_or (cond b (Some v) (find (λ w. nat_eq w.number n) vs)) }) (later_differs v.number n all.0), behind_first v vs ns all.1)

same_versions : (low high : ℕ) (vs : List Version) → RiseBetween low high (map (λ v. v.number) vs) → map (with_rows_of vs) (map (λ v. v.number) vs) ≡ vs
same_versions low high [] rise = refl
same_versions low high (v ∷ vs) rise =
    let numbers : List ℕ = map (λ w. w.number) vs in
    ap (λ (b : Bool). record { number = v.number; rows = rows_or (cond b (Some v) (find (λ w. nat_eq w.number v.number) vs)) } ∷ map (with_rows_of (v ∷ vs)) numbers) (equal_itself v.number)
    ∙ ap (λ (ws : List Version). v ∷ ws) (maps_alike (with_rows_of (v ∷ vs)) (with_rows_of vs) numbers (behind_first v vs numbers (all_above v.number high numbers rise.2)) ∙ same_versions v.number high vs rise.2)

-- ---- arrays, by rising names

pub bytes_itself : (a : List ℕ) → bytes_eq a a ≡ true
bytes_itself a = (bytes_eq-Decides a a).1 refl

pub before_differs : (a b : List ℕ) → is_before a b ≡ true → bytes_eq a b ≡ false
before_differs a b l = by_test (bytes_eq a b) refl
  where
    by_test : (t : Bool) → bytes_eq a b ≡ t → t ≡ false
    by_test true e = absurd (apart b a b e l (bytes_itself b))
    by_test false e = refl

behind : (a : List ℕ) (e : NameEntry) (es : List NameEntry) → is_before a e.name ≡ true → NamesRise (names_in (e ∷ es)) → AllByRecursion (λ f. is_before a f.name ≡ true) es
behind a e [] l rise = tt
behind a e (f ∷ es) l rise = let next = before_trans a e.name f.name l rise.0 in (next, behind a f es next rise.1)

pub all_behind : (e : NameEntry) (es : List NameEntry) → NamesRise (names_in (e ∷ es)) → AllByRecursion (λ f. is_before e.name f.name ≡ true) es
all_behind e [] rise = tt
all_behind e (f ∷ es) rise = (rise.0, behind e.name f es rise.0 rise.1)

same_with : (a : Stored) (db : Database) (e : NameEntry) → is_before a.name e.name ≡ true → stored_in (rows_of (a ∷ db)) e ≡ stored_in (rows_of db) e
same_with a db e l =
    ap (λ (b : Bool). record {
      name = e.name;
      schema = e.schema;
      next = e.next;
      versions = map (λ n. record { number = n; rows = rows_in (cond b (Some a) (find (is_array e.name) db)) n }) e.versions;
    }) (before_differs a.name e.name l)

each_same : (a : Stored) (db : Database) (es : List NameEntry) → AllByRecursion (λ e. is_before a.name e.name ≡ true) es → AllByRecursion (λ e. stored_in (rows_of (a ∷ db)) e ≡ stored_in (rows_of db) e) es
each_same a db [] all = tt
each_same a db (e ∷ es) all = (same_with a db e all.0, each_same a db es all.1)

first_same : (a : Stored) (db : Database) → RiseBetween 0 a.next (map (λ v. v.number) a.versions) → stored_in (rows_of (a ∷ db)) (entry_of a) ≡ a
first_same a db rise =
    ap (λ (b : Bool). record {
      name = a.name;
      schema = a.schema;
      next = a.next;
      versions = map (λ n. record { number = n; rows = rows_in (cond b (Some a) (find (is_array a.name) db)) n }) (map (λ v. v.number) a.versions);
    }) (bytes_itself a.name)
    ∙ ap (λ (vs : List Version). record { name = a.name; schema = a.schema; next = a.next; versions = vs }) (same_versions 0 a.next a.versions rise)

same_database : (db : Database) → NamesRise (names_in (map entry_of db)) → AllByRecursion IsStored (map entry_of db) → map (stored_in (rows_of db)) (map entry_of db) ≡ db
same_database [] rise all = refl
same_database (a ∷ db) rise all =
    let entries : List NameEntry = map entry_of db in
    ap (λ (x : Stored). x ∷ map (stored_in (rows_of (a ∷ db))) entries) (first_same a db all.0.versions)
    ∙ ap (λ (xs : Database). a ∷ xs) (maps_alike (stored_in (rows_of (a ∷ db))) (stored_in (rows_of db)) entries (each_same a db entries (all_behind (entry_of a) entries rise))
    ∙ same_database db (tail_rises (entry_of a) entries rise) all.1)

pub backups_are_of_databases : BackupsAreOfDatabases
unfolding backup
backups_are_of_databases db is =
    let entries : List NameEntry = map entry_of db in
    ap (λ (arrays : List PiecesArray). signed (spell_arrays arrays)) (sym (map_of_map array_of (stored_in (rows_of db)) entries))
    ∙ ap (λ (stored : Database). signed (spell_arrays (map array_of stored))) (same_database db is.names.rising is.names.each)

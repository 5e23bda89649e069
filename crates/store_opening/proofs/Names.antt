-- Arrays by their rising names, and versions by their rising numbers.
use Rattle.std.proofs.Common.{◌≡◌, ◌<◌, ℕ, ◌+◌, Bool, true, false, cond, List, [], ◌∷◌, map, Some, refl, sym, ◌∙◌, ap, arith}
use Rattle.std.specs.Prelude.{nat_eq}
use Rattle.std.specs.List.{AllByRecursion, find}
use Rattle.std.specs.Str.{bytes_eq}
use Rattle.std.specs.Cmp.Lexicographic.{bytes_decides}
use Rattle.std.proofs.lemmas.Bool.Decides.{nat_tests, same_from_decides}
use Rattle.logical_plan.specs.declared.names.NameEntry.{NameEntry}
use Rattle.plan_changes.specs.Changes.{entry_named}
use Rattle.plan_changes.specs.Databases.{Database, Stored, Version, entry_of, is_array}
use Rattle.plan_changes.specs.Stored.{NamesRise, RiseBetween}
use Rattle.plan_changes.proofs.DatabaseLaws.{apart}
use Rattle.plan_changes.proofs.StoredLaws.{RiseAfter, after_next, names_in, tail_rises}
use Rattle.store_versions.proofs.Agree.{name_refl}

pub of_map : {A B : Type 0} (P : B → Type 0) (f : A → B) (xs : List A) → AllByRecursion P (map f xs) → AllByRecursion (λ x. P (f x)) xs
of_map P f [] all = tt
of_map P f (x ∷ xs) all = (all.0, of_map P f xs all.1)

pub name_sym : (a b : List ℕ) → bytes_eq a b ≡ bytes_eq b a
name_sym a b = same_from_decides (bytes_eq a b) (bytes_eq b a) (bytes_decides a b) ((λ e. sym ((bytes_decides b a).0 e)), (λ e. (bytes_decides b a).1 (sym e)))

not_so : (b : Bool) → (b ≡ true → ⊥) → b ≡ false
not_so true none = absurd (none refl)
not_so false none = refl

-- the names behind one are others
pub all_apart : (name : List ℕ) (es : List NameEntry) → RiseAfter name es → AllByRecursion (λ e. bytes_eq e.name name ≡ false) es
all_apart name [] rise = tt
all_apart name (e ∷ es) rise = (not_so (bytes_eq e.name name) (apart name name e.name (name_refl name) rise.0), all_apart name es (after_next name e es rise))

-- ---- each array is found by its name

pub found_each : (es : List NameEntry) → NamesRise (names_in es) → AllByRecursion (λ e. entry_named es e.name ≡ Some e) es
found_each [] rise = tt
found_each (e ∷ es) rise =
    (ap (λ (b : Bool). cond b (Some e) (entry_named es e.name)) (name_refl e.name), later es (all_apart e.name es rise) (found_each es (tail_rises e es rise)))
  where
    later : (xs : List NameEntry) → AllByRecursion (λ x. bytes_eq x.name e.name ≡ false) xs → AllByRecursion (λ x. entry_named es x.name ≡ Some x) xs → AllByRecursion (λ x. entry_named (e ∷ es) x.name ≡ Some x) xs
    later [] others found = tt
    later (x ∷ xs) others found = (ap (λ (b : Bool). cond b (Some e) (entry_named es x.name)) (name_sym e.name x.name ∙ others.0) ∙ found.0, later xs others.1 found.1)

pub stored_each : (db : Database) → NamesRise (names_in (map entry_of db)) → AllByRecursion (λ a. find (is_array a.name) db ≡ Some a) db
stored_each [] rise = tt
stored_each (a ∷ db) rise =
    let others = of_map (λ (e : NameEntry). bytes_eq e.name a.name ≡ false) entry_of db (all_apart a.name (map entry_of db) rise) in
    (ap (λ (b : Bool). cond b (Some a) (find (is_array a.name) db)) (name_refl a.name), later db others (stored_each db (tail_rises (entry_of a) (map entry_of db) rise)))
  where
    later : (xs : List Stored) → AllByRecursion (λ x. bytes_eq x.name a.name ≡ false) xs → AllByRecursion (λ x. find (is_array x.name) db ≡ Some x) xs → AllByRecursion (λ x. find (is_array x.name) (a ∷ db) ≡ Some x) xs
    later [] others found = tt
    later (x ∷ xs) others found = (ap (λ (b : Bool). cond b (Some a) (find (is_array x.name) db)) (name_sym a.name x.name ∙ others.0) ∙ found.0, later xs others.1 found.1)

-- ---- each version is found by its number

abbrev numbers_of : List Version → List ℕ
numbers_of versions = map (λ (v : Version). v.number) versions

above : (least low high : ℕ) (versions : List Version) → least < low + 1 → RiseBetween low high (numbers_of versions) → AllByRecursion (λ v. least < v.number) versions
above least low high [] small rise = tt
above least low high (v ∷ versions) small rise = (omega (arith, small, rise.0), above least v.number high versions (omega (arith, small, rise.0)) rise.2)

itself : (n : ℕ) → nat_eq n n ≡ true
itself n = grind (arith, nat_tests)

less_differs : (m n : ℕ) → m < n → nat_eq m n ≡ false
less_differs m n less = grind (arith, nat_tests)

pub numbered_each : (low high : ℕ) (versions : List Version) → RiseBetween low high (numbers_of versions) → AllByRecursion (λ v. find (λ w. nat_eq w.number v.number) versions ≡ Some v) versions
numbered_each low high [] rise = tt
numbered_each low high (v ∷ versions) rise = (
  ap (λ (b : Bool). cond b (Some v) (find (λ (w : Version). nat_eq w.number v.number) versions)) (itself v.number),
  later versions (above v.number v.number high versions (omega arith) rise.2) (numbered_each v.number high versions rise.2),
)
  where
    later : (xs : List Version) → AllByRecursion (λ x. v.number < x.number) xs → AllByRecursion (λ x. find (λ w. nat_eq w.number x.number) versions ≡ Some x) xs
        → AllByRecursion (λ x. find (λ w. nat_eq w.number x.number) (v ∷ versions) ≡ Some x) xs
    later [] higher found = tt
    later (x ∷ xs) higher found =
        (ap (λ (b : Bool). cond b (Some v) (find (λ (w : Version). nat_eq w.number x.number) versions)) (less_differs v.number x.number higher.0) ∙ found.0, later xs higher.1 found.1)

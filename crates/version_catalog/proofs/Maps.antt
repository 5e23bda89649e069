-- Arrays of a catalogue and their entries.
use Rattle.std.proofs.Common.{◌≡◌, ◌⊎◌, inl, inr, ℕ, zero, suc, ◌+◌, ◌-◌, ◌<◌, ◌≤◌, min, Bool, true, false, cond, not, ◌&&◌, ◌||◌, nat_lt, List, [], ◌∷◌, ◌++◌, length, get_or, map, take, drop, Option, Some, None, refl, sym, ap, ◌∙◌, arith}
use Rattle.std.specs.List.{list_all, list_any, find, insert, prefix_len}
use Rattle.std.specs.Option.{is_some, option_map}
use Rattle.std.proofs.lemmas.Bool.{and_from, or_parts, cases_lt, ltb-true}
use Rattle.std.proofs.lemmas.List.{take_all, take_at, take-append-le, length-drop, length-map}
use Rattle.std.proofs.lemmas.List.Sums.{prefix_len-drop_yes, prefix_len-drop_no}
use Rattle.cell_values.specs.declared.schema.Schema.{Schema}
use Rattle.plan_changes.specs.Allowed.{has_number}
use Rattle.plan_changes.proofs.Maps.{all_inserted}
use Rattle.plan_changes.specs.Stored.{is_before}
use Rattle.plan_changes.specs.Changes.{is_named, has_array, newest_or, newest_of, new_entry}
use Rattle.version_catalog.specs.declared.rules.catalog.BlobAt.{BlobAt}
use Rattle.version_catalog.specs.declared.rules.catalog.CatalogArray.{CatalogArray}
use Rattle.version_catalog.specs.Records.{entries_of, is_array, newest_in, with_new}

pub any_map : (name : List ℕ) (arrays : List CatalogArray) → list_any (is_array name) arrays ≡ has_array (entries_of arrays) name
any_map name [] = refl
any_map name (a ∷ arrays) = ap (λ (b : Bool). is_named name a.entry || b) (any_map name arrays)

pub same_some : {A B : Type 0} (f : A → B) (o : Option A) → is_some o ≡ is_some (option_map f o)
same_some f None = refl
same_some f (Some x) = refl

-- whether an array is found
pub found_any : (name : List ℕ) (arrays : List CatalogArray) → is_some (find (is_array name) arrays) ≡ has_array (entries_of arrays) name
found_any name [] = refl
found_any name (a ∷ arrays) = by_test (is_named name a.entry) (found_any name arrays)
  where
    by_test : (b : Bool) → is_some (find (is_array name) arrays) ≡ has_array (entries_of arrays) name
        → is_some (cond b (Some a) (find (is_array name) arrays)) ≡ (b || has_array (entries_of arrays) name)
    by_test true later = refl
    by_test false later = later

pub all_map : (name : List ℕ) (arrays : List CatalogArray) → list_all (λ array. has_number name array.entry) arrays ≡ list_all (has_number name) (entries_of arrays)
all_map name [] = refl
all_map name (a ∷ arrays) = ap (λ (b : Bool). has_number name a.entry && b) (all_map name arrays)

found_by : (name : List ℕ) (b : Bool) (a : CatalogArray) (arrays : List CatalogArray) → newest_or (find (is_named name) (entries_of arrays)) ≡ newest_in (find (is_array name) arrays)
    → newest_or (cond b (Some a.entry) (find (is_named name) (entries_of arrays))) ≡ newest_in (cond b (Some a) (find (is_array name) arrays))
found_by name true a arrays h = refl
found_by name false a arrays h = h

pub newest_map : (name : List ℕ) (arrays : List CatalogArray) → newest_of (entries_of arrays) name ≡ newest_in (find (is_array name) arrays)
newest_map name [] = refl
newest_map name (a ∷ arrays) = found_by name (is_named name a.entry) a arrays (newest_map name arrays)

pub same_count : (arrays : List CatalogArray) → length (entries_of arrays) ≡ length arrays
same_count [] = refl
same_count (a ∷ arrays) = ap suc (same_count arrays)

-- the first ones turned to the end and cut off
drop_all : (ds : List BlobAt) (k : ℕ) → length ds ≤ k → drop k ds ≡ []
drop_all [] zero le = refl
drop_all [] (suc k) le = refl
drop_all (d ∷ ds) zero le = absurd (omega (arith, le))
drop_all (d ∷ ds) (suc k) le = drop_all ds k (omega (arith, le))

drop_min : (ds : List BlobAt) (k : ℕ) → drop (min k (length ds)) ds ≡ drop k ds
drop_min ds k = by_case (cases_lt k (length ds)) where
  by_case : (k < length ds) ⊎ (length ds ≤ k) → drop (min k (length ds)) ds ≡ drop k ds
  by_case (inl lt) = let e : min k (length ds) ≡ k = omega arith in ap (λ (n : ℕ). drop n ds) e
  by_case (inr le) = let e : min k (length ds) ≡ length ds = omega arith in ap (λ (n : ℕ). drop n ds) e ∙ drop_all ds (length ds) (omega arith) ∙ sym (drop_all ds k le)

pub rotated : (ds : List BlobAt) (k : ℕ) → take (length ds - min k (length ds)) (drop (min k (length ds)) ds ++ take (min k (length ds)) ds) ≡ drop k ds
rotated ds k =
    let n = min k (length ds) in
    let kept : length (drop n ds) ≡ length ds - n = length-drop n ds in
    take_at (drop n ds) (take n ds) (length ds - n) kept ∙ drop_min ds k

pub without_first_is : (ds items turned cut result : List BlobAt) (k len gone all : ℕ) → items ≡ ds → len ≡ length items → gone ≡ min k len → all ≡ length items
    → turned ≡ drop gone items ++ take gone items → cut ≡ take (all - gone) turned → result ≡ cut → result ≡ drop k ds
without_first_is ds items turned cut result k len gone all same long least whole turn short is =
    let least_of : gone ≡ min k (length ds) = least ∙ ap (λ (n : ℕ). min k n) (long ∙ ap length same) in
    is ∙ short ∙ ap (take (all - gone)) (turn ∙ ap (λ (xs : List BlobAt). drop gone xs ++ take gone xs) same)
    ∙ ap (λ (n : ℕ). take (n - gone) (drop gone ds ++ take gone ds)) (whole ∙ ap length same)
    ∙ ap (λ (n : ℕ). take (length ds - n) (drop n ds ++ take n ds)) least_of
    ∙ rotated ds k

-- an array of the name has a number
pub own_number : (b : Bool) (n : ℕ) → b ≡ true → (not b || nat_lt n 65536) ≡ true → n < 65536
own_number b n is has = ltb-true n 65536 (sym (ap (λ (t : Bool). not t || nat_lt n 65536) is) ∙ has)

-- a new array from copies
pub new_made : (name name' : List ℕ) (schema schema' : Schema) (versions : List ℕ) (directories : List BlobAt) (arrays new : List CatalogArray) (place : ℕ)
    → new ≡ insert arrays place (record { entry = record { name = name'; schema = schema'; next = 1; versions = versions }; directories = directories })
    → place ≡ prefix_len (λ array. is_before array.entry.name name) arrays → name' ≡ name → schema' ≡ schema → versions ≡ [] → directories ≡ [] → new ≡ with_new name schema arrays
new_made name name' schema schema' versions directories arrays new place made at named typed none nothing =
    made
    ∙ ap (λ (n : ℕ). insert arrays n (record { entry = record { name = name'; schema = schema'; next = 1; versions = versions }; directories = directories })) at
    ∙ ap (λ (n : List ℕ). put (record { entry = record { name = n; schema = schema'; next = 1; versions = versions }; directories = directories })) named
    ∙ ap (λ (s : Schema). put (record { entry = record { name = name; schema = s; next = 1; versions = versions }; directories = directories })) typed
    ∙ ap (λ (ns : List ℕ). put (record { entry = record { name = name; schema = schema; next = 1; versions = ns }; directories = directories })) none
    ∙ ap (λ (ds : List BlobAt). put (record { entry = record { name = name; schema = schema; next = 1; versions = [] }; directories = ds })) nothing
  where
    put : CatalogArray → List CatalogArray
    put array = insert arrays (prefix_len (λ other. is_before other.entry.name name) arrays) array

-- no array of another name lacks a number
small : (b : Bool) (n : ℕ) → b ≡ false → (not b || nat_lt n 65536) ≡ true
small b n e = ap (λ (t : Bool). not t || nat_lt n 65536) e

pub others_have : (name : List ℕ) (arrays : List CatalogArray) → has_array (entries_of arrays) name ≡ false → list_all (λ array. has_number name array.entry) arrays ≡ true
others_have name [] none = refl
others_have name (a ∷ arrays) none =
    let n = or_parts (is_named name a.entry) (has_array (entries_of arrays) name) none in
    and_from (has_number name a.entry) (list_all (λ array. has_number name array.entry) arrays) (small (is_named name a.entry) a.entry.next n.0) (others_have name arrays n.1)

new_small : (b : Bool) → (not b || true) ≡ true
new_small true = refl
new_small false = refl

-- a new array has a number, and so have the others
pub new_has : (name : List ℕ) (schema : Schema) (arrays : List CatalogArray) (i : ℕ) → has_array (entries_of arrays) name ≡ false
    → list_all (λ array. has_number name array.entry) (insert arrays i (record { entry = new_entry name schema; directories = [] })) ≡ true
new_has name schema arrays i none =
    all_inserted (λ array. has_number name array.entry) (record { entry = new_entry name schema; directories = [] }) (new_small (is_named name (new_entry name schema))) arrays i (others_have name arrays none)

-- the place of a name, one array further and where it is found
pub place_next : (test : CatalogArray → Bool) (arrays : List CatalogArray) (i all : ℕ) (array : CatalogArray) → i < length arrays → test (get_or arrays i array) ≡ true
    → i + prefix_len test (drop i arrays) ≡ all → (i + 1) + prefix_len test (drop (i + 1) arrays) ≡ all
place_next test arrays i all array low passes before =
    let one : prefix_len test (drop i arrays) ≡ 1 + prefix_len test (drop (i + 1) arrays) = prefix_len-drop_yes test arrays i array low passes in
    omega (arith, one, before)

pub place_here : (test : CatalogArray → Bool) (arrays : List CatalogArray) (i all : ℕ) (array : CatalogArray) → i < length arrays → test (get_or arrays i array) ≡ false
    → i + prefix_len test (drop i arrays) ≡ all → i ≡ all
place_here test arrays i all array low fails before =
    let none : prefix_len test (drop i arrays) ≡ 0 = prefix_len-drop_no test arrays i array low fails in
    omega (arith, none, before)

-- a vector whose items were written in place
pub mapped : (n : ℕ) (f : CatalogArray → CatalogArray) (old items now new rest result : List CatalogArray) → items ≡ old → now ≡ items → n ≡ length items → new ≡ map f now
    → result ≡ take n (new ++ rest) → result ≡ map f old
mapped n f old items now new rest result is same long all cut =
    let one : new ≡ map f old = all ∙ ap (map f) (same ∙ is) in
    let size : n ≡ length new = long ∙ ap length is ∙ sym (ap length one ∙ length-map old f) in
    let whole : length new ≤ n = omega arith in
    let within : n ≤ length new = omega arith in
    cut ∙ take-append-le n new rest within ∙ take_all n new whole ∙ one

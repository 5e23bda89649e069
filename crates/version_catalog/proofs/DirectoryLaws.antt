-- Which directory each version has after a record.
use Rattle.std.proofs.Common.{◌≡◌, ◌∙◌, ℕ, zero, suc, ◌+◌, ◌≤◌, Bool, true, false, cond, not, ◌&&◌, ◌||◌, nat_lt, List, [], ◌∷◌, ◌++◌, map, length, drop, Option, Some, None, refl, sym, ap, subst, arith}
use Rattle.std.specs.Prelude.{nat_eq}
use Rattle.std.specs.List.{AllByRecursion, filter, find, insert, list_any, prefix_len, count_by}
use Rattle.std.specs.Option.{option_map, option_or}
use Rattle.std.specs.Str.{bytes_eq}
use Rattle.std.specs.Cmp.Lexicographic.{bytes_decides}
use Rattle.std.proofs.lemmas.Bool.{and_parts, not-true}
use Rattle.std.proofs.lemmas.Bool.Decides.{nat_tests}
use Rattle.std.proofs.lemmas.List.Sums.{sum_by-cons}
use Rattle.cell_values.specs.declared.schema.Schema.{Schema}
use Rattle.plan_changes.specs.Allowed.{has_room}
use Rattle.plan_changes.specs.Changes.{is_named, has_array, next_or, next_of, new_entry, names_after}
use Rattle.plan_changes.specs.Stored.{is_before, IsStored, RiseBetween}
use Rattle.plan_changes.proofs.Found.{find_inserted, find_changed, find_kept, find_image}
use Rattle.plan_changes.proofs.NamesOf.{names_depend_on_no_row}
use Rattle.plan_changes.proofs.Stays.{not_both}
use Rattle.version_catalog.specs.declared.rules.catalog.BlobAt.{BlobAt}
use Rattle.version_catalog.specs.declared.rules.catalog.CatalogArray.{CatalogArray}
use Rattle.version_catalog.specs.declared.rules.catalog_record.CatalogRecord.TheVariants.{Create, First, Next, Remove, RemoveVersions}
use Rattle.version_catalog.specs.Catalogs.{HasDirectories}
use Rattle.version_catalog.specs.Spelling.{VersionAt, versions_at}
use Rattle.version_catalog.proofs.Pairs.{one_more_pair}
use Rattle.version_catalog.specs.Records.{entries_of, is_array, with_new, with_directory, from_version, without}
use Rattle.version_catalog.specs.Directories.{directory_or, directory_in, RecordsMoveDirectories, RecordsAreAllowed, RecordsDoTheirChange, CatalogsFollowDatabases}
use Rattle.version_catalog.proofs.Kept.{names_are_kept}
use Rattle.version_catalog.proofs.Maps.{any_map}
use Rattle.version_catalog.proofs.Recorded.{record_stands}

-- ---- what is found

abbrev of_number : ℕ → VersionAt → Bool
of_number number version = nat_eq version.number number

find_append : {A : Type 0} (t : A → Bool) (xs ys : List A) → find t (xs ++ ys) ≡ option_or (find t xs) (find t ys)
find_append t [] ys = refl
find_append t (x ∷ xs) ys = by_test (t x) (find_append t xs ys)
  where
    by_test : (b : Bool) → find t (xs ++ ys) ≡ option_or (find t xs) (find t ys) → cond b (Some x) (find t (xs ++ ys)) ≡ option_or (cond b (Some x) (find t xs)) (find t ys)
    by_test true later = refl
    by_test false later = later

find_moved : {A : Type 0} (t : A → Bool) (f : A → A) → ((x : A) → t (f x) ≡ t x) → (xs : List A) → find t (map f xs) ≡ option_map f (find t xs)
find_moved t f same [] = refl
find_moved t f same (x ∷ xs) = ap (λ (b : Bool). cond b (Some (f x)) (find t (map f xs))) (same x) ∙ by_test (t x) (find_moved t f same xs)
  where
    by_test : (b : Bool) → find t (map f xs) ≡ option_map f (find t xs) → cond b (Some (f x)) (find t (map f xs)) ≡ option_map f (cond b (Some x) (find t xs))
    by_test true later = refl
    by_test false later = later

find_gone : {A : Type 0} (t p : A → Bool) → ((x : A) → t x ≡ true → p x ≡ false) → (xs : List A) → find t (filter p xs) ≡ None
find_gone t p goes [] = refl
find_gone t p goes (x ∷ xs) = by_test (t x) (p x) refl refl (find_gone t p goes xs)
  where
    by_test : (b c : Bool) → t x ≡ b → p x ≡ c → find t (filter p xs) ≡ None → find t (cond c (x ∷ filter p xs) (filter p xs)) ≡ None
    by_test b false is stays later = later
    by_test true true is stays later = let no : p x ≡ false = goes x is in absurd cc
    by_test false true is stays later = ap (λ (b : Bool). cond b (Some x) (find t (filter p xs))) is ∙ later

none_found : {A : Type 0} (t : A → Bool) (xs : List A) → list_any t xs ≡ false → find t xs ≡ None
none_found t [] none = refl
none_found t (x ∷ xs) none = by_test (t x) none (none_found t xs)
  where
    by_test : (b : Bool) → (b || list_any t xs) ≡ false → (list_any t xs ≡ false → find t xs ≡ None) → cond b (Some x) (find t xs) ≡ None
    by_test true is later = absurd cc
    by_test false is later = later is

some_found : {A : Type 0} (t : A → Bool) (xs : List A) → list_any t xs ≡ true → find t xs ≡ None → ⊥
some_found t [] any none = absurd cc
some_found t (x ∷ xs) any none = by_test (t x) any none (some_found t xs)
  where
    by_test : (b : Bool) → (b || list_any t xs) ≡ true → cond b (Some x) (find t xs) ≡ None → (list_any t xs ≡ true → find t xs ≡ None → ⊥) → ⊥
    by_test true is nothing later = absurd cc
    by_test false is nothing later = later is nothing

find_new : {A : Type 0} (t : A → Bool) (x : A) → t x ≡ true → (xs : List A) (i : ℕ) → find t xs ≡ None → find t (insert xs i x) ≡ Some x
find_new t x is [] zero none = ap (λ (b : Bool). cond b (Some x) None) is
find_new t x is [] (suc i) none = ap (λ (b : Bool). cond b (Some x) None) is
find_new t x is (y ∷ ys) zero none = ap (λ (b : Bool). cond b (Some x) (find t (y ∷ ys))) is
find_new t x is (y ∷ ys) (suc i) none = by_test (t y) none (find_new t x is ys i)
  where
    by_test : (b : Bool) → cond b (Some y) (find t ys) ≡ None → (find t ys ≡ None → find t (insert ys i x) ≡ Some x) → cond b (Some y) (find t (insert ys i x)) ≡ Some x
    by_test true nothing later = absurd cc
    by_test false nothing later = later nothing

-- ---- arrays whose versions rise, with a directory for each

record Fits (a : CatalogArray) : Type 0 where
  each : length a.directories ≡ length a.entry.versions
  rise : RiseBetween 0 a.entry.next a.entry.versions

all_fit : (arrays : List CatalogArray) → AllByRecursion HasDirectories arrays → AllByRecursion IsStored (entries_of arrays) → AllByRecursion Fits arrays
all_fit [] has stored = tt
all_fit (a ∷ arrays) has stored = (record { each = has.0.one_each; rise = stored.0.versions }, all_fit arrays has.1 stored.1)

record IsFound (name : List ℕ) (a : CatalogArray) : Type 0 where
  fits : Fits a
  named : is_array name a ≡ true

found_fits : (name : List ℕ) (arrays : List CatalogArray) (a : CatalogArray) → AllByRecursion Fits arrays → find (is_array name) arrays ≡ Some a → IsFound name a
found_fits name [] a all is = absurd cc
found_fits name (x ∷ arrays) a all is = by_test (is_array name x) refl is (found_fits name arrays a all.1)
  where
    by_test : (b : Bool) → is_array name x ≡ b → cond b (Some x) (find (is_array name) arrays) ≡ Some a → (find (is_array name) arrays ≡ Some a → IsFound name a) → IsFound name a
    by_test true named it later = let same : x ≡ a = cc in subst (IsFound name) same (record { fits = all.0; named = named })
    by_test false named it later = later it

-- ---- one more version

no_later : (low high number : ℕ) (numbers : List ℕ) (directories : List BlobAt) → high ≤ number → RiseBetween low high numbers → find (of_number number) (versions_at numbers directories) ≡ None
no_later low high number [] directories above rise = refl
no_later low high number (n ∷ numbers) [] above rise = refl
no_later low high number (n ∷ numbers) (d ∷ directories) above rise =
    let lt = rise.1 in
    let apart : nat_eq n number ≡ false = grind (arith, nat_tests) in
    ap (λ (b : Bool). cond b (Some (record { number = n; directory = d })) (find (of_number number) (versions_at numbers directories))) apart ∙ no_later n high number numbers directories above rise.2

raised_own : (name : List ℕ) (d : BlobAt) (a : CatalogArray) → is_array name a ≡ true
    → with_directory name d a ≡ record { entry = record { name = a.entry.name; schema = a.entry.schema; next = a.entry.next + 1; versions = a.entry.versions ++ a.entry.next ∷ [] }; directories = a.directories ++ d ∷ [] }
raised_own name d a is =
    ap (λ (t : Bool). cond t (record { entry = cond t (record { name = a.entry.name; schema = a.entry.schema; next = a.entry.next + 1; versions = a.entry.versions ++ a.entry.next ∷ [] }) a.entry; directories = a.directories ++ d ∷ [] }) a) is

at_the_end : (next number : ℕ) (d : BlobAt) (found : Option VersionAt) (b : Bool) → (b ≡ true → found ≡ None)
    → directory_or (option_or found (cond b (Some (record { number = next; directory = d })) None)) ≡ cond b (Some d) (directory_or found)
at_the_end next number d None true none = refl
at_the_end next number d None false none = refl
at_the_end next number d (Some v) true none = let no : Some v ≡ None = none refl in absurd cc
at_the_end next number d (Some v) false none = refl

raised_in : (name : List ℕ) (d : BlobAt) (a : CatalogArray) (number : ℕ) → IsFound name a
    → directory_in (Some (with_directory name d a)) number ≡ cond (nat_eq a.entry.next number) (Some d) (directory_in (Some a) number)
raised_in name d a number is =
    let next = a.entry.next in
    let pairs = versions_at a.entry.versions a.directories in
    ap (λ (o : CatalogArray). directory_in (Some o) number) (raised_own name d a is.named)
    ∙ ap (λ (vs : List VersionAt). directory_or (find (of_number number) vs)) (one_more_pair a.entry.versions a.directories next d is.fits.each)
    ∙ ap directory_or (find_append (of_number number) pairs (record { number = next; directory = d } ∷ []))
    ∙ at_the_end next number d (find (of_number number) pairs) (nat_eq next number)
    (λ same. no_later 0 next number a.entry.versions a.directories (let e : next ≡ number = grind (arith, nat_tests) in omega (arith, e)) is.fits.rise)

-- ---- fewer versions

nothing_more : (n : ℕ) → n ≡ 0 → 0 + n ≡ 0
nothing_more n is = omega (arith, is)

none_below : (low high below : ℕ) (numbers : List ℕ) → below ≤ low → RiseBetween low high numbers → count_by (λ v. nat_lt v below) numbers ≡ 0
none_below low high below [] le rise = refl
none_below low high below (n ∷ numbers) le rise =
    let lt = rise.0 in
    let not_below : nat_lt n below ≡ false = grind (arith, nat_tests) in
    sum_by-cons (λ v. cond (nat_lt v below) 1 0) n numbers ∙ ap (λ (b : Bool). cond b 1 0 + count_by (λ v. nat_lt v below) numbers) not_below
    ∙ nothing_more (count_by (λ v. nat_lt v below) numbers) (none_below n high below numbers (omega (arith, lt, le)) rise.2)

drop_none : {A : Type 0} (xs : List A) → drop 0 xs ≡ xs
drop_none [] = refl
drop_none (x ∷ xs) = refl

cut_pairs : (low high below : ℕ) (numbers : List ℕ) (directories : List BlobAt) → length directories ≡ length numbers → RiseBetween low high numbers
    → versions_at (filter (λ v. not (nat_lt v below)) numbers) (drop (count_by (λ v. nat_lt v below) numbers) directories) ≡ filter (λ v. not (nat_lt v.number below)) (versions_at numbers directories)
cut_pairs low high below [] directories each rise = refl
cut_pairs low high below (n ∷ numbers) [] each rise = absurd (omega (arith, each))
cut_pairs low high below (n ∷ numbers) (d ∷ directories) each rise =
    ap (λ (k : ℕ). versions_at (filter (λ v. not (nat_lt v below)) (n ∷ numbers)) (drop k (d ∷ directories))) (sum_by-cons (λ v. cond (nat_lt v below) 1 0) n numbers)
    ∙ by_test (nat_lt n below) refl (cut_pairs n high below numbers directories (omega (arith, each)) rise.2)
  where
    by_test : (b : Bool) → nat_lt n below ≡ b
        → versions_at (filter (λ v. not (nat_lt v below)) numbers) (drop (count_by (λ v. nat_lt v below) numbers) directories) ≡ filter (λ v. not (nat_lt v.number below)) (versions_at numbers directories)
        → versions_at (cond (not b) (n ∷ filter (λ v. not (nat_lt v below)) numbers) (filter (λ v. not (nat_lt v below)) numbers)) (drop (cond b 1 0 + count_by (λ v. nat_lt v below) numbers) (d ∷ directories))
        ≡ cond (not b) (record { number = n; directory = d } ∷ filter (λ v. not (nat_lt v.number below)) (versions_at numbers directories)) (filter (λ v. not (nat_lt v.number below)) (versions_at numbers directories))
    by_test true is later =
        let one : 1 + count_by (λ v. nat_lt v below) numbers ≡ suc (count_by (λ v. nat_lt v below) numbers) = omega arith in
        ap (λ (k : ℕ). versions_at (filter (λ v. not (nat_lt v below)) numbers) (drop k (d ∷ directories))) one ∙ later
    by_test false is later =
        let le : below ≤ n = grind (arith, nat_tests) in
        let none : count_by (λ v. nat_lt v below) numbers ≡ 0 = none_below n high below numbers le rise.2 in
        let zero_in_all : 0 + count_by (λ v. nat_lt v below) numbers ≡ 0 = nothing_more (count_by (λ v. nat_lt v below) numbers) none in
        ap (λ (k : ℕ). versions_at (n ∷ filter (λ v. not (nat_lt v below)) numbers) (drop k (d ∷ directories))) zero_in_all
        ∙ ap (λ (vs : List VersionAt). record { number = n; directory = d } ∷ vs)
        (ap (versions_at (filter (λ v. not (nat_lt v below)) numbers)) (sym (drop_none directories))
        ∙ ap (λ (k : ℕ). versions_at (filter (λ v. not (nat_lt v below)) numbers) (drop k directories)) (sym none) ∙ later)

cut_own : (name : List ℕ) (below : ℕ) (a : CatalogArray) → is_array name a ≡ true
    → from_version name below a ≡ record { entry = record { name = a.entry.name; schema = a.entry.schema; next = a.entry.next; versions = filter (λ v. not (nat_lt v below)) a.entry.versions }; directories = drop (count_by (λ version. nat_lt version below) a.entry.versions) a.directories }
cut_own name below a is =
    ap (λ (t : Bool). cond t (record { entry = cond t (record { name = a.entry.name; schema = a.entry.schema; next = a.entry.next; versions = filter (λ v. not (nat_lt v below)) a.entry.versions }) a.entry; directories = drop (count_by (λ version. nat_lt version below) a.entry.versions) a.directories }) a) is

kept_or_gone : (below number : ℕ) (pairs : List VersionAt) → find (of_number number) (filter (λ v. not (nat_lt v.number below)) pairs) ≡ cond (nat_lt number below) None (find (of_number number) pairs)
kept_or_gone below number pairs = by_test (nat_lt number below) refl
  where
    by_test : (b : Bool) → nat_lt number below ≡ b → find (of_number number) (filter (λ v. not (nat_lt v.number below)) pairs) ≡ cond b None (find (of_number number) pairs)
    by_test true is = find_gone (of_number number) (λ v. not (nat_lt v.number below)) (λ v same. ap not (let e : v.number ≡ number = grind (arith, nat_tests) in ap (λ (n : ℕ). nat_lt n below) e ∙ is)) pairs
    by_test false is = find_kept (of_number number) (λ v. not (nat_lt v.number below)) (λ v same. ap not (let e : v.number ≡ number = grind (arith, nat_tests) in ap (λ (n : ℕ). nat_lt n below) e ∙ is)) pairs

or_none : (b : Bool) (o : Option VersionAt) → directory_or (cond b None o) ≡ cond b None (directory_or o)
or_none true o = refl
or_none false o = refl

cut_in : (name : List ℕ) (below : ℕ) (a : CatalogArray) (number : ℕ) → IsFound name a → directory_in (Some (from_version name below a)) number ≡ cond (nat_lt number below) None (directory_in (Some a) number)
cut_in name below a number is =
    let pairs = versions_at a.entry.versions a.directories in
    ap (λ (o : CatalogArray). directory_in (Some o) number) (cut_own name below a is.named)
    ∙ ap (λ (vs : List VersionAt). directory_or (find (of_number number) vs)) (cut_pairs 0 a.entry.next below a.entry.versions a.directories is.fits.each is.fits.rise)
    ∙ ap directory_or (kept_or_gone below number pairs)
    ∙ or_none (nat_lt number below) (find (of_number number) pairs)

-- ---- arrays of one name and of others

raised_name : (of : List ℕ) (d : BlobAt) (name : List ℕ) (a : CatalogArray) → is_array name (with_directory of d a) ≡ is_array name a
raised_name of d name a = by_test (is_array of a) refl
  where
    by_test : (b : Bool) → is_array of a ≡ b → is_array name (with_directory of d a) ≡ is_array name a
    by_test true is = ap (λ (o : CatalogArray). is_array name o) (raised_own of d a is)
    by_test false is =
        ap (λ (t : Bool). is_array name (cond t (record { entry = cond t (record { name = a.entry.name; schema = a.entry.schema; next = a.entry.next + 1; versions = a.entry.versions ++ a.entry.next ∷ [] }) a.entry; directories = a.directories ++ d ∷ [] }) a)) is

raised_other : (of : List ℕ) (d : BlobAt) (name : List ℕ) → bytes_eq of name ≡ false → (a : CatalogArray) → is_array name a ≡ true → with_directory of d a ≡ a
raised_other of d name apart a is =
    ap (λ (t : Bool). cond t (record { entry = cond t (record { name = a.entry.name; schema = a.entry.schema; next = a.entry.next + 1; versions = a.entry.versions ++ a.entry.next ∷ [] }) a.entry; directories = a.directories ++ d ∷ [] }) a) (not_both a.entry.name name of apart is)

cut_name : (of : List ℕ) (below : ℕ) (name : List ℕ) (a : CatalogArray) → is_array name (from_version of below a) ≡ is_array name a
cut_name of below name a = by_test (is_array of a) refl
  where
    by_test : (b : Bool) → is_array of a ≡ b → is_array name (from_version of below a) ≡ is_array name a
    by_test true is = ap (λ (o : CatalogArray). is_array name o) (cut_own of below a is)
    by_test false is =
        ap (λ (t : Bool). is_array name (cond t (record { entry = cond t (record { name = a.entry.name; schema = a.entry.schema; next = a.entry.next; versions = filter (λ v. not (nat_lt v below)) a.entry.versions }) a.entry; directories = drop (count_by (λ version. nat_lt version below) a.entry.versions) a.directories }) a)) is

cut_other : (of : List ℕ) (below : ℕ) (name : List ℕ) → bytes_eq of name ≡ false → (a : CatalogArray) → is_array name a ≡ true → from_version of below a ≡ a
cut_other of below name apart a is =
    ap (λ (t : Bool). cond t (record { entry = cond t (record { name = a.entry.name; schema = a.entry.schema; next = a.entry.next; versions = filter (λ v. not (nat_lt v below)) a.entry.versions }) a.entry; directories = drop (count_by (λ version. nat_lt version below) a.entry.versions) a.directories }) a) (not_both a.entry.name name of apart is)

itself : (name : List ℕ) → bytes_eq name name ≡ true
itself name = (bytes_decides name name).1 refl

-- ---- the records

abbrev next_in : Option CatalogArray → ℕ
next_in o = next_or (option_map (λ a. a.entry) o)

next_found : (name : List ℕ) (arrays : List CatalogArray) → next_of (entries_of arrays) name ≡ next_in (find (is_array name) arrays)
next_found name arrays = ap next_or (find_image (λ a. a.entry) (is_named name) arrays)

by_found : (name : List ℕ) (d : BlobAt) (number : ℕ) (arrays : List CatalogArray) → AllByRecursion Fits arrays → list_any (is_array name) arrays ≡ true → (o : Option CatalogArray) → find (is_array name) arrays ≡ o
    → directory_in (option_map (with_directory name d) o) number ≡ cond (nat_eq (next_in o) number) (Some d) (directory_in o number)
by_found name d number arrays all any None is = absurd (some_found (is_array name) arrays any is)
by_found name d number arrays all any (Some a) is = raised_in name d a number (found_fits name arrays a all is)

abbrev Nexts : List ℕ → BlobAt → List CatalogArray → List ℕ → ℕ → Type 0
Nexts of d arrays name number = directory_in (find (is_array name) (map (with_directory of d) arrays)) number
    ≡ cond (bytes_eq of name && nat_eq (next_of (entries_of arrays) of) number) (Some d) (directory_in (find (is_array name) arrays) number)

next_own : (name : List ℕ) (d : BlobAt) (arrays : List CatalogArray) (number : ℕ) → AllByRecursion Fits arrays → list_any (is_array name) arrays ≡ true → Nexts name d arrays name number
next_own name d arrays number all any =
    ap (λ (o : Option CatalogArray). directory_in o number) (find_moved (is_array name) (with_directory name d) (raised_name name d name) arrays)
    ∙ by_found name d number arrays all any (find (is_array name) arrays) refl
    ∙ ap (λ (n : ℕ). cond (nat_eq n number) (Some d) (directory_in (find (is_array name) arrays) number)) (sym (next_found name arrays))
    ∙ ap (λ (b : Bool). cond (b && nat_eq (next_of (entries_of arrays) name) number) (Some d) (directory_in (find (is_array name) arrays) number)) (sym (itself name))

next_is : (of : List ℕ) (d : BlobAt) (arrays : List CatalogArray) (name : List ℕ) (number : ℕ) → AllByRecursion Fits arrays → list_any (is_array of) arrays ≡ true → Nexts of d arrays name number
next_is of d arrays name number all any = by_test (bytes_eq of name) refl
  where
    by_test : (b : Bool) → bytes_eq of name ≡ b → Nexts of d arrays name number
    by_test true is = subst (λ (n : List ℕ). Nexts of d arrays n number) ((bytes_decides of name).0 is) (next_own of d arrays number all any)
    by_test false is =
        ap (λ (o : Option CatalogArray). directory_in o number) (find_changed (is_array name) (with_directory of d) (raised_name of d name) (raised_other of d name is) arrays)
        ∙ ap (λ (b : Bool). cond (b && nat_eq (next_of (entries_of arrays) of) number) (Some d) (directory_in (find (is_array name) arrays) number)) (sym is)

abbrev new_array : List ℕ → Schema → CatalogArray
new_array name schema = record { entry = new_entry name schema; directories = [] }

place : List ℕ → List CatalogArray → ℕ
place name arrays = prefix_len (λ array. is_before array.entry.name name) arrays

-- a new array has no version, and stands where none had the name
abbrev News : List ℕ → Schema → List CatalogArray → List ℕ → ℕ → Type 0
News of schema arrays name number = directory_in (find (is_array name) (with_new of schema arrays)) number ≡ directory_in (find (is_array name) arrays) number

new_own : (name : List ℕ) (schema : Schema) (arrays : List CatalogArray) (number : ℕ) → list_any (is_array name) arrays ≡ false → News name schema arrays name number
new_own name schema arrays number absent =
    let none : find (is_array name) arrays ≡ None = none_found (is_array name) arrays absent in
    ap (λ (o : Option CatalogArray). directory_in o number) (find_new (is_array name) (new_array name schema) (itself name) arrays (prefix_len (λ array. is_before array.entry.name name) arrays) none)
    ∙ sym (ap (λ (o : Option CatalogArray). directory_in o number) none)

new_is : (of : List ℕ) (schema : Schema) (arrays : List CatalogArray) (name : List ℕ) (number : ℕ) → list_any (is_array of) arrays ≡ false → News of schema arrays name number
new_is of schema arrays name number absent = by_test (bytes_eq of name) refl
  where
    by_test : (b : Bool) → bytes_eq of name ≡ b → News of schema arrays name number
    by_test true is = subst (λ (n : List ℕ). News of schema arrays n number) ((bytes_decides of name).0 is) (new_own of schema arrays number absent)
    by_test false is = ap (λ (o : Option CatalogArray). directory_in o number) (find_inserted (is_array name) (new_array of schema) is arrays (prefix_len (λ array. is_before array.entry.name of) arrays))

new_fits : (of : List ℕ) (schema : Schema) (arrays : List CatalogArray) (i : ℕ) → AllByRecursion Fits arrays → AllByRecursion Fits (insert arrays i (new_array of schema))
new_fits of schema [] zero all = (record { each = refl; rise = tt }, tt)
new_fits of schema [] (suc i) all = (record { each = refl; rise = tt }, tt)
new_fits of schema (a ∷ arrays) zero all = (record { each = refl; rise = tt }, all)
new_fits of schema (a ∷ arrays) (suc i) all = (all.0, new_fits of schema arrays i all.1)

new_there : (of : List ℕ) (schema : Schema) (arrays : List CatalogArray) (i : ℕ) → list_any (is_array of) (insert arrays i (new_array of schema)) ≡ true
new_there of schema [] zero = ap (λ (b : Bool). b || false) (itself of)
new_there of schema [] (suc i) = ap (λ (b : Bool). b || false) (itself of)
new_there of schema (a ∷ arrays) zero = ap (λ (b : Bool). b || list_any (is_array of) (a ∷ arrays)) (itself of)
new_there of schema (a ∷ arrays) (suc i) = by_test (is_array of a) (new_there of schema arrays i)
  where
    by_test : (b : Bool) → list_any (is_array of) (insert arrays i (new_array of schema)) ≡ true → (b || list_any (is_array of) (insert arrays i (new_array of schema))) ≡ true
    by_test true later = refl
    by_test false later = later

new_next : (of : List ℕ) (schema : Schema) (arrays : List CatalogArray) → list_any (is_array of) arrays ≡ false → next_of (entries_of (with_new of schema arrays)) of ≡ next_of (entries_of arrays) of
new_next of schema arrays absent =
    let none : find (is_array of) arrays ≡ None = none_found (is_array of) arrays absent in
    next_found of (with_new of schema arrays)
    ∙ ap next_in (find_new (is_array of) (new_array of schema) (itself of) arrays (prefix_len (λ array. is_before array.entry.name of) arrays) none)
    ∙ sym (ap next_in none) ∙ sym (next_found of arrays)

first_is : (of : List ℕ) (schema : Schema) (d : BlobAt) (arrays : List CatalogArray) (name : List ℕ) (number : ℕ) → AllByRecursion Fits arrays → list_any (is_array of) arrays ≡ false
    → directory_in (find (is_array name) (map (with_directory of d) (with_new of schema arrays))) number
    ≡ cond (bytes_eq of name && nat_eq (next_of (entries_of arrays) of) number) (Some d) (directory_in (find (is_array name) arrays) number)
first_is of schema d arrays name number all absent =
    let at = prefix_len (λ array. is_before array.entry.name of) arrays in
    next_is of d (with_new of schema arrays) name number (new_fits of schema arrays at all) (new_there of schema arrays at)
    ∙ ap (λ (n : ℕ). cond (bytes_eq of name && nat_eq n number) (Some d) (directory_in (find (is_array name) (with_new of schema arrays)) number)) (new_next of schema arrays absent)
    ∙ ap (cond (bytes_eq of name && nat_eq (next_of (entries_of arrays) of) number) (Some d)) (new_is of schema arrays name number absent)

removed_is : (of : List ℕ) (arrays : List CatalogArray) (name : List ℕ) (number : ℕ)
    → directory_in (find (is_array name) (without of arrays)) number ≡ cond (bytes_eq of name) None (directory_in (find (is_array name) arrays) number)
removed_is of arrays name number = by_test (bytes_eq of name) refl
  where
    by_test : (b : Bool) → bytes_eq of name ≡ b → directory_in (find (is_array name) (without of arrays)) number ≡ cond b None (directory_in (find (is_array name) arrays) number)
    by_test true is =
        let same : of ≡ name = (bytes_decides of name).0 is in
        ap (λ (o : Option CatalogArray). directory_in o number)
        (find_gone (is_array name) (λ a. not (is_array of a)) (λ a named. ap not (ap (λ (n : List ℕ). bytes_eq a.entry.name n) same ∙ named)) arrays)
    by_test false is = ap (λ (o : Option CatalogArray). directory_in o number) (find_kept (is_array name) (λ a. not (is_array of a)) (λ a named. ap not (not_both a.entry.name name of is named)) arrays)

abbrev Cuts : List ℕ → ℕ → List CatalogArray → List ℕ → ℕ → Type 0
Cuts of below arrays name number = directory_in (find (is_array name) (map (from_version of below) arrays)) number
    ≡ cond (bytes_eq of name && nat_lt number below) None (directory_in (find (is_array name) arrays) number)

none_either_way : (b : Bool) → None ≡ cond b None (directory_in None 0)
none_either_way true = refl
none_either_way false = refl

cut_found : (name : List ℕ) (below number : ℕ) (arrays : List CatalogArray) → AllByRecursion Fits arrays → (o : Option CatalogArray) → find (is_array name) arrays ≡ o
    → directory_in (option_map (from_version name below) o) number ≡ cond (nat_lt number below) None (directory_in o number)
cut_found name below number arrays all None is = none_either_way (nat_lt number below)
cut_found name below number arrays all (Some a) is = cut_in name below a number (found_fits name arrays a all is)

cuts_own : (name : List ℕ) (below : ℕ) (arrays : List CatalogArray) (number : ℕ) → AllByRecursion Fits arrays → Cuts name below arrays name number
cuts_own name below arrays number all =
    ap (λ (o : Option CatalogArray). directory_in o number) (find_moved (is_array name) (from_version name below) (cut_name name below name) arrays)
    ∙ cut_found name below number arrays all (find (is_array name) arrays) refl
    ∙ ap (λ (b : Bool). cond (b && nat_lt number below) None (directory_in (find (is_array name) arrays) number)) (sym (itself name))

cut_is : (of : List ℕ) (below : ℕ) (arrays : List CatalogArray) (name : List ℕ) (number : ℕ) → AllByRecursion Fits arrays → Cuts of below arrays name number
cut_is of below arrays name number all = by_test (bytes_eq of name) refl
  where
    by_test : (b : Bool) → bytes_eq of name ≡ b → Cuts of below arrays name number
    by_test true is = subst (λ (n : List ℕ). Cuts of below arrays n number) ((bytes_decides of name).0 is) (cuts_own of below arrays number all)
    by_test false is =
        ap (λ (o : Option CatalogArray). directory_in o number) (find_changed (is_array name) (from_version of below) (cut_name of below name) (cut_other of below name is) arrays)
        ∙ ap (λ (b : Bool). cond (b && nat_lt number below) None (directory_in (find (is_array name) arrays) number)) (sym is)

-- no array has a name that is new, and some array one that stands
is_absent : (name : List ℕ) (arrays : List CatalogArray) → (not (has_array (entries_of arrays) name) && has_room (entries_of arrays)) ≡ true → list_any (is_array name) arrays ≡ false
is_absent name arrays ok = any_map name arrays ∙ not-true (has_array (entries_of arrays) name) (and_parts (not (has_array (entries_of arrays) name)) (has_room (entries_of arrays)) ok).0

pub move_directories : RecordsMoveDirectories
move_directories catalog (Create of schema) name number is ok = new_is of schema catalog.arrays name number (is_absent of catalog.arrays ok)
move_directories catalog (First of schema d) name number is ok = first_is of schema d catalog.arrays name number (all_fit catalog.arrays is.each is.names.each) (is_absent of catalog.arrays ok)
move_directories catalog (Next of d) name number is ok =
    next_is of d catalog.arrays name number (all_fit catalog.arrays is.each is.names.each)
    (any_map of catalog.arrays ∙ (and_parts (has_array (entries_of catalog.arrays) of) _ ok).0)
move_directories catalog (Remove of) name number is ok = removed_is of catalog.arrays name number
move_directories catalog (RemoveVersions of below) name number is ok = cut_is of below catalog.arrays name number (all_fit catalog.arrays is.each is.names.each)

pub are_allowed : RecordsAreAllowed
are_allowed catalog change directory entry ok is = (record_stands catalog change directory entry ok is).allowed

pub do_their_change : RecordsDoTheirChange
do_their_change catalog change directory entry ok is = (record_stands catalog change directory entry ok is).same

pub follow_databases : CatalogsFollowDatabases
follow_databases db catalog change directory names fits = names_are_kept catalog change directory fits ∙ ap (λ n. names_after n change) names ∙ sym (names_depend_on_no_row db change)

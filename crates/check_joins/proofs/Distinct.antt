-- Names that are given one after the other are all different.
use Rattle.std.proofs.Common.{◌≡◌, ℕ, zero, suc, ◌+◌, ◌^◌, ◌≤◌, ◌<◌, Bool, true, false, not, ◌||◌, List, [], ◌∷◌, ◌++◌, length, refl, sym, ap, subst, ◌∙◌, append_assoc, arith}
use Rattle.std.specs.Fmt.{decimal}
use Rattle.std.specs.List.{list_all}
use Rattle.std.specs.Prelude.{codes, if◌then◌else◌}
use Rattle.std.specs.Str.{bytes_eq}
use Rattle.std.proofs.lemmas.Bool.{and_parts, and_from, or_parts, not-true}
use Rattle.std.proofs.lemmas.Fmt.{decimal_injective}
use Rattle.std.proofs.lemmas.List.{append-nil, append_cancel_left, length-append}
use Rattle.std.proofs.lemmas.Slice.Eq.{bytes_eq-Decides}
use Rattle.cell_values.specs.Schemas.{is_among, are_distinct}
use Rattle.logical_plan.specs.PlanSchema.{free_from, free_name, free_names, with_suffix}
use Rattle.check_rules.proofs.Names.{among_parts, distinct_between, or_none}

-- As many different names as are among others are no more than these.

without : List ℕ → List (List ℕ) → List (List ℕ)
without y [] = []
without y (x ∷ xs) = if bytes_eq y x then xs else x ∷ without y xs

true_false : (b : Bool) → b ≡ true → b ≡ false → ⊥
true_false b x y = cc

one_less : (y : List ℕ) (xs : List (List ℕ)) → is_among y xs ≡ true → length xs ≡ suc (length (without y xs))
unfolding without
one_less y [] e = cc
one_less y (x ∷ xs) e = by_test (bytes_eq y x) e (one_less y xs)
  where
    by_test : (b : Bool) → (b || is_among y xs) ≡ true → (is_among y xs ≡ true → length xs ≡ suc (length (without y xs))) → suc (length xs) ≡ suc (length (if b then xs else x ∷ without y xs))
    by_test true f rest = refl
    by_test false f rest = ap suc (rest f)

still_among : (y z : List ℕ) (xs : List (List ℕ)) → bytes_eq z y ≡ false → is_among z xs ≡ true → is_among z (without y xs) ≡ true
unfolding without
still_among y z [] differ e = cc
still_among y z (x ∷ xs) differ e = by_test (bytes_eq y x) refl e (still_among y z xs differ)
  where
    other : (b : Bool) → (b || is_among z xs) ≡ true → (is_among z xs ≡ true → is_among z (without y xs) ≡ true) → (b || is_among z (without y xs)) ≡ true
    other true f rest = refl
    other false f rest = rest f

    later : (b : Bool) → b ≡ false → (b || is_among z xs) ≡ true → is_among z xs ≡ true
    later false n f = f
    later true n f = cc

    by_test : (b : Bool) → bytes_eq y x ≡ b → (bytes_eq z x || is_among z xs) ≡ true → (is_among z xs ≡ true → is_among z (without y xs) ≡ true) → is_among z (if b then xs else x ∷ without y xs) ≡ true
    by_test true same f rest =
        let is : y ≡ x = (bytes_eq-Decides y x).0 same in
        later (bytes_eq z x) (subst (λ (w : List ℕ). bytes_eq z w ≡ false) is differ) f
    by_test false apart f rest = other (bytes_eq z x) f rest

differ_from : (y z : List ℕ) (ys : List (List ℕ)) → bytes_eq y z ≡ false → bytes_eq z y ≡ false
differ_from y z ys e = by_test (bytes_eq z y) refl
  where
    by_test : (b : Bool) → bytes_eq z y ≡ b → b ≡ false
    by_test false f = refl
    by_test true f = absurd (true_false (bytes_eq y z) ((bytes_eq-Decides y z).1 (sym ((bytes_eq-Decides z y).0 f))) e)

abbrev AreAmong : List (List ℕ) → List (List ℕ) → Type 0
AreAmong ys xs = list_all (λ y. is_among y xs) ys ≡ true

all_still : (y : List ℕ) (ys xs : List (List ℕ)) → is_among y ys ≡ false → AreAmong ys xs → AreAmong ys (without y xs)
all_still y [] xs none all = refl
all_still y (z ∷ ys) xs none all =
    let apart = or_parts (bytes_eq y z) (is_among y ys) none in
    let p = and_parts (is_among z xs) (list_all (λ w. is_among w xs) ys) all in
    and_from (is_among z (without y xs)) (list_all (λ w. is_among w (without y xs)) ys) (still_among y z xs (differ_from y z ys apart.0) p.0) (all_still y ys xs apart.1 p.1)

no_more : (ys xs : List (List ℕ)) → are_distinct ys ≡ true → AreAmong ys xs → length ys ≤ length xs
no_more [] xs distinct all = omega arith
no_more (y ∷ ys) xs distinct all =
    let d = and_parts (not (is_among y ys)) (are_distinct ys) distinct in
    let p = and_parts (is_among y xs) (list_all (λ w. is_among w xs) ys) all in
    let rest : length ys ≤ length (without y xs) = no_more ys (without y xs) d.1 (all_still y ys xs (not-true (is_among y ys) d.0) p.1) in
    omega (arith, rest, one_less y xs p.0)

-- The suffixes that are tried.

suffixes : ℕ → ℕ → List ℕ → List (List ℕ)
suffixes zero k name = with_suffix name k ∷ []
suffixes (suc n) k name = with_suffix name k ∷ suffixes n (k + 1) name

suffix_count : (n k : ℕ) (name : List ℕ) → length (suffixes n k name) ≡ suc n
unfolding suffixes
suffix_count zero k name = refl
suffix_count (suc n) k name = ap suc (suffix_count n (k + 1) name)

suffix_differs : (k m : ℕ) (name : List ℕ) → k < m → m < 2 ^ 64 → bytes_eq (with_suffix name k) (with_suffix name m) ≡ false
suffix_differs k m name less high = by_test (bytes_eq (with_suffix name k) (with_suffix name m)) refl
  where
    by_test : (b : Bool) → bytes_eq (with_suffix name k) (with_suffix name m) ≡ b → b ≡ false
    by_test false e = refl
    by_test true e =
        let same : with_suffix name k ≡ with_suffix name m = (bytes_eq-Decides (with_suffix name k) (with_suffix name m)).0 e in
        let number : k ≡ m = decimal_injective k m (omega (arith, less, high)) high (append_cancel_left (name ++ codes "_") (decimal k) (decimal m) same) in
        absurd (omega (arith, less, number))

not_later : (n k m : ℕ) (name : List ℕ) → k < m → m + n < 2 ^ 64 → is_among (with_suffix name k) (suffixes n m name) ≡ false
unfolding suffixes
not_later zero k m name less high = or_none (bytes_eq (with_suffix name k) (with_suffix name m)) false (suffix_differs k m name less (omega (arith, high))) refl
not_later (suc n) k m name less high =
    or_none (bytes_eq (with_suffix name k) (with_suffix name m)) (is_among (with_suffix name k) (suffixes n (m + 1) name)) (suffix_differs k m name less (omega (arith, high)))
    (not_later n k (m + 1) name (omega (arith, less)) (omega (arith, high)))

suffixes_differ : (n k : ℕ) (name : List ℕ) → k + n < 2 ^ 64 → are_distinct (suffixes n k name) ≡ true
unfolding suffixes
suffixes_differ zero k name high = refl
suffixes_differ (suc n) k name high =
    and_from (not (is_among (with_suffix name k) (suffixes n (k + 1) name))) (are_distinct (suffixes n (k + 1) name))
    (ap not (not_later n k (k + 1) name (omega arith) (omega (arith, high)))) (suffixes_differ n (k + 1) name (omega (arith, high)))

-- where the suffix that is found is taken, all that were tried are
all_taken : (n k : ℕ) (given : List (List ℕ)) (name : List ℕ) → is_among (free_from n k given name) given ≡ true → AreAmong (suffixes n k name) given
unfolding suffixes
all_taken zero k given name e = and_from (is_among (with_suffix name k) given) true e refl
all_taken (suc n) k given name e = by_test (is_among (with_suffix name k) given) refl e (all_taken n (k + 1) given name)
  where
    by_test : (b : Bool) → is_among (with_suffix name k) given ≡ b → is_among (if b then free_from n (k + 1) given name else with_suffix name k) given ≡ true
        → (is_among (free_from n (k + 1) given name) given ≡ true → AreAmong (suffixes n (k + 1) name) given) → AreAmong (with_suffix name k ∷ suffixes n (k + 1) name) given
    by_test true first f rest = and_from (is_among (with_suffix name k) given) (list_all (λ y. is_among y given) (suffixes n (k + 1) name)) first (rest f)
    by_test false first f rest = absurd (true_false (is_among (with_suffix name k) given) f first)

suffix_free : (given : List (List ℕ)) (name : List ℕ) → length given < 2 ^ 32 → is_among (free_from (length given) 2 given name) given ≡ false
suffix_free given name few = by_test (is_among (free_from (length given) 2 given name) given) refl
  where
    by_test : (b : Bool) → is_among (free_from (length given) 2 given name) given ≡ b → b ≡ false
    by_test false e = refl
    by_test true e =
        let at_most = no_more (suffixes (length given) 2 name) given (suffixes_differ (length given) 2 name (omega (arith, few))) (all_taken (length given) 2 given name e) in
        absurd (omega (arith, at_most, suffix_count (length given) 2 name))

pub name_free : (given : List (List ℕ)) (name : List ℕ) → length given < 2 ^ 32 → is_among (free_name given name) given ≡ false
name_free given name few = by_test (is_among name given) refl
  where
    by_test : (b : Bool) → is_among name given ≡ b → is_among (if b then free_from (length given) 2 given name else name) given ≡ false
    by_test true e = suffix_free given name few
    by_test false e = e

all_differ : (given names : List (List ℕ)) → length given + length names < 2 ^ 32 → are_distinct given ≡ true → are_distinct (given ++ free_names given names) ≡ true
all_differ given [] few distinct = ap are_distinct (append-nil given) ∙ distinct
all_differ given (name ∷ names) few distinct =
    let free = free_name given name in
    let front : are_distinct (given ++ []) ≡ true = ap are_distinct (append-nil given) ∙ distinct in
    let more : are_distinct (given ++ free ∷ []) ≡ true = distinct_between given [] free front (name_free given name (omega (arith, few))) refl in
    sym (ap are_distinct (append_assoc given (free ∷ []) (free_names (given ++ free ∷ []) names)))
    ∙ all_differ (given ++ free ∷ []) names (omega (arith, few, length-append given (free ∷ []))) more

pub free_names_differ : (names : List (List ℕ)) → length names < 2 ^ 32 → are_distinct (free_names [] names) ≡ true
free_names_differ names few = all_differ [] names (omega (arith, few)) refl

free_count : (given names : List (List ℕ)) → length (free_names given names) ≡ length names
free_count given [] = refl
free_count given (name ∷ names) = ap suc (free_count (given ++ free_name given name ∷ []) names)

pub free_names_count : (names : List (List ℕ)) → length (free_names [] names) ≡ length names
free_names_count names = free_count [] names

pub distinct_swapped : (xs ys : List (List ℕ)) → are_distinct (xs ++ ys) ≡ true → are_distinct (ys ++ xs) ≡ true
distinct_swapped [] ys d = ap are_distinct (append-nil ys) ∙ d
distinct_swapped (x ∷ xs) ys d =
    let p = and_parts (not (is_among x (xs ++ ys))) (are_distinct (xs ++ ys)) d in
    let none = among_parts x xs ys (not-true (is_among x (xs ++ ys)) p.0) in
    distinct_between ys xs x (distinct_swapped xs ys p.1) none.1 none.0

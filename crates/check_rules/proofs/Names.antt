-- Names that are all different, with one more among them.
use Rattle.std.proofs.Common.{◌≡◌, ℕ, zero, suc, Bool, true, false, not, ◌||◌, List, [], ◌∷◌, ◌++◌, Some, refl, sym, ap, subst, ◌∙◌}
use Rattle.std.specs.Prelude.{slice_get}
use Rattle.std.specs.Str.{bytes_eq}
use Rattle.std.proofs.lemmas.Bool.{and_parts, and_from, or_parts, not-true}
use Rattle.std.proofs.lemmas.List.Folds.{list_any-append}
use Rattle.std.proofs.lemmas.Slice.Eq.{bytes_eq-Decides}
use Rattle.cell_values.specs.Schemas.{is_among, are_distinct}

-- names differ both ways
pub differ_back : (b : Bool) (xs ys : List ℕ) → bytes_eq ys xs ≡ b → bytes_eq xs ys ≡ false → b ≡ false
differ_back false xs ys e h = refl
differ_back true xs ys e h =
    let same : xs ≡ ys = sym ((bytes_eq-Decides ys xs).0 e) in
    let again : bytes_eq xs ys ≡ true = (bytes_eq-Decides xs ys).1 same in
    cc

pub or_none : (a b : Bool) → a ≡ false → b ≡ false → (a || b) ≡ false
or_none a b p q = ap (λ v. v || b) p ∙ q

-- a name that is among neither
pub among_neither : (n : List ℕ) (xs ys : List (List ℕ)) → is_among n xs ≡ false → is_among n ys ≡ false → is_among n (xs ++ ys) ≡ false
among_neither n xs ys e f = list_any-append (bytes_eq n) xs ys ∙ or_none (is_among n xs) (is_among n ys) e f

pub among_parts : (n : List ℕ) (xs ys : List (List ℕ)) → is_among n (xs ++ ys) ≡ false → (is_among n xs ≡ false) × (is_among n ys ≡ false)
among_parts n xs ys e = or_parts (is_among n xs) (is_among n ys) (sym (list_any-append (bytes_eq n) xs ys) ∙ e)

-- a new name between distinct ones
pub distinct_between : (xs ys : List (List ℕ)) (n : List ℕ) → are_distinct (xs ++ ys) ≡ true → is_among n xs ≡ false → is_among n ys ≡ false → are_distinct (xs ++ n ∷ ys) ≡ true
distinct_between [] ys n d e f = and_from (not (is_among n ys)) (are_distinct ys) (ap not f) d
distinct_between (x ∷ xs) ys n d e f =
    let p = and_parts (not (is_among x (xs ++ ys))) (are_distinct (xs ++ ys)) d in
    let none = among_parts x xs ys (not-true (is_among x (xs ++ ys)) p.0) in
    let g = or_parts (bytes_eq n x) (is_among n xs) e in
    let apart : bytes_eq x n ≡ false = differ_back (bytes_eq x n) n x refl g.0 in
    let fresh : is_among x (xs ++ n ∷ ys) ≡ false = among_neither x xs (n ∷ ys) none.0 (or_none (bytes_eq x n) (is_among x ys) apart none.1) in
    and_from (not (is_among x (xs ++ n ∷ ys))) (are_distinct (xs ++ n ∷ ys)) (ap not fresh) (distinct_between xs ys n p.1 g.1 f)

-- what stands behind distinct names may be changed for distinct names that are among no more
pub distinct_behind : (xs ys zs : List (List ℕ)) → ((n : List ℕ) → is_among n ys ≡ false → is_among n zs ≡ false) → (are_distinct ys ≡ true → are_distinct zs ≡ true)
    → are_distinct (xs ++ ys) ≡ true → are_distinct (xs ++ zs) ≡ true
distinct_behind [] ys zs less still d = still d
distinct_behind (x ∷ xs) ys zs less still d =
    let p = and_parts (not (is_among x (xs ++ ys))) (are_distinct (xs ++ ys)) d in
    let none = among_parts x xs ys (not-true (is_among x (xs ++ ys)) p.0) in
    and_from (not (is_among x (xs ++ zs))) (are_distinct (xs ++ zs)) (ap not (among_neither x xs zs none.0 (less x none.1))) (distinct_behind xs ys zs less still p.1)

pub distinct_front : (xs ys : List (List ℕ)) → are_distinct (xs ++ ys) ≡ true → (are_distinct xs ≡ true) × (are_distinct ys ≡ true)
distinct_front [] ys d = (refl, d)
distinct_front (x ∷ xs) ys d =
    let p = and_parts (not (is_among x (xs ++ ys))) (are_distinct (xs ++ ys)) d in
    let none = among_parts x xs ys (not-true (is_among x (xs ++ ys)) p.0) in
    let rest = distinct_front xs ys p.1 in
    (and_from (not (is_among x xs)) (are_distinct xs) (ap not none.0) rest.0, rest.1)

-- a name of the front is not among those behind
pub apart_behind : (xs ys : List (List ℕ)) (i : ℕ) (n : List ℕ) → are_distinct (xs ++ ys) ≡ true → slice_get xs i ≡ Some n → is_among n ys ≡ false
apart_behind [] ys i n d e = cc
apart_behind (x ∷ xs) ys zero n d e =
    let p = and_parts (not (is_among x (xs ++ ys))) (are_distinct (xs ++ ys)) d in
    let none = among_parts x xs ys (not-true (is_among x (xs ++ ys)) p.0) in
    let same : x ≡ n = cc in
    subst (λ (m : List ℕ). is_among m ys ≡ false) same none.1
apart_behind (x ∷ xs) ys (suc i) n d e = apart_behind xs ys i n (and_parts (not (is_among x (xs ++ ys))) (are_distinct (xs ++ ys)) d).1 e

-- a name that is among no names differs from each
pub differs_from : (n : List ℕ) (xs : List (List ℕ)) (i : ℕ) (m : List ℕ) → is_among n xs ≡ false → slice_get xs i ≡ Some m → bytes_eq n m ≡ false
differs_from n [] i m d e = cc
differs_from n (x ∷ xs) zero m d e =
    let same : x ≡ m = cc in
    subst (λ (k : List ℕ). bytes_eq n k ≡ false) same (or_parts (bytes_eq n x) (is_among n xs) d).0
differs_from n (x ∷ xs) (suc i) m d e = differs_from n xs i m (or_parts (bytes_eq n x) (is_among n xs) d).1 e

-- distinct names at two places differ
pub differ_at : (xs : List (List ℕ)) (i j : ℕ) (n m : List ℕ) → are_distinct xs ≡ true → (i ≡ j → ⊥) → slice_get xs i ≡ Some n → slice_get xs j ≡ Some m → bytes_eq n m ≡ false
differ_at [] i j n m d apart e f = cc
differ_at (x ∷ xs) zero zero n m d apart e f = absurd (apart refl)
differ_at (x ∷ xs) zero (suc j) n m d apart e f =
    let p = and_parts (not (is_among x xs)) (are_distinct xs) d in
    let same : x ≡ n = cc in
    subst (λ (k : List ℕ). bytes_eq k m ≡ false) same (differs_from x xs j m (not-true (is_among x xs) p.0) f)
differ_at (x ∷ xs) (suc i) zero n m d apart e f =
    let p = and_parts (not (is_among x xs)) (are_distinct xs) d in
    let same : x ≡ m = cc in
    let there : bytes_eq m n ≡ false = subst (λ (k : List ℕ). bytes_eq k n ≡ false) same (differs_from x xs i n (not-true (is_among x xs) p.0) e) in
    differ_back (bytes_eq n m) m n refl there
differ_at (x ∷ xs) (suc i) (suc j) n m d apart e f = differ_at xs i j n m (and_parts (not (is_among x xs)) (are_distinct xs) d).1 (λ same. apart (ap suc same)) e f

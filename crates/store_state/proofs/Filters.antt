-- What filters by a name and by a number keep.
use Rattle.std.proofs.Common.{◌≡◌, ◌∙◌, ℕ, suc, ◌+◌, ◌≤◌, Bool, true, false, cond, not, ◌&&◌, nat_eq, nat_lt, List, [], ◌∷◌, ◌++◌, map, drop, refl, ap, sym, arith}
use Rattle.std.specs.List.{filter, count_by}
use Rattle.std.specs.Str.{bytes_eq}
use Rattle.std.specs.Cmp.Lexicographic.{bytes_decides}
use Rattle.std.proofs.lemmas.Bool.Decides.{nat_tests, same_from_decides}
use Rattle.std.proofs.lemmas.List.{append-nil, map-append}
use Rattle.std.proofs.lemmas.List.Elements.{filter-append}
use Rattle.std.proofs.lemmas.List.Sums.{sum_by-cons}
use Rattle.file_meaning.specs.Stored.{RiseBetween}
use Rattle.file_meaning.proofs.Stays.{not_both}
use Rattle.store_versions.proofs.Tests.{filter_agrees}
use Rattle.store_versions.proofs.Conserved.{filter_filter}

-- ---- names and numbers

pub name_sym : (a b : List ℕ) → bytes_eq a b ≡ bytes_eq b a
name_sym a b = same_from_decides (bytes_eq a b) (bytes_eq b a) (bytes_decides a b) ((λ e. sym ((bytes_decides b a).0 e)), (λ e. (bytes_decides b a).1 (sym e)))

pub itself : (n : ℕ) → nat_eq n n ≡ true
itself n = grind (arith, nat_tests)

-- ---- one filter after another

both_by : (p t : Bool) → (t ≡ true → p ≡ true) → (p && t) ≡ t
both_by true t h = refl
both_by false true h = h refl
both_by false false h = refl

-- where each item that passes one test is kept by another
kept_still : {A : Type 0} (p t : A → Bool) → ((x : A) → t x ≡ true → p x ≡ true) → (xs : List A) → filter t (filter p xs) ≡ filter t xs
kept_still p t h xs = filter_filter p t xs ∙ filter_agrees (λ x. p x && t x) t (λ x. both_by (p x) (t x) (h x)) xs

turned_by : (a b : Bool) → (not (a && b) && a) ≡ (a && not b)
turned_by true true = refl
turned_by true false = refl
turned_by false b = refl

module _ {A : Type 0} (name : A → List ℕ) where
  -- where those of one name go, those of another are left
  pub others_left : (m n : List ℕ) → bytes_eq m n ≡ false → (xs : List A) → filter (λ x. bytes_eq (name x) m) (filter (λ x. not (bytes_eq (name x) n)) xs) ≡ filter (λ x. bytes_eq (name x) m) xs
  others_left m n apart xs =
      kept_still (λ x. not (bytes_eq (name x) n)) (λ x. bytes_eq (name x) m) (λ x is. ap not (not_both (name x) m n (name_sym n m ∙ apart) is)) xs

  -- and where some of it do
  pub others_uncut : (below : A → Bool) (m n : List ℕ) → bytes_eq m n ≡ false → (xs : List A)
      → filter (λ x. bytes_eq (name x) m) (filter (λ x. not (bytes_eq (name x) n && below x)) xs) ≡ filter (λ x. bytes_eq (name x) m) xs
  others_uncut below m n apart xs =
      kept_still (λ x. not (bytes_eq (name x) n && below x)) (λ x. bytes_eq (name x) m)
      (λ x is. ap (λ b. not (b && below x)) (not_both (name x) m n (name_sym n m ∙ apart) is)) xs

  pub own_cut : (below : A → Bool) (m n : List ℕ) → bytes_eq m n ≡ true → (xs : List A)
      → filter (λ x. bytes_eq (name x) m) (filter (λ x. not (bytes_eq (name x) n && below x)) xs) ≡ filter (λ x. not (below x)) (filter (λ x. bytes_eq (name x) m) xs)
  own_cut below m n is xs =
      let same : n ≡ m = sym ((bytes_decides m n).0 is) in
      filter_filter (λ x. not (bytes_eq (name x) n && below x)) (λ x. bytes_eq (name x) m) xs
      ∙ filter_agrees (λ x. not (bytes_eq (name x) n && below x) && bytes_eq (name x) m) (λ x. bytes_eq (name x) m && not (below x))
      (λ x. ap (λ k. not (bytes_eq (name x) k && below x) && bytes_eq (name x) m) same ∙ turned_by (bytes_eq (name x) m) (below x)) xs
      ∙ sym (filter_filter (λ x. bytes_eq (name x) m) (λ x. not (below x)) xs)

  -- of one more item, behind the others
  pub one_more : {B : Type 0} (f : A → B) (m : List ℕ) (xs : List A) (x : A)
      → map f (filter (λ y. bytes_eq (name y) m) (xs ++ x ∷ [])) ≡ cond (bytes_eq (name x) m) (map f (filter (λ y. bytes_eq (name y) m) xs) ++ f x ∷ []) (map f (filter (λ y. bytes_eq (name y) m) xs))
  one_more {B} f m xs x =
      ap (map f) (filter-append (λ y. bytes_eq (name y) m) xs (x ∷ [])) ∙ map-append f (filter (λ y. bytes_eq (name y) m) xs) (filter (λ y. bytes_eq (name y) m) (x ∷ []))
      ∙ by_test (bytes_eq (name x) m) (map f (filter (λ y. bytes_eq (name y) m) xs))
    where
      by_test : (b : Bool) (ys : List B) → ys ++ map f (cond b (x ∷ []) []) ≡ cond b (ys ++ f x ∷ []) ys
      by_test true ys = refl
      by_test false ys = append-nil ys

-- ---- what rises, cut off below a number

drop_none : {A : Type 0} (xs : List A) → drop 0 xs ≡ xs
drop_none [] = refl
drop_none (x ∷ xs) = refl

nothing_more : (n : ℕ) → n ≡ 0 → 0 + n ≡ 0
nothing_more n is = omega (arith, is)

none_below : (low high below : ℕ) (numbers : List ℕ) → below ≤ low → RiseBetween low high numbers → count_by (λ v. nat_lt v below) numbers ≡ 0
none_below low high below [] le rise = refl
none_below low high below (n ∷ numbers) le rise =
    let lt = rise.0 in
    let not_below : nat_lt n below ≡ false = grind (arith, nat_tests) in
    sum_by-cons (λ v. cond (nat_lt v below) 1 0) n numbers ∙ ap (λ (b : Bool). cond b 1 0 + count_by (λ v. nat_lt v below) numbers) not_below
    ∙ nothing_more (count_by (λ v. nat_lt v below) numbers) (none_below n high below numbers (omega (arith, lt, le)) rise.2)

-- as many of the first ones go as have a number below
pub cut_off : {A B : Type 0} (number : A → ℕ) (f : A → B) (low high below : ℕ) (xs : List A) → RiseBetween low high (map number xs)
    → map f (filter (λ x. not (nat_lt (number x) below)) xs) ≡ drop (count_by (λ v. nat_lt v below) (map number xs)) (map f xs)
cut_off number f low high below [] rise = refl
cut_off {B} number f low high below (x ∷ xs) rise =
    by_test (nat_lt (number x) below) refl (cut_off number f (number x) high below xs rise.2)
    ∙ sym (ap (λ (k : ℕ). drop k (f x ∷ map f xs)) (sum_by-cons (λ v. cond (nat_lt v below) 1 0) (number x) (map number xs)))
  where
    by_test : (b : Bool) → nat_lt (number x) below ≡ b → map f (filter (λ y. not (nat_lt (number y) below)) xs) ≡ drop (count_by (λ v. nat_lt v below) (map number xs)) (map f xs)
        → map f (cond (not b) (x ∷ filter (λ y. not (nat_lt (number y) below)) xs) (filter (λ y. not (nat_lt (number y) below)) xs))
        ≡ drop (cond b 1 0 + count_by (λ v. nat_lt v below) (map number xs)) (f x ∷ map f xs)
    by_test true is later =
        let gone = count_by (λ v. nat_lt v below) (map number xs) in
        let one : 1 + gone ≡ suc gone = omega arith in
        later ∙ ap (λ (k : ℕ). drop k (f x ∷ map f xs)) (sym one)
    by_test false is later =
        let gone = count_by (λ v. nat_lt v below) (map number xs) in
        let le : below ≤ number x = grind (arith, nat_tests) in
        let none : gone ≡ 0 = none_below (number x) high below (map number xs) le rise.2 in
        ap (λ (ys : List B). f x ∷ ys) (later ∙ ap (λ (k : ℕ). drop k (map f xs)) none ∙ drop_none (map f xs))
        ∙ ap (λ (k : ℕ). drop k (f x ∷ map f xs)) (sym (nothing_more gone none))

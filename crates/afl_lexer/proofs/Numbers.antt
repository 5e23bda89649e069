-- Values of digits, and the longest front of a list that passes a test.
use Rattle.std.proofs.Common.{◌≡◌, ℕ, zero, suc, ◌+◌, ◌-◌, ◌*◌, ◌<◌, ◌≤◌, Bool, true, false, cond, min, List, [], ◌∷◌, length, take, get_or, refl, sym, ap, subst, ◌∙◌, arith}
use Rattle.std.specs.Prelude.{nat_le}
use Rattle.std.specs.Char.{digit_value}
use Rattle.std.specs.List.{list_all, prefix_len}
use Rattle.std.specs.Str.Parse.{digits_value}
use Rattle.std.proofs.lemmas.Bool.{leb-true, lt-ltb, le-ltb, and_parts, and_from}
use Rattle.std.proofs.lemmas.Int.Digits.{digits_value_more}
use Rattle.cell_values.specs.Naming.{is_digit}

module _ {X : Type 0} (p : X → Bool) where
  passes_by : (x : X) (xs : List X) (v : Bool) → p x ≡ v → list_all p (take (prefix_len p xs) xs) ≡ true
      → list_all p (take (cond v (1 + prefix_len p xs) 0) (x ∷ xs)) ≡ true
  passes_by x xs false e behind = refl
  passes_by x xs true e behind =
      let one : 1 + prefix_len p xs ≡ suc (prefix_len p xs) = omega arith in
      ap (λ n. list_all p (take n (x ∷ xs))) one ∙ and_from (p x) (list_all p (take (prefix_len p xs) xs)) e behind

  pub front_passes : (xs : List X) → list_all p (take (prefix_len p xs) xs) ≡ true
  front_passes [] = refl
  front_passes (x ∷ xs) = passes_by x xs (p x) refl (front_passes xs)

  -- no longer front passes
  pub front_longest : (xs : List X) (m : ℕ) → m ≤ length xs → list_all p (take m xs) ≡ true → m ≤ prefix_len p xs
  front_longest [] m h t = h
  front_longest (x ∷ xs) zero h t = omega arith
  front_longest (x ∷ xs) (suc m) h t =
      let both : (p x ≡ true) × (list_all p (take m xs) ≡ true) = and_parts (p x) (list_all p (take m xs)) t in
      let rest : m ≤ prefix_len p xs = front_longest xs m (omega arith) both.1 in
      subst (λ v. suc m ≤ cond v (1 + prefix_len p xs) 0) (sym both.0) (omega arith)

  pub passes_at : (xs : List X) (i : ℕ) (d : X) → i < length xs → list_all p xs ≡ true → p (get_or xs i d) ≡ true
  passes_at [] i d h t = absurd (omega arith)
  passes_at (x ∷ xs) zero d h t = (and_parts (p x) (list_all p xs) t).0
  passes_at (x ∷ xs) (suc i) d h t = passes_at xs i d (omega arith) (and_parts (p x) (list_all p xs) t).1

pub digit_low : (c : ℕ) → is_digit c ≡ true → 48 ≤ c
digit_low c t = leb-true 48 c (and_parts (nat_le 48 c) (nat_le c 57) t).0

pub digit_high : (c : ℕ) → is_digit c ≡ true → c ≤ 57
digit_high c t = leb-true c 57 (and_parts (nat_le 48 c) (nat_le c 57) t).1

pub digit_value_is : (c : ℕ) → is_digit c ≡ true → digit_value c ≡ c - 48
digit_value_is c t =
    let low : 48 ≤ c = digit_low c t in
    let high : c < 58 = omega (arith, digit_high c t) in
    rw (le-ltb c 48 low, lt-ltb c 58 high) refl

capped : (all part d most : ℕ) → part ≡ min all most → min (min (part * 10) most + d) most ≡ min (all * 10 + d) most
capped all part d most e = omega arith

pub capped_more : (ds : List ℕ) (i part most : ℕ) → i < length ds → list_all is_digit ds ≡ true → part ≡ min (digits_value 10 (take i ds)) most
    → min (min (part * 10) most + (get_or ds i 0 - 48)) most ≡ min (digits_value 10 (take (i + 1) ds)) most
capped_more ds i part most h t e =
    let d : digit_value (get_or ds i 0) ≡ get_or ds i 0 - 48 = digit_value_is (get_or ds i 0) (passes_at is_digit ds i 0 h t) in
    rw (digits_value_more 10 ds i h, d) (capped (digits_value 10 (take i ds)) part (get_or ds i 0 - 48) most e)

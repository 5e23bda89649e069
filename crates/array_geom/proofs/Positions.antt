-- The place of a coordinate, read from the front.
use Rattle.std.proofs.Common.{◌≡◌, ◌+◌, ◌*◌, ◌-◌, ◌^◌, ◌≤◌, ◌<◌, ℕ, ℤ, pos, ◌+ℤ◌, ◌-ℤ◌, ◌≤ℤ◌, ◌<ℤ◌, List, [], ◌∷◌, length, take, drop, get_or, sym, subst, ◌∙◌, ap, arith, IsTrue}
use Rattle.std.specs.Prelude.{unsigned_abs}
use Rattle.array_geom.specs.Geometry.{volume, position_in}
use Rattle.array_geom.specs.Inner.Ranges.{AreLengths, AreLow, is_in_grid}
use Rattle.array_geom.proofs.Fronts.{rest, rest_is}
use Rattle.array_geom.proofs.PlaceLaws.{in_grid, some}

pub none_without_low : (low : List ℤ) (lengths : List ℕ) (at : List ℤ) → 1 ≤ length lengths → length low < 1 → IsTrue (is_in_grid low lengths at) → ⊥
none_without_low low [] at some _ _ = absurd (omega (arith, some))
none_without_low [] (n ∷ lengths) [] _ _ inside = cc
none_without_low [] (n ∷ lengths) (x ∷ at) _ _ inside = cc
none_without_low (l ∷ low) (n ∷ lengths) at _ none _ = absurd (omega (arith, none))

pub none_without_place : (low : List ℤ) (lengths : List ℕ) (at : List ℤ) → 1 ≤ length lengths → 1 ≤ length low → length at < 1 → IsTrue (is_in_grid low lengths at) → ⊥
none_without_place low [] at some _ _ _ = absurd (omega (arith, some))
none_without_place [] (n ∷ lengths) at _ some _ _ = absurd (omega (arith, some))
none_without_place (l ∷ low) (n ∷ lengths) [] _ _ _ inside = cc
none_without_place (l ∷ low) (n ∷ lengths) (x ∷ at) _ _ none _ = absurd (omega (arith, none))

first_row : (low : List ℤ) (lengths : List ℕ) (at : List ℤ) → 1 ≤ length lengths → 1 ≤ length low → 1 ≤ length at
    → position_in low lengths at ≡ unsigned_abs (get_or at 0 (pos 0) -ℤ get_or low 0 (pos 0)) * volume (rest lengths) + position_in (rest low) (rest lengths) (rest at)
first_row low [] at some _ _ = absurd (omega (arith, some))
first_row [] (n ∷ lengths) at _ some _ = absurd (omega (arith, some))
first_row (l ∷ low) (n ∷ lengths) [] _ _ some = absurd (omega (arith, some))
first_row (l ∷ low) (n ∷ lengths) (x ∷ at) _ _ _ =
    sym (ap (λ (xs : List ℕ). unsigned_abs (x -ℤ l) * volume xs + position_in (rest (l ∷ low)) xs (rest (x ∷ at))) (rest_is n lengths)
    ∙ ap (λ (xs : List ℤ). unsigned_abs (x -ℤ l) * volume lengths + position_in xs lengths (rest (x ∷ at))) (rest_is l low)
    ∙ ap (λ (xs : List ℤ). unsigned_abs (x -ℤ l) * volume lengths + position_in low lengths xs) (rest_is x at))

pub place_from : (low : List ℤ) (lengths : List ℕ) (at : List ℤ) (row size place result : ℕ) → 1 ≤ length lengths → 1 ≤ length low → 1 ≤ length at
    → result ≡ row * size + place → size ≡ volume (take (length lengths - 1) (drop 1 lengths))
    → place ≡ position_in (take (length low - 1) (drop 1 low)) (take (length lengths - 1) (drop 1 lengths)) (take (length at - 1) (drop 1 at))
    → row ≡ unsigned_abs (get_or at 0 (pos 0) -ℤ get_or low 0 (pos 0)) → result ≡ position_in low lengths at
place_from low lengths at row size place result some_lengths some_low some_at is same_size same_place same_row =
    is ∙ ap (λ (r : ℕ). r * size + place) same_row ∙ ap (λ (s : ℕ). unsigned_abs (get_or at 0 (pos 0) -ℤ get_or low 0 (pos 0)) * s + place) same_size
    ∙ ap (λ (p : ℕ). unsigned_abs (get_or at 0 (pos 0) -ℤ get_or low 0 (pos 0)) * volume (rest lengths) + p) same_place ∙ sym (first_row low lengths at some_lengths some_low some_at)

at_most : (n v : ℕ) → 0 < n → n * v ≤ 2 ^ 48 → v ≤ 2 ^ 48
at_most n v some small = grind arith

at_most_rows : (n v : ℕ) → 0 < v → n * v ≤ 2 ^ 48 → n ≤ 2 ^ 48
at_most_rows n v some small = grind arith

-- what is known of a coordinate's first number, and behind it
pub record Front (low : List ℤ) (lengths : List ℕ) (at : List ℤ) : Type 0 where
  pub lowest : AreLow (take (length low - 1) (drop 1 low))
  pub counts : AreLengths (take (length lengths - 1) (drop 1 lengths))
  pub small : volume (take (length lengths - 1) (drop 1 lengths)) ≤ 2 ^ 48
  pub inside : IsTrue (is_in_grid (take (length low - 1) (drop 1 low)) (take (length lengths - 1) (drop 1 lengths)) (take (length at - 1) (drop 1 at)))
  pub rows : get_or lengths 0 0 ≤ 2 ^ 48
  pub at_least : get_or low 0 (pos 0) ≤ℤ get_or at 0 (pos 0)
  pub below : get_or at 0 (pos 0) <ℤ (get_or low 0 (pos 0) +ℤ pos (get_or lengths 0 0))
  pub whole : get_or lengths 0 0 * volume (take (length lengths - 1) (drop 1 lengths)) ≡ volume lengths

pub front : (low : List ℤ) (lengths : List ℕ) (at : List ℤ) → 1 ≤ length lengths → 1 ≤ length low → 1 ≤ length at
    → AreLow low → AreLengths lengths → volume lengths ≤ 2 ^ 48 → IsTrue (is_in_grid low lengths at) → Front low lengths at
front low [] at some _ _ _ _ _ _ = absurd (omega (arith, some))
front [] (n ∷ lengths) at _ some _ _ _ _ _ = absurd (omega (arith, some))
front (l ∷ low) (n ∷ lengths) [] _ _ some _ _ _ _ = absurd (omega (arith, some))
front (l ∷ low) (n ∷ lengths) (x ∷ at) _ _ _ lows counts small inside =
    let t = in_grid l x n (is_in_grid low lengths at) inside in
    let few = rest_is n lengths in
    let Within : List ℤ → List ℕ → List ℤ → Type 0 = λ lo ns c. IsTrue (is_in_grid lo ns c) in
    record {
      lowest = subst AreLow (sym (rest_is l low)) lows.1;
      counts = subst AreLengths (sym few) counts.1;
      small = subst (λ (xs : List ℕ). volume xs ≤ 2 ^ 48) (sym few) (at_most n (volume lengths) counts.0 small);
      inside = subst (λ (xs : List ℤ). Within xs (rest (n ∷ lengths)) (rest (x ∷ at))) (sym (rest_is l low))
          (subst (λ (xs : List ℕ). Within low xs (rest (x ∷ at))) (sym few) (subst (λ (xs : List ℤ). Within low lengths xs) (sym (rest_is x at)) t.rest));
      rows = at_most_rows n (volume lengths) (some lengths counts.1) small;
      at_least = t.low;
      below = t.high;
      whole = ap (λ (xs : List ℕ). n * volume xs) few;
    }

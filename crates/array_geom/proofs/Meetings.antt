-- Whether the core of a chunk has a place of an area, dimension by dimension.
use Rattle.std.proofs.Common.{◌≡◌, ◌-◌, ◌≤◌, ◌<◌, ℕ, ℤ, true, false, Bool, ◌&&◌, List, [], ◌∷◌, length, take, drop, get_or, refl, sym, ◌∙◌, ap, arith, rules}
use Rattle.std.specs.Bool.{◌==◌}
use Rattle.std.specs.Prelude.{int_le, pos}
use Rattle.std.specs.Int.{int_min, int_max}
use Rattle.array_rows.specs.Dimension.{Dimension}
use Rattle.array_rows.specs.Boxes.{by_pairs}
use Rattle.array_geom.specs.Areas.{are_ordered}
use Rattle.array_geom.specs.Geometry.{first_in, last_in}
use Rattle.array_geom.proofs.Fronts.{rest, rest_is}

abbrev pub area_meets : List Dimension → List ℕ → List ℤ → List ℤ → Bool
area_meets dims chunk lo hi = are_ordered (by_pairs int_max (by_pairs first_in dims chunk) lo) (by_pairs int_min (by_pairs (λ d n. int_min d.hi (last_in d n)) dims chunk) hi)

pub meets_nowhere : (dims : List Dimension) (chunk : List ℕ) (lo hi : List ℤ) → length chunk < 1 → true ≡ area_meets dims chunk lo hi
meets_nowhere [] chunk lo hi none = refl
meets_nowhere (d ∷ dims) [] lo hi none = refl
meets_nowhere (d ∷ dims) (k ∷ chunk) lo hi none = absurd (omega (arith, none))

pub meets_no_low : (dims : List Dimension) (chunk : List ℕ) (lo hi : List ℤ) → 1 ≤ length dims → 1 ≤ length chunk → length lo < 1 → (length hi == 0) ≡ area_meets dims chunk lo hi
meets_no_low [] chunk lo hi some _ _ = absurd (omega (arith, some))
meets_no_low (d ∷ dims) [] lo hi _ some _ = absurd (omega (arith, some))
meets_no_low (d ∷ dims) (k ∷ chunk) [] [] _ _ _ = refl
meets_no_low (d ∷ dims) (k ∷ chunk) [] (h ∷ hi) _ _ _ = search rules
meets_no_low (d ∷ dims) (k ∷ chunk) (l ∷ lo) hi _ _ none = absurd (omega (arith, none))

pub meets_no_high : (dims : List Dimension) (chunk : List ℕ) (lo hi : List ℤ) → 1 ≤ length dims → 1 ≤ length chunk → 1 ≤ length lo → length hi < 1 → false ≡ area_meets dims chunk lo hi
meets_no_high [] chunk lo hi some _ _ _ = absurd (omega (arith, some))
meets_no_high (d ∷ dims) [] lo hi _ some _ _ = absurd (omega (arith, some))
meets_no_high (d ∷ dims) (k ∷ chunk) [] hi _ _ some _ = absurd (omega (arith, some))
meets_no_high (d ∷ dims) (k ∷ chunk) (l ∷ lo) [] _ _ _ _ = refl
meets_no_high (d ∷ dims) (k ∷ chunk) (l ∷ lo) (h ∷ hi) _ _ _ none = absurd (omega (arith, none))

abbrev meets_here : Dimension → ℕ → ℤ → ℤ → Bool
meets_here d k l h = int_le (int_max (first_in d k) l) (int_min (int_min d.hi (last_in d k)) h)

module _ (d : Dimension) where
  step : (dims : List Dimension) (chunk : List ℕ) (lo hi : List ℤ) → 1 ≤ length dims → 1 ≤ length chunk → 1 ≤ length lo → 1 ≤ length hi → d ≡ get_or dims 0 d
      → area_meets dims chunk lo hi ≡ (meets_here d (get_or chunk 0 0) (get_or lo 0 (pos 0)) (get_or hi 0 (pos 0)) && area_meets (rest dims) (rest chunk) (rest lo) (rest hi))
  step [] chunk lo hi some _ _ _ _ = absurd (omega (arith, some))
  step (e ∷ dims) [] lo hi _ some _ _ _ = absurd (omega (arith, some))
  step (e ∷ dims) (k ∷ chunk) [] hi _ _ some _ _ = absurd (omega (arith, some))
  step (e ∷ dims) (k ∷ chunk) (l ∷ lo) [] _ _ _ some _ = absurd (omega (arith, some))
  step (e ∷ dims) (k ∷ chunk) (l ∷ lo) (h ∷ hi) _ _ _ _ first =
      ap (λ (x : Dimension). meets_here x k l h && area_meets dims chunk lo hi) (sym first)
      ∙ sym (ap (λ (x : List Dimension). meets_here d k l h && area_meets x (rest (k ∷ chunk)) (rest (l ∷ lo)) (rest (h ∷ hi))) (rest_is e dims)
      ∙ ap (λ (x : List ℕ). meets_here d k l h && area_meets dims x (rest (l ∷ lo)) (rest (h ∷ hi))) (rest_is k chunk)
      ∙ ap (λ (x : List ℤ). meets_here d k l h && area_meets dims chunk x (rest (h ∷ hi))) (rest_is l lo)
      ∙ ap (λ (x : List ℤ). meets_here d k l h && area_meets dims chunk lo x) (rest_is h hi))

  pub meets_on : (dims : List Dimension) (chunk : List ℕ) (lo hi : List ℤ) (side more : Bool) → 1 ≤ length dims → 1 ≤ length chunk → 1 ≤ length lo → 1 ≤ length hi → d ≡ get_or dims 0 d
      → side ≡ int_le (int_max (first_in d (get_or chunk 0 0)) (get_or lo 0 (pos 0))) (int_min (int_min d.hi (last_in d (get_or chunk 0 0))) (get_or hi 0 (pos 0))) → side ≡ true
      → more ≡ area_meets (take (length dims - 1) (drop 1 dims)) (take (length chunk - 1) (drop 1 chunk)) (take (length lo - 1) (drop 1 lo)) (take (length hi - 1) (drop 1 hi))
      → more ≡ area_meets dims chunk lo hi
  meets_on dims chunk lo hi side more dims_some chunk_some lo_some hi_some first is holds same =
      same ∙ sym (step dims chunk lo hi dims_some chunk_some lo_some hi_some first ∙ ap (λ (b : Bool). b && area_meets (rest dims) (rest chunk) (rest lo) (rest hi)) (sym is ∙ holds))

  pub meets_off : (dims : List Dimension) (chunk : List ℕ) (lo hi : List ℤ) (side : Bool) → 1 ≤ length dims → 1 ≤ length chunk → 1 ≤ length lo → 1 ≤ length hi → d ≡ get_or dims 0 d
      → side ≡ int_le (int_max (first_in d (get_or chunk 0 0)) (get_or lo 0 (pos 0))) (int_min (int_min d.hi (last_in d (get_or chunk 0 0))) (get_or hi 0 (pos 0))) → side ≡ false
      → false ≡ area_meets dims chunk lo hi
  meets_off dims chunk lo hi side dims_some chunk_some lo_some hi_some first is fails =
      sym (step dims chunk lo hi dims_some chunk_some lo_some hi_some first ∙ ap (λ (b : Bool). b && area_meets (rest dims) (rest chunk) (rest lo) (rest hi)) (sym is ∙ fails))

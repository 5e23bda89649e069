-- Numbered cells in chunks.
use Rattle.std.proofs.Common.{◌≡◌, ℕ, suc, ◌+◌, ◌*◌, ◌-◌, ◌<◌, ◌≤◌, ◌/◌, ℤ, pos, ◌+ℤ◌, ◌-ℤ◌, ◌<ℤ◌, ◌&&◌, ◌⊎◌, inl, inr, int_le, Bool, true, false, cond, List, [], ◌∷◌, ◌++◌, length, refl, sym, ap, ◌∙◌, arith}
use Rattle.std.proofs.lemmas.Int.{ints}
use Rattle.std.proofs.lemmas.List.{append-nil}
use Rattle.std.proofs.lemmas.List.Elements.{filter-append}
use Rattle.std.specs.Int.{int_min}
use Rattle.cell_values.specs.declared.datum.Cell.{Cell}
use Rattle.cell_values.specs.declared.datum.Row.{Row}
use Rattle.cell_values.specs.declared.schema.Dimension.{Dimension}
use Rattle.array_rows.specs.Boxes.{is_inside, within}
use Rattle.array_rows.specs.Rows.{Coordinate, placed, rows_where}
use Rattle.array_geom.specs.Geometry.{coordinate_in, core, first_in, frame, frame_lengths, frame_low, last_in}
use Rattle.array_geom.specs.Link.{rows_in}
use Rattle.array_geom.proofs.TestLaws.{and_both, le_from_test, le_test}
use Rattle.array_parts.proofs.Lists.{rows_in-more}
use Rattle.logical_plan.specs.Ordered.{numbered}
use Rattle.logical_plan.specs.ShapeSchemas.{counting}

-- ---- numbered cells

pub numbered-append : (n : ℕ) (xs ys : List Cell) → numbered n (xs ++ ys) ≡ numbered n xs ++ numbered (n + length xs) ys
numbered-append n [] ys = ap (λ m. numbered m ys) (omega arith)
numbered-append n (x ∷ xs) ys =
    let same : (n + 1) + length xs ≡ n + suc (length xs) = omega arith in
    ap (λ (rows : List Row). placed (pos n ∷ []) x ∷ rows) (numbered-append (n + 1) xs ys ∙ ap (λ m. numbered (n + 1) xs ++ numbered m ys) same)

all_pass : (test : Coordinate → Bool) (n : ℕ) (xs : List Cell) → ((m : ℕ) → n ≤ m → m < n + length xs → test (pos m ∷ []) ≡ true) → rows_where test (numbered n xs) ≡ numbered n xs
all_pass test n [] h = refl
all_pass test n (x ∷ xs) h =
    ap (λ (b : Bool). cond b (placed (pos n ∷ []) x ∷ rows_where test (numbered (n + 1) xs)) (rows_where test (numbered (n + 1) xs))) (h n (omega arith) (omega arith))
    ∙ ap (λ (rows : List Row). placed (pos n ∷ []) x ∷ rows) (all_pass test (n + 1) xs (λ m l k. h m (omega (arith, l)) (omega (arith, k))))

pub none_pass : (test : Coordinate → Bool) (n : ℕ) (xs : List Cell) → ((m : ℕ) → n ≤ m → m < n + length xs → test (pos m ∷ []) ≡ false) → rows_where test (numbered n xs) ≡ []
none_pass test n [] h = refl
none_pass test n (x ∷ xs) h =
    ap (λ (b : Bool). cond b (placed (pos n ∷ []) x ∷ rows_where test (numbered (n + 1) xs)) (rows_where test (numbered (n + 1) xs))) (h n (omega arith) (omega arith))
    ∙ none_pass test (n + 1) xs (λ m l k. h m (omega (arith, l)) (omega (arith, k)))

not_le : (x y : ℤ) → y <ℤ x → int_le x y ≡ false
not_le x y l = cases (int_le x y) refl
  where
    cases : (b : Bool) → int_le x y ≡ b → int_le x y ≡ false
    cases false e = e
    cases true e = absurd (let h = le_from_test x y e in omega (arith, ints, l, h))

not_second : (a b : Bool) → b ≡ false → ((a && b) && true) ≡ false
not_second true b e = ap (λ (x : Bool). x && true) e
not_second false b e = refl

not_first : (a b : Bool) → a ≡ false → ((a && b) && true) ≡ false
not_first a b e = ap (λ (x : Bool). (x && b) && true) e

-- ---- chunks of 1000 numbers

module _ (name : List ℕ) where
  abbrev side : Dimension
  side = counting name

  abbrev box_test : ℕ → Coordinate → Bool
  box_test q = is_inside (frame (side ∷ []) (0 ∷ []) (q ∷ []))

  abbrev low_side : ℕ → ℤ
  low_side q = (pos 0 +ℤ pos (q * 1000)) -ℤ pos 0

  abbrev high_side : ℕ → ℤ
  high_side q = (pos 0 +ℤ pos (q * 1000 + (1000 - 1))) +ℤ pos 0

  frame_in : (q m : ℕ) → q * 1000 ≤ m → m < q * 1000 + 1000 → box_test q (pos m ∷ []) ≡ true
  frame_in q m l h =
      and_both (int_le (low_side q) (pos m) && int_le (pos m) (high_side q)) true
      (and_both (int_le (low_side q) (pos m)) (int_le (pos m) (high_side q)) (le_test (low_side q) (pos m) (omega (arith, ints, l))) (le_test (pos m) (high_side q) (omega (arith, ints, h)))) refl

  frame_below : (q m : ℕ) → m < q * 1000 → box_test q (pos m ∷ []) ≡ false
  frame_below q m l = not_first (int_le (low_side q) (pos m)) (int_le (pos m) (high_side q)) (not_le (low_side q) (pos m) (omega (arith, ints, l)))

  frame_above : (q m : ℕ) → q * 1000 + 1000 ≤ m → box_test q (pos m ∷ []) ≡ false
  frame_above q m l = not_second (int_le (low_side q) (pos m)) (int_le (pos m) (high_side q)) (not_le (pos m) (high_side q) (omega (arith, ints, l)))

  pub core_below : (q m : ℕ) → m < q * 1000 → is_inside (core (side ∷ []) (q ∷ [])) (pos m ∷ []) ≡ false
  core_below q m l =
      not_first (int_le (first_in side q) (pos m)) (int_le (pos m) (int_min side.hi (last_in side q))) (not_le (first_in side q) (pos m) (omega (arith, ints, l)))

  pub within_frame : (q : ℕ) (a b c : List Cell) → length a ≡ q * 1000 → length b ≤ 1000 → (length b ≡ 1000) ⊎ (c ≡ [])
      → within (frame (side ∷ []) (0 ∷ []) (q ∷ [])) (numbered 0 (a ++ (b ++ c))) ≡ numbered (q * 1000) b
  within_frame q a b c la lb full =
      let box = frame (side ∷ []) (0 ∷ []) (q ∷ []) in
      let cut : numbered 0 (a ++ (b ++ c)) ≡ numbered 0 a ++ (numbered (q * 1000) b ++ numbered (q * 1000 + length b) c) =
      numbered-append 0 a (b ++ c) ∙ ap (λ m. numbered 0 a ++ numbered m (b ++ c)) (omega (arith, la)) ∙ ap (λ (rows : List Row). numbered 0 a ++ rows) (numbered-append (q * 1000) b c) in
      let first : within box (numbered 0 a) ≡ [] = none_pass (box_test q) 0 a (λ m l k. frame_below q m (omega (arith, k, la))) in
      let own : within box (numbered (q * 1000) b) ≡ numbered (q * 1000) b = all_pass (box_test q) (q * 1000) b (λ m l k. frame_in q m l (omega (arith, k, lb))) in
      let last : within box (numbered (q * 1000 + length b) c) ≡ [] = later full in
      ap (within box) cut ∙ filter-append (λ (row : Row). box_test q row.at.items) (numbered 0 a) (numbered (q * 1000) b ++ numbered (q * 1000 + length b) c)
      ∙ (λ i. first i ++ filter-append (λ (row : Row). box_test q row.at.items) (numbered (q * 1000) b) (numbered (q * 1000 + length b) c) i)
      ∙ (λ i. own i ++ last i) ∙ append-nil (numbered (q * 1000) b)
    where
      later : (length b ≡ 1000) ⊎ (c ≡ []) → within (frame (side ∷ []) (0 ∷ []) (q ∷ [])) (numbered (q * 1000 + length b) c) ≡ []
      later (inl e) = none_pass (box_test q) (q * 1000 + length b) c (λ m l k. frame_above q m (omega (arith, l, e)))
      later (inr e) = ap (λ (cells : List Cell). within (frame (side ∷ []) (0 ∷ []) (q ∷ [])) (numbered (q * 1000 + length b) cells)) e

  -- ---- filled place by place

  module _ (dims : List Dimension) (margins : List ℕ) (e : dims ≡ side ∷ []) (m : margins ≡ 0 ∷ []) where
    place_is : (q k : ℕ) → coordinate_in (frame_low dims margins (q ∷ [])) (frame_lengths dims margins) k ≡ pos (q * 1000 + k) ∷ []
    place_is q k =
        (λ i. coordinate_in (frame_low (e i) (m i) (q ∷ [])) (frame_lengths (e i) (m i)) k)
        ∙ ap (λ (z : ℤ). z ∷ []) (ap (λ (n : ℕ). ((pos 0 +ℤ pos (q * 1000)) -ℤ pos 0) +ℤ pos n) (one_by_one k) ∙ number)
      where
        one_by_one : (n : ℕ) → n / 1 ≡ n
        one_by_one n = grind arith

        number : (((pos 0 +ℤ pos (q * 1000)) -ℤ pos 0) +ℤ pos k) ≡ pos (q * 1000 + k)
        number = omega (arith, ints)

    pub one_numbered_place : (q k : ℕ) (positions positions' : List ℕ) (cells cells' some more : List Cell) (x : Cell) → positions' ≡ positions ++ k ∷ [] → cells' ≡ cells ++ x ∷ [] → more ≡ some ++ x ∷ [] → length some ≡ k → length positions ≡ k
        → length cells ≡ k → rows_in (frame_low dims margins (q ∷ [])) (frame_lengths dims margins) positions cells ≡ numbered (q * 1000) some
        → rows_in (frame_low dims margins (q ∷ [])) (frame_lengths dims margins) positions' cells' ≡ numbered (q * 1000) more
    one_numbered_place q k positions positions' cells cells' some more x p c s long lp lc h =
        let low = frame_low dims margins (q ∷ []) in
        let lengths = frame_lengths dims margins in
        (λ i. rows_in low lengths (p i) (c i)) ∙ rows_in-more low lengths positions cells k x (lc ∙ sym lp)
        ∙ (λ i. h i ++ placed (place_is q k i) x ∷ [])
        ∙ ap (λ (n : ℕ). numbered (q * 1000) some ++ placed (pos n ∷ []) x ∷ []) (ap (λ (n : ℕ). q * 1000 + n) (sym long))
        ∙ sym (numbered-append (q * 1000) some (x ∷ [])) ∙ ap (numbered (q * 1000)) (sym s)

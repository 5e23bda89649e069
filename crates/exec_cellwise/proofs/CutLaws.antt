-- The coordinates of a box that lie in another one.
use Rattle.std.proofs.Common.{◌≡◌, ℕ, zero, suc, ◌+◌, ℤ, pos, ◌+ℤ◌, ◌-ℤ◌, ◌≤ℤ◌, ◌<ℤ◌, Bool, true, false, cond, List, [], ◌∷◌, ◌++◌, map, length, refl, sym, ap, ◌∙◌, arith}
use Rattle.std.specs.Prelude.{◌&&◌, int_le, unsigned_abs, filter}
use Rattle.std.specs.Int.{int_min, int_max}
use Rattle.std.specs.List.{flat_map}
use Rattle.std.proofs.lemmas.Int.{ints, clamps}
use Rattle.std.proofs.lemmas.List.Elements.{filter-append}
use Rattle.array_rows.specs.Rows.{Coordinate}
use Rattle.array_rows.specs.Boxes.{is_between, by_pairs}
use Rattle.array_geom.proofs.TestLaws.{le_from_test}
use Rattle.logical_plan.specs.Meaning.{count_from, how_many}
use Rattle.exec_cellwise.specs.Inner.Walks.{coordinates_between}

-- ---- ranges of numbers

abbrev span : ℤ → ℤ → List ℤ
span l h = count_from l (how_many l h)

not_le : (a b : ℤ) → b <ℤ a → int_le a b ≡ false
not_le a b h = grind (arith, ints)

from_not : (a b : ℤ) → int_le a b ≡ false → b <ℤ a
from_not a b h = grind (arith, ints)

span_none : (l h : ℤ) → h <ℤ l → span l h ≡ []
span_none l h e = ap (λ (t : Bool). count_from l (cond t (unsigned_abs (h -ℤ l) + 1) 0)) (not_le l h e)

one_more : (l h : ℤ) → l ≤ℤ h → how_many l h ≡ suc (how_many (l +ℤ pos 1) h)
one_more l h e = cases (int_le l h) (int_le (l +ℤ pos 1) h) refl refl
  where
    cases : (t u : Bool) → int_le l h ≡ t → int_le (l +ℤ pos 1) h ≡ u → cond t (unsigned_abs (h -ℤ l) + 1) 0 ≡ suc (cond u (unsigned_abs (h -ℤ (l +ℤ pos 1)) + 1) 0)
    cases false u f g = let n = from_not l h f in absurd (omega (arith, ints))
    cases true false f g = let n = from_not (l +ℤ pos 1) h g in omega (arith, ints)
    cases true true f g = let n = le_from_test (l +ℤ pos 1) h g in omega (arith, ints)

span_step : (l h : ℤ) → l ≤ℤ h → span l h ≡ l ∷ span (l +ℤ pos 1) h
span_step l h e = ap (count_from l) (one_more l h e)

abbrev is_in : ℤ → ℤ → ℤ → Bool
is_in a b x = int_le a x && int_le x b

and_no : (p : Bool) → (p && false) ≡ false
and_no true = refl
and_no false = refl

none_in : (a b lo : ℤ) (n : ℕ) → b <ℤ lo → filter (is_in a b) (count_from lo n) ≡ []
none_in a b lo zero h = refl
none_in a b lo (suc n) h =
    let rest = filter (is_in a b) (count_from (lo +ℤ pos 1) n) in
    ap (λ (t : Bool). cond (int_le a lo && t) (lo ∷ rest) rest) (not_le lo b h)
    ∙ ap (λ (t : Bool). cond t (lo ∷ rest) rest) (and_no (int_le a lo))
    ∙ none_in a b (lo +ℤ pos 1) n (omega (arith, ints))

cut_count : (a b lo hi : ℤ) (n : ℕ) → (hi +ℤ pos 1) ≡ (lo +ℤ pos n) → filter (is_in a b) (count_from lo n) ≡ span (int_max a lo) (int_min b hi)
cut_count a b lo hi zero e = sym (span_none (int_max a lo) (int_min b hi) (omega (arith, ints, clamps)))
cut_count a b lo hi (suc n) e = cases (filter (is_in a b) (count_from (lo +ℤ pos 1) n)) (int_le a lo) (int_le lo b) refl refl (cut_count a b (lo +ℤ pos 1) hi n (omega (arith, ints))) (λ h. none_in a b (lo +ℤ pos 1) n h)
  where
    cases : (rest : List ℤ) (t u : Bool) → int_le a lo ≡ t → int_le lo b ≡ u → rest ≡ span (int_max a (lo +ℤ pos 1)) (int_min b hi) → (b <ℤ (lo +ℤ pos 1) → rest ≡ []) → cond (t && u) (lo ∷ rest) rest ≡ span (int_max a lo) (int_min b hi)
    cases rest false u f g more none =
        let h = from_not a lo f in
        let same : int_max a (lo +ℤ pos 1) ≡ int_max a lo = omega (arith, ints, clamps) in
        more ∙ ap (λ (x : ℤ). span x (int_min b hi)) same
    cases rest true false f g more none =
        let h = from_not lo b g in
        none (omega (arith, ints)) ∙ sym (span_none (int_max a lo) (int_min b hi) (omega (arith, ints, clamps)))
    cases rest true true f g more none =
        let h = le_from_test a lo f in
        let k = le_from_test lo b g in
        let first : int_max a lo ≡ lo = omega (arith, ints, clamps) in
        let second : int_max a (lo +ℤ pos 1) ≡ lo +ℤ pos 1 = omega (arith, ints, clamps) in
        ap (λ (l : List ℤ). lo ∷ l) (more ∙ ap (λ (x : ℤ). span x (int_min b hi)) second)
        ∙ sym (span_step lo (int_min b hi) (omega (arith, ints, clamps)))
        ∙ ap (λ (x : ℤ). span x (int_min b hi)) (sym first)

cut_span : (a b l h : ℤ) → filter (is_in a b) (span l h) ≡ span (int_max a l) (int_min b h)
cut_span a b l h = cases (int_le l h) refl
  where
    cases : (t : Bool) → int_le l h ≡ t → filter (is_in a b) (count_from l (cond t (unsigned_abs (h -ℤ l) + 1) 0)) ≡ span (int_max a l) (int_min b h)
    cases false f = let n = from_not l h f in sym (span_none (int_max a l) (int_min b h) (omega (arith, ints, clamps)))
    cases true f = let n = le_from_test l h f in cut_count a b l h (unsigned_abs (h -ℤ l) + 1) (omega (arith, ints))

-- ---- boxes

abbrev before : ℤ → List Coordinate → List Coordinate
before x cs = map (λ c. x ∷ c) cs

module _ (a b : ℤ) (lo hi : List ℤ) where
  abbrev whole : Coordinate → Bool
  whole = is_between (a ∷ lo) (b ∷ hi)

  keep_one : (t : Bool) (x : ℤ) (c : Coordinate) (cs : List Coordinate) → cond t ((x ∷ c) ∷ before x cs) (before x cs) ≡ before x (cond t (c ∷ cs) cs)
  keep_one true x c cs = refl
  keep_one false x c cs = refl

  filter_keep : (x : ℤ) (cs : List Coordinate) → is_in a b x ≡ true → filter whole (before x cs) ≡ before x (filter (is_between lo hi) cs)
  filter_keep x [] e = refl
  filter_keep x (c ∷ cs) e =
      let rest = filter whole (before x cs) in
      ap (λ (t : Bool). cond t ((x ∷ c) ∷ rest) rest) (kept (int_le a x) (int_le x b) (is_between lo hi c) e)
      ∙ ap (λ (l : List Coordinate). cond (is_between lo hi c) ((x ∷ c) ∷ l) l) (filter_keep x cs e)
      ∙ keep_one (is_between lo hi c) x c (filter (is_between lo hi) cs)
    where
      kept : (p q r : Bool) → (p && q) ≡ true → (p && q && r) ≡ r
      kept true true r e = refl
      kept true false r e = cc
      kept false q r e = cc

  filter_drop : (x : ℤ) (cs : List Coordinate) → is_in a b x ≡ false → filter whole (before x cs) ≡ []
  filter_drop x [] e = refl
  filter_drop x (c ∷ cs) e =
      let rest = filter whole (before x cs) in
      ap (λ (t : Bool). cond t ((x ∷ c) ∷ rest) rest) (dropped (int_le a x) (int_le x b) (is_between lo hi c) e) ∙ filter_drop x cs e
    where
      dropped : (p q r : Bool) → (p && q) ≡ false → (p && q && r) ≡ false
      dropped true true r e = cc
      dropped true false r e = refl
      dropped false q r e = refl

  cut_first : (cs : List Coordinate) (xs : List ℤ) → filter whole (flat_map (λ x. before x cs) xs) ≡ flat_map (λ x. before x (filter (is_between lo hi) cs)) (filter (is_in a b) xs)
  cut_first cs [] = refl
  cut_first cs (x ∷ xs) = filter-append whole (before x cs) (flat_map (λ y. before y cs) xs) ∙ cut_more cs x xs (is_in a b x) refl (cut_first cs xs)
    where
      cut_more : (cs : List Coordinate) (x : ℤ) (xs : List ℤ) (t : Bool) → is_in a b x ≡ t → filter whole (flat_map (λ y. before y cs) xs) ≡ flat_map (λ y. before y (filter (is_between lo hi) cs)) (filter (is_in a b) xs)
          → filter whole (before x cs) ++ filter whole (flat_map (λ y. before y cs) xs) ≡ flat_map (λ y. before y (filter (is_between lo hi) cs)) (cond t (x ∷ filter (is_in a b) xs) (filter (is_in a b) xs))
      cut_more cs x xs true e more = ap (λ (l : List Coordinate). l ++ filter whole (flat_map (λ y. before y cs) xs)) (filter_keep x cs e) ∙ ap (λ (l : List Coordinate). before x (filter (is_between lo hi) cs) ++ l) more
      cut_more cs x xs false e more = ap (λ (l : List Coordinate). l ++ filter whole (flat_map (λ y. before y cs) xs)) (filter_drop x cs e) ∙ more

-- the coordinates of a box that lie between other corners are those of the box that they share
pub cut_box : (a b lo hi : List ℤ) → length a ≡ length lo → length b ≡ length lo → length hi ≡ length lo → filter (is_between a b) (coordinates_between lo hi) ≡ coordinates_between (by_pairs int_max a lo) (by_pairs int_min b hi)
cut_box [] [] [] [] e f g = refl
cut_box (x ∷ a) (y ∷ b) (l ∷ lo) (h ∷ hi) e f g =
    cut_first x y a b (coordinates_between lo hi) (span l h)
    ∙ ap (λ (cs : List Coordinate). flat_map (λ z. before z cs) (filter (is_in x y) (span l h))) (cut_box a b lo hi (omega arith) (omega arith) (omega arith))
    ∙ ap (flat_map (λ z. before z (coordinates_between (by_pairs int_max a lo) (by_pairs int_min b hi)))) (cut_span x y l h)
cut_box (x ∷ a) b [] hi e f g = absurd (omega arith)
cut_box [] b (l ∷ lo) hi e f g = absurd (omega arith)
cut_box [] (y ∷ b) [] hi e f g = absurd (omega arith)
cut_box [] [] [] (h ∷ hi) e f g = absurd (omega arith)
cut_box (x ∷ a) [] (l ∷ lo) hi e f g = absurd (omega arith)
cut_box (x ∷ a) (y ∷ b) (l ∷ lo) [] e f g = absurd (omega arith)

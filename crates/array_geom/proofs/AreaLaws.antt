-- What the box that two share holds, and a box that is moved.
use Rattle.std.proofs.Common.{◌≡◌, ℤ, ◌+ℤ◌, Bool, true, false, ◌&&◌, List, [], ◌∷◌, length, refl, sym, ap, ◌∙◌, arith}
use Rattle.std.specs.Prelude.{int_le}
use Rattle.std.specs.Int.{int_min, int_max}
use Rattle.std.proofs.lemmas.Int.{ints, clamps}
use Rattle.array_rows.specs.Rows.{Coordinate}
use Rattle.array_rows.specs.Boxes.{is_between, by_pairs}
use Rattle.array_geom.specs.Areas.{moved_by}
use Rattle.array_geom.proofs.TestLaws.{and_parts, and_both, le_test, le_from_test}

same_test : (a b : Bool) → (a ≡ true → b ≡ true) → (b ≡ true → a ≡ true) → a ≡ b
same_test true b f g = sym (f refl)
same_test false true f g = g refl
same_test false false f g = refl

above_both : (l m x : ℤ) → int_le (int_max l m) x ≡ (int_le l x && int_le m x)
above_both l m x =
    same_test _ _ (λ e. let f = le_from_test (int_max l m) x e in and_both _ _ (le_test l x (omega (arith, ints, clamps))) (le_test m x (omega (arith, ints, clamps))))
    (λ e. let f = and_parts _ _ e in let g = le_from_test l x f.0 in let h = le_from_test m x f.1 in le_test (int_max l m) x (omega (arith, ints, clamps)))

below_both : (h i x : ℤ) → int_le x (int_min h i) ≡ (int_le x h && int_le x i)
below_both h i x =
    same_test _ _ (λ e. let f = le_from_test x (int_min h i) e in and_both _ _ (le_test x h (omega (arith, ints, clamps))) (le_test x i (omega (arith, ints, clamps))))
    (λ e. let f = and_parts _ _ e in let g = le_from_test x h f.0 in let k = le_from_test x i f.1 in le_test x (int_min h i) (omega (arith, ints, clamps)))

and_false : (a : Bool) → (a && false) ≡ false
and_false true = refl
and_false false = refl

regroup : (a b c d r s : Bool) → ((a && b) && (c && d) && (r && s)) ≡ ((a && c && r) && (b && d && s))
regroup false b c d r s = refl
regroup true false c d r s = sym (and_false (c && r))
regroup true true false d r s = refl
regroup true true true false r s = sym (and_false r)
regroup true true true true r s = refl

pub held_by_both : (lo hi lo' hi' : List ℤ) (c : Coordinate) → length lo ≡ length c → length hi ≡ length c → length lo' ≡ length c → length hi' ≡ length c
    → is_between (by_pairs int_max lo lo') (by_pairs int_min hi hi') c ≡ (is_between lo hi c && is_between lo' hi' c)
held_by_both [] [] [] [] [] a b d e = refl
held_by_both (l ∷ lo) (h ∷ hi) (m ∷ lo') (i ∷ hi') (x ∷ c) a b d e =
    ap (λ (t : Bool). t && int_le x (int_min h i) && is_between (by_pairs int_max lo lo') (by_pairs int_min hi hi') c) (above_both l m x)
    ∙ ap (λ (t : Bool). (int_le l x && int_le m x) && t && is_between (by_pairs int_max lo lo') (by_pairs int_min hi hi') c) (below_both h i x)
    ∙ ap (λ (t : Bool). (int_le l x && int_le m x) && (int_le x h && int_le x i) && t) (held_by_both lo hi lo' hi' c (omega arith) (omega arith) (omega arith) (omega arith))
    ∙ regroup (int_le l x) (int_le m x) (int_le x h) (int_le x i) (is_between lo hi c) (is_between lo' hi' c)
held_by_both lo hi lo' hi' [] a b d e = absurd (omega arith)
held_by_both [] hi lo' hi' (x ∷ c) a b d e = absurd (omega arith)
held_by_both (l ∷ lo) [] lo' hi' (x ∷ c) a b d e = absurd (omega arith)
held_by_both (l ∷ lo) (h ∷ hi) [] hi' (x ∷ c) a b d e = absurd (omega arith)
held_by_both (l ∷ lo) (h ∷ hi) (m ∷ lo') [] (x ∷ c) a b d e = absurd (omega arith)

moved_test : (a b n : ℤ) → int_le (a +ℤ n) (b +ℤ n) ≡ int_le a b
moved_test a b n = same_test _ _ (λ e. let f = le_from_test (a +ℤ n) (b +ℤ n) e in le_test a b (omega (arith, ints))) (λ e. let f = le_from_test a b e in le_test (a +ℤ n) (b +ℤ n) (omega (arith, ints)))

pub held_moved : (lo hi by : List ℤ) (c : Coordinate) → length lo ≡ length c → length hi ≡ length c → length by ≡ length c
    → is_between (moved_by by lo) (moved_by by hi) (moved_by by c) ≡ is_between lo hi c
held_moved [] [] [] [] a b d = refl
held_moved (l ∷ lo) (h ∷ hi) (n ∷ by) (x ∷ c) a b d =
    ap (λ (t : Bool). t && int_le (x +ℤ n) (h +ℤ n) && is_between (moved_by by lo) (moved_by by hi) (moved_by by c)) (moved_test l x n)
    ∙ ap (λ (t : Bool). int_le l x && t && is_between (moved_by by lo) (moved_by by hi) (moved_by by c)) (moved_test x h n)
    ∙ ap (λ (t : Bool). int_le l x && int_le x h && t) (held_moved lo hi by c (omega arith) (omega arith) (omega arith))
held_moved lo hi by [] a b d = absurd (omega arith)
held_moved [] hi by (x ∷ c) a b d = absurd (omega arith)
held_moved (l ∷ lo) [] by (x ∷ c) a b d = absurd (omega arith)
held_moved (l ∷ lo) (h ∷ hi) [] (x ∷ c) a b d = absurd (omega arith)

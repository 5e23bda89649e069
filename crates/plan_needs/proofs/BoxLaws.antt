-- Boxes, and a box that two boxes share.
use Rattle.std.proofs.Common.{◌≡◌, suc, ℤ, Bool, true, false, List, [], ◌∷◌, length, filter, cond, refl, sym, ap, ◌∙◌, arith}
use Rattle.std.specs.Prelude.{◌&&◌, ◌==◌, int_le, IsTrue, Option, Result, Ok, Err}
use Rattle.std.specs.Int.{int_max, int_min}
use Rattle.std.proofs.lemmas.Bool.{eqb-true}
use Rattle.cell_values.specs.declared.datum.Broken.{Broken}
use Rattle.cell_values.specs.declared.datum.Cell.{Cell}
use Rattle.cell_values.specs.declared.datum.Row.{Row}
use Rattle.cell_values.specs.declared.schema.Bounds.{Bounds}
use Rattle.cell_values.specs.declared.schema.Schema.{Schema}
use Rattle.array_rows.specs.Boxes.{by_pairs, corners, is_between, is_inside, within, meet}
use Rattle.array_rows.specs.Cellwise.{cell_wise}
use Rattle.array_rows.specs.Rows.{Coordinate}
use Rattle.array_rows.proofs.RowsLemmas.{within-cell_wise}
use Rattle.array_geom.proofs.LawProofs.{meet_holds_both}
use Rattle.array_geom.proofs.TestLaws.{and_parts}
use Rattle.logical_plan.specs.Faults.{if_whole}
use Rattle.logical_plan.specs.Typing.{is_box_of}

-- a box and a change cell by cell, in either order
pub swapped : (area : Bounds) (change : Coordinate → Cell → Option Cell) (r : Result (List Row) Broken) → if_whole (cell_wise change) (if_whole (within area) r) ≡ if_whole (within area) (if_whole (cell_wise change) r)
swapped area change (Ok rows) = ap (λ (x : List Row). Ok x) (sym (within-cell_wise area change rows))
swapped area change (Err broken) = refl

and_true : (a : Bool) → (a && true) ≡ a
and_true true = refl
and_true false = refl

and_false : (a : Bool) → (a && false) ≡ false
and_false true = refl
and_false false = refl

-- a filter after another one
filtered_twice : {A : Type 0} (p q r : A → Bool) → ((x : A) → r x ≡ (p x && q x)) → (xs : List A) → filter r xs ≡ filter p (filter q xs)
filtered_twice p q r same [] = refl
filtered_twice {A = A} p q r same (x ∷ xs) =
    ap (λ (b : Bool). cond b (x ∷ filter r xs) (filter r xs)) (same x)
    ∙ ap (λ (ys : List A). cond (p x && q x) (x ∷ ys) ys) (filtered_twice p q r same xs)
    ∙ by_second (q x) (filter q xs)
  where
    by_second : (b : Bool) (ys : List A) → cond (p x && b) (x ∷ filter p ys) (filter p ys) ≡ filter p (cond b (x ∷ ys) ys)
    by_second true ys = ap (λ (b : Bool). cond b (x ∷ filter p ys) (filter p ys)) (and_true (p x))
    by_second false ys = ap (λ (b : Bool). cond b (x ∷ filter p ys) (filter p ys)) (and_false (p x))

at_last : (a b r : Bool) → (a && b && r) ≡ ((a && b && true) && r)
at_last true true r = refl
at_last true false r = refl
at_last false b r = refl

regroup : (a b c d p q : Bool) → (((a && b && true) && (c && d && true)) && (p && q)) ≡ ((a && b && p) && (c && d && q))
regroup false b c d p q = refl
regroup true false c d p q = refl
regroup true true false d p q = sym (and_false p)
regroup true true true false p q = sym (and_false p)
regroup true true true true p q = refl

-- one dimension of the box that two share
one_side : (l h m k x : ℤ) → (int_le (int_max l m) x && int_le x (int_min h k) && true) ≡ ((int_le l x && int_le x h && true) && (int_le m x && int_le x k && true))
one_side l h m k x = meet_holds_both (corners (l ∷ []) (h ∷ [])) (corners (m ∷ []) (k ∷ [])) (x ∷ []) (refl, refl) (refl, refl)

pub held : (lo hi lo' hi' : List ℤ) (c : Coordinate) → length hi ≡ length lo → length lo' ≡ length lo → length hi' ≡ length lo
    → is_between (by_pairs int_max lo lo') (by_pairs int_min hi hi') c ≡ (is_between lo hi c && is_between lo' hi' c)
held [] [] [] [] [] a b d = refl
held [] [] [] [] (x ∷ c) a b d = refl
held (l ∷ lo) (h ∷ hi) (m ∷ lo') (k ∷ hi') [] a b d = refl
held (l ∷ lo) (h ∷ hi) (m ∷ lo') (k ∷ hi') (x ∷ c) a b d =
    at_last (int_le (int_max l m) x) (int_le x (int_min h k)) (is_between (by_pairs int_max lo lo') (by_pairs int_min hi hi') c)
    ∙ ap (λ (t : Bool). t && is_between (by_pairs int_max lo lo') (by_pairs int_min hi hi') c) (one_side l h m k x)
    ∙ ap (λ (t : Bool). ((int_le l x && int_le x h && true) && (int_le m x && int_le x k && true)) && t) (held lo hi lo' hi' c (omega arith) (omega arith) (omega arith))
    ∙ regroup (int_le l x) (int_le x h) (int_le m x) (int_le x k) (is_between lo hi c) (is_between lo' hi' c)
held [] (h ∷ hi) lo' hi' c a b d = absurd (omega arith)
held [] [] (m ∷ lo') hi' c a b d = absurd (omega arith)
held [] [] [] (k ∷ hi') c a b d = absurd (omega arith)
held (l ∷ lo) [] lo' hi' c a b d = absurd (omega arith)
held (l ∷ lo) (h ∷ hi) [] hi' c a b d = absurd (omega arith)
held (l ∷ lo) (h ∷ hi) (m ∷ lo') [] c a b d = absurd (omega arith)

-- boxes with a low and a high number for each dimension
pub box_lengths : (s : Schema) (area : Bounds) → IsTrue (is_box_of s area) → (length area.lo.items ≡ length s.dimensions) × (length area.hi.items ≡ length s.dimensions)
box_lengths s area t =
    let both = and_parts (length area.lo.items == length s.dimensions) (length area.hi.items == length s.dimensions) t in
    (eqb-true (length area.lo.items) (length s.dimensions) both.0, eqb-true (length area.hi.items) (length s.dimensions) both.1)

pub within_both : (s : Schema) (a b : Bounds) → IsTrue (is_box_of s a) → IsTrue (is_box_of s b) → (rows : List Row) → within (meet a b) rows ≡ within a (within b rows)
within_both s a b ta tb rows =
    let la = box_lengths s a ta in
    let lb = box_lengths s b tb in
    filtered_twice (λ (row : Row). is_inside a row.at.items) (λ (row : Row). is_inside b row.at.items) (λ (row : Row). is_inside (meet a b) row.at.items)
    (λ row. held a.lo.items a.hi.items b.lo.items b.hi.items row.at.items (la.1 ∙ sym la.0) (lb.0 ∙ sym la.0) (lb.1 ∙ sym la.0)) rows

pub length-by_pairs : {A B C : Type 0} (f : A → B → C) (xs : List A) (ys : List B) → length ys ≡ length xs → length (by_pairs f xs ys) ≡ length xs
length-by_pairs f [] ys e = refl
length-by_pairs f (x ∷ xs) [] e = absurd (omega arith)
length-by_pairs f (x ∷ xs) (y ∷ ys) e = ap suc (length-by_pairs f xs ys (omega arith))

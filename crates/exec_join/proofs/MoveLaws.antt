-- Joins of rising rows, head by head.
use Rattle.std.proofs.Common.{◌≡◌, ◌<◌, ◌↔◌, IsTrue, Bool, false, cond, List, [], ◌∷◌, ◌++◌, length, drop, Option, Some, refl, sym, ap, ◌∙◌, subst, append_assoc, arith}
use Rattle.std.proofs.lemmas.List.{append-nil}
use Rattle.std.specs.Option.{option_map}
use Rattle.std.specs.Ordering.{is_eq, ordering_reverse}
use Rattle.std.specs.declared.cmp.Ordering.{Ordering}
use Rattle.std.specs.declared.cmp.Ordering.TheVariants.{Less, Equal, Greater}
use Rattle.cell_values.specs.declared.datum.Cell.{Cell}
use Rattle.cell_values.specs.declared.datum.Row.{Row}
use Rattle.array_rows.specs.Cellwise.{put_first}
use Rattle.array_rows.specs.Rows.{Coordinate, row_major, IsBefore, IsRising, placed, cell_at}
use Rattle.array_rows.proofs.RowsLemmas.{row_major_total, row_major_exact, none_at_bound, IsBefore-trans, same_coordinate}
use Rattle.logical_plan.specs.Joins.{cell_beside, join_rows}
use Rattle.exec_join.specs.Inner.Beside.{AreMovedOn, IsMove, IsSamePlace}

-- the left row comes first: nothing stands beside it
left_first : (x : Row) (a : List Row) (y : Row) (b : List Row) → IsRising (y ∷ b) → row_major x.at.items y.at.items ≡ Less → join_rows (x ∷ a) (y ∷ b) ≡ join_rows a (y ∷ b)
left_first x a y b r l =
    ap (λ (o : Option Cell). put_first x.at.items (option_map (cell_beside x.cell) o) (join_rows a (y ∷ b)))
    (none_at_bound x.at.items (y ∷ b) (l, IsBefore-trans x.at.items y.at.items b l r.0))

-- a right row that comes before all left ones stands beside none
right_first : (y : Row) (b a : List Row) → IsBefore y.at.items a → join_rows a (y ∷ b) ≡ join_rows a b
right_first y b [] h = refl
right_first y b (x ∷ a) h =
    λ i. put_first x.at.items (option_map (cell_beside x.cell) (cond (is_eq (h.0 i)) (Some y.cell) (cell_at b x.at.items))) (right_first y b a h.1 i)

both_first : (x : Row) (a : List Row) (y : Row) (b : List Row) → IsRising (x ∷ a) → x.at.items ≡ y.at.items → join_rows (x ∷ a) (y ∷ b) ≡ placed x.at.items (cell_beside x.cell y.cell) ∷ join_rows a b
both_first x a y b r e =
    ap (λ (o : Ordering). put_first x.at.items (option_map (cell_beside x.cell) (cond (is_eq o) (Some y.cell) (cell_at b x.at.items))) (join_rows a (y ∷ b)))
    (ap (λ (c : Coordinate). row_major c x.at.items) (sym e) ∙ same_coordinate x.at.items)
    ∙ ap (λ (rows : List Row). placed x.at.items (cell_beside x.cell y.cell) ∷ rows) (right_first y b a (subst (λ (c : Coordinate). IsBefore c a) e r.0))

none_right : (a : List Row) → join_rows a [] ≡ []
none_right [] = refl
none_right (x ∷ a) = none_right a

-- ---- moves

pub left_moves : (made left left' right : List Row) (x y : Row) (a b : List Row) → left ≡ x ∷ a → right ≡ y ∷ b → row_major x.at.items y.at.items ≡ Less → left' ≡ drop 1 left → IsMove made left right made left' right
left_moves made left left' right x y a b l r e n = λ rl rr.
    let rx : IsRising (x ∷ a) = subst IsRising l rl in
    let ry : IsRising (y ∷ b) = subst IsRising r rr in
    let rest : left' ≡ a = n ∙ ap (drop 1) l in
    record {
      left_rises = subst IsRising (sym rest) rx.1;
      right_rises = rr;
      same = ap (λ (rows : List Row). made ++ rows) ((λ i. join_rows (rest i) (r i)) ∙ sym (left_first x a y b ry e) ∙ (λ i. join_rows (sym l i) (sym r i)));
    }

pub right_moves : (made left right right' : List Row) (x y : Row) (a b : List Row) → left ≡ x ∷ a → right ≡ y ∷ b → row_major x.at.items y.at.items ≡ Greater → right' ≡ drop 1 right → IsMove made left right made left right'
right_moves made left right right' x y a b l r f n = λ rl rr.
    let e : row_major y.at.items x.at.items ≡ Less = row_major_total.antisymm y.at.items x.at.items ∙ ap ordering_reverse f in
    let rx : IsRising (x ∷ a) = subst IsRising l rl in
    let ry : IsRising (y ∷ b) = subst IsRising r rr in
    let rest : right' ≡ b = n ∙ ap (drop 1) r in
    record {
      left_rises = rl;
      right_rises = subst IsRising (sym rest) ry.1;
      same = ap (λ (rows : List Row). made ++ rows) ((λ i. join_rows (l i) (rest i)) ∙ sym (right_first y b (x ∷ a) (e, IsBefore-trans y.at.items x.at.items a e rx.0)) ∙ (λ i. join_rows (sym l i) (sym r i)));
    }

pub both_move : (made made' left right left' right' : List Row) (x y z : Row) → left ≡ x ∷ left' → right ≡ y ∷ right' → IsSamePlace left right → z.at ≡ x.at → z.cell ≡ cell_beside x.cell y.cell → made' ≡ made ++ z ∷ []
    → IsMove made left right made' left' right'
both_move made made' left right left' right' x y z l r same at cell m = λ rl rr.
    let rx : IsRising (x ∷ left') = subst IsRising l rl in
    let ry : IsRising (y ∷ right') = subst IsRising r rr in
    let here : IsSamePlace (x ∷ left') (y ∷ right') = subst (λ (rows : List Row). IsSamePlace rows (y ∷ right')) l (subst (IsSamePlace left) r same) in
    let row : z ≡ placed x.at.items (cell_beside x.cell y.cell) = λ i. placed (at i).items (cell i) in
    record {
      left_rises = rx.1;
      right_rises = ry.1;
      same =
          ap (λ (rows : List Row). rows ++ join_rows left' right') m
          ∙ append_assoc made (z ∷ []) (join_rows left' right')
          ∙ ap (λ (w : Row). made ++ w ∷ join_rows left' right') row
          ∙ ap (λ (rows : List Row). made ++ rows) (sym (both_first x left' y right' rx here) ∙ (λ i. join_rows (sym l i) (sym r i)));
    }

pub same_place : (left right a b : List Row) (x y : Row) → left ≡ x ∷ a → right ≡ y ∷ b → row_major x.at.items y.at.items ≡ Equal → IsSamePlace left right
same_place left right a b x y l r e =
    subst (λ (rows : List Row). IsSamePlace rows right) (sym l) (subst (IsSamePlace (x ∷ a)) (sym r) (row_major_exact x.at.items y.at.items e))

pub further : (made made' made'' left left' left'' right right' right'' : List Row) → IsMove made left right made' left' right' → IsMove made' left' right' made'' left'' right'' → IsMove made left right made'' left'' right''
further made made' made'' left left' left'' right right' right'' f g = λ rl rr.
    let first = f rl rr in
    let second = g first.left_rises first.right_rises in
    record { left_rises = second.left_rises; right_rises = second.right_rises; same = second.same ∙ first.same }

-- where one of the two is at its end nothing is left to join
pub at_end : (b : Bool) (made left right left0 right0 : List Row) → b ≡ false → (IsTrue b ↔ (0 < length left) × (0 < length right)) → AreMovedOn [] left0 right0 made left right → made ≡ join_rows left0 right0
at_end b made [] right left0 right0 f t m = sym (append-nil made) ∙ m.same
at_end b made (x ∷ left) [] left0 right0 f t m = sym (append-nil made) ∙ ap (λ (rows : List Row). made ++ rows) (sym (none_right (x ∷ left))) ∙ m.same
at_end b made (x ∷ left) (y ∷ right) left0 right0 f t m = absurd (false_is_not b f (t.1 (omega arith, omega arith)))
  where
    false_is_not : (c : Bool) → c ≡ false → IsTrue c → ⊥
    false_is_not c g h = cc

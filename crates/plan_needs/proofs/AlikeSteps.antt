-- What an operator makes of a box depends on what it needs of its source.
use Rattle.std.proofs.Common.{◌≡◌, ℤ, Bool, true, false, List, [], ◌∷◌, map, filter, length, cond, Option, None, Result, Ok, Err, refl, sym, ap, ◌∙◌, arith}
use Rattle.std.specs.Prelude.{◌==◌, IfOk, IsTrue, ⊤}
use Rattle.std.specs.Int.{int_max, int_min}
use Rattle.std.specs.List.{AllByRecursion}
use Rattle.std.specs.Option.{option_map}
use Rattle.std.proofs.lemmas.Bool.{eq-eqb}
use Rattle.std.proofs.lemmas.List.{length-map}
use Rattle.cell_values.specs.declared.datum.Broken.{Broken}
use Rattle.cell_values.specs.declared.datum.Cell.{Cell}
use Rattle.cell_values.specs.declared.datum.Row.{Row}
use Rattle.cell_values.specs.declared.schema.Bounds.{Bounds}
use Rattle.cell_values.specs.declared.schema.Schema.{Schema}
use Rattle.array_rows.specs.Boxes.{by_pairs, corners, is_inside, within, meet}
use Rattle.array_rows.specs.Cellwise.{cell_wise, put_first}
use Rattle.array_rows.specs.Rows.{Coordinate, rows_where, cell_at}
use Rattle.array_rows.proofs.RowsLemmas.{within-cell_wise}
use Rattle.array_rows.proofs.RowSets.{cell_at-within}
use Rattle.array_geom.proofs.TestLaws.{and_both}
use Rattle.logical_plan.specs.Faults.{if_whole, and_then}
use Rattle.logical_plan.specs.Joins.{cell_beside, join_rows}
use Rattle.logical_plan.specs.Typing.{is_box_of}
use Rattle.logical_plan.proofs.BuiltRows.{all-each}
use Rattle.plan_needs.specs.declared.stretch.Stretch.{Stretch}
use Rattle.plan_needs.specs.Sides.{Sides, box_of, of_between}
use Rattle.plan_needs.specs.Stretches.{stretch, shared}
use Rattle.plan_needs.proofs.BoxLaws.{swapped, within_both}

-- ---- cell by cell

pub alike_changed : (area : Bounds) (change : Coordinate → Cell → Option Cell) (x y : Result (List Row) Broken) → if_whole (within area) x ≡ if_whole (within area) y
    → if_whole (within area) (if_whole (cell_wise change) x) ≡ if_whole (within area) (if_whole (cell_wise change) y)
alike_changed area change x y h =
    sym (swapped area change x) ∙ ap (λ (r : Result (List Row) Broken). if_whole (cell_wise change) r) h ∙ swapped area change y

-- ---- between

firsts : (sides : Sides) (lo hi : List ℤ) → length hi ≡ length lo → map (λ (s : Stretch). s.first) (by_pairs shared sides (by_pairs stretch lo hi)) ≡ by_pairs int_max (map (λ (s : Stretch). s.first) sides) lo
firsts [] lo hi e = refl
firsts (s ∷ sides) [] hi e = refl
firsts (s ∷ sides) (l ∷ lo) [] e = absurd (omega arith)
firsts (s ∷ sides) (l ∷ lo) (h ∷ hi) e = ap (λ (zs : List ℤ). int_max s.first l ∷ zs) (firsts sides lo hi (omega arith))

lasts : (sides : Sides) (lo hi : List ℤ) → length hi ≡ length lo → map (λ (s : Stretch). s.last) (by_pairs shared sides (by_pairs stretch lo hi)) ≡ by_pairs int_min (map (λ (s : Stretch). s.last) sides) hi
lasts [] lo hi e = refl
lasts (s ∷ sides) [] [] e = refl
lasts (s ∷ sides) [] (h ∷ hi) e = absurd (omega arith)
lasts (s ∷ sides) (l ∷ lo) [] e = absurd (omega arith)
lasts (s ∷ sides) (l ∷ lo) (h ∷ hi) e = ap (λ (zs : List ℤ). int_min s.last h ∷ zs) (lasts sides lo hi (omega arith))

pub box_shared : (sides : Sides) (area : Bounds) → length area.hi.items ≡ length area.lo.items → box_of (of_between area sides) ≡ meet (box_of sides) area
box_shared sides area e = λ i. corners (firsts sides area.lo.items area.hi.items e i) (lasts sides area.lo.items area.hi.items e i)

box_is : (s : Schema) (sides : Sides) → length sides ≡ length s.dimensions → IsTrue (is_box_of s (box_of sides))
box_is s sides e =
    and_both (length (box_of sides).lo.items == length s.dimensions) (length (box_of sides).hi.items == length s.dimensions)
    (eq-eqb _ _ (length-map sides (λ (x : Stretch). x.first) ∙ e)) (eq-eqb _ _ (length-map sides (λ (x : Stretch). x.last) ∙ e))

once : (s : Schema) (sides : Sides) (area : Bounds) → length sides ≡ length s.dimensions → IsTrue (is_box_of s area) → length area.hi.items ≡ length area.lo.items → (r : Result (List Row) Broken)
    → if_whole (within (box_of sides)) (if_whole (within area) r) ≡ if_whole (within (box_of (of_between area sides))) r
once s sides area e t same (Ok rows) =
    ap (λ (x : List Row). Ok x) (sym (within_both s (box_of sides) area (box_is s sides e) t rows) ∙ ap (λ (b : Bounds). within b rows) (sym (box_shared sides area same)))
once s sides area e t same (Err broken) = refl

pub alike_between : (s : Schema) (sides : Sides) (area : Bounds) → length sides ≡ length s.dimensions → IsTrue (is_box_of s area) → length area.hi.items ≡ length area.lo.items → (x y : Result (List Row) Broken)
    → if_whole (within (box_of (of_between area sides))) x ≡ if_whole (within (box_of (of_between area sides))) y
    → if_whole (within (box_of sides)) (if_whole (within area) x) ≡ if_whole (within (box_of sides)) (if_whole (within area) y)
alike_between s sides area e t same x y h = once s sides area e t same x ∙ h ∙ sym (once s sides area e t same y)

-- ---- join

changed_on : (test : Coordinate → Bool) (f g : Coordinate → Cell → Option Cell) → ((c : Coordinate) (cell : Cell) → test c ≡ true → f c cell ≡ g c cell) → (rows : List Row) → cell_wise f (rows_where test rows) ≡ cell_wise g (rows_where test rows)
changed_on test f g same [] = refl
changed_on test f g same (row ∷ rows) = by_test (test row.at.items) refl (changed_on test f g same rows)
  where
    by_test : (b : Bool) → test row.at.items ≡ b → cell_wise f (rows_where test rows) ≡ cell_wise g (rows_where test rows) → cell_wise f (cond b (row ∷ rows_where test rows) (rows_where test rows)) ≡ cell_wise g (cond b (row ∷ rows_where test rows) (rows_where test rows))
    by_test false e ih = ih
    by_test true e ih =
        ap (λ (o : Option Cell). put_first row.at.items o (cell_wise f (rows_where test rows))) (same row.at.items row.cell e)
        ∙ ap (λ (l : List Row). put_first row.at.items (g row.at.items row.cell) l) ih

beside : List Row → Coordinate → Cell → Option Cell
beside right c cell = option_map (cell_beside cell) (cell_at right c)

join_within : (area : Bounds) (left right : List Row) → within area (join_rows left right) ≡ join_rows (within area left) (within area right)
unfolding beside
join_within area left right =
    within-cell_wise area (beside right) left
    ∙ changed_on (is_inside area) (beside right) (beside (within area right))
    (λ c cell e. ap (λ (o : Option Cell). option_map (cell_beside cell) o) (sym (cell_at-within area right c ∙ ap (λ (b : Bool). cond b (cell_at right c) None) e))) left

joined_within : (area : Bounds) (x y : Result (List Row) Broken)
    → if_whole (within area) (and_then (λ l. if_whole (join_rows l) y) x) ≡ and_then (λ l. if_whole (join_rows l) (if_whole (within area) y)) (if_whole (within area) x)
joined_within area (Ok left) (Ok right) = ap (λ (l : List Row). Ok l) (join_within area left right)
joined_within area (Ok left) (Err broken) = refl
joined_within area (Err broken) y = refl

pub alike_joined : (area : Bounds) (x y x' y' : Result (List Row) Broken) → if_whole (within area) x ≡ if_whole (within area) x' → if_whole (within area) y ≡ if_whole (within area) y'
    → if_whole (within area) (and_then (λ l. if_whole (join_rows l) y) x) ≡ if_whole (within area) (and_then (λ l. if_whole (join_rows l) y') x')
alike_joined area x y x' y' f g =
    joined_within area x y
    ∙ ap (λ (r : Result (List Row) Broken). and_then (λ l. if_whole (join_rows l) (if_whole (within area) y)) r) f
    ∙ ap (λ (r : Result (List Row) Broken). and_then (λ l. if_whole (join_rows l) r) (if_whole (within area) x')) g
    ∙ sym (joined_within area x' y')

-- ---- rows that are filtered, moved and filtered again

-- an item that neither filter lets through need not be there, of items of which something holds
pub needless_of : {A B : Type 0} (P : A → Type 0) (p : B → Bool) (g : A → B) (q s : A → Bool) → ((x : A) → P x → q x ≡ true → p (g x) ≡ true → s x ≡ true) → (xs : List A) → AllByRecursion P xs
    → filter p (map g (filter q xs)) ≡ filter p (map g (filter q (filter s xs)))
needless_of P p g q s h [] all = refl
needless_of {A = A} {B = B} P p g q s h (x ∷ xs) all = by_needed (s x) refl (needless_of P p g q s h xs all.1)
  where
    kept : (b : Bool) → filter p (map g (filter q xs)) ≡ filter p (map g (filter q (filter s xs))) → filter p (map g (cond b (x ∷ filter q xs) (filter q xs))) ≡ filter p (map g (cond b (x ∷ filter q (filter s xs)) (filter q (filter s xs))))
    kept true ih = ap (λ (l : List B). cond (p (g x)) (g x ∷ l) l) ih
    kept false ih = ih

    left_out : (b d : Bool) → q x ≡ b → p (g x) ≡ d → s x ≡ false → filter p (map g (filter q xs)) ≡ filter p (map g (filter q (filter s xs))) → cond b (cond d (g x ∷ filter p (map g (filter q xs))) (filter p (map g (filter q xs)))) (filter p (map g (filter q xs))) ≡ filter p (map g (filter q (filter s xs)))
    left_out false d e f n ih = ih
    left_out true false e f n ih = ih
    left_out true true e f n ih = let yes : s x ≡ true = h x all.0 e f in cc

    pushed : (b : Bool) → filter p (map g (cond b (x ∷ filter q xs) (filter q xs))) ≡ cond b (cond (p (g x)) (g x ∷ filter p (map g (filter q xs))) (filter p (map g (filter q xs)))) (filter p (map g (filter q xs)))
    pushed true = refl
    pushed false = refl

    by_needed : (t : Bool) → s x ≡ t → filter p (map g (filter q xs)) ≡ filter p (map g (filter q (filter s xs)))
        → filter p (map g (cond (q x) (x ∷ filter q xs) (filter q xs))) ≡ filter p (map g (filter q (cond t (x ∷ filter s xs) (filter s xs))))
    by_needed true n ih = kept (q x) ih
    by_needed false n ih = pushed (q x) ∙ left_out (q x) (p (g x)) refl refl n ih

pub needless : {A B : Type 0} (p : B → Bool) (g : A → B) (q s : A → Bool) → ((x : A) → q x ≡ true → p (g x) ≡ true → s x ≡ true) → (xs : List A) → filter p (map g (filter q xs)) ≡ filter p (map g (filter q (filter s xs)))
needless p g q s h xs = needless_of (λ x. ⊤) p g q s (λ x t e f. h x e f) xs (all-each (λ x. ⊤) (λ x. tt) xs)

-- ---- rows of which all are in a box

pub all_within : (area : Bounds) (rows : List Row) → AllByRecursion (λ row. IsTrue (is_inside area row.at.items)) rows → within area rows ≡ rows
all_within area [] all = refl
all_within area (row ∷ rows) all =
    ap (λ (b : Bool). cond b (row ∷ within area rows) (within area rows)) all.0 ∙ ap (λ (l : List Row). row ∷ l) (all_within area rows all.1)

-- what is alike in a box that holds all is the same
pub alike_whole : (area : Bounds) (x y : Result (List Row) Broken) → IfOk x (AllByRecursion (λ row. IsTrue (is_inside area row.at.items))) → IfOk y (AllByRecursion (λ row. IsTrue (is_inside area row.at.items)))
    → if_whole (within area) x ≡ if_whole (within area) y → x ≡ y
alike_whole area x y f g h = sym (all x f) ∙ h ∙ all y g
  where
    all : (r : Result (List Row) Broken) → IfOk r (AllByRecursion (λ row. IsTrue (is_inside area row.at.items))) → if_whole (within area) r ≡ r
    all (Ok rows) i = ap (λ (l : List Row). Ok l) (all_within area rows i)
    all (Err broken) i = refl

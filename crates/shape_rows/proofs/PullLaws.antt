-- Rows that have the cells of others at other coordinates.
use Rattle.std.proofs.Common.{◌≡◌, ℤ, ◌+ℤ◌, ◌-ℤ◌, ◌≤ℤ◌, Bool, true, false, cond, ◌&&◌, List, [], ◌∷◌, ◌++◌, map, reverse, Option, Some, None, refl, sym, ap, ◌∙◌, subst, arith}
use Rattle.std.proofs.lemmas.Grind.{reverse_onto}
use Rattle.std.proofs.lemmas.Int.{ints}
use Rattle.std.proofs.lemmas.List.{reverse-reverse}
use Rattle.std.specs.List.{AllByRecursion}
use Rattle.std.specs.Ordering.{is_eq}
use Rattle.std.specs.Prelude.{int_le}
use Rattle.std.specs.declared.cmp.Ordering.{Ordering}
use Rattle.std.specs.declared.cmp.Ordering.TheVariants.{Less, Equal, Greater}
use Rattle.cell_values.specs.declared.datum.Cell.{Cell}
use Rattle.cell_values.specs.declared.datum.Row.{Row}
use Rattle.cell_values.specs.declared.schema.Attribute.{Attribute}
use Rattle.cell_values.specs.declared.schema.Bounds.{Bounds}
use Rattle.cell_values.specs.declared.schema.Dimension.{Dimension}
use Rattle.cell_values.specs.declared.schema.Schema.{Schema}
use Rattle.cell_values.specs.Cells.{IsCellOf}
use Rattle.cell_values.specs.Schemas.{IsValid}
use Rattle.array_rows.specs.Arrays.{AreRowsOf}
use Rattle.array_rows.specs.Boxes.{bounds_of, corners, is_between, is_inside, moved, within}
use Rattle.array_rows.specs.Rows.{Coordinate, row_major, IsBefore, IsRising, cell_at, in_order, put_by, put_row, put_all}
use Rattle.array_rows.proofs.RowsLemmas.{same_rows, same_coordinate, row_major_exact, cell_at-first}
use Rattle.array_rows.proofs.RowSets.{IsRising-in_order, IsRising-rows_where, cell_at-in_order, cell_at-within}
use Rattle.array_geom.proofs.LinkLaws.{within-within}
use Rattle.array_geom.proofs.NumberLaws.{is_equal}
use Rattle.array_geom.proofs.TestLaws.{and_both, and_parts, le_test, le_from_test}
use Rattle.shape_rows.specs.Laws.{ReverseCells, TransposeCells}
use Rattle.shape_rows.specs.Pulls.{ComesFrom, IsPulled, IsPulledIn}
use Rattle.logical_plan.specs.Shapes.{backwards, mirrored, opposite}

-- ---- what holds of each row

pub all_put_row : (P : Row → Type 0) (new : Row) (rows : List Row) → P new → AllByRecursion P rows → AllByRecursion P (put_row new rows)
all_put_row P new [] p a = (p, tt)
all_put_row P new (row ∷ rows) p a = cases (row_major new.at.items row.at.items) (all_put_row P new rows p a.1)
  where
    cases : (t : Ordering) → AllByRecursion P (put_row new rows) → AllByRecursion P (put_by t new row rows (put_row new rows))
    cases Less r = (p, a)
    cases Equal r = (p, a.1)
    cases Greater r = (a.0, r)

pub all_put_all : (P : Row → Type 0) (a b : List Row) → AllByRecursion P a → AllByRecursion P b → AllByRecursion P (put_all a b)
all_put_all P [] b p q = q
all_put_all P (row ∷ a) b p q = all_put_row P row (put_all a b) p.0 (all_put_all P a b p.1 q)

pub all_in_order : (P : Row → Type 0) (rows : List Row) → AllByRecursion P rows → AllByRecursion P (in_order rows)
all_in_order P [] a = tt
all_in_order P (row ∷ rows) a = all_put_row P row (in_order rows) a.0 (all_in_order P rows a.1)

pub all_follow : {A : Type 0} (P Q : A → Type 0) → ((x : A) → P x → Q x) → (xs : List A) → AllByRecursion P xs → AllByRecursion Q xs
all_follow P Q f [] a = tt
all_follow P Q f (x ∷ xs) a = (f x a.0, all_follow P Q f xs a.1)

-- what holds of all cells holds of one that is found, and what holds of all coordinates of the one at which it is found
pub cell_holds : (P : Cell → Type 0) (rows : List Row) (c : Coordinate) (x : Cell) → AllByRecursion (λ row. P row.cell) rows → cell_at rows c ≡ Some x → P x
cell_holds P [] c x a e = absurd cc
cell_holds P (row ∷ rows) c x a e = cases (is_eq (row_major row.at.items c)) e (cell_holds P rows c x a.1)
  where
    cases : (t : Bool) → cond t (Some row.cell) (cell_at rows c) ≡ Some x → (cell_at rows c ≡ Some x → P x) → P x
    cases true f more = let same : row.cell ≡ x = cc in subst P same a.0
    cases false f more = more f

pub place_holds : (P : Coordinate → Type 0) (rows : List Row) (c : Coordinate) (x : Cell) → AllByRecursion (λ row. P row.at.items) rows → cell_at rows c ≡ Some x → P c
place_holds P [] c x a e = absurd cc
place_holds P (row ∷ rows) c x a e = cases (is_eq (row_major row.at.items c)) refl e (place_holds P rows c x a.1)
  where
    cases : (t : Bool) → is_eq (row_major row.at.items c) ≡ t → cond t (Some row.cell) (cell_at rows c) ≡ Some x → (cell_at rows c ≡ Some x → P c) → P c
    cases true g f more = subst P (row_major_exact row.at.items c (is_equal (row_major row.at.items c) g)) a.0
    cases false g f more = more f

pub all_where : (P : Row → Type 0) (area : Bounds) (rows : List Row) → AllByRecursion P rows → AllByRecursion P (within area rows)
all_where P area [] a = tt
all_where P area (row ∷ rows) a = keep (is_inside area row.at.items) (all_where P area rows a.1)
  where
    keep : (t : Bool) → AllByRecursion P (within area rows) → AllByRecursion P (cond t (row ∷ within area rows) (within area rows))
    keep true r = (a.0, r)
    keep false r = r

all_inside : (area : Bounds) (rows : List Row) → AllByRecursion (λ row. is_inside area row.at.items ≡ true) (within area rows)
all_inside area [] = tt
all_inside area (row ∷ rows) = keep (is_inside area row.at.items) refl (all_inside area rows)
  where
    keep : (t : Bool) → is_inside area row.at.items ≡ t → AllByRecursion (λ r. is_inside area r.at.items ≡ true) (within area rows) → AllByRecursion (λ r. is_inside area r.at.items ≡ true) (cond t (row ∷ within area rows) (within area rows))
    keep true e r = (e, r)
    keep false e r = r

-- what rising rows have within the bounds of their schema is an array
pub part_is_array : (target : Schema) (rows : List Row) → IsValid target → IsRising rows → AllByRecursion (λ row. IsCellOf target.attributes row.cell) rows → AreRowsOf target (within (bounds_of target.dimensions) rows)
part_is_array target rows valid rising kinds = record {
  valid = valid;
  are_rows = record { rising = IsRising-rows_where (is_inside (bounds_of target.dimensions)) rows rising; in_bounds = all_inside (bounds_of target.dimensions) rows };
  kinds = all_where (λ row. IsCellOf target.attributes row.cell) (bounds_of target.dimensions) rows kinds;
}

-- no cell stands where no row is
pub none_outside : (area : Bounds) (rows : List Row) (c : Coordinate) → AllByRecursion (λ row. is_inside area row.at.items ≡ true) rows → is_inside area c ≡ false → cell_at rows c ≡ None
none_outside area rows c a e = cases (cell_at rows c) refl
  where
    cases : (o : Option Cell) → cell_at rows c ≡ o → cell_at rows c ≡ None
    cases None f = f
    cases (Some x) f = let yes : is_inside area c ≡ true = place_holds (λ z. is_inside area z ≡ true) rows c x a f in absurd cc

-- each of rising rows is the one found at its coordinate
pub own_cells : (rows : List Row) → IsRising rows → AllByRecursion (λ row. cell_at rows row.at.items ≡ Some row.cell) rows
own_cells [] r = tt
own_cells (row ∷ rows) r = (cell_at-first row rows, later rows r.0 (own_cells rows r.1))
  where
    later : (ss : List Row) → IsBefore row.at.items ss → AllByRecursion (λ s. cell_at rows s.at.items ≡ Some s.cell) ss → AllByRecursion (λ s. cell_at (row ∷ rows) s.at.items ≡ Some s.cell) ss
    later [] b a = tt
    later (s ∷ ss) b a = (ap (λ (o : Ordering). cond (is_eq o) (Some row.cell) (cell_at rows s.at.items)) b.0 ∙ a.0, later ss b.1 a.1)

-- ---- rows that are pulled

-- what holds of the coordinates of the source holds of those that come from them
pub pulled_places : (target : Bounds) (back : Coordinate → Coordinate) (rows made : List Row) (P Q : Coordinate → Type 0) → ((c : Coordinate) → is_inside target c ≡ true → P (back c) → Q c)
    → IsPulled target back rows made → AllByRecursion (λ row. P row.at.items) rows → AllByRecursion (λ row. Q row.at.items) made
pulled_places target back rows made P Q f is a = each made is.in_bounds (own_cells made is.rising)
  where
    each : (some : List Row) → AllByRecursion (λ row. is_inside target row.at.items ≡ true) some → AllByRecursion (λ row. cell_at made row.at.items ≡ Some row.cell) some → AllByRecursion (λ row. Q row.at.items) some
    each [] i o = tt
    each (row ∷ some) i o =
        (f row.at.items i.0 (place_holds P rows (back row.at.items) row.cell a (sym (is.cells row.at.items i.0) ∙ o.0)), each some i.1 o.1)

pub pulled_cells : (target : Bounds) (back : Coordinate → Coordinate) (rows made : List Row) (P : Cell → Type 0) → IsPulled target back rows made
    → AllByRecursion (λ row. P row.cell) rows → AllByRecursion (λ row. P row.cell) made
pulled_cells target back rows made P is a = each made is.in_bounds (own_cells made is.rising)
  where
    each : (some : List Row) → AllByRecursion (λ row. is_inside target row.at.items ≡ true) some → AllByRecursion (λ row. cell_at made row.at.items ≡ Some row.cell) some → AllByRecursion (λ row. P row.cell) some
    each [] i o = tt
    each (row ∷ some) i o = (cell_holds P rows (back row.at.items) row.cell a (sym (is.cells row.at.items i.0) ∙ o.0), each some i.1 o.1)

-- they are the rows of an array with the source's attributes
pub pulled_arrays : (source target : Schema) (back : Coordinate → Coordinate) (rows made : List Row) → IsValid target → target.attributes ≡ source.attributes → AreRowsOf source rows
    → IsPulled (bounds_of target.dimensions) back rows made → AreRowsOf target made
pulled_arrays source target back rows made valid same are is = record {
  valid = valid;
  are_rows = record { rising = is.rising; in_bounds = is.in_bounds };
  kinds = subst (λ (attributes : List Attribute). AllByRecursion (λ row. IsCellOf attributes row.cell) made) (sym same)
      (pulled_cells (bounds_of target.dimensions) back rows made (IsCellOf source.attributes) is are.kinds);
}

-- what they have in a box is made of what the source has in the box from which it comes
module _ (target source area near : Bounds) (back : Coordinate → Coordinate) (comes : ComesFrom target source back area near) where
  same_source : (a b : List Row) → within near a ≡ within near b → (c : Coordinate) → is_inside near c ≡ true → cell_at a c ≡ cell_at b c
  same_source a b e c n =
      sym (cell_at-within near a c ∙ ap (λ (t : Bool). cond t (cell_at a c) None) n)
      ∙ ap (λ (rs : List Row). cell_at rs c) e
      ∙ cell_at-within near b c
      ∙ ap (λ (t : Bool). cond t (cell_at b c) None) n

  pub alike_pulled : (a b made_a made_b : List Row) → AllByRecursion (λ row. is_inside source row.at.items ≡ true) a → AllByRecursion (λ row. is_inside source row.at.items ≡ true) b
      → IsPulledIn target area back a made_a → IsPulledIn target area back b made_b → within near a ≡ within near b → within area made_a ≡ within area made_b
  alike_pulled a b made_a made_b in_a in_b p q e =
      same_rows (within area made_a) (within area made_b) (IsRising-rows_where (is_inside area) made_a p.rising) (IsRising-rows_where (is_inside area) made_b q.rising)
      (λ c. cell_at-within area made_a c ∙ by_area c (is_inside area c) refl ∙ sym (cell_at-within area made_b c))
    where
      by_source : (c : Coordinate) → is_inside target c ≡ true → is_inside area c ≡ true → (t : Bool) → is_inside source (back c) ≡ t → cell_at a (back c) ≡ cell_at b (back c)
      by_source c t i true s = same_source a b e (back c) (comes c t i s)
      by_source c t i false s = none_outside source a (back c) in_a s ∙ sym (none_outside source b (back c) in_b s)

      by_target : (c : Coordinate) → is_inside area c ≡ true → (t : Bool) → is_inside target c ≡ t → cell_at made_a c ≡ cell_at made_b c
      by_target c i true t = p.cells c t i ∙ by_source c t i (is_inside source (back c)) refl ∙ sym (q.cells c t i)
      by_target c i false t = none_outside target made_a c p.in_bounds t ∙ sym (none_outside target made_b c q.in_bounds t)

      by_area : (c : Coordinate) (t : Bool) → is_inside area c ≡ t → cond t (cell_at made_a c) None ≡ cond t (cell_at made_b c) None
      by_area c true i = by_target c i (is_inside target c) refl
      by_area c false i = refl

  pub part_pulled : (rows made part : List Row) → AllByRecursion (λ row. is_inside source row.at.items ≡ true) rows → IsPulledIn target area back rows made → IsPulledIn target area back (within near rows) part → within area part ≡ within area made
  part_pulled rows made part inside p q =
      alike_pulled (within near rows) rows part made (all_where (λ row. is_inside source row.at.items ≡ true) near rows inside) inside q p (within-within near near rows (λ c n. n))

pub pulled_in : (target area : Bounds) (back : Coordinate → Coordinate) (rows made : List Row) → IsPulled target back rows made → IsPulledIn target area back rows made
pulled_in target area back rows made is = record { rising = is.rising; in_bounds = is.in_bounds; cells = λ c t i. is.cells c t }

-- ---- rows that are moved

-- two pairs of coordinates that are equal together compare alike
pub equal_alike : (a b c d : Coordinate) → (a ≡ b → c ≡ d) → (c ≡ d → a ≡ b) → is_eq (row_major a b) ≡ is_eq (row_major c d)
equal_alike a b c d f g = cases (is_eq (row_major a b)) (is_eq (row_major c d)) refl refl
  where
    equal : (x y : Coordinate) → x ≡ y → is_eq (row_major x y) ≡ true
    equal x y e = ap (λ (z : Coordinate). is_eq (row_major x z)) (sym e) ∙ ap is_eq (same_coordinate x)

    cases : (s t : Bool) → is_eq (row_major a b) ≡ s → is_eq (row_major c d) ≡ t → s ≡ t
    cases true true p q = refl
    cases false false p q = refl
    cases true false p q = let yes : is_eq (row_major c d) ≡ true = equal c d (f (row_major_exact a b (is_equal (row_major a b) p))) in absurd cc
    cases false true p q = let yes : is_eq (row_major a b) ≡ true = equal a b (g (row_major_exact c d (is_equal (row_major c d) q))) in absurd cc

moved_cell : (to back : Coordinate → Coordinate) (y : Coordinate) (rows : List Row) → AllByRecursion (λ row. is_eq (row_major (to row.at.items) y) ≡ is_eq (row_major row.at.items (back y))) rows
    → cell_at (map (moved to) rows) y ≡ cell_at rows (back y)
moved_cell to back y [] a = refl
moved_cell to back y (row ∷ rows) a = let rest = moved_cell to back y rows a.1 in λ i. cond (a.0 i) (Some row.cell) (rest i)

all_moved : (P Q : Coordinate → Type 0) (to : Coordinate → Coordinate) → ((c : Coordinate) → P c → Q (to c)) → (rows : List Row) → AllByRecursion (λ row. P row.at.items) rows → AllByRecursion (λ row. Q row.at.items) (map (moved to) rows)
all_moved P Q to h [] a = tt
all_moved P Q to h (row ∷ rows) a = (h row.at.items a.0, all_moved P Q to h rows a.1)

-- a move within bounds that can be taken back
pub moved_pulled : (source target : Bounds) (to back : Coordinate → Coordinate) → ((c : Coordinate) → is_inside source c ≡ true → is_inside target (to c) ≡ true) → ((c : Coordinate) → is_inside source c ≡ true → back (to c) ≡ c)
    → ((y : Coordinate) → is_inside target y ≡ true → to (back y) ≡ y) → (rows : List Row) → AllByRecursion (λ row. is_inside source row.at.items ≡ true) rows → IsPulled target back rows (in_order (map (moved to) rows))
moved_pulled source target to back comes there again rows a = record {
  rising = IsRising-in_order (map (moved to) rows);
  in_bounds = all_in_order (λ row. is_inside target row.at.items ≡ true) (map (moved to) rows)
      (all_moved (λ c. is_inside source c ≡ true) (λ c. is_inside target c ≡ true) to comes rows a);
  cells = λ y t. cell_at-in_order (map (moved to) rows) y ∙ moved_cell to back y rows (alike y t rows a);
}
  where
    alike : (y : Coordinate) → is_inside target y ≡ true → (some : List Row) → AllByRecursion (λ row. is_inside source row.at.items ≡ true) some
        → AllByRecursion (λ row. is_eq (row_major (to row.at.items) y) ≡ is_eq (row_major row.at.items (back y))) some
    alike y t [] b = tt
    alike y t (row ∷ some) b =
        (equal_alike (to row.at.items) y row.at.items (back y) (λ e. sym (there row.at.items b.0) ∙ ap back e) (λ e. ap to e ∙ again y t), alike y t some b.1)

-- ---- transpose

pub between_append : (lo hi c lo' hi' c' : List ℤ) → is_between lo hi c ≡ true → is_between lo' hi' c' ≡ true → is_between (lo ++ lo') (hi ++ hi') (c ++ c') ≡ true
between_append [] [] [] lo' hi' c' e f = f
between_append [] [] (x ∷ c) lo' hi' c' e f = absurd cc
between_append [] (h ∷ hi) c lo' hi' c' e f = absurd cc
between_append (l ∷ lo) [] c lo' hi' c' e f = absurd cc
between_append (l ∷ lo) (h ∷ hi) [] lo' hi' c' e f = absurd cc
between_append (l ∷ lo) (h ∷ hi) (x ∷ c) lo' hi' c' e f =
    let p = and_parts (int_le l x && int_le x h) (is_between lo hi c) e in
    and_both (int_le l x && int_le x h) (is_between (lo ++ lo') (hi ++ hi') (c ++ c')) p.0 (between_append lo hi c lo' hi' c' p.1 f)

last_one : (a b : Bool) → (a && b) ≡ true → (a && true) ≡ true
last_one true b e = refl
last_one false b e = e

pub between_reverse : (lo hi c : List ℤ) → is_between lo hi c ≡ true → is_between (reverse lo) (reverse hi) (reverse c) ≡ true
between_reverse [] [] [] e = refl
between_reverse [] [] (x ∷ c) e = absurd cc
between_reverse [] (h ∷ hi) c e = absurd cc
between_reverse (l ∷ lo) [] c e = absurd cc
between_reverse (l ∷ lo) (h ∷ hi) [] e = absurd cc
between_reverse (l ∷ lo) (h ∷ hi) (x ∷ c) e =
    let p = and_parts (int_le l x && int_le x h) (is_between lo hi c) e in
    let last : is_between (l ∷ []) (h ∷ []) (x ∷ []) ≡ true = and_both (int_le l x && int_le x h) true p.0 refl in
    let low = reverse_onto lo l [] in
    let high = reverse_onto hi h [] in
    let at = reverse_onto c x [] in
    (λ i. is_between (low i) (high i) (at i)) ∙ between_append (reverse lo) (reverse hi) (reverse c) (l ∷ []) (h ∷ []) (x ∷ []) (between_reverse lo hi c p.1) last

pub map_reverse : {A B : Type 0} (f : A → B) (xs : List A) → map f (reverse xs) ≡ reverse (map f xs)
map_reverse f [] = refl
map_reverse f (x ∷ xs) =
    ap (map f) (reverse_onto xs x []) ∙ map_append f (reverse xs) (x ∷ []) ∙ ap (λ ys. ys ++ f x ∷ []) (map_reverse f xs) ∙ sym (reverse_onto (map f xs) (f x) [])
  where
    map_append : {A B : Type 0} (f : A → B) (xs ys : List A) → map f (xs ++ ys) ≡ map f xs ++ map f ys
    map_append f [] ys = refl
    map_append f (x ∷ xs) ys = ap (λ zs. f x ∷ zs) (map_append f xs ys)

pub bounds_reversed : (dims : List Dimension) → bounds_of (reverse dims) ≡ corners (reverse (map (λ (d : Dimension). d.lo) dims)) (reverse (map (λ (d : Dimension). d.hi) dims))
bounds_reversed dims = λ i. corners (map_reverse (λ (d : Dimension). d.lo) dims i) (map_reverse (λ (d : Dimension). d.hi) dims i)

pub inside_backwards : (dims : List Dimension) (c : Coordinate) → is_inside (bounds_of dims) c ≡ true → is_inside (bounds_of (reverse dims)) (backwards c) ≡ true
inside_backwards dims c e =
    ap (λ (area : Bounds). is_inside area (reverse c)) (bounds_reversed dims) ∙ between_reverse (map (λ (d : Dimension). d.lo) dims) (map (λ (d : Dimension). d.hi) dims) c e

pub transpose_cells : TransposeCells
transpose_cells dims rows are =
    moved_pulled (bounds_of dims) (bounds_of (reverse dims)) backwards backwards (inside_backwards dims) (λ c e. reverse-reverse c) (λ y e. reverse-reverse y) rows are.in_bounds

-- ---- reverse

opposite_low : (lo hi x : ℤ) → x ≤ℤ hi → lo ≤ℤ ((lo +ℤ hi) -ℤ x)
opposite_low lo hi x h = omega (arith, ints)

opposite_high : (lo hi x : ℤ) → lo ≤ℤ x → ((lo +ℤ hi) -ℤ x) ≤ℤ hi
opposite_high lo hi x h = omega (arith, ints)

opposite_again : (lo hi x : ℤ) → ((lo +ℤ hi) -ℤ ((lo +ℤ hi) -ℤ x)) ≡ x
opposite_again lo hi x = omega (arith, ints)

pub inside_mirrored : (dims : List Dimension) (c : Coordinate) → is_inside (bounds_of dims) c ≡ true → is_inside (bounds_of dims) (mirrored dims c) ≡ true
inside_mirrored [] [] e = refl
inside_mirrored [] (x ∷ c) e = absurd cc
inside_mirrored (d ∷ dims) [] e = absurd cc
inside_mirrored (d ∷ dims) (x ∷ c) e =
    let p = and_parts (int_le d.lo x && int_le x d.hi) (is_inside (bounds_of dims) c) e in
    let q = and_parts (int_le d.lo x) (int_le x d.hi) p.0 in
    and_both _ _ (and_both _ _ (le_test d.lo (opposite d x) (opposite_low d.lo d.hi x (le_from_test x d.hi q.1))) (le_test (opposite d x) d.hi (opposite_high d.lo d.hi x (le_from_test d.lo x q.0)))) (inside_mirrored dims c p.1)

pub mirrored_again : (dims : List Dimension) (c : Coordinate) → is_inside (bounds_of dims) c ≡ true → mirrored dims (mirrored dims c) ≡ c
mirrored_again [] [] e = refl
mirrored_again [] (x ∷ c) e = absurd cc
mirrored_again (d ∷ dims) [] e = absurd cc
mirrored_again (d ∷ dims) (x ∷ c) e =
    let p = and_parts (int_le d.lo x && int_le x d.hi) (is_inside (bounds_of dims) c) e in
    let rest = mirrored_again dims c p.1 in
    λ i. opposite_again d.lo d.hi x i ∷ rest i

pub reverse_cells : ReverseCells
reverse_cells dims rows are =
    moved_pulled (bounds_of dims) (bounds_of dims) (mirrored dims) (mirrored dims) (inside_mirrored dims) (mirrored_again dims) (mirrored_again dims) rows are.in_bounds

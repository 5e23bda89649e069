-- Rows with fixed numbers, without these, are an array.
use Rattle.std.proofs.Common.{◌≡◌, ℕ, suc, ◌+◌, ℤ, pos, Bool, true, false, cond, ◌&&◌, ◌||◌, List, [], ◌∷◌, length, refl, sym, ap, ◌∙◌, arith}
use Rattle.std.proofs.lemmas.Bool.{eqb-true}
use Rattle.std.proofs.lemmas.Cmp.{int_cmp_total, tied_itself}
use Rattle.std.specs.Cmp.{signed_Decides}
use Rattle.std.specs.List.{list_any}
use Rattle.std.specs.Ordering.{int_cmp, int_eq, ordering_then}
use Rattle.std.specs.Prelude.{◌==◌, int_le, slice_index_or}
use Rattle.std.specs.declared.cmp.Ordering.{Ordering}
use Rattle.std.specs.declared.cmp.Ordering.TheVariants.{Equal}
use Rattle.cell_values.specs.declared.datum.Row.{Row}
use Rattle.cell_values.specs.declared.schema.Dimension.{Dimension}
use Rattle.cell_values.specs.Cells.{IsCellOf}
use Rattle.array_rows.specs.Boxes.{is_inside, bounds_of}
use Rattle.array_rows.specs.Rows.{Coordinate, row_major, rows_where}
use Rattle.array_rows.proofs.RowSets.{IsRising-rows_where}
use Rattle.array_geom.proofs.TestLaws.{and_parts, and_both}
use Rattle.logical_plan.specs.declared.parts.Fixed.{Fixed}
use Rattle.logical_plan.specs.BoxOps.{items_but, has_fixed, fixed_places}
use Rattle.exec_box.specs.Laws.{SlicesAreArrays}
use Rattle.exec_box.proofs.MovedLaws.{AllAt, rising_moved, all_moved, all_where, passing}

abbrev pub is_among : List ℕ → ℕ → Bool
is_among places n = list_any (λ place. place == n) places

-- coordinates that agree at some places, of which the first number has the place n
abbrev pub AgreeFrom : List ℕ → ℕ → Coordinate → Coordinate → Type 0
AgreeFrom places n a b = (k m : ℕ) → m ≡ n + k → is_among places m ≡ true → slice_index_or a k (pos 0) ≡ slice_index_or b k (pos 0)

itself : (x : ℤ) → int_cmp x x ≡ Equal
itself x = tied_itself int_cmp_total x

-- the numbers at which coordinates agree do not decide their order
pub order_but : (places : List ℕ) (n : ℕ) (a b : Coordinate) → length a ≡ length b → AgreeFrom places n a b → row_major (items_but places n a) (items_but places n b) ≡ row_major a b
order_but places n [] [] e agree = refl
order_but places n [] (y ∷ b) e agree = cc
order_but places n (x ∷ a) [] e agree = cc
order_but places n (x ∷ a) (y ∷ b) e agree =
    let shorter : length a ≡ length b = cc (e) in
    cases (is_among places n) refl (order_but places (n + 1) a b shorter (λ k m f t. agree (suc k) m (omega arith) t))
  where
    cases : (t : Bool) → is_among places n ≡ t → row_major (items_but places (n + 1) a) (items_but places (n + 1) b) ≡ row_major a b
        → row_major (cond t (items_but places (n + 1) a) (x ∷ items_but places (n + 1) a)) (cond t (items_but places (n + 1) b) (y ∷ items_but places (n + 1) b)) ≡ row_major (x ∷ a) (y ∷ b)
    cases false t rest = ap (ordering_then (int_cmp x y)) rest
    cases true t rest =
        let zeroth : n ≡ n + 0 = omega arith in
        let same : x ≡ y = agree 0 n zeroth t in
        let tied : int_cmp x y ≡ Equal = ap (λ (z : ℤ). int_cmp x z) (sym same) ∙ itself x in
        rest ∙ sym (ap (λ (o : Ordering). ordering_then o (row_major a b)) tied)

-- what lies in a box lies in it without some dimensions
pub inside_but : (places : List ℕ) (n : ℕ) (dims : List Dimension) (c : Coordinate) → is_inside (bounds_of dims) c ≡ true → is_inside (bounds_of (items_but places n dims)) (items_but places n c) ≡ true
inside_but places n [] [] e = refl
inside_but places n [] (x ∷ c) e = cc
inside_but places n (d ∷ dims) [] e = cc
inside_but places n (d ∷ dims) (x ∷ c) e = cases (is_among places n) (inside_but places (n + 1) dims c parts.1)
  where
    parts : (int_le d.lo x && int_le x d.hi ≡ true) × (is_inside (bounds_of dims) c ≡ true)
    parts = and_parts (int_le d.lo x && int_le x d.hi) (is_inside (bounds_of dims) c) e

    cases : (t : Bool) → is_inside (bounds_of (items_but places (n + 1) dims)) (items_but places (n + 1) c) ≡ true
        → is_inside (bounds_of (cond t (items_but places (n + 1) dims) (d ∷ items_but places (n + 1) dims))) (cond t (items_but places (n + 1) c) (x ∷ items_but places (n + 1) c)) ≡ true
    cases true h = h
    cases false h = and_both (int_le d.lo x && int_le x d.hi) (is_inside (bounds_of (items_but places (n + 1) dims)) (items_but places (n + 1) c)) parts.0 h

-- coordinates with the fixed numbers agree in these
agree : (fixed : List Fixed) (m : ℕ) (a b : Coordinate) → has_fixed fixed a ≡ true → has_fixed fixed b ≡ true → is_among (fixed_places fixed) m ≡ true → slice_index_or a m (pos 0) ≡ slice_index_or b m (pos 0)
agree [] m a b e f t = cc
agree (g ∷ fixed) m a b e f t = cases (g.dimension == m) refl t (agree fixed m a b p.1 q.1)
  where
    p : (int_eq (slice_index_or a g.dimension (pos 0)) g.at ≡ true) × (has_fixed fixed a ≡ true)
    p = and_parts (int_eq (slice_index_or a g.dimension (pos 0)) g.at) (has_fixed fixed a) e

    q : (int_eq (slice_index_or b g.dimension (pos 0)) g.at ≡ true) × (has_fixed fixed b ≡ true)
    q = and_parts (int_eq (slice_index_or b g.dimension (pos 0)) g.at) (has_fixed fixed b) f

    cases : (s : Bool) → (g.dimension == m) ≡ s → (s || is_among (fixed_places fixed) m) ≡ true → (is_among (fixed_places fixed) m ≡ true → slice_index_or a m (pos 0) ≡ slice_index_or b m (pos 0))
        → slice_index_or a m (pos 0) ≡ slice_index_or b m (pos 0)
    cases false s u rest = rest u
    cases true s u rest =
        let here : g.dimension ≡ m = eqb-true g.dimension m s in
        let left : slice_index_or a g.dimension (pos 0) ≡ g.at = (signed_Decides (slice_index_or a g.dimension (pos 0)) g.at).0 p.0 in
        let right : slice_index_or b g.dimension (pos 0) ≡ g.at = (signed_Decides (slice_index_or b g.dimension (pos 0)) g.at).0 q.0 in
        ap (λ (k : ℕ). slice_index_or a k (pos 0)) (sym here) ∙ left ∙ sym right ∙ ap (λ (k : ℕ). slice_index_or b k (pos 0)) here

-- what lies in a box has a number for each dimension
pub long : (dims : List Dimension) (c : Coordinate) → is_inside (bounds_of dims) c ≡ true → length c ≡ length dims
long [] [] e = refl
long [] (x ∷ c) e = cc
long (d ∷ dims) [] e = cc
long (d ∷ dims) (x ∷ c) e = ap suc (long dims c (and_parts (int_le d.lo x && int_le x d.hi) (is_inside (bounds_of dims) c) e).1)

abbrev Fits : List Dimension → List Fixed → Coordinate → Type 0
Fits dims fixed c = (is_inside (bounds_of dims) c ≡ true) × (has_fixed fixed c ≡ true)

all_fit : (dims : List Dimension) (fixed : List Fixed) (rows : List Row) → AllAt (λ c. is_inside (bounds_of dims) c ≡ true) rows → AllAt (λ c. has_fixed fixed c ≡ true) rows → AllAt (Fits dims fixed) rows
all_fit dims fixed [] i h = tt
all_fit dims fixed (row ∷ rows) i h = ((i.0, h.0), all_fit dims fixed rows i.1 h.1)

pub slices_are_arrays : SlicesAreArrays
slices_are_arrays fixed schema rows a v =
    let dims = schema.dimensions in
    let places = fixed_places fixed in
    let some : List Row = rows_where (has_fixed fixed) rows in
    let fit : AllAt (Fits dims fixed) some =
    all_fit dims fixed some (all_where (λ row. is_inside (bounds_of dims) row.at.items ≡ true) (has_fixed fixed) rows a.are_rows.in_bounds) (passing (has_fixed fixed) rows) in
    record {
      valid = v;
      are_rows = record {
        rising = rising_moved (Fits dims fixed) (items_but places 0) (λ b c p q. order_but places 0 b c (long dims b p.0 ∙ sym (long dims c q.0)) (λ k m e t. agreed b c p q k m e t)) some fit (IsRising-rows_where (has_fixed fixed) rows a.are_rows.rising);
        in_bounds = all_moved (λ row. Fits dims fixed row.at.items) (λ row. is_inside (bounds_of (items_but places 0 dims)) row.at.items ≡ true) (items_but places 0) (λ row p. inside_but places 0 dims row.at.items p.0) some fit;
      };
      kinds = all_moved (λ row. IsCellOf schema.attributes row.cell) (λ row. IsCellOf schema.attributes row.cell) (items_but places 0) (λ row k. k) some (all_where (λ row. IsCellOf schema.attributes row.cell) (has_fixed fixed) rows a.kinds);
    }
  where
    agreed : (b c : Coordinate) → Fits schema.dimensions fixed b → Fits schema.dimensions fixed c → (k m : ℕ) → m ≡ 0 + k → is_among (fixed_places fixed) m ≡ true → slice_index_or b k (pos 0) ≡ slice_index_or c k (pos 0)
    agreed b c p q k m e t =
        let same : m ≡ k = omega arith in
        agree fixed k b c p.1 q.1 (ap (is_among (fixed_places fixed)) (sym same) ∙ t)

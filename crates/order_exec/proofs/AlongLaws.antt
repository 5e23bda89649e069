-- Rows that go along their lines, in whatever order the lines stand.
use Rattle.std.proofs.Common.{◌≡◌, ℕ, zero, suc, ℤ, pos, ◌≤ℤ◌, ◌<ℤ◌, ◌&&◌, Bool, true, false, cond, List, [], ◌∷◌, ◌++◌, filter, get_or, Some, None, Option, refl, sym, ap, ◌∙◌, subst, arith}
use Rattle.std.proofs.lemmas.Int.{ints}
use Rattle.std.proofs.lemmas.List.{append_assoc}
use Rattle.std.specs.Cmp.{int_cmp_is}
use Rattle.std.specs.List.{AllByRecursion}
use Rattle.std.specs.Option.{option_or}
use Rattle.std.specs.Ordering.{is_eq, int_cmp, ordering_then}
use Rattle.std.specs.Prelude.{int_le}
use Rattle.std.specs.declared.cmp.Ordering.{Ordering}
use Rattle.std.specs.declared.cmp.Ordering.TheVariants.{Less, Equal, Greater}
use Rattle.cell_values.specs.declared.datum.Cell.{Cell}
use Rattle.cell_values.specs.declared.datum.Cell.TheVariants.{Full, Doubt}
use Rattle.cell_values.specs.declared.datum.Row.{Row}
use Rattle.array_rows.specs.Cellwise.{cell_wise, put_first}
use Rattle.array_rows.specs.Rows.{Coordinate, row_major, IsBefore, IsRising, cell_at, placed}
use Rattle.array_rows.proofs.RowsLemmas.{row_major_exact, cond_out, same_rows, same_coordinate}
use Rattle.array_rows.proofs.RowSets.{cell_at-rows_where, IsRising-rows_where}
use Rattle.array_geom.proofs.TestLaws.{le_test, le_from_test}
use Rattle.group_rows.proofs.RowLemmas.{all_left, all_right}
use Rattle.logical_plan.specs.declared.parts.Aggregate.{Aggregate}
use Rattle.logical_plan.specs.Groups.{aggregates_of, group_at}
use Rattle.logical_plan.specs.Ordered.{line_of, is_up_to, up_to, cumulate_cell}
use Rattle.order_exec.specs.Inner.ByChunk.{GoAlong, ComesAfter}
use Rattle.order_exec.specs.Inner.Running.{running, running_cell}
use Rattle.order_exec.specs.Lines.{line_start}
use Rattle.order_exec.proofs.LineLaws.{on_line, same_line, turned_equal}

-- ---- look-ups

pub cell_at-append : (a b : List Row) (c : Coordinate) → cell_at (a ++ b) c ≡ option_or (cell_at a c) (cell_at b c)
cell_at-append [] b c = refl
cell_at-append (row ∷ a) b c =
    ap (cond (is_eq (row_major row.at.items c)) (Some row.cell)) (cell_at-append a b c)
    ∙ sym (cond_out (λ (o : Option Cell). option_or o (cell_at b c)) (is_eq (row_major row.at.items c)) (Some row.cell) (cell_at a c))

pub absent : (c : Coordinate) (rows : List Row) → AllByRecursion (λ row. row.at.items ≡ c → ⊥) rows → cell_at rows c ≡ None
absent c [] h = refl
absent c (row ∷ rows) h = cases (row_major row.at.items c) refl (absent c rows h.1)
  where
    cases : (o : Ordering) → row_major row.at.items c ≡ o → cell_at rows c ≡ None → cond (is_eq o) (Some row.cell) (cell_at rows c) ≡ None
    cases Less e r = r
    cases Greater e r = r
    cases Equal e r = absurd (h.0 (row_major_exact row.at.items c e))

pub all_follows : {A : Type 0} (P Q : A → Type 0) → ((x : A) → P x → Q x) → (xs : List A) → AllByRecursion P xs → AllByRecursion Q xs
all_follows P Q f [] h = tt
all_follows P Q f (x ∷ xs) h = (f x h.0, all_follows P Q f xs h.1)

pub all_joined : {A : Type 0} (P : A → Type 0) (xs ys : List A) → AllByRecursion P xs → AllByRecursion P ys → AllByRecursion P (xs ++ ys)
all_joined P [] ys a b = b
all_joined P (x ∷ xs) ys a b = (a.0, all_joined P xs ys a.1 b)

-- ---- rows along their lines

module _ (n : ℕ) where
  pub along_left : (a b : List Row) → GoAlong n (a ++ b) → GoAlong n a
  along_left [] b h = tt
  along_left (row ∷ a) b h = (all_left (ComesAfter n row) a b h.0, along_left a b h.1)

  pub along_right : (a b : List Row) → GoAlong n (a ++ b) → GoAlong n b
  along_right [] b h = h
  along_right (row ∷ a) b h = along_right a b h.1

  -- those before a row, and those behind it
  pub before_row : (front : List Row) (row : Row) (rest : List Row) → GoAlong n (front ++ row ∷ rest) → AllByRecursion (λ other. ComesAfter n other row) front
  before_row [] row rest h = tt
  before_row (x ∷ front) row rest h = ((all_right (ComesAfter n x) front (row ∷ rest) h.0).0, before_row front row rest h.1)

  pub along_joined : (a b : List Row) → GoAlong n a → GoAlong n b → AllByRecursion (λ row. AllByRecursion (ComesAfter n row) b) a → GoAlong n (a ++ b)
  along_joined [] b g h k = h
  along_joined (row ∷ a) b g h k = (all_joined (ComesAfter n row) a b g.0 k.0, along_joined a b g.1 h k.1)

  -- rising rows do
  pub rising_along : (rows : List Row) → IsRising rows → GoAlong n rows
  rising_along [] r = tt
  rising_along (row ∷ rows) r = (all_follows (λ later. row_major row.at.items later.at.items ≡ Less) (ComesAfter n row) (λ later l e. on_line n row.at.items later.at.items l e) rows r.0, rising_along rows r.1)

  -- on one line the greater number comes behind
  less_on_line : (m : ℕ) (a b : Coordinate) → row_major (line_of m a) (line_of m b) ≡ Equal → get_or a m (pos 0) <ℤ get_or b m (pos 0) → row_major a b ≡ Less
  less_on_line m [] [] e l = let less : pos 0 <ℤ pos 0 = l in absurd (omega (arith, ints, less))
  less_on_line zero [] (q ∷ b) e l = cc
  less_on_line (suc m) [] (q ∷ b) e l = cc
  less_on_line zero (p ∷ a) [] e l = cc
  less_on_line (suc m) (p ∷ a) [] e l = cc
  less_on_line zero (p ∷ a) (q ∷ b) e l = ap (λ o. ordering_then o (row_major a b)) (sym (int_cmp_is p q Less l))
  less_on_line (suc m) (p ∷ a) (q ∷ b) e l = cases (int_cmp p q) e (less_on_line m a b)
    where
      cases : (o : Ordering) → ordering_then o (row_major (line_of m a) (line_of m b)) ≡ Equal
          → (row_major (line_of m a) (line_of m b) ≡ Equal → get_or a m (pos 0) <ℤ get_or b m (pos 0) → row_major a b ≡ Less) → ordering_then o (row_major a b) ≡ Less
      cases Less f ih = cc
      cases Equal f ih = ih f l
      cases Greater f ih = cc

  module _ (low : ℤ) where
    abbrev on_one : Coordinate → Coordinate → Bool
    on_one c at = is_eq (row_major (line_start n low at) c)

    equal_of : (o : Ordering) → is_eq o ≡ true → o ≡ Equal
    equal_of Less e = cc
    equal_of Equal e = refl
    equal_of Greater e = cc

    one_line : (a b c : Coordinate) → on_one c a ≡ true → on_one c b ≡ true → row_major (line_of n a) (line_of n b) ≡ Equal
    one_line a b c e f =
        let x : line_start n low a ≡ c = row_major_exact (line_start n low a) c (equal_of (row_major (line_start n low a) c) e) in
        let y : line_start n low b ≡ c = row_major_exact (line_start n low b) c (equal_of (row_major (line_start n low b) c) f) in
        same_line n (pos 0) low a b ∙ ap (λ (d : Coordinate). row_major (line_start n low a) d) (y ∙ sym x) ∙ same_coordinate (line_start n low a)

    pub lines_rise : (rows : List Row) → GoAlong n rows → (c : Coordinate) → IsRising (filter (λ row. on_one c row.at.items) rows)
    lines_rise [] g c = tt
    lines_rise (row ∷ rows) g c = cases (on_one c row.at.items) refl (lines_rise rows g.1 c)
      where
        later : on_one c row.at.items ≡ true → (some : List Row) → AllByRecursion (ComesAfter n row) some → IsBefore row.at.items (filter (λ other. on_one c other.at.items) some)
        later e [] h = tt
        later e (x ∷ some) h = more (on_one c x.at.items) refl (later e some h.1)
          where
            more : (b : Bool) → on_one c x.at.items ≡ b → IsBefore row.at.items (filter (λ other. on_one c other.at.items) some) → IsBefore row.at.items (cond b (x ∷ filter (λ other. on_one c other.at.items) some) (filter (λ other. on_one c other.at.items) some))
            more true f r = let same = one_line row.at.items x.at.items c e f in (less_on_line n row.at.items x.at.items same (h.0 same), r)
            more false f r = r

        cases : (b : Bool) → on_one c row.at.items ≡ b → IsRising (filter (λ other. on_one c other.at.items) rows) → IsRising (cond b (row ∷ filter (λ other. on_one c other.at.items) rows) (filter (λ other. on_one c other.at.items) rows))
        cases true e r = (later e rows g.0, r)
        cases false e r = r

-- ---- rows of which each line is in order, and the same rows in row-major order

module _ (n : ℕ) (low : ℤ) (all turn : List Row) (rise : IsRising all) (same : (c : Coordinate) → cell_at all c ≡ cell_at turn c) (along : GoAlong n turn) where
  wrong : (x y : ℤ) → x <ℤ y → y ≤ℤ x → ⊥
  wrong x y l m = omega (arith, ints, l, m)

  -- the rows on the line up to one of them are those on the line so far
  pub so_far_in_turn : (front : List Row) (row : Row) (rest : List Row) → turn ≡ front ++ row ∷ rest → up_to n row.at.items all ≡ group_at (line_start n low) (line_start n low row.at.items) (front ++ row ∷ [])
  so_far_in_turn front row rest e =
      same_rows (up_to n c all) (group_at (line_start n low) (line_start n low c) (front ++ row ∷ []))
      (IsRising-rows_where (is_up_to n c) all rise)
      (lines_rise n low (front ++ row ∷ []) (along_left n (front ++ row ∷ []) rest (subst (GoAlong n) (e ∙ sym (append_assoc front (row ∷ []) rest)) along)) (line_start n low c))
      (λ d. cell_at-rows_where (is_up_to n c) all d ∙ there d ∙ sym (cell_at-rows_where (λ at. is_eq (row_major (line_start n low at) (line_start n low c))) (front ++ row ∷ []) d))
    where
      c : Coordinate
      c = row.at.items

      there : (d : Coordinate) → cond (is_up_to n row.at.items d) (cell_at all d) None ≡ cond (is_eq (row_major (line_start n low d) (line_start n low row.at.items))) (cell_at (front ++ row ∷ []) d) None
      there d =
          (λ i. cond (is_eq (row_major (line_of n d) (line_of n row.at.items)) && int_le (get_or d n (pos 0)) (get_or row.at.items n (pos 0))) (whole i) None)
          ∙ cases (row_major (line_of n d) (line_of n row.at.items)) refl (int_le (get_or d n (pos 0)) (get_or row.at.items n (pos 0))) refl
          ∙ ap (λ (o : Ordering). cond (is_eq o) (cell_at (front ++ row ∷ []) d) None) (same_line n (pos 0) low d row.at.items)
        where
          whole : cell_at all d ≡ option_or (cell_at (front ++ row ∷ []) d) (cell_at rest d)
          whole = same d ∙ ap (λ (rows : List Row). cell_at rows d) (e ∙ sym (append_assoc front (row ∷ []) rest)) ∙ cell_at-append (front ++ row ∷ []) rest d

          at_end : (o : Option Cell) → option_or o None ≡ o
          at_end None = refl
          at_end (Some cell) = refl

          cases : (o : Ordering) → row_major (line_of n d) (line_of n row.at.items) ≡ o → (b : Bool) → int_le (get_or d n (pos 0)) (get_or row.at.items n (pos 0)) ≡ b
              → cond (is_eq o && b) (option_or (cell_at (front ++ row ∷ []) d) (cell_at rest d)) None ≡ cond (is_eq o) (cell_at (front ++ row ∷ []) d) None
          cases Less f b g = refl
          cases Greater f b g = refl
          cases Equal f true g =
              let behind : AllByRecursion (ComesAfter n row) rest = (along_right n front (row ∷ rest) (subst (GoAlong n) e along)).0 in
              let none : cell_at rest d ≡ None = absent d rest (all_follows (ComesAfter n row) (λ other. other.at.items ≡ d → ⊥)
              (λ other h k. wrong (get_or row.at.items n (pos 0)) (get_or other.at.items n (pos 0)) (h (ap (λ (at : Coordinate). row_major (line_of n row.at.items) (line_of n at)) k ∙ turned_equal (line_of n d) (line_of n row.at.items) f))
              (subst (λ (at : Coordinate). get_or at n (pos 0) ≤ℤ get_or row.at.items n (pos 0)) (sym k) (le_from_test (get_or d n (pos 0)) (get_or row.at.items n (pos 0)) g))) rest behind) in
              ap (option_or (cell_at (front ++ row ∷ []) d)) none ∙ at_end (cell_at (front ++ row ∷ []) d)
          cases Equal f false g =
              let before : AllByRecursion (λ other. ComesAfter n other row) front = before_row n front row rest (subst (GoAlong n) e along) in
              let not_le : get_or d n (pos 0) ≤ℤ get_or row.at.items n (pos 0) → ⊥ = λ l. clash (int_le (get_or d n (pos 0)) (get_or row.at.items n (pos 0))) g (le_test (get_or d n (pos 0)) (get_or row.at.items n (pos 0)) l) in
              sym (absent d (front ++ row ∷ []) (all_joined (λ other. other.at.items ≡ d → ⊥) front (row ∷ [])
              (all_follows (λ other. ComesAfter n other row) (λ other. other.at.items ≡ d → ⊥)
              (λ other h k. not_le (weaker (get_or d n (pos 0)) (get_or row.at.items n (pos 0)) (subst (λ (at : Coordinate). get_or at n (pos 0) <ℤ get_or row.at.items n (pos 0)) k (h (ap (λ (at : Coordinate). row_major (line_of n at) (line_of n row.at.items)) k ∙ f))))) front before)
              ((λ k. not_le (subst (λ (at : Coordinate). get_or d n (pos 0) ≤ℤ get_or at n (pos 0)) (sym k) (itself (get_or d n (pos 0))))), tt)))
            where
              clash : (b : Bool) → b ≡ false → b ≡ true → ⊥
              clash true x y = cc
              clash false x y = cc

              weaker : (x y : ℤ) → x <ℤ y → x ≤ℤ y
              weaker x y l = omega (arith, ints, l)

              itself : (x : ℤ) → x ≤ℤ x
              itself x = omega (arith, ints)

  pub runs_in_turn : (gs : List Aggregate) (front rows rest : List Row) → turn ≡ front ++ (rows ++ rest) → running (line_start n low) gs front rows ≡ cell_wise (cumulate_cell n gs all) rows
  runs_in_turn gs front [] rest e = refl
  runs_in_turn gs front (row ∷ rows) rest e =
      one_cell row.cell (sym (so_far_in_turn front row (rows ++ rest) e)) (runs_in_turn gs (front ++ row ∷ []) rows rest (e ∙ sym (append_assoc front (row ∷ []) (rows ++ rest))))
    where
      one_cell : (cell : Cell) → group_at (line_start n low) (line_start n low row.at.items) (front ++ row ∷ []) ≡ up_to n row.at.items all → running (line_start n low) gs (front ++ row ∷ []) rows ≡ cell_wise (cumulate_cell n gs all) rows
          → placed row.at.items (running_cell gs (group_at (line_start n low) (line_start n low row.at.items) (front ++ row ∷ [])) cell) ∷ running (line_start n low) gs (front ++ row ∷ []) rows
          ≡ put_first row.at.items (cumulate_cell n gs all row.at.items cell) (cell_wise (cumulate_cell n gs all) rows)
      one_cell (Full vs) f r = λ i. placed row.at.items (aggregates_of gs (f i)) ∷ r i
      one_cell (Doubt kind) f r = ap (λ (made : List Row). placed row.at.items (Doubt kind) ∷ made) r

-- Groups of the cells at places of a grid.
use Rattle.std.proofs.Common.{◌≡◌, ℕ, zero, suc, ◌+◌, ◌<◌, ◌≤◌, ℤ, pos, Bool, true, false, cond, List, [], ◌∷◌, ◌++◌, length, get_or, take, drop, None, refl, sym, ap, ◌∙◌, subst, arith}
use Rattle.std.specs.Prelude.{IfOk, Result, Ok, Err}
use Rattle.std.proofs.lemmas.List.{append-nil, drop-map, length-drop, length-map, length-take-le, take-append-drop, take-map, take_more}
use Rattle.std.proofs.lemmas.List.Elements.{filter-append}
use Rattle.std.specs.BTreeMap.{BTreeMap}
use Rattle.std.specs.List.{AllByRecursion}
use Rattle.std.specs.Ordering.{is_eq}
use Rattle.std.specs.declared.cmp.Ordering.{Ordering}
use Rattle.std.specs.declared.cmp.Ordering.TheVariants.{Less, Equal, Greater}
use Rattle.arrayvec.specs.ArrayVec.{ArrayVec}
use Rattle.cell_values.specs.declared.datum.Cell.{Cell}
use Rattle.cell_values.specs.declared.datum.Cell.TheVariants.{Full}
use Rattle.cell_values.specs.declared.datum.Datum.TheVariants.{Int}
use Rattle.cell_values.specs.declared.datum.Row.{Row}
use Rattle.cell_values.specs.declared.schema.Bounds.{Bounds}
use Rattle.array_rows.specs.Boxes.{is_inside, within}
use Rattle.array_rows.specs.Rows.{Coordinate, IsRising, cell_at, placed, put_row, row_major}
use Rattle.array_rows.specs.Inner.CellsIn.{value_in}
use Rattle.array_rows.proofs.RowSets.{IsRising-rows_where}
use Rattle.array_rows.proofs.RowsLemmas.{row_major_exact}
use Rattle.array_geom.specs.Geometry.{coordinate_in}
use Rattle.array_geom.specs.Link.{rows_in}
use Rattle.logical_plan.specs.declared.parts.Aggregate.{Aggregate}
use Rattle.logical_plan.specs.Groups.{attribute_of, cells_of, fault_for}
use Rattle.agg_states.specs.Stands.{StandsFor}
use Rattle.agg_states.specs.Inner.Summary.{Summary}
use Rattle.group_rows.specs.Inner.Columns.{HaveNumbers, are_inside}
use Rattle.group_rows.specs.Inner.Places.{AreMarked}
use Rattle.group_rows.specs.Sets.{Sets, sets_by}
use Rattle.group_rows.specs.Taken.{KeepsGroups, rows_of, sets_with}
use Rattle.group_rows.proofs.ColumnLaws.{has_no_fault, here, is_value}
use Rattle.group_rows.proofs.RowLemmas.{rising_left}
use Rattle.group_rows.proofs.TakenLaws.{StandsAlso, one_also, run_rises, run_sets, same_kept, taken_both}

-- ---- lists

pub run_long : (numbers run : List ℤ) (from n : ℕ) → run ≡ take n (drop from numbers) → from + n ≤ length numbers → length run ≡ n
run_long numbers run from n is enough = ap length is ∙ length-take-le n (drop from numbers) (omega (arith, length-drop from numbers, enough))

pub all_at : {A : Type 0} (P : A → Type 0) (xs : List A) (i : ℕ) (d : A) → i < length xs → AllByRecursion P xs → P (get_or xs i d)
all_at P [] i d l h = absurd (omega (arith, l))
all_at P (x ∷ xs) zero d l h = h.0
all_at P (x ∷ xs) (suc i) d l h = all_at P xs i d (omega (arith, l)) h.1

pub all_taken : {A : Type 0} (P : A → Type 0) (n : ℕ) (xs : List A) → AllByRecursion P xs → AllByRecursion P (take n xs)
all_taken P zero xs h = tt
all_taken P (suc n) [] h = tt
all_taken P (suc n) (x ∷ xs) h = (h.0, all_taken P n xs h.1)

pub all_dropped : {A : Type 0} (P : A → Type 0) (n : ℕ) (xs : List A) → AllByRecursion P xs → AllByRecursion P (drop n xs)
all_dropped P zero xs h = h
all_dropped P (suc n) [] h = tt
all_dropped P (suc n) (x ∷ xs) h = all_dropped P n xs h.1

pub all_front : {A : Type 0} (P : A → Type 0) (xs : List A) (n : ℕ) (ys : List A) → ys ≡ take n xs → AllByRecursion P xs → AllByRecursion P ys
all_front P xs n ys e a = subst (AllByRecursion P) (sym e) (all_taken P n xs a)

pub all_back : {A : Type 0} (P : A → Type 0) (xs : List A) (n : ℕ) (ys : List A) → ys ≡ drop n xs → AllByRecursion P xs → AllByRecursion P ys
all_back P xs n ys e a = subst (AllByRecursion P) (sym e) (all_dropped P n xs a)

pub all_first : {A : Type 0} (P : A → Type 0) (xs : List A) (d : A) → 0 < length xs → P (get_or xs 0 d) → AllByRecursion P (take 1 xs)
all_first P [] d l h = absurd (omega (arith, l))
all_first P (x ∷ xs) d l h = (h, tt)

-- what holds of the first ones up to the end holds of all
pub all_first_taken : {A : Type 0} (P : A → Type 0) (xs : List A) (i n : ℕ) → n ≤ i → AllByRecursion P (take i xs) → AllByRecursion P (take n xs)
all_first_taken P xs i zero less h = tt
all_first_taken P [] i (suc n) less h = tt
all_first_taken P (x ∷ xs) zero (suc n) less h = absurd (omega (arith, less))
all_first_taken P (x ∷ xs) (suc i) (suc n) less h = (h.0, all_first_taken P xs i n (omega (arith, less)) h.1)

all_pushed : {A : Type 0} (P : A → Type 0) (xs : List A) (x : A) → AllByRecursion P xs → P x → AllByRecursion P (xs ++ x ∷ [])
all_pushed P [] x h p = (p, tt)
all_pushed P (y ∷ xs) x h p = (h.0, all_pushed P xs x h.1 p)

pub all_further : {A : Type 0} (P : A → Type 0) (xs : List A) (i : ℕ) (d : A) → i < length xs → AllByRecursion P (take i xs) → P (get_or xs i d) → AllByRecursion P (take (i + 1) xs)
all_further P xs i d l h p = subst (AllByRecursion P) (sym (take_more xs i d l)) (all_pushed P (take i xs) (get_or xs i d) h p)

-- ---- rows at places

pub length_rows : (low : List ℤ) (lengths positions : List ℕ) (cells : List Cell) → length positions ≤ length cells → length (rows_in low lengths positions cells) ≡ length positions
length_rows low lengths [] cells l = refl
length_rows low lengths (p ∷ positions) [] l = absurd (omega (arith, l))
length_rows low lengths (p ∷ positions) (cell ∷ cells) l = ap suc (length_rows low lengths positions cells (omega (arith, l)))

pub cells_of_rows : (low : List ℤ) (lengths positions : List ℕ) (cells : List Cell) → length positions ≤ length cells → cells_of (rows_in low lengths positions cells) ≡ take (length positions) cells
cells_of_rows low lengths [] cells l = refl
cells_of_rows low lengths (p ∷ positions) [] l = absurd (omega (arith, l))
cells_of_rows low lengths (p ∷ positions) (cell ∷ cells) l = ap (λ (cs : List Cell). cell ∷ cs) (cells_of_rows low lengths positions cells (omega (arith, l)))

pub row_in : (low : List ℤ) (lengths positions : List ℕ) (cells : List Cell) (k : ℕ) (row : Row) → k < length positions → length positions ≤ length cells
    → row ≡ placed (coordinate_in low lengths (get_or positions k 0)) (get_or cells k (Full [])) → row ≡ get_or (rows_in low lengths positions cells) k row
row_in low lengths [] cells k row l m e = absurd (omega (arith, l))
row_in low lengths (p ∷ positions) [] k row l m e = absurd (omega (arith, m))
row_in low lengths (p ∷ positions) (cell ∷ cells) zero row l m e = e
row_in low lengths (p ∷ positions) (cell ∷ cells) (suc k) row l m e = row_in low lengths positions cells k row (omega (arith, l)) (omega (arith, m)) e

none_in : (low : List ℤ) (lengths positions : List ℕ) → rows_in low lengths positions [] ≡ []
none_in low lengths [] = refl
none_in low lengths (p ∷ positions) = refl

pub rows_dropped : (low : List ℤ) (lengths positions : List ℕ) (cells : List Cell) (n : ℕ) → rows_in low lengths (drop n positions) (drop n cells) ≡ drop n (rows_in low lengths positions cells)
rows_dropped low lengths positions cells zero = refl
rows_dropped low lengths [] cells (suc n) = refl
rows_dropped low lengths (p ∷ positions) [] (suc n) = none_in low lengths (drop n positions)
rows_dropped low lengths (p ∷ positions) (cell ∷ cells) (suc n) = rows_dropped low lengths positions cells n

pub rows_taken : (low : List ℤ) (lengths positions : List ℕ) (cells : List Cell) (n : ℕ) → rows_in low lengths (take n positions) cells ≡ take n (rows_in low lengths positions cells)
rows_taken low lengths positions cells zero = refl
rows_taken low lengths [] cells (suc n) = refl
rows_taken low lengths (p ∷ positions) [] (suc n) = refl
rows_taken low lengths (p ∷ positions) (cell ∷ cells) (suc n) = ap (λ (rows : List Row). placed (coordinate_in low lengths p) cell ∷ rows) (rows_taken low lengths positions cells n)

pub all_rows : (P : Coordinate → Type 0) (low : List ℤ) (lengths positions : List ℕ) (cells : List Cell) → AllByRecursion (λ p. P (coordinate_in low lengths p)) positions
    → AllByRecursion (λ row. P row.at.items) (rows_in low lengths positions cells)
all_rows P low lengths [] cells h = tt
all_rows P low lengths (p ∷ positions) [] h = tt
all_rows P low lengths (p ∷ positions) (cell ∷ cells) h = (h.0, all_rows P low lengths positions cells h.1)

pub all_places : (P : Coordinate → Type 0) (low : List ℤ) (lengths positions : List ℕ) (cells : List Cell) → length cells ≡ length positions
    → AllByRecursion (λ row. P row.at.items) (rows_in low lengths positions cells) → AllByRecursion (λ p. P (coordinate_in low lengths p)) positions
all_places P low lengths [] cells e h = tt
all_places P low lengths (p ∷ positions) [] e h = absurd (omega (arith, e))
all_places P low lengths (p ∷ positions) (cell ∷ cells) e h = (h.0, all_places P low lengths positions cells (omega (arith, e)) h.1)

-- ---- the state of one aggregate

abbrev pub StandsWith : Summary → List ℤ → ℕ → Summary → Type 0
StandsWith first numbers i state = (g : Aggregate) (rows : List Row) → HaveNumbers g.attribute numbers (cells_of rows) → StandsAlso g rows first i state

pub number_also : (first : Summary) (numbers : List ℤ) (i : ℕ) (number : ℤ) (s t : Summary) → i < length numbers → number ≡ get_or numbers i (pos 0) → StandsWith first numbers i s
    → ((h : Aggregate) (rows : List Row) (new : Row) → StandsFor h rows s → attribute_of h.attribute new.cell ≡ Int number → fault_for h.function h.attribute new.cell ≡ None → cell_at rows new.at.items ≡ None → StandsFor h (put_row new rows) t)
    → StandsWith first numbers (i + 1) t
number_also first numbers i number s t l e also takes g rows h =
    let at = here g.attribute rows numbers i number h l e in
    one_also g rows first i at.row s t at.within_rows at.is (also g rows h)
    (λ k some stands same free.
    let value : value_in k.attribute at.row.cell ≡ Int number = subst (λ (a : ℕ). value_in a at.row.cell ≡ Int number) (sym same) at.value in
    takes k some at.row stands (is_value k.attribute at.row.cell number value) (has_no_fault k.function k.attribute at.row.cell number value) free)

-- as many numbers as there are rows
pub as_many_rows : (place : ℕ) (numbers : List ℤ) (rows : List Row) → HaveNumbers place numbers (cells_of rows) → length rows ≡ length numbers
as_many_rows place numbers rows h =
    sym (length-map rows (λ (row : Row). row.cell)) ∙ sym (length-map (cells_of rows) (value_in place)) ∙ ap length h ∙ length-map numbers Int

-- the numbers of a run
pub run_numbers : (place : ℕ) (numbers : List ℤ) (cells : List Cell) (low : List ℤ) (lengths positions : List ℕ) (from : ℕ) → length positions ≤ length (drop from cells) → HaveNumbers place numbers cells
    → HaveNumbers place (take (length positions) (drop from numbers)) (cells_of (rows_in low lengths positions (drop from cells)))
run_numbers place numbers cells low lengths positions from l h =
    let n = length positions in
    subst (HaveNumbers place (take n (drop from numbers))) (sym (cells_of_rows low lengths positions (drop from cells) l))
    (sym (take-map (value_in place) n (drop from cells))
    ∙ ap (take n) (sym (drop-map (value_in place) from cells) ∙ ap (drop from) h ∙ drop-map Int from numbers)
    ∙ take-map Int n (drop from numbers))

-- ---- cells inside

pub rows_marked : (area : Bounds) (n : ℕ) (rows : List Row) → AreMarked (take n (are_inside area rows)) → within area (take n rows) ≡ take n rows
rows_marked area zero rows h = refl
rows_marked area (suc n) [] h = refl
rows_marked area (suc n) (row ∷ rows) h =
    ap (λ (b : Bool). cond b (row ∷ within area (take n rows)) (within area (take n rows))) h.0 ∙ ap (λ (zs : List Row). row ∷ zs) (rows_marked area n rows h.1)

pub first_unmarked : (area : Bounds) (rows : List Row) (marks : List Bool) → 0 < length rows → are_inside area rows ≡ marks → get_or marks 0 false ≡ false → within area (take 1 rows) ≡ []
first_unmarked area [] marks l e h = absurd (omega (arith, l))
first_unmarked area (row ∷ rows) marks l e h =
    ap (λ (b : Bool). cond b (row ∷ []) []) (ap (λ (bs : List Bool). get_or bs 0 false) e ∙ h)

pub marks_left : (area : Bounds) (rows left : List Row) (marks behind : List Bool) (n : ℕ) → left ≡ drop n rows → behind ≡ drop n marks → are_inside area rows ≡ marks → are_inside area left ≡ behind
marks_left area rows left marks behind n e f h =
    ap (are_inside area) e ∙ sym (drop-map (λ (row : Row). is_inside area row.at.items) n rows) ∙ ap (drop n) h ∙ sym f

pub further : (area : Bounds) (rows left : List Row) (n m : ℕ) → left ≡ drop n rows → within area (take n rows) ++ within area (take m left) ≡ within area (take (n + m) rows)
further area rows left n m e =
    sym (filter-append (λ (row : Row). is_inside area row.at.items) (take n rows) (take m left)) ∙ ap (within area) (taken_both n m rows left e)

pub further_rises : (area : Bounds) (rows left : List Row) (n m : ℕ) → left ≡ drop n rows → IsRising rows → IsRising (within area (take n rows) ++ within area (take m left))
further_rises area rows left n m e rise =
    subst IsRising (sym (further area rows left n m e))
    (IsRising-rows_where (is_inside area) (take (n + m) rows) (rising_left (take (n + m) rows) (drop (n + m) rows) (subst IsRising (sym (take-append-drop (n + m) rows)) rise)))

pub further_length : (area : Bounds) (rows left : List Row) (n m : ℕ) → left ≡ drop n rows → length (within area (take (n + m) rows)) ≡ length (within area (take n rows)) + length (within area (take m left))
further_length area rows left n m e = sym (ap length (further area rows left n m e)) ∙ length_both (within area (take n rows)) (within area (take m left))
  where
    length_both : (a b : List Row) → length (a ++ b) ≡ length a + length b
    length_both [] b = omega arith
    length_both (x ∷ a) b = let rest = length_both a b in omega (arith, rest)

-- ---- the groups

pub same_key : (a b : Coordinate) → is_eq (row_major a b) ≡ true → a ≡ b
same_key a b h = cases (row_major a b) refl h
  where
    cases : (o : Ordering) → row_major a b ≡ o → is_eq o ≡ true → a ≡ b
    cases Less e f = absurd cc
    cases Greater e f = absurd cc
    cases Equal e f = row_major_exact a b e

-- the groups with a run more
pub group_taken : (gs : List Aggregate) (group : Coordinate → Coordinate) (at : ArrayVec ℤ) (before run rows : List Row) (old new : BTreeMap (ArrayVec ℤ) (List Summary)) → 0 < length run → run ≡ rows
    → AllByRecursion (λ row. group row.at.items ≡ at.items) run
    → ((sets : Sets) → KeepsGroups gs sets old → IsRising (rows_of (sets at.items) ++ run) → KeepsGroups gs (sets_with at.items run sets) new)
    → IsRising (before ++ rows) → KeepsGroups gs (sets_by group before) old → KeepsGroups gs (sets_by group (before ++ rows)) new
group_taken gs group at before run rows old new l e all takes rise keeps =
    subst (λ (zs : List Row). KeepsGroups gs (sets_by group (before ++ zs)) new) e
    (same_kept gs (sets_with at.items run (sets_by group before)) (sets_by group (before ++ run)) new (run_sets group at.items before run l all)
    (takes (sets_by group before) keeps (run_rises group at.items before run l all (subst (λ (zs : List Row). IsRising (before ++ zs)) (sym e) rise))))

-- the groups after cells of which none is taken
pub passed_over : (gs : List Aggregate) (group : Coordinate → Coordinate) (before rows : List Row) (groups : BTreeMap (ArrayVec ℤ) (List Summary)) → rows ≡ []
    → KeepsGroups gs (sets_by group before) groups → KeepsGroups gs (sets_by group (before ++ rows)) groups
passed_over gs group before rows groups none keeps =
    subst (λ (zs : List Row). KeepsGroups gs (sets_by group zs) groups) (sym (ap (λ (zs : List Row). before ++ zs) none ∙ append-nil before)) keeps

-- ---- answers

pub both_ok : {A E : Type 0} (r : Result A E) (P Q S : A → Type 0) → IfOk r P → IfOk r Q → ((x : A) → P x → Q x → S x) → IfOk r S
both_ok (Ok x) P Q S p q f = f x p q
both_ok (Err e) P Q S p q f = p

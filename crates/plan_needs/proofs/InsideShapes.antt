-- What cells of arrays that are put in a line, turned, enlarged or put together lie within.
use Rattle.std.proofs.Common.{◌≡◌, ℕ, ℤ, pos, ◌+ℤ◌, ◌-ℤ◌, true, List, [], ◌∷◌, map, Result, Ok, Err, sym, subst}
use Rattle.std.specs.Prelude.{reverse, IfOk}
use Rattle.std.specs.List.{AllByRecursion}
use Rattle.std.proofs.lemmas.List.{reverse-reverse}
use Rattle.cell_values.specs.declared.datum.Broken.{Broken}
use Rattle.cell_values.specs.declared.datum.Row.{Row}
use Rattle.cell_values.specs.declared.schema.Bounds.{Bounds}
use Rattle.cell_values.specs.declared.schema.Dimension.{Dimension}
use Rattle.cell_values.specs.declared.schema.Schema.{Schema}
use Rattle.array_rows.specs.Arrays.{Meant}
use Rattle.array_rows.specs.Boxes.{by_pairs, is_inside, within, bounds_of, moved}
use Rattle.logical_plan.specs.Faults.{if_whole, and_then}
use Rattle.logical_plan.specs.Shapes.{backwards, mirrored, along, transpose_rows, reverse_rows, xgrid_rows, merge_rows, concat_rows, step_between}
use Rattle.logical_plan.specs.ShapeSchemas.{enlarged, length_of, lengthened, with_high}
use Rattle.logical_plan.proofs.BuiltRows.{all-append, all-follows, all-map}
use Rattle.shape_rows.specs.Laws.{AllEnlarge, CanFollow, SameBounds}
use Rattle.shape_rows.proofs.BlockLaws.{xgrid_pulled}
use Rattle.shape_rows.proofs.PairLaws.{bounds_same, left_inside, right_inside}
use Rattle.shape_rows.proofs.PullLaws.{inside_backwards, inside_mirrored, mirrored_again, moved_pulled}
use Rattle.plan_needs.proofs.Inside.{AreInside, Inside}
use Rattle.plan_needs.proofs.RowLists.{all_in_order, all_tested}

-- ---- cells that are numbered

pub numbers_inside : (schema : Schema) (r : Result (List Row) Broken) → IfOk (if_whole (within (bounds_of schema.dimensions)) r) (AreInside schema.dimensions)
numbers_inside schema (Ok rows) = all_tested (λ (row : Row). is_inside (bounds_of schema.dimensions) row.at.items) rows
numbers_inside schema (Err broken) = tt

-- ---- cells at other coordinates

pub transposed_inside : (dims : List Dimension) (rows : List Row) → AreInside dims rows → AreInside (reverse dims) (transpose_rows rows)
transposed_inside dims rows i = (moved_pulled (bounds_of dims) (bounds_of (reverse dims)) backwards backwards (inside_backwards dims) (λ c e. reverse-reverse c) (λ y e. reverse-reverse y) rows i).in_bounds

reversed_inside : (dims : List Dimension) (rows : List Row) → AreInside dims rows → AreInside dims (reverse_rows dims rows)
reversed_inside dims rows i = (moved_pulled (bounds_of dims) (bounds_of dims) (mirrored dims) (mirrored dims) (inside_mirrored dims) (mirrored_again dims) (mirrored_again dims) rows i).in_bounds

xgridded_inside : (dims : List Dimension) (sizes : List ℕ) → AllEnlarge dims sizes → (rows : List Row) → AreInside dims rows → AreInside (by_pairs enlarged dims sizes) (xgrid_rows dims sizes rows)
xgridded_inside dims sizes en rows i = (xgrid_pulled dims sizes rows en i).in_bounds

if_kept : (d e : List Dimension) (f : List Row → List Row) → ((rows : List Row) → AreInside d rows → AreInside e (f rows)) → (r : Result (List Row) Broken) → IfOk r (AreInside d) → IfOk (if_whole f r) (AreInside e)
if_kept d e f h (Ok rows) i = h rows i
if_kept d e f h (Err broken) i = tt

pub reversed_of : (schema : Schema) (m : Meant) → m.schema ≡ schema → IfOk m.rows (AreInside schema.dimensions) → IfOk (if_whole (reverse_rows m.schema.dimensions) m.rows) (AreInside schema.dimensions)
reversed_of schema m same i =
    subst (λ (s : Schema). IfOk (if_whole (reverse_rows s.dimensions) m.rows) (AreInside schema.dimensions)) (sym same)
    (if_kept schema.dimensions schema.dimensions (reverse_rows schema.dimensions) (reversed_inside schema.dimensions) m.rows i)

pub xgridded_of : (sizes : List ℕ) (schema : Schema) → AllEnlarge schema.dimensions sizes → (m : Meant) → m.schema ≡ schema → IfOk m.rows (AreInside schema.dimensions)
    → IfOk (if_whole (xgrid_rows m.schema.dimensions sizes) m.rows) (AreInside (by_pairs enlarged schema.dimensions sizes))
xgridded_of sizes schema en m same i =
    let dims : List Dimension = schema.dimensions in
    subst (λ (s : Schema). IfOk (if_whole (xgrid_rows s.dimensions sizes) m.rows) (AreInside (by_pairs enlarged dims sizes))) (sym same)
    (if_kept dims (by_pairs enlarged dims sizes) (xgrid_rows dims sizes) (xgridded_inside dims sizes en) m.rows i)

-- ---- two arrays

merged_rows : (d e : List Dimension) → SameBounds d e → (l r : List Row) → AreInside d l → AreInside e r → AreInside d (merge_rows l r)
merged_rows d e same l r i j =
    all_in_order (Inside d) _ (all-append (Inside d) l r i (subst (λ (b : Bounds). AllByRecursion (λ (row : Row). is_inside b row.at.items ≡ true) r) (bounds_same d e same) j))

pub merged_inside : (d e : List Dimension) → SameBounds d e → (x y : Result (List Row) Broken) → IfOk x (AreInside d) → IfOk y (AreInside e) → IfOk (and_then (λ l. if_whole (merge_rows l) y) x) (AreInside d)
merged_inside d e same (Ok l) (Ok r) i j = merged_rows d e same l r i j
merged_inside d e same (Ok l) (Err broken) i j = tt
merged_inside d e same (Err broken) y i j = tt

all_along : (P Q : Row → Type 0) (by : ℤ) → ((row : Row) → P row → Q (moved (along by) row)) → (rows : List Row) → AllByRecursion P rows → AllByRecursion Q (map (moved (along by)) rows)
all_along P Q by f rows a = all-map Q (moved (along by)) rows (all-follows P (λ row. Q (moved (along by) row)) f rows a)

followed_rows : (d e : List Dimension) → CanFollow d e → (l r : List Row) → AreInside d l → AreInside e r → AreInside (lengthened d e) (concat_rows (step_between d e) l r)
followed_rows [] e can l r i j = absurd can
followed_rows (d ∷ left) [] can l r i j = absurd can
followed_rows (d ∷ left) (e ∷ right) can l r i j =
    let both : List Dimension = with_high d (d.hi +ℤ pos (length_of e)) ∷ left in
    all-append (Inside both) l _ (all-follows (Inside (d ∷ left)) (Inside both) (λ row f. left_inside d e left right can row.at.items f) l i)
    (all_along (Inside (e ∷ right)) (Inside both) ((d.hi +ℤ pos 1) -ℤ e.lo) (λ row f. right_inside d e left right can row.at.items f) r j)

followed_inside : (d e : List Dimension) → CanFollow d e → (x y : Result (List Row) Broken) → IfOk x (AreInside d) → IfOk y (AreInside e) → IfOk (and_then (λ l. if_whole (concat_rows (step_between d e) l) y) x) (AreInside (lengthened d e))
followed_inside d e can (Ok l) (Ok r) i j = followed_rows d e can l r i j
followed_inside d e can (Ok l) (Err broken) i j = tt
followed_inside d e can (Err broken) y i j = tt

pub concat_of : (a b : Schema) → CanFollow a.dimensions b.dimensions → (m n : Meant) → m.schema ≡ a → n.schema ≡ b → IfOk m.rows (AreInside a.dimensions) → IfOk n.rows (AreInside b.dimensions)
    → IfOk (and_then (λ l. if_whole (concat_rows (step_between m.schema.dimensions n.schema.dimensions) l) n.rows) m.rows) (AreInside (lengthened a.dimensions b.dimensions))
concat_of a b can m n p q i j =
    subst (λ (s : Schema). IfOk (and_then (λ l. if_whole (concat_rows (step_between s.dimensions n.schema.dimensions) l) n.rows) m.rows) (AreInside (lengthened a.dimensions b.dimensions))) (sym p)
    (subst (λ (s : Schema). IfOk (and_then (λ l. if_whole (concat_rows (step_between a.dimensions s.dimensions) l) n.rows) m.rows) (AreInside (lengthened a.dimensions b.dimensions))) (sym q)
    (followed_inside a.dimensions b.dimensions can m.rows n.rows i j))

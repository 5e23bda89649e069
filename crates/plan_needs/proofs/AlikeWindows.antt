-- What windows need of their source where they reach beyond the overlap.
use Rattle.std.proofs.Common.{◌≡◌, ◌-◌, ◌^◌, ℤ, pos, negsuc, ◌+ℤ◌, ◌-ℤ◌, ◌≤ℤ◌, Bool, true, false, List, [], ◌∷◌, length, cond, Option, Some, Result, refl, sym, ap, ◌∙◌, arith}
use Rattle.std.specs.Prelude.{IfOk}
use Rattle.std.specs.Int.{w64, saturate_signed}
use Rattle.std.specs.List.{AllByRecursion}
use Rattle.std.proofs.lemmas.Bool.{false≢true}
use Rattle.std.proofs.lemmas.Int.{ints}
use Rattle.cell_values.specs.declared.datum.Broken.{Broken}
use Rattle.cell_values.specs.declared.datum.Cell.{Cell}
use Rattle.cell_values.specs.declared.datum.Cell.TheVariants.{Full, Doubt}
use Rattle.cell_values.specs.declared.datum.Row.{Row}
use Rattle.cell_values.specs.declared.schema.Dimension.{Dimension}
use Rattle.array_rows.specs.Boxes.{by_pairs, is_inside, within, bounds_of}
use Rattle.array_rows.specs.Cellwise.{cell_wise, put_first}
use Rattle.array_rows.specs.Rows.{Coordinate, rows_where}
use Rattle.array_rows.proofs.RowsLemmas.{within-cell_wise}
use Rattle.array_geom.specs.Inner.Ranges.{IsNear, AreNear}
use Rattle.array_geom.proofs.TestLaws.{lt_from_test}
use Rattle.logical_plan.specs.declared.parts.Aggregate.{Aggregate}
use Rattle.logical_plan.specs.declared.parts.Reach.{Reach}
use Rattle.logical_plan.specs.Faults.{if_whole}
use Rattle.logical_plan.specs.Groups.{aggregates_of, window, window_cell, window_rows}
use Rattle.plan_needs.specs.declared.stretch.Stretch.{Stretch}
use Rattle.plan_needs.specs.Sides.{Sides, box_of, of_windows}
use Rattle.plan_needs.specs.Stretches.{stretch, all_of, is_empty, shared, grown}
use Rattle.plan_needs.proofs.AlikeBlocks.{both_below, both_above}
use Rattle.plan_needs.proofs.AlikeGroups.{implied}
use Rattle.plan_needs.proofs.AlikeParts.{alike_by, sat_low, sat_high}
use Rattle.plan_needs.proofs.EmptyBoxes.{needed_inside}
use Rattle.plan_needs.proofs.Inside.{AreInside, Inside, side_parts, side_from}

-- ---- rows of which something holds, changed in two ways

pub changed_where : (P : Row → Type 0) (test : Coordinate → Bool) (f g : Coordinate → Cell → Option Cell) → ((row : Row) → P row → test row.at.items ≡ true → f row.at.items row.cell ≡ g row.at.items row.cell)
    → (rows : List Row) → AllByRecursion P rows → cell_wise f (rows_where test rows) ≡ cell_wise g (rows_where test rows)
changed_where P test f g same [] all = refl
changed_where P test f g same (row ∷ rows) all = by_test (test row.at.items) refl (changed_where P test f g same rows all.1)
  where
    by_test : (b : Bool) → test row.at.items ≡ b → cell_wise f (rows_where test rows) ≡ cell_wise g (rows_where test rows) → cell_wise f (cond b (row ∷ rows_where test rows) (rows_where test rows)) ≡ cell_wise g (cond b (row ∷ rows_where test rows) (rows_where test rows))
    by_test false e ih = ih
    by_test true e ih =
        ap (λ (o : Option Cell). put_first row.at.items o (cell_wise f (rows_where test rows))) (same row all.0 e)
        ∙ ap (λ (l : List Row). put_first row.at.items (g row.at.items row.cell) l) ih

-- the windows round a coordinate depend on the rows in them
pub same_window : (reach : List Reach) (gs : List Aggregate) (a b : List Row) (c : Coordinate) (cell : Cell) → within (window reach c) a ≡ within (window reach c) b → window_cell reach gs a c cell ≡ window_cell reach gs b c cell
same_window reach gs a b c (Full vs) e = ap (λ (l : List Row). Some (aggregates_of gs l)) e
same_window reach gs a b c (Doubt kind) e = refl

-- ---- what windows reach

grown_held : (d : Dimension) (r : Reach) (s : Stretch) (x y : ℤ) → IsNear d → d.lo ≤ℤ y → y ≤ℤ d.hi → s.first ≤ℤ x → x ≤ℤ s.last → (x -ℤ pos r.before) ≤ℤ y → y ≤ℤ (x +ℤ pos r.after)
    → ((grown d r s).first ≤ℤ y) × (y ≤ℤ (grown d r s).last)
grown_held d r s x y near a b f g l h = by_test (is_empty s) refl
  where
    low : negsuc (2 ^ 63 - 1) ≤ℤ y
    low = let n = near.low in omega (arith, ints)

    high : y ≤ℤ pos (2 ^ 63 - 1)
    high = let n = near.high in omega (arith, ints)

    begins : (s.first -ℤ pos r.before) ≤ℤ y
    begins = omega (arith, ints)

    ends : y ≤ℤ (s.last +ℤ pos r.after)
    ends = omega (arith, ints)

    by_test : (t : Bool) → is_empty s ≡ t
        → ((cond t s (shared (all_of d) (stretch (saturate_signed w64 (s.first -ℤ pos r.before)) (saturate_signed w64 (s.last +ℤ pos r.after))))).first ≤ℤ y)
        × (y ≤ℤ (cond t s (shared (all_of d) (stretch (saturate_signed w64 (s.first -ℤ pos r.before)) (saturate_signed w64 (s.last +ℤ pos r.after))))).last)
    by_test true e = let n = lt_from_test s.last s.first e in absurd (omega (arith, ints))
    by_test false e = (
      both_below d.lo (saturate_signed w64 (s.first -ℤ pos r.before)) y a (sat_low (s.first -ℤ pos r.before) y begins low),
      both_above d.hi (saturate_signed w64 (s.last +ℤ pos r.after)) y b (sat_high (s.last +ℤ pos r.after) y ends high),
    )

grown_hold : (dims : List Dimension) (reach : List Reach) (sides : Sides) (c z : Coordinate) → AreNear dims → is_inside (bounds_of dims) z ≡ true → is_inside (box_of sides) c ≡ true → is_inside (window reach c) z ≡ true
    → is_inside (box_of (by_pairs (λ g s. g s) (by_pairs grown dims reach) sides)) z ≡ true
grown_hold [] reach sides c [] near e f g = refl
grown_hold [] reach sides c (y ∷ z) near e f g = absurd (false≢true e)
grown_hold (d ∷ dims) reach sides c [] near e f g = absurd (false≢true e)
grown_hold (d ∷ dims) reach sides [] (y ∷ z) near e f g = absurd (false≢true g)
grown_hold (d ∷ dims) [] sides (x ∷ c) (y ∷ z) near e f g = absurd (false≢true g)
grown_hold (d ∷ dims) (r ∷ reach) [] (x ∷ c) (y ∷ z) near e f g = absurd (false≢true f)
grown_hold (d ∷ dims) (r ∷ reach) (s ∷ sides) (x ∷ c) (y ∷ z) near e f g =
    let p = side_parts d.lo d.hi y (is_inside (bounds_of dims) z) e in
    let q = side_parts s.first s.last x (is_inside (box_of sides) c) f in
    let w = side_parts (x -ℤ pos r.before) (x +ℤ pos r.after) y (is_inside (window reach c) z) g in
    let t = grown_held d r s x y near.0 p.0 p.1 q.0 q.1 w.0 w.1 in
    side_from (grown d r s).first (grown d r s).last y _ t.0 t.1 (grown_hold dims reach sides c z near.1 p.2 q.2 w.2)

windows_hold : (dims : List Dimension) (reach : List Reach) (sides : Sides) (c z : Coordinate) → AreNear dims → is_inside (bounds_of dims) z ≡ true → is_inside (box_of sides) c ≡ true → is_inside (window reach c) z ≡ true
    → is_inside (box_of (of_windows dims reach sides)) z ≡ true
windows_hold dims reach sides c z near e f g = needed_inside sides (by_pairs (λ (h : Stretch → Stretch) (s : Stretch). h s) (by_pairs grown dims reach) sides) c z f (grown_hold dims reach sides c z near e f g)

own_window : (reach : List Reach) (c : Coordinate) → length reach ≡ length c → is_inside (window reach c) c ≡ true
own_window [] [] e = refl
own_window [] (x ∷ c) e = absurd (omega arith)
own_window (r ∷ reach) [] e = absurd (omega arith)
own_window (r ∷ reach) (x ∷ c) e = side_from (x -ℤ pos r.before) (x +ℤ pos r.after) x _ (omega (arith, ints)) (omega (arith, ints)) (own_window reach c (omega arith))

pub bounds_length : (dims : List Dimension) (c : Coordinate) → is_inside (bounds_of dims) c ≡ true → length c ≡ length dims
bounds_length [] [] f = refl
bounds_length [] (x ∷ c) f = absurd (false≢true f)
bounds_length (d ∷ dims) [] f = absurd (false≢true f)
bounds_length (d ∷ dims) (x ∷ c) f = let t = bounds_length dims c (side_parts d.lo d.hi x (is_inside (bounds_of dims) c) f).2 in omega arith

-- ---- windows in a box

window_depends : (dims : List Dimension) (reach : List Reach) (gs : List Aggregate) (sides : Sides) → AreNear dims → length reach ≡ length dims → (rows : List Row) → AreInside dims rows
    → within (box_of sides) (window_rows reach gs rows) ≡ within (box_of sides) (window_rows reach gs (within (box_of (of_windows dims reach sides)) rows))
window_depends dims reach gs sides near len rows i =
    let some : List Row = within (box_of (of_windows dims reach sides)) rows in
    within-cell_wise (box_of sides) (window_cell reach gs rows) rows
    ∙ changed_where (Inside dims) (is_inside (box_of sides)) (window_cell reach gs rows) (window_cell reach gs some) (λ row inside e. same_window reach gs rows some row.at.items row.cell (in_window row.at.items e)) rows i
    ∙ ap (λ (l : List Row). cell_wise (window_cell reach gs some) l) in_box
    ∙ sym (within-cell_wise (box_of sides) (window_cell reach gs some) some)
  where
    in_window : (c : Coordinate) → is_inside (box_of sides) c ≡ true → within (window reach c) rows ≡ within (window reach c) (within (box_of (of_windows dims reach sides)) rows)
    in_window c e =
        implied (Inside dims) (λ (row : Row). is_inside (window reach c) row.at.items) (λ (row : Row). is_inside (box_of (of_windows dims reach sides)) row.at.items)
        (λ row inside f. windows_hold dims reach sides c row.at.items near inside e f) rows i

    in_box : within (box_of sides) rows ≡ within (box_of sides) (within (box_of (of_windows dims reach sides)) rows)
    in_box =
        implied (Inside dims) (λ (row : Row). is_inside (box_of sides) row.at.items) (λ (row : Row). is_inside (box_of (of_windows dims reach sides)) row.at.items)
        (λ row inside f. windows_hold dims reach sides row.at.items row.at.items near inside f
        (own_window reach row.at.items (len ∙ sym (bounds_length dims row.at.items inside)))) rows i

pub alike_windows : (dims : List Dimension) (reach : List Reach) (gs : List Aggregate) (sides : Sides) → AreNear dims → length reach ≡ length dims → (x y : Result (List Row) Broken) → IfOk x (AreInside dims) → IfOk y (AreInside dims)
    → if_whole (within (box_of (of_windows dims reach sides))) x ≡ if_whole (within (box_of (of_windows dims reach sides))) y → if_whole (within (box_of sides)) (if_whole (window_rows reach gs) x) ≡ if_whole (within (box_of sides)) (if_whole (window_rows reach gs) y)
alike_windows dims reach gs sides near len x y i j h =
    alike_by (AreInside dims) (box_of sides) (box_of (of_windows dims reach sides)) (window_rows reach gs) (window_depends dims reach gs sides near len) x y i j h

-- The rows of a target are those of an array of its schema.
use Rattle.std.proofs.Common.{◌≡◌, Bool, true, false, cond, IsTrue, List, [], ◌∷◌, map, Option, Some, None, Result, Ok, Err, refl, sym, subst}
use Rattle.std.specs.List.{AllByRecursion, list_any, list_all}
use Rattle.std.specs.Ordering.{is_eq}
use Rattle.std.specs.Prelude.{◌&&◌, not, nat_le}
use Rattle.std.specs.declared.cmp.Ordering.{Ordering}
use Rattle.std.specs.declared.cmp.Ordering.TheVariants.{Less, Equal, Greater}
use Rattle.cell_values.specs.declared.datum.Broken.{Broken}
use Rattle.cell_values.specs.declared.datum.Cell.{Cell}
use Rattle.cell_values.specs.declared.datum.Cell.TheVariants.{Full, Doubt}
use Rattle.cell_values.specs.declared.datum.Datum.{Datum}
use Rattle.cell_values.specs.declared.datum.FaultKind.{FaultKind}
use Rattle.cell_values.specs.declared.datum.FaultKind.TheVariants.{OutOfBounds, Collision}
use Rattle.cell_values.specs.declared.datum.Row.{Row}
use Rattle.cell_values.specs.declared.schema.Bounds.{Bounds}
use Rattle.cell_values.specs.declared.schema.Schema.{Schema}
use Rattle.cell_values.specs.Cells.{IsCellOf}
use Rattle.cell_values.specs.Nulls.{is_null}
use Rattle.cell_values.specs.Schemas.{IsValid}
use Rattle.array_geom.proofs.TestLaws.{and_parts}
use Rattle.array_rows.specs.Arrays.{AreRowsOf}
use Rattle.array_rows.specs.Boxes.{is_inside, bounds_of}
use Rattle.array_rows.specs.Rows.{Coordinate, row_major, put_by, put_row, in_order}
use Rattle.array_rows.proofs.RowSets.{IsRising-in_order}
use Rattle.logical_plan.specs.Faults.{if_whole}
use Rattle.logical_plan.specs.Groups.{bad_kind, first_some, number_of}
use Rattle.logical_plan.specs.Redimension.{Origin, Landing, Landed, lands, drops, breaks, origin_of, value_origin, target_value, counted_places, counted_up, alike_so_far, landing_at, landing_of, unless_fault, after_landing, landed, carried, carried_cell, carried_rows}
use Rattle.logical_plan.specs.Typing.{is_origin, redimensions, synthetic_count}
use Rattle.redimension_exec.proofs.ValueLaws.{carried_fits, inside_fits, valid_dimensions}

-- ---- what holds of each row holds of them in order

all_put : (P : Row → Type 0) (new : Row) (rows : List Row) → P new → AllByRecursion P rows → AllByRecursion P (put_row new rows)
all_put P new [] p ps = (p, tt)
all_put P new (row ∷ rows) p ps = cases (row_major new.at.items row.at.items) (all_put P new rows p ps.1)
  where
    cases : (o : Ordering) → AllByRecursion P (put_row new rows) → AllByRecursion P (put_by o new row rows (put_row new rows))
    cases Less more = (p, ps)
    cases Equal more = (p, ps.1)
    cases Greater more = (ps.0, more)

all_in_order : (P : Row → Type 0) (rows : List Row) → AllByRecursion P rows → AllByRecursion P (in_order rows)
all_in_order P [] ps = tt
all_in_order P (row ∷ rows) ps = all_put P row (in_order rows) ps.0 (all_in_order P rows ps.1)

all_carried : (P : Row → Type 0) (values : List Origin) (all : List Landed) → AllByRecursion (λ l. P (carried values l)) all → AllByRecursion P (map (carried values) all)
all_carried P values [] ps = tt
all_carried P values (l ∷ all) ps = (ps.0, all_carried P values all ps.1)

both_all : {A : Type 0} (P Q R : A → Type 0) → ((x : A) → P x → Q x → R x) → (xs : List A) → AllByRecursion P xs → AllByRecursion Q xs → AllByRecursion R xs
both_all P Q R f [] ps qs = tt
both_all P Q R f (x ∷ xs) ps qs = (f x ps.0 qs.0, both_all P Q R f xs ps.1 qs.1)

-- ---- where rows land

inside_target : (inside again : Bool) (c t : Coordinate) → cond (not inside) (breaks OutOfBounds) (cond again (breaks Collision) (lands c)) ≡ lands t → (inside ≡ true) × (c ≡ t)
inside_target true false c t e = (refl, cc (e))
inside_target true true c t e = cc
inside_target false again c t e = cc

lands_inside : (origins : List Origin) (bounds : Bounds) (once : Bool) (taken : List Coordinate) (c : Coordinate) (cell : Cell) (t : Coordinate) → landing_of origins bounds once taken c cell ≡ lands t → is_inside bounds t ≡ true
lands_inside origins bounds once taken c (Doubt kind) t e = cc
lands_inside origins bounds once taken c (Full vs) t e = cases (first_some bad_kind values) (list_any is_null values) e
  where
    values : List Datum
    values = map (target_value c vs) origins

    target : Coordinate
    target = counted_up origins (alike_so_far (counted_places origins 0) taken (map number_of values)) (map number_of values)

    cases : (o : Option FaultKind) (b : Bool) → unless_fault o (cond b drops (landing_at bounds once taken target)) ≡ lands t → is_inside bounds t ≡ true
    cases (Some kind) b f = cc
    cases None true f = cc
    cases None false f =
        let found : (is_inside bounds target ≡ true) × (target ≡ t) = inside_target (is_inside bounds target) (once && list_any (λ s. is_eq (row_major s target)) taken) target t f in
        subst (λ (g : Coordinate). is_inside bounds g ≡ true) found.1 found.0

pub whole_of : {A B : Type 0} (f : A → B) (r : Result A Broken) (y : B) → if_whole f r ≡ Ok y → (x : A) × (r ≡ Ok x) × (f x ≡ y)
whole_of f (Ok x) y e = (x, refl, cc (e))
whole_of f (Err broken) y e = cc

-- what holds of each row of the source and of each place in the bounds holds of each row that landed
pub all_landed : (origins : List Origin) (bounds : Bounds) (once : Bool) (P : Row → Type 0) (rows : List Row) (taken : List Coordinate) (all : List Landed) → AllByRecursion P rows → landed origins bounds once rows taken ≡ Ok all
    → AllByRecursion (λ l. IsTrue (is_inside bounds l.0) × P l.1) all
all_landed origins bounds once P [] taken all ps e =
    let none : [] ≡ all = cc (e) in
    subst (λ (those : List Landed). AllByRecursion (λ l. IsTrue (is_inside bounds l.0) × P l.1) those) none tt
all_landed origins bounds once P (row ∷ rows) taken all ps e =
    cases (landing_of origins bounds once taken row.at.items row.cell) refl e (λ now left h. all_landed origins bounds once P rows now left ps.1 h)
  where
    cases : (l : Landing) → landing_of origins bounds once taken row.at.items row.cell ≡ l → after_landing l row (λ now. landed origins bounds once rows now) taken ≡ Ok all
        → ((now : List Coordinate) (left : List Landed) → landed origins bounds once rows now ≡ Ok left → AllByRecursion (λ l. IsTrue (is_inside bounds l.0) × P l.1) left)
        → AllByRecursion (λ l. IsTrue (is_inside bounds l.0) × P l.1) all
    cases drops f g again = again taken all g
    cases (breaks kind) f g again = cc
    cases (lands t) f g again =
        let split = whole_of (λ (rest : List Landed). (t, row) ∷ rest) (landed origins bounds once rows (t ∷ taken)) all g in
        subst (λ (those : List Landed). AllByRecursion (λ l. IsTrue (is_inside bounds l.0) × P l.1) those) split.2
        ((lands_inside origins bounds once taken row.at.items row.cell t f, ps.0), again (t ∷ taken) split.0 split.1)

-- ---- the array

abbrev pub made_of : Schema → Schema → List Row → Result (List Row) Broken
made_of source target rows = carried_rows (map (origin_of source) target.dimensions) (bounds_of target.dimensions) (map (value_origin source) target.attributes) rows

pub carried_are_rows : (source target : Schema) (rows made : List Row) → AreRowsOf source rows → IsValid target → IsTrue (redimensions source target []) → Ok made ≡ made_of source target rows → AreRowsOf target made
carried_are_rows source target rows made are valid typed e =
    let origins : List Origin = map (origin_of source) target.dimensions in
    let bounds : Bounds = bounds_of target.dimensions in
    let values : List Origin = map (value_origin source) target.attributes in
    let taken = and_parts (nat_le (synthetic_count source target) 1) (list_all (λ a. is_origin source.attributes a.kind (value_origin source a)) target.attributes) typed in
    let split = whole_of (λ (all : List Landed). in_order (map (carried values) all)) (landed origins bounds true rows []) made (sym e) in
    let fits = valid_dimensions source are.valid in
    let each = both_all (λ (row : Row). IsTrue (is_inside (bounds_of source.dimensions) row.at.items)) (λ row. IsCellOf source.attributes row.cell) (λ row. IsCellOf target.attributes (carried_cell values row.at.items row.cell))
    (λ row i k. carried_fits source.attributes (value_origin source) target.attributes row.at.items row.cell (inside_fits source.dimensions row.at.items fits i) k taken.1) rows are.are_rows.in_bounds are.kinds in
    let all = all_landed origins bounds true (λ row. IsCellOf target.attributes (carried_cell values row.at.items row.cell)) rows [] split.0 each split.1 in
    subst (AreRowsOf target) split.2
    (record {
      valid = valid;
      are_rows = record {
        rising = IsRising-in_order (map (carried values) split.0);
        in_bounds = all_in_order (λ row. IsTrue (is_inside bounds row.at.items)) (map (carried values) split.0) (all_carried (λ row. IsTrue (is_inside bounds row.at.items)) values split.0 (firsts split.0 all));
      };
      kinds = all_in_order (λ row. IsCellOf target.attributes row.cell) (map (carried values) split.0) (all_carried (λ row. IsCellOf target.attributes row.cell) values split.0 (seconds split.0 all));
    })
  where
    firsts : (ls : List Landed) → AllByRecursion (λ l. IsTrue (is_inside (bounds_of target.dimensions) l.0) × IsCellOf target.attributes (carried_cell (map (value_origin source) target.attributes) l.1.at.items l.1.cell)) ls
        → AllByRecursion (λ l. IsTrue (is_inside (bounds_of target.dimensions) l.0)) ls
    firsts [] h = tt
    firsts (l ∷ ls) h = (h.0.0, firsts ls h.1)

    seconds : (ls : List Landed) → AllByRecursion (λ l. IsTrue (is_inside (bounds_of target.dimensions) l.0) × IsCellOf target.attributes (carried_cell (map (value_origin source) target.attributes) l.1.at.items l.1.cell)) ls
        → AllByRecursion (λ l. IsCellOf target.attributes (carried_cell (map (value_origin source) target.attributes) l.1.at.items l.1.cell)) ls
    seconds [] h = tt
    seconds (l ∷ ls) h = (h.0.1, seconds ls h.1)

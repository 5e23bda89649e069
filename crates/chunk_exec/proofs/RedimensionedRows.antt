-- What a redimension makes of an array's rows are rows of its schema.
use Rattle.std.proofs.Common.{◌≡◌, ◌<◌, ◌≤◌, Bool, true, false, cond, IsTrue, List, [], ◌∷◌, map, filter, length, Result, Ok, Err, refl, sym, subst, arith}
use Rattle.std.proofs.lemmas.List.{length-map}
use Rattle.std.specs.List.{AllByRecursion}
use Rattle.std.specs.Ordering.{is_eq}
use Rattle.std.specs.Prelude.{IfOk}
use Rattle.cell_values.specs.declared.datum.Broken.{Broken}
use Rattle.cell_values.specs.declared.datum.Row.{Row}
use Rattle.cell_values.specs.declared.schema.Bounds.{Bounds}
use Rattle.cell_values.specs.declared.schema.Schema.{Schema}
use Rattle.cell_values.specs.Cells.{IsCellOf}
use Rattle.cell_values.specs.Schemas.{IsValid}
use Rattle.array_rows.specs.Arrays.{AreRowsOf}
use Rattle.array_rows.specs.Boxes.{is_inside, bounds_of}
use Rattle.array_rows.specs.Rows.{Coordinate, row_major, placed, in_order}
use Rattle.array_rows.proofs.RowSets.{IsRising-in_order}
use Rattle.array_parts.proofs.PartLemmas.{all_kept}
use Rattle.logical_plan.specs.declared.parts.Aggregate.{Aggregate}
use Rattle.logical_plan.specs.CellOps.{fit_rows}
use Rattle.logical_plan.specs.Faults.{if_whole, and_then}
use Rattle.logical_plan.specs.Redimension.{Origin, Landing, Landed, lands, drops, breaks, origin_of, landing_of, after_landing, landed, landed_at, by_names, redimension_rows}
use Rattle.logical_plan.specs.Typing.{redimensions}
use Rattle.plan_changes.proofs.FitLaws.{fit_array}
use Rattle.redimension_exec.proofs.LandedLaws.{whole_of, all_landed, made_of, carried_are_rows}
use Rattle.redimension_exec.proofs.OrderLaws.{gathers, Gathers, ordered, ordered_typed, ordered_kinds, cell_named}
use Rattle.chunk_exec.specs.Counts.{CanCount}
use Rattle.chunk_exec.proofs.GroupedRows.{told_kinds, all_in_order, all_mapped}

-- rows of the target, fitted to it
fitted_array : (target : Schema) (made : List Row) → AreRowsOf target made → AreRowsOf target (fit_rows target.attributes made)
fitted_array target made are = fit_array target target made are.valid refl (λ vs kinds. kinds) are

-- ---- without aggregates

carried_array : (source target : Schema) → IsValid target → IsTrue (redimensions source target []) → (rows : List Row) → AreRowsOf source rows → IfOk (redimension_rows source target [] rows) (AreRowsOf target)
carried_array source target valid typed rows are = by_result (made_of source target rows) refl
  where
    by_result : (r : Result (List Row) Broken) → made_of source target rows ≡ r → IfOk (if_whole (fit_rows target.attributes) r) (AreRowsOf target)
    by_result (Ok made) e = fitted_array target made (carried_are_rows source target rows made are valid typed (sym e))
    by_result (Err broken) e = tt

-- ---- with aggregates

-- no more rows land than there are
few_landed : (origins : List Origin) (bounds : Bounds) (once : Bool) (rows : List Row) (taken : List Coordinate) (all : List Landed) → landed origins bounds once rows taken ≡ Ok all → length all ≤ length rows
few_landed origins bounds once [] taken all e =
    let none : [] ≡ all = cc (e) in
    subst (λ (those : List Landed). length those ≤ 0) none (omega arith)
few_landed origins bounds once (row ∷ rows) taken all e = cases (landing_of origins bounds once taken row.at.items row.cell) e (λ now left h. few_landed origins bounds once rows now left h)
  where
    cases : (l : Landing) → after_landing l row (λ now. landed origins bounds once rows now) taken ≡ Ok all → ((now : List Coordinate) (left : List Landed) → landed origins bounds once rows now ≡ Ok left → length left ≤ length rows)
        → length all ≤ length (row ∷ rows)
    cases drops g again = let n = again taken all g in omega (arith, n)
    cases (breaks kind) g again = cc
    cases (lands t) g again =
        let split = whole_of (λ (rest : List Landed). (t, row) ∷ rest) (landed origins bounds once rows (t ∷ taken)) all g in
        let n = again (t ∷ taken) split.0 split.1 in
        subst (λ (those : List Landed). length those ≤ length (row ∷ rows)) split.2 (omega (arith, n))

fewer : (test : Landed → Bool) (all : List Landed) → length (filter test all) ≤ length all
fewer test [] = omega arith
fewer test (l ∷ all) = cases (test l) (fewer test all)
  where
    cases : (b : Bool) → length (filter test all) ≤ length all → length (cond b (l ∷ filter test all) (filter test all)) ≤ length (l ∷ all)
    cases true n = omega (arith, n)
    cases false n = omega (arith, n)

-- the row of a place where rows land
abbrev gathered_row : Schema → List Aggregate → List Landed → Landed → Row
gathered_row target gs all l = placed l.0 (by_names target.attributes gs (landed_at all l.0))

gathered_fits : (source target : Schema) (gs : List Aggregate) (all : List Landed) → IsValid target → Gathers source target gs → AllByRecursion (λ l. IsTrue (is_inside (bounds_of target.dimensions) l.0) × IsCellOf source.attributes l.1.cell) all
    → length all < 9223372036854775808 → AreRowsOf target (in_order (map (gathered_row target gs all) all))
gathered_fits source target gs all valid typed each few = record {
  valid = valid;
  are_rows = record {
    rising = IsRising-in_order (map (gathered_row target gs all) all);
    in_bounds = all_in_order (λ row. IsTrue (is_inside (bounds_of target.dimensions) row.at.items)) (map (gathered_row target gs all) all)
        (all_mapped (λ (l : Landed). IsTrue (is_inside (bounds_of target.dimensions) l.0) × IsCellOf source.attributes l.1.cell) (λ row. IsTrue (is_inside (bounds_of target.dimensions) row.at.items)) (gathered_row target gs all) (λ l h. h.0) all each);
  };
  kinds = all_in_order (λ row. IsCellOf target.attributes row.cell) (map (gathered_row target gs all) all)
      (all_mapped (λ (l : Landed). IsTrue (is_inside (bounds_of target.dimensions) l.0) × IsCellOf source.attributes l.1.cell) (λ row. IsCellOf target.attributes row.cell) (gathered_row target gs all) (λ l h. cell_of l.0) all each);
}
  where
    all_rows : (ls : List Landed) → AllByRecursion (λ l. IsTrue (is_inside (bounds_of target.dimensions) l.0) × IsCellOf source.attributes l.1.cell) ls → AllByRecursion (λ row. IsCellOf source.attributes row.cell) (map (λ l. l.1) ls)
    all_rows [] h = tt
    all_rows (l ∷ ls) h = (h.0.1, all_rows ls h.1)

    cell_of : (t : Coordinate) → IsCellOf target.attributes (by_names target.attributes gs (landed_at all t))
    cell_of t =
        let test : Landed → Bool = λ l. is_eq (row_major l.0 t) in
        let some = filter test all in
        let n = fewer test all in
        let m = length-map some (λ (l : Landed). l.1) in
        subst (IsCellOf target.attributes) (sym (cell_named source.attributes target.attributes gs (landed_at all t) typed.named_all))
        (told_kinds source.attributes target.attributes (ordered target.attributes gs) (landed_at all t) (ordered_kinds source.attributes target.attributes gs typed.named_all) (ordered_typed source.attributes target.attributes gs typed.typed)
        (all_rows some (all_kept (λ (l : Landed). IsTrue (is_inside (bounds_of target.dimensions) l.0) × IsCellOf source.attributes l.1.cell) test all each)) (omega (arith, n, m, few)))

gathered_array : (source target : Schema) (g : Aggregate) (gs : List Aggregate) → IsValid target → IsTrue (redimensions source target (g ∷ gs)) → (rows : List Row) → AreRowsOf source rows → length rows < 9223372036854775808
    → IfOk (redimension_rows source target (g ∷ gs) rows) (AreRowsOf target)
gathered_array source target g gs valid typed rows are few = by_result (landed origins bounds false rows []) refl
  where
    origins : List Origin
    origins = map (origin_of source) target.dimensions

    bounds : Bounds
    bounds = bounds_of target.dimensions

    by_result : (r : Result (List Landed) Broken) → landed origins bounds false rows [] ≡ r
        → IfOk (if_whole (fit_rows target.attributes) (if_whole (λ all. in_order (map (gathered_row target (g ∷ gs) all) all)) r)) (AreRowsOf target)
    by_result (Err broken) e = tt
    by_result (Ok all) e =
        let n = few_landed origins bounds false rows [] all e in
        fitted_array target (in_order (map (gathered_row target (g ∷ gs) all) all))
        (gathered_fits source target (g ∷ gs) all valid (gathers source target (g ∷ gs) (omega arith) typed) (all_landed origins bounds false (λ row. IsCellOf source.attributes row.cell) rows [] all are.kinds e) (omega (arith, n, few)))

-- ---- an array that may be broken

pub redimensioned_array : (source target : Schema) (gs : List Aggregate) → IsValid target → IsTrue (redimensions source target gs) → (r : Result (List Row) Broken) → IfOk r (AreRowsOf source) → CanCount gs r
    → IfOk (and_then (redimension_rows source target gs) r) (AreRowsOf target)
redimensioned_array source target gs valid typed (Err broken) is few = is
redimensioned_array source target [] valid typed (Ok rows) is few = carried_array source target valid typed rows is
redimensioned_array source target (g ∷ gs) valid typed (Ok rows) is few = gathered_array source target g gs valid typed rows is few

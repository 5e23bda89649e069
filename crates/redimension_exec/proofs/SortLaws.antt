-- Rows at different coordinates, sorted.
use Rattle.std.proofs.Common.{◌≡◌, ℕ, suc, ◌+◌, ◌≤◌, Bool, true, false, cond, ◌||◌, List, [], ◌∷◌, length, filter, map, Option, Some, None, Result, Ok, Err, refl, sym, ap, ◌∙◌, subst, arith}
use Rattle.std.specs.List.{list_any}
use Rattle.std.specs.List.Sorted.{IsSortedBy, IsStableBy, ties}
use Rattle.std.specs.Ordering.{is_eq, is_lt, ordering_reverse}
use Rattle.std.specs.Prelude.{not, ◌&&◌, slice_index_or}
use Rattle.std.specs.declared.cmp.Ordering.{Ordering}
use Rattle.std.specs.declared.cmp.Ordering.TheVariants.{Less, Equal, Greater}
use Rattle.cell_values.specs.declared.datum.Broken.{Broken}
use Rattle.cell_values.specs.declared.datum.Cell.{Cell}
use Rattle.cell_values.specs.declared.datum.Cell.TheVariants.{Full, Doubt}
use Rattle.cell_values.specs.declared.datum.Datum.{Datum}
use Rattle.cell_values.specs.declared.datum.FaultKind.{FaultKind}
use Rattle.cell_values.specs.declared.datum.FaultKind.TheVariants.{OutOfBounds, Collision}
use Rattle.cell_values.specs.declared.datum.Row.{Row}
use Rattle.cell_values.specs.declared.schema.Bounds.{Bounds}
use Rattle.cell_values.specs.Nulls.{is_null}
use Rattle.array_rows.specs.Boxes.{is_inside}
use Rattle.array_rows.specs.Rows.{Coordinate, row_major, IsRising, placed, cell_at, in_order}
use Rattle.array_rows.proofs.RowsLemmas.{row_major_total, row_major_exact, same_coordinate, same_rows, IsBefore-trans}
use Rattle.array_rows.proofs.RowSets.{IsRising-in_order, cell_at-in_order}
use Rattle.logical_plan.specs.Faults.{if_whole}
use Rattle.logical_plan.specs.Groups.{bad_kind, first_some, number_of}
use Rattle.logical_plan.specs.Redimension.{Origin, Landing, Landed, lands, drops, breaks, target_value, counted_places, counted_up, alike_so_far, landing_at, landing_of, unless_fault, after_landing, landed, carried, carried_rows}
use Rattle.redimension_exec.specs.Inner.Sorting.{AreDifferent}
use Rattle.redimension_exec.specs.Inner.Steps.{continued}
use Rattle.redimension_exec.proofs.CountLaws.{is_equal}

abbrev pub comes_before : Row → Row → Bool
comes_before x y = is_lt (row_major x.at.items y.at.items)

abbrev is_at : Coordinate → Row → Bool
is_at c row = is_eq (row_major row.at.items c)

-- ---- the cells

first_cell : List Row → Option Cell
first_cell [] = None
first_cell (row ∷ rows) = Some row.cell

first_there : (c : Coordinate) (rows : List Row) → cell_at rows c ≡ first_cell (filter (is_at c) rows)
unfolding first_cell
first_there c [] = refl
first_there c (row ∷ rows) = cases (is_at c row) (first_there c rows)
  where
    cases : (b : Bool) → cell_at rows c ≡ first_cell (filter (is_at c) rows) → cond b (Some row.cell) (cell_at rows c) ≡ first_cell (cond b (row ∷ filter (is_at c) rows) (filter (is_at c) rows))
    cases true ih = refl
    cases false ih = ih

tied : (o : Ordering) → (not (is_lt (ordering_reverse o)) && not (is_lt o)) ≡ is_eq o
tied Less = refl
tied Equal = refl
tied Greater = refl

tie_is_at : (c : Coordinate) (row : Row) → ties comes_before (placed c (Full [])) row ≡ is_at c row
tie_is_at c row =
    (λ i. not (is_lt (row_major_total.antisymm c row.at.items i)) && not (is_lt (row_major row.at.items c)))
    ∙ tied (row_major row.at.items c)

filter_alike : (p q : Row → Bool) (same : (row : Row) → p row ≡ q row) (rows : List Row) → filter p rows ≡ filter q rows
filter_alike p q same rows = λ i. filter (λ row. same row i) rows

same_there : (rows sorted : List Row) → IsStableBy comes_before rows sorted → (c : Coordinate) → filter (is_at c) sorted ≡ filter (is_at c) rows
same_there rows sorted stable c =
    sym (filter_alike (ties comes_before (placed c (Full []))) (is_at c) (tie_is_at c) sorted)
    ∙ stable (placed c (Full []))
    ∙ filter_alike (ties comes_before (placed c (Full []))) (is_at c) (tie_is_at c) rows

-- ---- the order

fewer : (c : Coordinate) (row : Row) (rows : List Row) → length (filter (is_at c) (row ∷ rows)) ≤ 1 → length (filter (is_at c) rows) ≤ 1
fewer c row rows few = cases (is_at c row) few
  where
    cases : (b : Bool) → length (cond b (row ∷ filter (is_at c) rows) (filter (is_at c) rows)) ≤ 1 → length (filter (is_at c) rows) ≤ 1
    cases true e = omega (arith, e)
    cases false e = e

-- two rows of which the second is not less and stands elsewhere
less_of : (o r : Ordering) → r ≡ ordering_reverse o → is_lt r ≡ false → (o ≡ Equal → ⊥) → o ≡ Less
less_of Less r e f g = refl
less_of Equal r e f g = absurd (g refl)
less_of Greater r e f g = cc

not_two : (c : Coordinate) (x y : Row) (rows : List Row) → length (filter (is_at c) (x ∷ y ∷ rows)) ≤ 1 → is_at c x ≡ true → is_at c y ≡ true → ⊥
not_two c x y rows few ex ey =
    let both : length (x ∷ y ∷ filter (is_at c) rows) ≤ 1 = subst (λ (b : Bool). length (cond b (x ∷ y ∷ filter (is_at c) rows) (y ∷ filter (is_at c) rows)) ≤ 1) ex
    (subst (λ (b : Bool). length (cond (is_at c x) (x ∷ cond b (y ∷ filter (is_at c) rows) (filter (is_at c) rows)) (cond b (y ∷ filter (is_at c) rows) (filter (is_at c) rows))) ≤ 1) ey few) in
    omega (arith, both)

later_sorted : (x : Row) (rows : List Row) → IsSortedBy comes_before (x ∷ rows) → IsSortedBy comes_before rows
later_sorted x rows sorted = λ k d low high.
    let e : suc k + 1 ≡ suc (k + 1) = omega arith in
    subst (λ (n : ℕ). comes_before (slice_index_or (x ∷ rows) n d) (slice_index_or rows k d) ≡ false) e (sorted (suc k) d (omega arith) (omega (arith, high)))

rises : (rows : List Row) → IsSortedBy comes_before rows → AreDifferent rows → IsRising rows
rises [] sorted apart = tt
rises (x ∷ []) sorted apart = (tt, tt)
rises (x ∷ y ∷ rows) sorted apart =
    let rest : IsRising (y ∷ rows) = rises (y ∷ rows) (later_sorted x (y ∷ rows) sorted) (λ c. fewer c x (y ∷ rows) (apart c)) in
    let not_back : comes_before y x ≡ false = sorted 0 x (omega arith) (omega arith) in
    let here : is_at x.at.items x ≡ true = ap is_eq (same_coordinate x.at.items) in
    let elsewhere : row_major x.at.items y.at.items ≡ Equal → ⊥ = λ e. not_two x.at.items x y rows (apart x.at.items) here
    ((λ i. is_eq (row_major_total.antisymm y.at.items x.at.items i)) ∙ (λ i. is_eq (ordering_reverse (e i)))) in
    let first : row_major x.at.items y.at.items ≡ Less = less_of (row_major x.at.items y.at.items) (row_major y.at.items x.at.items) (row_major_total.antisymm y.at.items x.at.items) not_back elsewhere in
    ((first, IsBefore-trans x.at.items y.at.items rows first rest.0), rest)

pub sorted_rows : (rows sorted : List Row) → IsSortedBy comes_before sorted → IsStableBy comes_before rows sorted → AreDifferent rows → sorted ≡ in_order rows
sorted_rows rows sorted up stable apart =
    same_rows sorted (in_order rows)
    (rises sorted up (λ c. subst (λ (those : List Row). length those ≤ 1) (sym (same_there rows sorted stable c)) (apart c)))
    (IsRising-in_order rows)
    (λ c. first_there c sorted ∙ ap first_cell (same_there rows sorted stable c) ∙ sym (first_there c rows) ∙ sym (cell_at-in_order rows c))

-- ---- targets are taken once

abbrev is_target : Coordinate → Landed → Bool
is_target c l = is_eq (row_major l.0 c)

fresh_target : (inside again : Bool) (c t : Coordinate) → cond (not inside) (breaks OutOfBounds) (cond (true && again) (breaks Collision) (lands c)) ≡ lands t → (again ≡ false) × (c ≡ t)
fresh_target true false c t e = (refl, cc (e))
fresh_target true true c t e = cc
fresh_target false again c t e = cc

lands_fresh : (origins : List Origin) (bounds : Bounds) (taken : List Coordinate) (c : Coordinate) (cell : Cell) (t : Coordinate) → landing_of origins bounds true taken c cell ≡ lands t
    → list_any (λ s. is_eq (row_major s t)) taken ≡ false
lands_fresh origins bounds taken c (Doubt kind) t e = cc
lands_fresh origins bounds taken c (Full vs) t e = cases (first_some bad_kind values) (list_any is_null values) e
  where
    values : List Datum
    values = map (target_value c vs) origins

    target : Coordinate
    target = counted_up origins (alike_so_far (counted_places origins 0) taken (map number_of values)) (map number_of values)

    cases : (o : Option FaultKind) (b : Bool) → unless_fault o (cond b drops (landing_at bounds true taken target)) ≡ lands t → list_any (λ s. is_eq (row_major s t)) taken ≡ false
    cases (Some kind) b f = cc
    cases None true f = cc
    cases None false f =
        let found : (list_any (λ s. is_eq (row_major s target)) taken ≡ false) × (target ≡ t) = fresh_target (is_inside bounds target) (list_any (λ s. is_eq (row_major s target)) taken) target t f in
        subst (λ (g : Coordinate). list_any (λ s. is_eq (row_major s g)) taken ≡ false) found.1 found.0

clash : (b : Bool) → b ≡ false → b ≡ true → ⊥
clash true f t = cc
clash false f t = cc

-- none of the landed rows comes to a target that was taken, and no two come to one
pub record AreApart (taken : List Coordinate) (all : List Landed) (c : Coordinate) : Type 0 where
  pub none : list_any (λ s. is_eq (row_major s c)) taken ≡ true → length (filter (is_target c) all) ≤ 0
  pub one : length (filter (is_target c) all) ≤ 1

whole_of : {A B : Type 0} (f : A → B) (r : Result A Broken) (y : B) → if_whole f r ≡ Ok y → (x : A) × (r ≡ Ok x) × (f x ≡ y)
whole_of f (Ok x) y e = (x, refl, cc (e))
whole_of f (Err broken) y e = cc

apart : (origins : List Origin) (bounds : Bounds) (rows : List Row) (taken : List Coordinate) (all : List Landed) → landed origins bounds true rows taken ≡ Ok all → (c : Coordinate) → AreApart taken all c
apart origins bounds [] taken all e c =
    let none : [] ≡ all = cc (e) in
    subst (λ (those : List Landed). AreApart taken those c) none (record { none = λ f. omega arith; one = omega arith })
apart origins bounds (row ∷ rows) taken all e c =
    cases (landing_of origins bounds true taken row.at.items row.cell) refl e (λ now left h. apart origins bounds rows now left h c)
  where
    first : (t : Coordinate) → landing_of origins bounds true taken row.at.items row.cell ≡ lands t → (b : Bool) → is_eq (row_major t c) ≡ b → (rest : List Landed) → AreApart (t ∷ taken) rest c
        → AreApart taken ((t, row) ∷ rest) c
    first t f true h rest further =
        let same : t ≡ c = row_major_exact t c (is_equal (row_major t c) h) in
        let free : list_any (λ s. is_eq (row_major s c)) taken ≡ false =
        subst (λ (g : Coordinate). list_any (λ s. is_eq (row_major s g)) taken ≡ false) same (lands_fresh origins bounds taken row.at.items row.cell t f) in
        let no_more : length (filter (is_target c) rest) ≤ 0 = further.none (λ i. h i || list_any (λ s. is_eq (row_major s c)) taken) in
        record {
          none = λ k. absurd (clash (list_any (λ s. is_eq (row_major s c)) taken) free k);
          one = subst (λ (b : Bool). length (cond b ((t, row) ∷ filter (is_target c) rest) (filter (is_target c) rest)) ≤ 1) (sym h) (omega (arith, no_more));
        }
    first t f false h rest further = record {
      none = λ k. subst (λ (b : Bool). length (cond b ((t, row) ∷ filter (is_target c) rest) (filter (is_target c) rest)) ≤ 0) (sym h) (further.none ((λ i. h i || list_any (λ s. is_eq (row_major s c)) taken) ∙ k));
      one = subst (λ (b : Bool). length (cond b ((t, row) ∷ filter (is_target c) rest) (filter (is_target c) rest)) ≤ 1) (sym h) further.one;
    }

    cases : (l : Landing) → landing_of origins bounds true taken row.at.items row.cell ≡ l → after_landing l row (λ now. landed origins bounds true rows now) taken ≡ Ok all
        → ((now : List Coordinate) (left : List Landed) → landed origins bounds true rows now ≡ Ok left → AreApart now left c) → AreApart taken all c
    cases drops f g again = again taken all g
    cases (breaks kind) f g again = cc
    cases (lands t) f g again =
        let split = whole_of (λ (rest : List Landed). (t, row) ∷ rest) (landed origins bounds true rows (t ∷ taken)) all g in
        subst (λ (those : List Landed). AreApart taken those c) split.2
        (first t f (is_eq (row_major t c)) refl split.0 (again (t ∷ taken) split.0 split.1))

carried_there : (values : List Origin) (c : Coordinate) (all : List Landed) → length (filter (is_at c) (map (carried values) all)) ≡ length (filter (is_target c) all)
carried_there values c [] = refl
carried_there values c (l ∷ all) = cases (is_target c l) (carried_there values c all)
  where
    cases : (b : Bool) → length (filter (is_at c) (map (carried values) all)) ≡ length (filter (is_target c) all)
        → length (cond b (carried values l ∷ filter (is_at c) (map (carried values) all)) (filter (is_at c) (map (carried values) all))) ≡ length (cond b (l ∷ filter (is_target c) all) (filter (is_target c) all))
    cases true ih = grind (arith, ih)
    cases false ih = ih

pub made_apart : (origins : List Origin) (bounds : Bounds) (values : List Origin) (rows made : List Row) → Ok made ≡ continued values [] (landed origins bounds true rows []) → AreDifferent made
made_apart origins bounds values rows made e c =
    let split = whole_of (λ (all : List Landed). map (carried values) all) (landed origins bounds true rows []) made (sym e) in
    subst (λ (those : List Row). length (filter (is_at c) those) ≤ 1) split.2
    (subst (λ (n : ℕ). n ≤ 1) (sym (carried_there values c split.0)) (apart origins bounds rows [] split.0 split.1 c).one)

pub sorted_whole : (origins : List Origin) (bounds : Bounds) (values : List Origin) (rows made sorted : List Row) → Ok made ≡ continued values [] (landed origins bounds true rows []) → sorted ≡ in_order made
    → Ok sorted ≡ carried_rows origins bounds values rows
sorted_whole origins bounds values rows made sorted e s =
    let split = whole_of (λ (all : List Landed). map (carried values) all) (landed origins bounds true rows []) made (sym e) in
    ap (λ (those : List Row). Ok those) (s ∙ ap in_order (sym split.2))
    ∙ (λ i. if_whole (λ all. in_order (map (carried values) all)) (sym split.1 i))

pub broken_whole : (origins : List Origin) (bounds : Bounds) (values : List Origin) (rows : List Row) (broken : Broken) → Err broken ≡ continued values [] (landed origins bounds true rows [])
    → Err broken ≡ carried_rows origins bounds values rows
broken_whole origins bounds values rows broken e = cases (landed origins bounds true rows []) e
  where
    cases : (r : Result (List Landed) Broken) → Err broken ≡ continued values [] r → Err broken ≡ if_whole (λ all. in_order (map (carried values) all)) r
    cases (Ok all) f = cc
    cases (Err other) f = ap (λ (b : Broken). Err b) (cc (f))

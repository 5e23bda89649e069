-- Groups of rows that land at one coordinate.
use Rattle.std.proofs.Common.{◌≡◌, ◌≤◌, Bool, true, false, cond, IsTrue, List, [], ◌∷◌, map, filter, length, Ok, refl, sym, ap, ◌∙◌, subst, arith}
use Rattle.std.specs.List.{AllByRecursion}
use Rattle.std.specs.Ordering.{is_eq}
use Rattle.std.specs.declared.cmp.Ordering.TheVariants.{Less}
use Rattle.cell_values.specs.declared.datum.Row.{Row}
use Rattle.cell_values.specs.declared.schema.Bounds.{Bounds}
use Rattle.array_rows.specs.Boxes.{is_inside}
use Rattle.array_rows.specs.Rows.{Coordinate, row_major, IsBefore, IsRising}
use Rattle.array_rows.proofs.RowsLemmas.{same_coordinate}
use Rattle.array_rows.proofs.RowSets.{IsRising-rows_where}
use Rattle.logical_plan.specs.Redimension.{Origin, Landing, Landed, lands, drops, breaks, landing_of, after_landing, landed, landed_at}
use Rattle.redimension_exec.specs.Inner.Taking.{rows_in}
use Rattle.redimension_exec.proofs.LandedLaws.{all_landed, whole_of}

before_in : (c : Coordinate) (bounds : Bounds) (all : List Landed) → AllByRecursion (λ l. IsTrue (is_inside bounds l.0) × (row_major c l.1.at.items ≡ Less)) all → IsBefore c (rows_in all)
before_in c bounds [] h = tt
before_in c bounds (l ∷ all) h = (h.0.1, before_in c bounds all h.1)

-- rows that land rise, and are no more than there are
pub rising_landed : (origins : List Origin) (bounds : Bounds) (rows : List Row) (taken : List Coordinate) (all : List Landed) → IsRising rows → landed origins bounds false rows taken ≡ Ok all
    → IsRising (rows_in all) × (length all ≤ length rows)
rising_landed origins bounds [] taken all r e =
    let none : [] ≡ all = cc (e) in
    subst (λ (those : List Landed). IsRising (map (λ (l : Landed). l.1) those) × (length those ≤ 0)) none (tt, omega arith)
rising_landed origins bounds (row ∷ rows) taken all r e =
    cases (landing_of origins bounds false taken row.at.items row.cell) refl e (λ now left h. rising_landed origins bounds rows now left r.1 h)
  where
    cases : (l : Landing) → landing_of origins bounds false taken row.at.items row.cell ≡ l → after_landing l row (λ now. landed origins bounds false rows now) taken ≡ Ok all
        → ((now : List Coordinate) (left : List Landed) → landed origins bounds false rows now ≡ Ok left → IsRising (rows_in left) × (length left ≤ length rows))
        → IsRising (rows_in all) × (length all ≤ length (row ∷ rows))
    cases drops f g again = let h = again taken all g in (h.0, omega (arith, h.1))
    cases (breaks kind) f g again = cc
    cases (lands t) f g again =
        let split = whole_of (λ (rest : List Landed). (t, row) ∷ rest) (landed origins bounds false rows (t ∷ taken)) all g in
        let h = again (t ∷ taken) split.0 split.1 in
        let later = all_landed origins bounds false (λ (x : Row). row_major row.at.items x.at.items ≡ Less) rows (t ∷ taken) split.0 r.0 split.1 in
        subst (λ (those : List Landed). IsRising (map (λ (l : Landed). l.1) those) × (length those ≤ length (row ∷ rows))) split.2
        ((before_in row.at.items bounds split.0 later, h.0), omega (arith, h.1))

-- ---- the target of the row at a coordinate

abbrev pub target_in : List Landed → Coordinate → Coordinate
target_in [] c = []
target_in (l ∷ all) c = cond (is_eq (row_major l.1.at.items c)) l.0 (target_in all c)

shift : (x : Landed) (xs : List Landed) (rows : List Row) → IsBefore x.1.at.items rows → map (λ (row : Row). target_in (x ∷ xs) row.at.items) rows ≡ map (λ (row : Row). target_in xs row.at.items) rows
shift x xs [] h = refl
shift x xs (row ∷ rows) h = λ i. cond (is_eq (h.0 i)) x.0 (target_in xs row.at.items) ∷ shift x xs rows h.1 i

keys_in : (all : List Landed) → IsRising (rows_in all) → map (λ (l : Landed). l.0) all ≡ map (λ (row : Row). target_in all row.at.items) (rows_in all)
keys_in [] r = refl
keys_in (l ∷ all) r =
    let here : target_in (l ∷ all) l.1.at.items ≡ l.0 = λ i. cond (is_eq (same_coordinate l.1.at.items i)) l.0 (target_in all l.1.at.items) in
    λ i. sym here i ∷ (keys_in all r.1 ∙ sym (shift l all (rows_in all) r.0)) i

same_group : (g : Row → Coordinate) (c : Coordinate) (xs : List Landed) → map (λ (l : Landed). l.0) xs ≡ map g (rows_in xs) → filter (λ (row : Row). is_eq (row_major (g row) c)) (rows_in xs) ≡ landed_at xs c
same_group g c [] e = refl
same_group g c (l ∷ xs) e =
    let head : l.0 ≡ g l.1 = cc (e) in
    let rest : map (λ (m : Landed). m.0) xs ≡ map g (map (λ (m : Landed). m.1) xs) = cc (e) in
    (λ i. cond (is_eq (row_major (sym head i) c)) (l.1 ∷ filter (λ (row : Row). is_eq (row_major (g row) c)) (map (λ (m : Landed). m.1) xs)) (filter (λ (row : Row). is_eq (row_major (g row) c)) (map (λ (m : Landed). m.1) xs)))
    ∙ cases (is_eq (row_major l.0 c)) (same_group g c xs rest)
  where
    cases : (b : Bool) → filter (λ (row : Row). is_eq (row_major (g row) c)) (map (λ (m : Landed). m.1) xs) ≡ landed_at xs c
        → cond b (l.1 ∷ filter (λ (row : Row). is_eq (row_major (g row) c)) (map (λ (m : Landed). m.1) xs)) (filter (λ (row : Row). is_eq (row_major (g row) c)) (map (λ (m : Landed). m.1) xs))
        ≡ map (λ (m : Landed). m.1) (cond b (l ∷ filter (λ (m : Landed). is_eq (row_major m.0 c)) xs) (filter (λ (m : Landed). is_eq (row_major m.0 c)) xs))
    cases true ih = ap (λ (rows : List Row). l.1 ∷ rows) ih
    cases false ih = ih

-- those that landed at one coordinate rise as all do
pub at_rises : (all : List Landed) (c : Coordinate) → IsRising (rows_in all) → IsRising (landed_at all c)
at_rises all c r =
    subst IsRising (same_group (λ (row : Row). target_in all row.at.items) c all (keys_in all r)) (IsRising-rows_where (λ at. is_eq (row_major (target_in all at) c)) (rows_in all) r)

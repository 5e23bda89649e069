-- States of cells by their columns.
use Rattle.std.proofs.Common.{drop, Bool, true, false, cond, ◌≡◌, ℕ, zero, suc, ◌+◌, ◌<◌, ◌≤◌, ℤ, pos, List, [], ◌∷◌, ◌++◌, length, get_or, take, map, None, refl, sym, ap, ◌∙◌, subst, arith}
use Rattle.std.proofs.lemmas.List.{append-nil, length-map, take-append-drop, take_all, take_more}
use Rattle.std.proofs.lemmas.List.Elements.{filter-append}
use Rattle.std.specs.Prelude.{slice_index_or}
use Rattle.cell_values.specs.declared.datum.Cell.{Cell}
use Rattle.cell_values.specs.declared.datum.Cell.TheVariants.{Full, Doubt}
use Rattle.cell_values.specs.declared.datum.Datum.{Datum}
use Rattle.cell_values.specs.declared.datum.Datum.TheVariants.{Null, Int}
use Rattle.cell_values.specs.declared.datum.Row.{Row}
use Rattle.cell_values.specs.declared.schema.Bounds.{Bounds}
use Rattle.array_rows.specs.Boxes.{is_inside, within}
use Rattle.array_rows.specs.Rows.{IsRising, cell_at, put_row}
use Rattle.array_rows.proofs.RowSets.{IsRising-rows_where}
use Rattle.array_rows.specs.Inner.CellsIn.{value_in}
use Rattle.logical_plan.specs.declared.parts.AggFunction.{AggFunction}
use Rattle.logical_plan.specs.declared.parts.AggFunction.TheVariants.{Sum, Count, CountAll, Min, Max}
use Rattle.logical_plan.specs.declared.parts.Aggregate.{Aggregate}
use Rattle.logical_plan.specs.Groups.{attribute_of, bad_kind, cells_of, fault_for}
use Rattle.agg_states.specs.Stands.{StandsFor}
use Rattle.agg_states.specs.Inner.Summary.{Summary}
use Rattle.group_rows.specs.declared.rows.groups.Group.{Group}
use Rattle.group_rows.specs.Counts.{cells_in, cells_of as count_of}
use Rattle.group_rows.specs.Grouped.{AreStatesOf}
use Rattle.group_rows.specs.Inner.Columns.{AreStatesInside, HaveNumbers, StandsForInside, are_inside}
use Rattle.group_rows.proofs.RowLemmas.{put_last, free_last, rising_left}
use Rattle.group_rows.proofs.StateLaws.{next_states}

-- ---- a cell whose value is a number

pub is_value : (place : ℕ) (cell : Cell) (n : ℤ) → value_in place cell ≡ Int n → attribute_of place cell ≡ Int n
is_value place (Full vs) n e = e
is_value place (Doubt kind) n e = cc

no_bad : (v : Datum) (n : ℤ) → v ≡ Int n → bad_kind v ≡ None
no_bad v n e = ap bad_kind e

pub has_no_fault : (f : AggFunction) (place : ℕ) (cell : Cell) (n : ℤ) → value_in place cell ≡ Int n → fault_for f place cell ≡ None
has_no_fault f place (Doubt kind) n e = cc
has_no_fault CountAll place (Full vs) n e = refl
has_no_fault Sum place (Full vs) n e = no_bad (slice_index_or vs place Null) n e
has_no_fault Count place (Full vs) n e = no_bad (slice_index_or vs place Null) n e
has_no_fault Min place (Full vs) n e = no_bad (slice_index_or vs place Null) n e
has_no_fault Max place (Full vs) n e = no_bad (slice_index_or vs place Null) n e

-- the row at a place, and the number of its cell
pub record Here (place : ℕ) (rows : List Row) (number : ℤ) (i : ℕ) : Type 0 where
  pub row : Row
  pub is : row ≡ get_or rows i row
  pub within_rows : i < length rows
  pub value : value_in place row.cell ≡ Int number

pub here : (place : ℕ) (rows : List Row) (numbers : List ℤ) (i : ℕ) (number : ℤ) → HaveNumbers place numbers (cells_of rows) → i < length numbers → number ≡ get_or numbers i (pos 0) → Here place rows number i
here place [] [] i number h l e = absurd (omega (arith, l))
here place [] (n ∷ numbers) i number h l e = absurd (no_more h)
  where
    no_more : [] ≡ Int n ∷ map Int numbers → ⊥
    no_more f = cc
here place (row ∷ rows) [] i number h l e = absurd (omega (arith, l))
here place (row ∷ rows) (n ∷ numbers) zero number h l e = record {
  row = row;
  is = refl;
  within_rows = omega arith;
  value = first_of h ∙ ap Int (sym e);
}
  where
    first_of : value_in place row.cell ∷ map (value_in place) (cells_of rows) ≡ Int n ∷ map Int numbers → value_in place row.cell ≡ Int n
    first_of f = cc (f)
here place (row ∷ rows) (n ∷ numbers) (suc i) number h l e =
    let rest = here place rows numbers i number (others h) (omega (arith, l)) e in
    record { row = rest.row; is = rest.is; within_rows = let m = rest.within_rows in omega (arith, m); value = rest.value }
  where
    others : value_in place row.cell ∷ map (value_in place) (cells_of rows) ≡ Int n ∷ map Int numbers → map (value_in place) (cells_of rows) ≡ map Int numbers
    others f = cc (f)

-- ---- the state of numbers, one after the other

test_at : (test : Row → Bool) (rows : List Row) (i : ℕ) (row : Row) → i < length rows → row ≡ get_or rows i row → get_or (map test rows) i false ≡ test row
test_at test [] i row l e = absurd (omega (arith, l))
test_at test (x ∷ rows) zero row l e = ap test (sym e)
test_at test (x ∷ rows) (suc i) row l e = test_at test rows i row (omega (arith, l)) e

put_if : (g : Aggregate) (some : List Row) (row : Row) (wanted : Bool) (s t : Summary) → IsRising (some ++ cond wanted (row ∷ []) []) → StandsFor g some s
    → (wanted ≡ true → cell_at some row.at.items ≡ None → StandsFor g (put_row row some) t) → (wanted ≡ false → t ≡ s) → StandsFor g (some ++ cond wanted (row ∷ []) []) t
put_if g some row true s t r h takes same = subst (λ (rs : List Row). StandsFor g rs t) (put_last some row r) (takes refl (free_last some row r))
put_if g some row false s t r h takes same = subst (λ (rs : List Row). StandsFor g rs t) (sym (append-nil some)) (subst (StandsFor g some) (sym (same refl)) h)

abbrev pub StandsUpTo : Aggregate → List ℤ → List Bool → ℕ → Summary → Type 0
StandsUpTo g numbers inside i state =
    (area : Bounds) (rows : List Row) → IsRising rows → HaveNumbers g.attribute numbers (cells_of rows) → are_inside area rows ≡ inside → StandsFor g (within area (take i rows)) state

pub number_next : (g : Aggregate) (numbers : List ℤ) (inside : List Bool) (i : ℕ) (number : ℤ) (wanted : Bool) (s t : Summary) → i < length numbers → number ≡ get_or numbers i (pos 0) → wanted ≡ get_or inside i false → StandsUpTo g numbers inside i s
    → (wanted ≡ true → (h : Aggregate) (rows : List Row) (new : Row) → StandsFor h rows s → attribute_of h.attribute new.cell ≡ Int number → fault_for h.function h.attribute new.cell ≡ None → cell_at rows new.at.items ≡ None → StandsFor h (put_row new rows) t)
    → (wanted ≡ false → t ≡ s) → StandsUpTo g numbers inside (i + 1) t
number_next g numbers inside i number wanted s t l e w stands takes same area rows rise h m =
    let at = here g.attribute rows numbers i number h l e in
    let row = at.row in
    let tested : is_inside area row.at.items ≡ wanted =
    sym (test_at (λ (r : Row). is_inside area r.at.items) rows i row at.within_rows at.is) ∙ ap (λ (bs : List Bool). get_or bs i false) m ∙ sym w in
    let more : take (i + 1) rows ≡ take i rows ++ row ∷ [] = take_more rows i row at.within_rows ∙ ap (λ (x : Row). take i rows ++ x ∷ []) (sym at.is) in
    let joined : within area (take (i + 1) rows) ≡ within area (take i rows) ++ cond wanted (row ∷ []) [] =
    ap (within area) more ∙ filter-append (λ (r : Row). is_inside area r.at.items) (take i rows) (row ∷ []) ∙ ap (λ (b : Bool). within area (take i rows) ++ cond b (row ∷ []) []) tested in
    let rising : IsRising (within area (take (i + 1) rows)) =
    IsRising-rows_where (is_inside area) (take (i + 1) rows) (rising_left (take (i + 1) rows) (drop (i + 1) rows) (subst IsRising (sym (take-append-drop (i + 1) rows)) rise)) in
    subst (λ (rs : List Row). StandsFor g rs t) (sym joined)
    (put_if g (within area (take i rows)) row wanted s t (subst IsRising joined rising) (stands area rows rise h m)
    (λ yes empty. takes yes g (within area (take i rows)) row (stands area rows rise h m) (is_value g.attribute row.cell number at.value) (has_no_fault g.function g.attribute row.cell number at.value) empty) same)

pub numbers_done : (g : Aggregate) (numbers : List ℤ) (inside : List Bool) (i : ℕ) (cells : List Cell) (state : Summary) → length numbers ≤ i → HaveNumbers g.attribute numbers cells → StandsUpTo g numbers inside i state
    → StandsForInside g inside cells state
numbers_done g numbers inside i cells state l h stands area rows rise same m =
    let long : length rows ≤ i = omega (arith, sizes, l) in
    subst (λ (rs : List Row). StandsFor g (within area rs) state) (take_all i rows long) (stands area rows rise (subst (HaveNumbers g.attribute numbers) (sym same) h) m)
  where
    sizes : length rows ≡ length numbers
    sizes =
        sym (length-map rows (λ (row : Row). row.cell)) ∙ ap length same ∙ sym (length-map cells (value_in g.attribute)) ∙ ap length h ∙ length-map numbers Int

-- ---- the states of cells

pub as_many_numbers : (place : ℕ) (numbers : List ℤ) (cells : List Cell) → HaveNumbers place numbers cells → length numbers ≡ length cells
as_many_numbers place numbers cells h = sym (length-map numbers Int) ∙ sym (ap length h) ∙ length-map cells (value_in place)

pub next_states_inside : (gs : List Aggregate) (i : ℕ) (g : Aggregate) (inside : List Bool) (cells : List Cell) (old new : List Summary) (s : Summary) → i < length gs → g ≡ get_or gs i g
    → AreStatesInside (take i gs) inside cells old → StandsForInside g inside cells s → new ≡ old ++ s ∷ [] → AreStatesInside (take (i + 1) gs) inside cells new
next_states_inside gs i g inside cells old new s l e h stands n area rows rise same m =
    next_states gs i g (within area rows) old new s l e (h area rows rise same m) (stands area rows rise same m) n

-- the states stand for as many cells as there are rows
pub states_count : (gs : List Aggregate) (rows : List Row) (states : List Summary) → AreStatesOf gs rows states → count_of states ≤ length rows
states_count [] rows [] h = omega arith
states_count [] rows (s ∷ states) h = absurd h
states_count (g ∷ gs) rows [] h = absurd h
states_count (g ∷ gs) rows (s ∷ states) h =
    let one = h.0.cells in
    let others = states_count gs rows states h.1 in
    omega (arith, one, others)

pub group_count : (gs : List Aggregate) (rows : List Row) (group : Group) (groups : List Group) → AreStatesOf gs rows group.states → groups ≡ group ∷ [] → cells_in groups ≤ length rows
group_count gs rows group groups h e =
    let one = states_count gs rows group.states h in
    let all = ap cells_in e in
    omega (arith, one, all)

-- States by the places of a grid.
use Rattle.std.proofs.Common.{◌≡◌, ℕ, zero, suc, ◌+◌, ◌<◌, ◌≤◌, ◌^◌, ℤ, pos, Bool, true, false, cond, List, [], ◌∷◌, ◌++◌, append-nil, add-one, length, get_or, take, drop, refl, sym, ap, ◌∙◌, subst, arith}
use Rattle.std.proofs.lemmas.List.{get_or-set_other, get_or-set_same, length-append, length-set, take-append-drop, take_all}
use Rattle.std.specs.List.{AllByRecursion}
use Rattle.std.specs.Prelude.{slice_set}
use Rattle.std.specs.Ordering.{is_eq}
use Rattle.cell_values.specs.declared.datum.Datum.TheVariants.{Int}
use Rattle.cell_values.specs.declared.datum.Row.{Row}
use Rattle.array_rows.specs.Rows.{IsRising, row_major}
use Rattle.array_rows.specs.Inner.CellsIn.{value_in}
use Rattle.array_rows.proofs.RowsLemmas.{same_coordinate}
use Rattle.array_geom.specs.declared.grid.Grid.{Grid}
use Rattle.array_geom.specs.Geometry.{position_in, volume}
use Rattle.array_geom.specs.Inner.Ranges.{IsGrid}
use Rattle.array_geom.proofs.PlaceLaws.{position_again}
use Rattle.logical_plan.specs.declared.parts.Aggregate.{Aggregate}
use Rattle.logical_plan.specs.Groups.{cells_of}
use Rattle.logical_plan.specs.Redimension.{Landed, landed_at}
use Rattle.agg_states.specs.Stands.{StandsFor}
use Rattle.agg_states.specs.Inner.Summary.{Summary}
use Rattle.group_rows.specs.Inner.Columns.{HaveNumbers}
use Rattle.group_rows.specs.Inner.Places.{place_of}
use Rattle.group_rows.proofs.ColumnLaws.{has_no_fault, here, is_value}
use Rattle.group_rows.proofs.PlaceLaws.{all_at, same_key}
use Rattle.group_rows.proofs.RowLemmas.{free_last, put_last, rising_left}
use Rattle.redimension_exec.specs.Inner.Dense.{AreEmpty, IsColumn, Takes, landed_there, no_cells}
use Rattle.redimension_exec.specs.Inner.Taking.{rows_in}
use Rattle.redimension_exec.proofs.GroupLaws.{at_rises}
use Rattle.redimension_exec.proofs.StateLaws.{landed_last}

-- ---- places that are told apart

pub same_place : (grid : Grid) (p q : ℕ) → IsGrid grid → p < volume grid.lengths.items → q < volume grid.lengths.items → is_eq (row_major (place_of grid p) (place_of grid q)) ≡ true → p ≡ q
same_place grid p q is l m e =
    sym (position_again grid.low.items grid.lengths.items p is.lengths is.each l)
    ∙ ap (position_in grid.low.items grid.lengths.items) (same_key (place_of grid p) (place_of grid q) e)
    ∙ position_again grid.low.items grid.lengths.items q is.lengths is.each m

pub other_place : (grid : Grid) (p q : ℕ) → is_eq (row_major (place_of grid p) (place_of grid q)) ≡ false → q ≡ p → ⊥
other_place grid p q e same =
    let clash : true ≡ false = sym (ap is_eq (same_coordinate (place_of grid p))) ∙ ap (λ (n : ℕ). is_eq (row_major (place_of grid p) (place_of grid n))) (sym same) ∙ e in
    cc (clash)

-- ---- what landed

pub landed_more : (grid : Grid) (targets : List ℕ) (rows : List Row) (i : ℕ) (row : Row) → i < length targets → i < length rows → row ≡ get_or rows i row
    → landed_there grid (take (i + 1) targets) rows ≡ landed_there grid (take i targets) rows ++ (place_of grid (get_or targets i 0), row) ∷ []
landed_more grid targets rows i row l m e = ap (λ (n : ℕ). landed_there grid (take n targets) rows) (add-one i) ∙ further targets rows i l m e
  where
    further : (ts : List ℕ) (rs : List Row) (k : ℕ) → k < length ts → k < length rs → row ≡ get_or rs k row
        → landed_there grid (take (suc k) ts) rs ≡ landed_there grid (take k ts) rs ++ (place_of grid (get_or ts k 0), row) ∷ []
    further [] rs k a b f = absurd (omega (arith, a))
    further (t ∷ ts) [] k a b f = absurd (omega (arith, b))
    further (t ∷ ts) (r ∷ rs) zero a b f = ap (λ (x : Row). (place_of grid t, x) ∷ []) (sym f)
    further (t ∷ ts) (r ∷ rs) (suc k) a b f = ap (λ (all : List Landed). (place_of grid t, r) ∷ all) (further ts rs k (omega (arith, a)) (omega (arith, b)) f)

rows_there : (grid : Grid) (targets : List ℕ) (rows : List Row) → rows_in (landed_there grid targets rows) ≡ take (length targets) rows
rows_there grid [] rows = refl
rows_there grid (t ∷ targets) [] = refl
rows_there grid (t ∷ targets) (row ∷ rows) = ap (λ (rs : List Row). row ∷ rs) (rows_there grid targets rows)

pub there_rises : (grid : Grid) (targets : List ℕ) (rows : List Row) → IsRising rows → IsRising (rows_in (landed_there grid targets rows))
there_rises grid targets rows r =
    subst IsRising (sym (rows_there grid targets rows))
    (rising_left (take (length targets) rows) (drop (length targets) rows) (subst IsRising (sym (take-append-drop (length targets) rows)) r))

-- ---- states of no cells

pub next_empty : (g : Aggregate) (old new : List Summary) (s : Summary) → AreEmpty g old → StandsFor g [] s → s.cells ≡ 0 → new ≡ old ++ s ∷ [] → AreEmpty g new
next_empty g old new s empty stands none e = subst (AreEmpty g) (sym e) (further old empty)
  where
    further : (states : List Summary) → AreEmpty g states → AreEmpty g (states ++ s ∷ [])
    further [] h = ((stands, none), tt)
    further (x ∷ states) h = (h.0, further states h.1)

pub one_longer : (old new : List Summary) (s : Summary) (n : ℕ) → length old ≡ n → new ≡ old ++ s ∷ [] → length new ≡ n + 1
one_longer old new s n long e = let all = ap length e ∙ length-append old (s ∷ []) in omega (arith, all, long)

-- ---- the states after some numbers

pub record StandsUpTo (g : Aggregate) (grid : Grid) (targets : List ℕ) (numbers : List ℤ) (i : ℕ) (states : List Summary) : Type 0 where
  pub long : length states ≡ volume grid.lengths.items
  pub few : (p : ℕ) → p < volume grid.lengths.items → (get_or states p no_cells).cells ≤ i
  pub stands : (rows : List Row) → IsRising rows → HaveNumbers g.attribute numbers (cells_of rows) → (p : ℕ) → p < volume grid.lengths.items
      → StandsFor g (landed_at (landed_there grid (take i targets) rows) (place_of grid p)) (get_or states p no_cells)

pub none_stand : (g : Aggregate) (grid : Grid) (targets : List ℕ) (numbers : List ℤ) (states : List Summary) (count : ℕ) → AreEmpty g states → length states ≡ count → count ≡ volume grid.lengths.items → StandsUpTo g grid targets numbers 0 states
none_stand g grid targets numbers states count empty long same =
    let at = λ (p : ℕ) (l : p < volume grid.lengths.items). all_at (λ (state : Summary). StandsFor g [] state × (state.cells ≡ 0)) states p no_cells (omega (arith, l, long, same)) empty in
    record {
      long = long ∙ same;
      few = λ p l. let none = (at p l).1 in omega (arith, none);
      stands = λ rows r h p l. (at p l).0;
    }

module _ (g : Aggregate) (grid : Grid) (targets : List ℕ) (numbers : List ℤ) (i t : ℕ) (number : ℤ) (old new : List Summary) (is : IsGrid grid) (below : AllByRecursion (λ t. t < volume grid.lengths.items) targets)
    (l : i < length targets) (m : length numbers ≡ length targets) (e : t ≡ get_or targets i 0) (f : number ≡ get_or numbers i (pos 0)) (takes : Takes t number old new) (upto : StandsUpTo g grid targets numbers i old) where
  low : t < volume grid.lengths.items
  low = subst (λ (n : ℕ). n < volume grid.lengths.items) (sym e) (all_at (λ (n : ℕ). n < volume grid.lengths.items) targets i 0 l below)

  within_old : t < length old
  within_old = let long = upto.long in let small = low in omega (arith, long, small)

  here_now : (p : ℕ) → t ≡ p → get_or new p no_cells ≡ takes.state
  here_now p same = ap (λ (states : List Summary). get_or states p no_cells) takes.set ∙ ap (λ (n : ℕ). get_or (slice_set old t takes.state) n no_cells) (sym same) ∙ get_or-set_same old t takes.state no_cells within_old

  as_before : (p : ℕ) → (p ≡ t → ⊥) → get_or new p no_cells ≡ get_or old p no_cells
  as_before p differ = ap (λ (states : List Summary). get_or states p no_cells) takes.set ∙ get_or-set_other old t p takes.state no_cells differ

  few_now : (p : ℕ) → p < volume grid.lengths.items → (get_or new p no_cells).cells ≤ i + 1
  few_now p small = cases (is_eq (row_major (place_of grid t) (place_of grid p))) refl
    where
      cases : (b : Bool) → is_eq (row_major (place_of grid t) (place_of grid p)) ≡ b → (get_or new p no_cells).cells ≤ i + 1
      cases true h =
          let one = ap (λ (s : Summary). s.cells) (here_now p (same_place grid t p is low small h)) in
          let more = takes.cells in
          let before = upto.few t low in
          omega (arith, one, more, before)
      cases false h =
          let one = ap (λ (s : Summary). s.cells) (as_before p (other_place grid t p h)) in
          let before = upto.few p small in
          omega (arith, one, before)

  stands_now : (rows : List Row) → IsRising rows → HaveNumbers g.attribute numbers (cells_of rows) → (p : ℕ) → p < volume grid.lengths.items
      → StandsFor g (landed_at (landed_there grid (take (i + 1) targets) rows) (place_of grid p)) (get_or new p no_cells)
  stands_now rows r h p small =
      let number_of_row = here g.attribute rows numbers i number h (omega (arith, l, m)) f in
      let row : Row = number_of_row.row in
      let some : List Row = landed_at (landed_there grid (take i targets) rows) (place_of grid p) in
      let joined : landed_at (landed_there grid (take (i + 1) targets) rows) (place_of grid p) ≡ some ++ cond (is_eq (row_major (place_of grid t) (place_of grid p))) (row ∷ []) [] =
      ap (λ (all : List Landed). landed_at all (place_of grid p)) (landed_more grid targets rows i row l number_of_row.within_rows number_of_row.is)
      ∙ landed_last (landed_there grid (take i targets) rows) (record { items = place_of grid (get_or targets i 0) }) row (place_of grid p)
      ∙ ap (λ (n : ℕ). some ++ cond (is_eq (row_major (place_of grid n) (place_of grid p))) (row ∷ []) []) (sym e) in
      let rise : IsRising (landed_at (landed_there grid (take (i + 1) targets) rows) (place_of grid p)) =
      at_rises (landed_there grid (take (i + 1) targets) rows) (place_of grid p) (there_rises grid (take (i + 1) targets) rows r) in
      subst (λ (rs : List Row). StandsFor g rs (get_or new p no_cells)) (sym joined)
      (cases row some number_of_row.value (is_eq (row_major (place_of grid t) (place_of grid p))) refl (subst IsRising joined rise) (upto.stands rows r h) refl)
    where
      cases : (row : Row) (some : List Row) → value_in g.attribute row.cell ≡ Int number → (b : Bool) → is_eq (row_major (place_of grid t) (place_of grid p)) ≡ b → IsRising (some ++ cond b (row ∷ []) [])
          → ((q : ℕ) → q < volume grid.lengths.items → StandsFor g (landed_at (landed_there grid (take i targets) rows) (place_of grid q)) (get_or old q no_cells))
          → some ≡ landed_at (landed_there grid (take i targets) rows) (place_of grid p) → StandsFor g (some ++ cond b (row ∷ []) []) (get_or new p no_cells)
      cases row some value true k rising before is_some =
          let same = same_place grid t p is low small k in
          let stood : StandsFor g some (get_or old t no_cells) =
          subst (λ (rs : List Row). StandsFor g rs (get_or old t no_cells)) (ap (λ (n : ℕ). landed_at (landed_there grid (take i targets) rows) (place_of grid n)) same ∙ sym is_some) (before t low) in
          subst (λ (s : Summary). StandsFor g (some ++ row ∷ []) s) (sym (here_now p same))
          (subst (λ (rs : List Row). StandsFor g rs takes.state) (put_last some row rising)
          (takes.stands g some row stood (is_value g.attribute row.cell number value) (has_no_fault g.function g.attribute row.cell number value) (free_last some row rising)))
      cases row some value false k rising before is_some =
          subst (λ (rs : List Row). StandsFor g rs (get_or new p no_cells)) (sym (append-nil some))
          (subst (λ (s : Summary). StandsFor g some s) (sym (as_before p (other_place grid t p k))) (subst (λ (rs : List Row). StandsFor g rs (get_or old p no_cells)) (sym is_some) (before p small)))

  pub next_stand : StandsUpTo g grid targets numbers (i + 1) new
  next_stand = record {
    long = ap length takes.set ∙ length-set old t takes.state ∙ upto.long;
    few = few_now;
    stands = stands_now;
  }

pub room_at : (g : Aggregate) (grid : Grid) (targets : List ℕ) (numbers : List ℤ) (i t : ℕ) (states : List Summary) → AllByRecursion (λ t. t < volume grid.lengths.items) targets → i < length targets → length targets < 2 ^ 63 → t ≡ get_or targets i 0
    → StandsUpTo g grid targets numbers i states → (t < length states) × ((get_or states t no_cells).cells + 1 < 2 ^ 63)
room_at g grid targets numbers i t states below l few e upto =
    let low : t < volume grid.lengths.items = subst (λ (n : ℕ). n < volume grid.lengths.items) (sym e) (all_at (λ (n : ℕ). n < volume grid.lengths.items) targets i 0 l below) in
    let long = upto.long in
    let kept = upto.few t low in
    (omega (arith, long, low), omega (arith, kept, l, few))

pub all_stand : (g : Aggregate) (grid : Grid) (targets : List ℕ) (numbers : List ℤ) (i : ℕ) (states made : List Summary) → length targets ≤ i → made ≡ states → StandsUpTo g grid targets numbers i states
    → (rows : List Row) → IsRising rows → HaveNumbers g.attribute numbers (cells_of rows) → IsColumn g grid (landed_there grid targets rows) made
all_stand g grid targets numbers i states made l e upto rows r h = subst (IsColumn g grid (landed_there grid targets rows)) (sym e) (record {
  long = upto.long;
  each = λ p small.
      subst (λ (ts : List ℕ). StandsFor g (landed_at (landed_there grid ts rows) (place_of grid p)) (get_or states p no_cells)) (take_all i targets l) (upto.stands rows r h p small);
})

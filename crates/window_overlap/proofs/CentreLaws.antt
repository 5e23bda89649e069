-- Windows around the cells of a box, centre by centre.
use Rattle.std.proofs.Common.{◌≡◌, ℕ, zero, suc, ◌+◌, ◌<◌, ℤ, Bool, true, false, cond, ◌&&◌, List, [], ◌∷◌, ◌++◌, append-nil, length, get_or, map, take, Option, Some, None, refl, sym, ap, ◌∙◌, subst, arith}
use Rattle.std.specs.Prelude.{slice_index_or}
use Rattle.std.specs.List.{AllByRecursion}
use Rattle.std.specs.List.{list_all}
use Rattle.std.proofs.lemmas.List.{map-append, take_more}
use Rattle.array_geom.proofs.TestLaws.{and_parts}
use Rattle.logical_plan.specs.Typing.{is_aggregate_of}
use Rattle.window_overlap.specs.Reaches.{CanAggregate}
use Rattle.cell_values.specs.declared.datum.Datum.{Datum}
use Rattle.cell_values.specs.declared.datum.Cell.{Cell}
use Rattle.cell_values.specs.declared.datum.Cell.TheVariants.{Full, Doubt}
use Rattle.cell_values.specs.declared.datum.Row.{Row}
use Rattle.cell_values.specs.declared.schema.Bounds.{Bounds}
use Rattle.array_rows.specs.Inner.CellsIn.{cells_in}
use Rattle.array_rows.specs.Boxes.{is_inside, within}
use Rattle.array_rows.specs.Cellwise.{cell_wise, put_first}
use Rattle.array_rows.specs.Rows.{Coordinate, placed}
use Rattle.array_geom.specs.declared.chunk.Chunk.{Chunk}
use Rattle.array_geom.specs.declared.grid.Grid.{Grid}
use Rattle.array_geom.specs.Geometry.{position_in}
use Rattle.array_geom.specs.Inner.Ranges.{is_in_grid}
use Rattle.area_cells.specs.declared.finding.Found.{Found}
use Rattle.area_cells.specs.Found.{found_cell, found_row, found_rows}
use Rattle.area_cells.specs.Inner.Filled.{IsFilled}
use Rattle.area_cells.proofs.FillLaws.{one_more_row}
use Rattle.area_cells.proofs.FoundLaws.{rows_append}
use Rattle.logical_plan.specs.declared.parts.Aggregate.{Aggregate}
use Rattle.logical_plan.specs.declared.parts.Reach.{Reach}
use Rattle.logical_plan.specs.Groups.{aggregate_of, aggregates_of, cells_of, window, window_cell}
use Rattle.window_overlap.specs.Cores.{window_within}
use Rattle.window_overlap.specs.Inner.Dense.{AreColumns, AreNumbers, IsFull, place_of}
use Rattle.window_overlap.specs.declared.dense.columns.Dense.{Dense}
use Rattle.window_overlap.proofs.ChunksWindowLaws.{cell_wise-more}

pub columns_long : (grid : Grid) (rows : List Row) (gs : List Aggregate) (ds : List Dense) → AreColumns grid rows gs ds → length ds ≡ length gs
columns_long grid rows [] [] a = refl
columns_long grid rows [] (d ∷ ds) a = absurd a
columns_long grid rows (g ∷ gs) [] a = absurd a
columns_long grid rows (g ∷ gs) (d ∷ ds) a = ap suc (columns_long grid rows gs ds a.1)

pub column_at : (grid : Grid) (rows : List Row) (gs : List Aggregate) (ds : List Dense) (k : ℕ) (g : Aggregate) (d : Dense) → AreColumns grid rows gs ds → k < length gs → g ≡ get_or gs k g → d ≡ get_or ds k d → AreNumbers grid rows g.attribute d.present d.numbers
column_at grid rows [] ds k g d a l e f = absurd (omega (arith, l))
column_at grid rows (x ∷ gs) [] k g d a l e f = absurd a
column_at grid rows (x ∷ gs) (y ∷ ds) zero g d a l e f = subst (λ (z : Aggregate). AreNumbers grid rows z.attribute d.present d.numbers) (sym e) (subst (λ (z : Dense). AreNumbers grid rows x.attribute z.present z.numbers) (sym f) a.0)
column_at grid rows (x ∷ gs) (y ∷ ds) (suc k) g d a l e f = column_at grid rows gs ds k g d a.1 (omega (arith, l)) e f

column_more : (grid : Grid) (rows : List Row) (gs : List Aggregate) (ds : List Dense) (g : Aggregate) (d : Dense) → AreColumns grid rows gs ds → AreNumbers grid rows g.attribute d.present d.numbers → AreColumns grid rows (gs ++ g ∷ []) (ds ++ d ∷ [])
column_more grid rows [] [] g d a n = (n, tt)
column_more grid rows [] (y ∷ ds) g d a n = absurd a
column_more grid rows (x ∷ gs) [] g d a n = absurd a
column_more grid rows (x ∷ gs) (y ∷ ds) g d a n = (a.0, column_more grid rows gs ds g d a.1 n)

pub next_column : (grid : Grid) (rows : List Row) (gs : List Aggregate) (ds ds' : List Dense) (k : ℕ) (g : Aggregate) (d : Dense) → k < length gs → g ≡ get_or gs k g → ds' ≡ ds ++ d ∷ [] → AreNumbers grid rows g.attribute d.present d.numbers → AreColumns grid rows (take k gs) ds
    → AreColumns grid rows (take (k + 1) gs) ds'
next_column grid rows gs ds ds' k g d l e n are a =
    subst (AreColumns grid rows (take (k + 1) gs)) (sym n)
    (subst (λ (xs : List Aggregate). AreColumns grid rows xs (ds ++ d ∷ [])) (sym (take_more gs k g l ∙ ap (λ (x : Aggregate). take k gs ++ x ∷ []) (sym e))) (column_more grid rows (take k gs) ds g d a are))

-- ---- cells that are there

full_at : (rows : List (List Datum)) (k : ℕ) → IsFull (slice_index_or (map Full rows) k (Full []))
full_at [] k = tt
full_at (r ∷ rows) zero = tt
full_at (r ∷ rows) (suc k) = full_at rows k

pub even_full : (f : Found) (rows : List (List Datum)) → cells_in f.form.now ≡ map Full rows → IsFull (found_cell f)
even_full f rows e = subst (λ (cs : List Cell). IsFull (slice_index_or cs f.number (Full []))) (sym e) (full_at rows f.number)

pub all_more : (P : Found → Type 0) (fs : List Found) (k : ℕ) (f : Found) → k < length fs → f ≡ get_or fs k f → P f → AllByRecursion P (take k fs) → AllByRecursion P (take (k + 1) fs)
all_more P fs k f l e p a = subst (AllByRecursion P) (sym (take_more fs k f l ∙ ap (λ (x : Found). take k fs ++ x ∷ []) (sym e))) (grown (take k fs) a)
  where
    grown : (xs : List Found) → AllByRecursion P xs → AllByRecursion P (xs ++ f ∷ [])
    grown [] b = (p, tt)
    grown (x ∷ xs) b = (b.0, grown xs b.1)

pub one_of : (P : Found → Type 0) (fs : List Found) (k : ℕ) (f : Found) → AllByRecursion P fs → k < length fs → f ≡ get_or fs k f → P f
one_of P [] k f a l e = absurd (omega (arith, l))
one_of P (x ∷ fs) zero f a l e = subst P (sym e) a.0
one_of P (x ∷ fs) (suc k) f a l e = one_of P fs k f a.1 (omega (arith, l)) e

-- ---- centres

outside_row : (area : Bounds) (reach : List Reach) (gs : List Aggregate) (rows : List Row) (row : Row) → is_inside area row.at.items ≡ false → cell_wise (window_within area reach gs rows) (row ∷ []) ≡ []
outside_row area reach gs rows row out = ap (λ (b : Bool). put_first row.at.items (cond b (window_cell reach gs rows row.at.items row.cell) None) []) out

pub no_centre : (area : Bounds) (reach : List Reach) (gs : List Aggregate) (grid : Grid) (found : List Found) (one : Found) (at : Coordinate) (low : List ℤ) (lengths : List ℕ) (rows : List Row) (made : Chunk) → at ≡ place_of grid one.position → is_inside area at ≡ false
    → IsFilled low lengths rows made → IsFilled low lengths (rows ++ cell_wise (window_within area reach gs (found_rows grid found)) (found_row grid one ∷ [])) made
no_centre area reach gs grid found one at low lengths rows made e out is =
    subst (λ (rs : List Row). IsFilled low lengths rs made) (sym (ap (λ (rs : List Row). rows ++ rs) (outside_row area reach gs (found_rows grid found) (found_row grid one) (ap (is_inside area) (sym e) ∙ out)) ∙ append-nil rows)) is

window_of_full : (reach : List Reach) (gs : List Aggregate) (rows : List Row) (c : Coordinate) (cell : Cell) → IsFull cell → window_cell reach gs rows c cell ≡ Some (aggregates_of gs (within (window reach c) rows))
window_of_full reach gs rows c (Full vs) f = refl
window_of_full reach gs rows c (Doubt kind) f = absurd f

pub centre_added : (area : Bounds) (reach : List Reach) (gs : List Aggregate) (grid target : Grid) (found : List Found) (one : Found) (at : Coordinate) (values given : List Datum) (p : ℕ) (rows : List Row) (old new : Chunk) → at ≡ place_of grid one.position → is_inside area at ≡ true → IsFull (found_cell one)
    → is_in_grid target.low.items target.lengths.items at ≡ true → p ≡ position_in target.low.items target.lengths.items at → given ≡ values → values ≡ map (λ g. aggregate_of g (cells_of (within (window reach at) (found_rows grid found)))) gs
    → new.positions ≡ old.positions ++ p ∷ [] → new.cells ≡ old.cells ++ Full given ∷ [] → IsFilled target.low.items target.lengths.items rows old
    → IsFilled target.low.items target.lengths.items (rows ++ cell_wise (window_within area reach gs (found_rows grid found)) (found_row grid one ∷ [])) new
centre_added area reach gs grid target found one at values given p rows old new e inside full held place same made positions cells is =
    let all = found_rows grid found in
    let row : placed at (Full values) ∷ [] ≡ cell_wise (window_within area reach gs all) (found_row grid one ∷ []) =
    (λ i. placed (e i) (Full (made i)) ∷ [])
    ∙ ap (λ (c : Coordinate). placed (place_of grid one.position) (Full (map (λ g. aggregate_of g (cells_of (within (window reach c) all))) gs)) ∷ []) e
    ∙ sym (ap (λ (b : Bool). put_first (place_of grid one.position) (cond b (window_cell reach gs all (place_of grid one.position) (found_cell one)) None) []) (ap (is_inside area) (sym e) ∙ inside)
    ∙ ap (λ (o : Option Cell). put_first (place_of grid one.position) o []) (window_of_full reach gs all (place_of grid one.position) (found_cell one) full)) in
    subst (λ (rs : List Row). IsFilled target.low.items target.lengths.items (rows ++ rs) new) row
    (one_more_row target.low.items target.lengths.items (placed at (Full values)) p old new rows held place positions (cells ∙ ap (λ (vs : List Datum). old.cells ++ Full vs ∷ []) same) is)

pub next_centre : (change : Coordinate → Cell → Option Cell) (grid : Grid) (fs : List Found) (k : ℕ) (f : Found) → k < length fs → f ≡ get_or fs k f
    → cell_wise change (found_rows grid (take (k + 1) fs)) ≡ cell_wise change (found_rows grid (take k fs)) ++ cell_wise change (found_row grid f ∷ [])
next_centre change grid fs k f l e =
    ap (λ (xs : List Found). cell_wise change (found_rows grid xs)) (take_more fs k f l ∙ ap (λ (x : Found). take k fs ++ x ∷ []) (sym e))
    ∙ ap (cell_wise change) (rows_append grid (take k fs) (f ∷ []))
    ∙ cell_wise-more change (found_rows grid (take k fs)) (found_row grid f)

-- ---- aggregates, one by one

one_typed : (p : Aggregate → Bool) (gs : List Aggregate) (k : ℕ) (g : Aggregate) → list_all p gs ≡ true → k < length gs → g ≡ get_or gs k g → list_all p (g ∷ []) ≡ true
one_typed p [] k g e l f = absurd (omega (arith, l))
one_typed p (x ∷ gs) zero g e l f = ap (λ (b : Bool). b && true) (ap p f ∙ (and_parts (p x) (list_all p gs) e).0)
one_typed p (x ∷ gs) (suc k) g e l f = one_typed p gs k g (and_parts (p x) (list_all p gs) e).1 (omega (arith, l)) f

pub can_one : (gs : List Aggregate) (rows : List Row) (k : ℕ) (g : Aggregate) → CanAggregate gs rows → k < length gs → g ≡ get_or gs k g → CanAggregate (g ∷ []) rows
can_one gs rows k g can l e = record { attributes = can.attributes; typed = one_typed (is_aggregate_of can.attributes) gs k g can.typed l e; cells = can.cells }

pub next_value : (f : Aggregate → Datum) (gs : List Aggregate) (k : ℕ) (g : Aggregate) (values values' : List Datum) (v : Datum) → k < length gs → g ≡ get_or gs k g → values ≡ map f (take k gs) → values' ≡ values ++ v ∷ [] → v ≡ f g → values' ≡ map f (take (k + 1) gs)
next_value f gs k g values values' v l e h n m =
    n ∙ (λ i. h i ++ m i ∷ []) ∙ sym (ap (map f) (take_more gs k g l ∙ ap (λ (x : Aggregate). take k gs ++ x ∷ []) (sym e)) ∙ map-append f (take k gs) (g ∷ []))

-- Cells taken into the states of their lines one after the other.
use Rattle.std.proofs.Common.{◌≡◌, ℕ, zero, suc, ◌+◌, ◌-◌, ◌<◌, ◌≤◌, ℤ, cond, IsTrue, List, [], ◌∷◌, ◌++◌, map, length, get_or, take, drop, Option, Some, None, Result, Ok, Err, refl, sym, ap, ◌∙◌, subst, append_assoc, arith}
use Rattle.std.proofs.lemmas.List.{append-nil, map-append, take_more, take_all, take-append-drop}
use Rattle.std.proofs.lemmas.List.Elements.{filter-append}
use Rattle.std.specs.BTreeMap as tree
use Rattle.std.specs.Prelude.{OnOk}
use Rattle.std.specs.BTreeMap.{BTreeMap}
use Rattle.std.specs.List.{AllByRecursion, AllZip}
use Rattle.std.specs.Ordering.{is_eq}
use Rattle.std.specs.declared.cmp.Ordering.{Ordering}
use Rattle.arrayvec.specs.ArrayVec.{ArrayVec}
use Rattle.cell_values.specs.declared.datum.Cell.TheVariants.{Full}
use Rattle.cell_values.specs.declared.datum.Datum.{Datum}
use Rattle.cell_values.specs.declared.datum.Row.{Row}
use Rattle.cell_values.specs.declared.schema.Attribute.{Attribute}
use Rattle.cell_values.specs.Cells.{IsCellOf}
use Rattle.array_rows.specs.Rows.{Coordinate, row_major, IsRising}
use Rattle.array_rows.proofs.RowsLemmas.{same_coordinate}
use Rattle.array_parts.proofs.PartLemmas.{all_kept}
use Rattle.logical_plan.specs.declared.parts.Aggregate.{Aggregate}
use Rattle.logical_plan.specs.Groups.{aggregate_of, aggregates_of, cells_of, group_at}
use Rattle.logical_plan.specs.Typing.{is_aggregate_of, are_aggregates_of}
use Rattle.agg_states.specs.Inner.Summary.{Summary}
use Rattle.group_rows.specs.Grouped.{AreStatesOf, IsGroupOf}
use Rattle.group_rows.specs.Sets.{Sets, sets_by, unless_empty}
use Rattle.group_rows.specs.Taken.{KeepsGroups, by_coordinate, rows_of, sets_with}
use Rattle.group_rows.specs.Told.{IsTold}
use Rattle.group_rows.proofs.RowLemmas.{all_left, rising_left}
use Rattle.group_rows.proofs.StateLaws.{zip_push}
use Rattle.group_rows.proofs.TakenLaws.{run_sets, same_kept, set_rows}
use Rattle.array_geom.proofs.TestLaws.{and_parts}
use Rattle.order_exec.specs.Inner.Running.{IsNext, TakesNext, running, running_cell, running_row}
use Rattle.order_exec.specs.Lines.{CanAggregate, LinesRise}

-- ---- what states tell

pub told_values : (gs : List Aggregate) (attributes : List Attribute) (rows : List Row) (states : List Summary) (values : List Datum) → AllZip IsTold states values → AreStatesOf gs rows states → IsTrue (are_aggregates_of attributes gs)
    → AllByRecursion (λ row. IsCellOf attributes row.cell) rows → values ≡ map (λ g. aggregate_of g (cells_of rows)) gs
told_values [] attributes rows [] [] h s t k = refl
told_values [] attributes rows [] (v ∷ values) h s t k = absurd h
told_values [] attributes rows (state ∷ states) values h s t k = absurd s
told_values (g ∷ gs) attributes rows [] values h s t k = absurd s
told_values (g ∷ gs) attributes rows (state ∷ states) [] h s t k = absurd h
told_values (g ∷ gs) attributes rows (state ∷ states) (v ∷ values) h s t k =
    let typed = and_parts (is_aggregate_of attributes g) (are_aggregates_of attributes gs) t in
    λ i. h.0 g attributes rows s.0 typed.0 k i ∷ told_values gs attributes rows states values h.1 s.1 typed.1 k i

pub told_group : (gs : List Aggregate) (attributes : List Attribute) (rows : List Row) (found : Option (List Summary)) (states : List Summary) (values : List Datum) → found ≡ Some states → AllZip IsTold states values → IsGroupOf gs (Some rows) found
    → IsTrue (are_aggregates_of attributes gs) → AllByRecursion (λ row. IsCellOf attributes row.cell) rows → Full values ≡ aggregates_of gs rows
told_group gs attributes rows found states values e h g t k =
    ap (λ (vs : List Datum). Full vs) (told_values gs attributes rows states values h (subst (IsGroupOf gs (Some rows)) e g).1 t k)

pub no_group : (gs : List Aggregate) (rows : List Row) (found : Option (List Summary)) → found ≡ None → IsGroupOf gs (Some rows) found → ⊥
no_group gs rows found e g = subst (IsGroupOf gs (Some rows)) e g

-- ---- the next cell

module _ (line : Coordinate → Coordinate) (earlier : List Row) (row : Row) where
  -- the group of its line has it at its end
  pub group_more : group_at line (line row.at.items) (earlier ++ row ∷ []) ≡ group_at line (line row.at.items) earlier ++ row ∷ []
  group_more =
      filter-append (λ (other : Row). is_eq (row_major (line other.at.items) (line row.at.items))) earlier (row ∷ [])
      ∙ ap (λ (o : Ordering). group_at line (line row.at.items) earlier ++ cond (is_eq o) (row ∷ []) []) (same_coordinate (line row.at.items))

  some_group : unless_empty (group_at line (line row.at.items) (earlier ++ row ∷ [])) ≡ Some (group_at line (line row.at.items) (earlier ++ row ∷ []))
  some_group = subst (λ (rows : List Row). unless_empty rows ≡ Some rows) (sym group_more) (not_empty (group_at line (line row.at.items) earlier))
    where
      not_empty : (rows : List Row) → unless_empty (rows ++ row ∷ []) ≡ Some (rows ++ row ∷ [])
      not_empty [] = refl
      not_empty (x ∷ rows) = refl

  pub next_taken : (gs : List Aggregate) (at : ArrayVec ℤ) (run : List Row) (old new : BTreeMap (ArrayVec ℤ) (List Summary)) → run ≡ row ∷ [] → at.items ≡ line row.at.items
      → ((sets : Sets) → KeepsGroups gs sets old → IsRising (rows_of (sets at.items) ++ run) → KeepsGroups gs (sets_with at.items run sets) new)
      → KeepsGroups gs (sets_by line earlier) old → IsNext line earlier row → KeepsGroups gs (sets_by line (earlier ++ row ∷ [])) new
  next_taken gs at run old new e f takes keeps next =
      let rise : IsRising (rows_of (sets_by line earlier at.items) ++ run) =
      subst IsRising (λ i. sym (set_rows (group_at line (sym f i) earlier)) i ++ sym e i) next in
      subst (λ (rows : List Row). KeepsGroups gs (sets_by line (earlier ++ rows)) new) e
      (same_kept gs (sets_with at.items run (sets_by line earlier)) (sets_by line (earlier ++ run)) new
      (run_sets line at.items earlier run (let n = ap length e in omega (arith, n)) (subst (AllByRecursion (λ other. line other.at.items ≡ at.items)) (sym e) (sym f, tt)))
      (takes (sets_by line earlier) keeps rise))

  pub next_runs : (gs : List Aggregate) (at : ArrayVec ℤ) (old new : BTreeMap (ArrayVec ℤ) (List Summary)) (made : Row) → at.items ≡ line row.at.items → made.at ≡ row.at
      → (KeepsGroups gs (sets_by line earlier) old → IsNext line earlier row → KeepsGroups gs (sets_by line (earlier ++ row ∷ [])) new)
      → ((hs : List Aggregate) (attributes : List Attribute) (rows : List Row) → IsGroupOf hs (Some rows) (tree.get by_coordinate new at) → IsTrue (are_aggregates_of attributes hs) → AllByRecursion (λ row. IsCellOf attributes row.cell) rows
      → made.cell ≡ running_cell hs rows row.cell)
      → TakesNext line gs earlier row old made new
  next_runs gs at old new made f same takes told = record {
    states = takes;
    made_of = λ keeps next can.
        let all = group_at line (line row.at.items) (earlier ++ row ∷ []) in
        let group : IsGroupOf gs (Some all) (tree.get by_coordinate new at) =
        subst (λ (o : Option (List Row)). IsGroupOf gs o (tree.get by_coordinate new at)) (ap (λ (c : Coordinate). unless_empty (group_at line c (earlier ++ row ∷ []))) f ∙ some_group) (takes keeps next at) in
        let cell = told gs can.attributes all group can.typed (all_kept (λ other. IsCellOf can.attributes other.cell) (λ other. is_eq (row_major (line other.at.items) (line row.at.items))) (earlier ++ row ∷ []) can.cells) in
        λ i. record { at = same i; cell = cell i };
  }

-- ---- one cell after the other

pub running-more : (line : Coordinate → Coordinate) (gs : List Aggregate) (earlier rows : List Row) (row : Row) → running line gs earlier (rows ++ row ∷ []) ≡ running line gs earlier rows ++ running_row line gs (earlier ++ rows) row ∷ []
running-more line gs earlier [] row = ap (λ (before : List Row). running_row line gs before row ∷ []) (sym (append-nil earlier))
running-more line gs earlier (first ∷ rows) row =
    ap (λ (made : List Row). running_row line gs earlier first ∷ made)
    (running-more line gs (earlier ++ first ∷ []) rows row ∙ ap (λ (before : List Row). running line gs (earlier ++ first ∷ []) rows ++ running_row line gs before row ∷ []) (append_assoc earlier (first ∷ []) rows))

-- the rows so far, the next one, and the others
split : (earlier rows : List Row) (k : ℕ) (row : Row) → k < length rows → row ≡ get_or rows k row → earlier ++ rows ≡ ((earlier ++ take k rows) ++ row ∷ []) ++ drop (k + 1) rows
split earlier rows k row l e =
    let more : take (k + 1) rows ≡ take k rows ++ row ∷ [] = take_more rows k row l ∙ ap (λ (x : Row). take k rows ++ x ∷ []) (sym e) in
    ap (λ (zs : List Row). earlier ++ zs) (sym (take-append-drop (k + 1) rows))
    ∙ sym (append_assoc earlier (take (k + 1) rows) (drop (k + 1) rows))
    ∙ ap (λ (zs : List Row). zs ++ drop (k + 1) rows) (ap (λ (zs : List Row). earlier ++ zs) more ∙ sym (append_assoc earlier (take k rows) (row ∷ [])))

is_next : (line : Coordinate → Coordinate) (earlier : List Row) (row : Row) (later : List Row) → LinesRise line ((earlier ++ row ∷ []) ++ later) → IsNext line earlier row
is_next line earlier row later rise =
    subst IsRising (group_more line earlier row)
    (rising_left (group_at line (line row.at.items) (earlier ++ row ∷ [])) (group_at line (line row.at.items) later)
    (subst IsRising (filter-append (λ (other : Row). is_eq (row_major (line other.at.items) (line row.at.items))) (earlier ++ row ∷ []) later) (rise (line row.at.items))))

abbrev fewer_cells : (gs : List Aggregate) (some others : List Row) → CanAggregate gs (some ++ others) → CanAggregate gs some
fewer_cells gs some others can = record { attributes = can.attributes; typed = can.typed; cells = all_left (λ row. IsCellOf can.attributes row.cell) some others can.cells }

module _ (line : Coordinate → Coordinate) (gs : List Aggregate) (rows : List Row) (first : BTreeMap (ArrayVec ℤ) (List Summary)) where
  -- what the first rows became, and the states with these rows
  abbrev pub RunSoFar : ℕ → List Row → BTreeMap (ArrayVec ℤ) (List Summary) → Type 0
  RunSoFar k made now = (earlier : List Row) → KeepsGroups gs (sets_by line earlier) first → LinesRise line (earlier ++ rows)
      → KeepsGroups gs (sets_by line (earlier ++ take k rows)) now × (CanAggregate gs (earlier ++ rows) → made ≡ running line gs earlier (take k rows))

  pub none_run : (made : List Row) → made ≡ [] → RunSoFar 0 made first
  none_run made e earlier keeps rise = (subst (λ (zs : List Row). KeepsGroups gs (sets_by line zs) first) (sym (append-nil earlier)) keeps, λ can. e)

  pub one_run : (k : ℕ) (row new : Row) (made made' : List Row) (old now : BTreeMap (ArrayVec ℤ) (List Summary)) → k < length rows → row ≡ get_or rows k row → RunSoFar k made old
      → ((earlier : List Row) (other : Row) → other ≡ get_or rows k other → TakesNext line gs earlier other old new now) → made' ≡ made ++ new ∷ [] → RunSoFar (k + 1) made' now
  one_run k row new made made' old now l e so_far runs f earlier keeps rise =
      let before = so_far earlier keeps rise in
      let here = runs (earlier ++ take k rows) row e in
      let whole : earlier ++ rows ≡ ((earlier ++ take k rows) ++ row ∷ []) ++ drop (k + 1) rows = split earlier rows k row l e in
      let next : IsNext line (earlier ++ take k rows) row = is_next line (earlier ++ take k rows) row (drop (k + 1) rows) (subst (LinesRise line) whole rise) in
      let more : take (k + 1) rows ≡ take k rows ++ row ∷ [] = take_more rows k row l ∙ ap (λ (x : Row). take k rows ++ x ∷ []) (sym e) in
      let joined : (earlier ++ take k rows) ++ row ∷ [] ≡ earlier ++ take (k + 1) rows = append_assoc earlier (take k rows) (row ∷ []) ∙ ap (λ (zs : List Row). earlier ++ zs) (sym more) in (
        subst (λ (zs : List Row). KeepsGroups gs (sets_by line zs) now) joined (here.states before.0 next),
        λ can.
            let own = here.made_of before.0 next (fewer_cells gs ((earlier ++ take k rows) ++ row ∷ []) (drop (k + 1) rows) (subst (CanAggregate gs) whole can)) in
            f ∙ (λ i. before.1 can i ++ own i ∷ []) ∙ sym (running-more line gs earlier (take k rows) row) ∙ ap (running line gs earlier) (sym more),
      )

-- ---- the values of states

pub one_told : (states : List Summary) (i : ℕ) (state : Summary) (values values' : List Datum) (value : Datum) → i < length states → state ≡ get_or states i state → AllZip IsTold (take i states) values → IsTold state value → values' ≡ values ++ value ∷ []
    → AllZip IsTold (take (i + 1) states) values'
one_told states i state values values' value l e all told f =
    subst (λ (some : List Summary). AllZip IsTold some values') (sym (take_more states i state l ∙ ap (λ (s : Summary). take i states ++ s ∷ []) (sym e)))
    (subst (AllZip IsTold (take i states ++ state ∷ [])) (sym f) (zip_push IsTold (take i states) values state value all told))

pub all_told : (states : List Summary) (i : ℕ) (values : List Datum) → length states ≤ i → AllZip IsTold (take i states) values → AllZip IsTold states values
all_told states i values l h = subst (λ (some : List Summary). AllZip IsTold some values) (take_all i states l) h

-- ---- a run of one row

pub one_row : (k : ℕ) (rows : List Row) (row : Row) → k < length rows → row ≡ get_or rows k row → take (k + 1 - k) (drop k rows) ≡ row ∷ []
one_row k rows row l e =
    let one : k + 1 - k ≡ 1 = omega arith in
    ap (λ (n : ℕ). take n (drop k rows)) one ∙ first k rows l ∙ ap (λ (x : Row). x ∷ []) (sym e)
  where
    first : (k : ℕ) (rows : List Row) → k < length rows → take 1 (drop k rows) ≡ get_or rows k row ∷ []
    first k [] l = absurd (omega (arith, l))
    first zero (x ∷ rows) l = refl
    first (suc k) (x ∷ rows) l = first k rows (omega (arith, l))

-- ---- the row at a place

item_there : (k : ℕ) (rows : List Row) (d other : Row) → k < length rows → get_or rows k d ≡ get_or rows k other
item_there k [] d other l = absurd (omega (arith, l))
item_there zero (x ∷ rows) d other l = refl
item_there (suc k) (x ∷ rows) d other l = item_there k rows d other (omega (arith, l))

pub same_item : (k : ℕ) (rows : List Row) (row other : Row) → k < length rows → row ≡ get_or rows k row → other ≡ get_or rows k other → row ≡ other
same_item k rows row other l e f = e ∙ item_there k rows row other l ∙ sym f

module _ (line : Coordinate → Coordinate) (gs : List Aggregate) (rows : List Row) (first : BTreeMap (ArrayVec ℤ) (List Summary)) where
  pub next_run : (k : ℕ) (new : Row) (made made' : List Row) (old now : BTreeMap (ArrayVec ℤ) (List Summary)) → k < length rows → RunSoFar line gs rows first k made old
      → ((earlier : List Row) (other : Row) → other ≡ get_or rows k other → TakesNext line gs earlier other old new now) → made' ≡ made ++ new ∷ [] → RunSoFar line gs rows first (k + 1) made' now
  next_run k new made made' old now l so_far runs f =
      one_run line gs rows first k (get_or rows k new) new made made' old now l (item_there k rows new (get_or rows k new) l) so_far runs f

  pub whole_run : (k : ℕ) (made : List Row) (now : BTreeMap (ArrayVec ℤ) (List Summary)) → length rows ≤ k → RunSoFar line gs rows first k made now → (earlier : List Row) → KeepsGroups gs (sets_by line earlier) first → LinesRise line (earlier ++ rows)
      → KeepsGroups gs (sets_by line (earlier ++ rows)) now × (CanAggregate gs (earlier ++ rows) → made ≡ running line gs earlier rows)
  whole_run k made now l so_far earlier keeps rise =
      let all = take_all k rows l in
      let run = so_far earlier keeps rise in
      (subst (λ (zs : List Row). KeepsGroups gs (sets_by line (earlier ++ zs)) now) all run.0, λ can. run.1 can ∙ ap (running line gs earlier) all)

-- ---- the places of rows

pub next_place : (rows : List Row) (k : ℕ) (new : Row) (made made' : List Row) → k < length rows → map (λ (row : Row). row.at) made ≡ map (λ (row : Row). row.at) (take k rows) → ((row : Row) → row ≡ get_or rows k row → new.at ≡ row.at)
    → made' ≡ made ++ new ∷ [] → map (λ (row : Row). row.at) made' ≡ map (λ (row : Row). row.at) (take (k + 1) rows)
next_place rows k new made made' l e at f =
    let row = get_or rows k new in
    let there : row ≡ get_or rows k row = item_there k rows new row l in
    ap (map (λ (row : Row). row.at)) f
    ∙ map-append (λ (row : Row). row.at) made (new ∷ [])
    ∙ (λ i. e i ++ at row there i ∷ [])
    ∙ sym (map-append (λ (row : Row). row.at) (take k rows) (row ∷ []))
    ∙ ap (map (λ (row : Row). row.at)) (ap (λ (x : Row). take k rows ++ x ∷ []) there ∙ sym (take_more rows k row l))

-- what holds of the places of some rows holds of those of others at the same places
pub at_same_places : (P : Coordinate → Type 0) (rows made : List Row) → map (λ (row : Row). row.at) made ≡ map (λ (row : Row). row.at) rows → AllByRecursion (λ row. P row.at.items) rows → AllByRecursion (λ row. P row.at.items) made
at_same_places P [] [] e h = tt
at_same_places P [] (m ∷ made) e h = cc
at_same_places P (row ∷ rows) [] e h = cc
at_same_places P (row ∷ rows) (m ∷ made) e h =
    (subst (λ (at : ArrayVec ℤ). P at.items) (sym (ap (λ (zs : List (ArrayVec ℤ)). get_or zs 0 row.at) e)) h.0, at_same_places P rows made (ap (λ (zs : List (ArrayVec ℤ)). drop 1 zs) e) h.1)

pub always_ok : {X E P : Type 0} (r : Result X E) → P → OnOk r P
always_ok (Ok x) p = p
always_ok (Err e) p = tt

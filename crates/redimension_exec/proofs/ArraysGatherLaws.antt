-- Rows that gather the cells which land at one coordinate.
use Rattle.std.proofs.Common.{◌≡◌, ◌<◌, ◌≤◌, ◌^◌, false, cond, IsTrue, List, [], ◌∷◌, map, filter, length, Some, Result, Ok, Err, refl, sym, ap, ◌∙◌, subst, arith}
use Rattle.std.specs.List.{AllByRecursion, AllZip, list_all}
use Rattle.std.specs.Option.{option_map}
use Rattle.std.specs.Prelude.{IfOk}
use Rattle.std.specs.Ordering.{is_eq}
use Rattle.std.specs.declared.cmp.Ordering.{Ordering}
use Rattle.std.specs.declared.cmp.Ordering.TheVariants.{Less, Equal, Greater}
use Rattle.cell_values.specs.declared.datum.Broken.{Broken}
use Rattle.cell_values.specs.declared.datum.Cell.{Cell}
use Rattle.cell_values.specs.declared.datum.Row.{Row}
use Rattle.cell_values.specs.declared.memory.Memory.{Memory}
use Rattle.cell_values.specs.declared.schema.Attribute.{Attribute}
use Rattle.cell_values.specs.declared.schema.Bounds.{Bounds}
use Rattle.cell_values.specs.declared.schema.Schema.{Schema}
use Rattle.cell_values.specs.Cells.{IsCellOf}
use Rattle.cell_values.specs.Schemas.{IsValid}
use Rattle.array_rows.specs.Arrays.{AreRowsOf}
use Rattle.array_rows.specs.Boxes.{is_inside, bounds_of}
use Rattle.array_rows.specs.Rows.{Coordinate, row_major, placed, cell_at, in_order}
use Rattle.array_rows.proofs.RowsLemmas.{row_major_exact, same_rows}
use Rattle.array_rows.proofs.RowSets.{IsRising-in_order, cell_at-in_order}
use Rattle.logical_plan.specs.declared.parts.Aggregate.{Aggregate}
use Rattle.logical_plan.specs.Faults.{if_whole}
use Rattle.logical_plan.specs.Groups.{aggregates_of}
use Rattle.logical_plan.specs.Redimension.{Landed, origin_of, landed, landed_at, named, by_names, gathered_rows}
use Rattle.logical_plan.specs.Typing.{is_kind_of}
use Rattle.group_rows.specs.declared.rows.groups.Groups.{Groups}
use Rattle.group_rows.specs.Counts.{cells_in}
use Rattle.group_rows.specs.Sets.{unless_empty}
use Rattle.group_rows.specs.Inner.Merging.{IsSetFor}
use Rattle.group_rows.specs.Told.{IsRowOf, AreRowsOfSets}
use Rattle.group_rows.proofs.ToldLaws.{told_rows, rows_of_target}
use Rattle.redimension_exec.specs.Inner.Grouping.{landed_sets, AreGroupsLanded, AreRowsTold}
use Rattle.redimension_exec.proofs.LandedLaws.{all_landed}
use Rattle.redimension_exec.proofs.OrderLaws.{Gathers, ordered, ordered_typed, ordered_kinds, cell_named}

-- ---- what is told at a coordinate

told_at : (tell : Coordinate → Cell) (all : List Landed) (c : Coordinate) → cell_at (map (λ (l : Landed). placed l.0 (tell l.0)) all) c ≡ option_map (λ some. tell c) (unless_empty (landed_at all c))
told_at tell [] c = refl
told_at tell (l ∷ all) c = cases (row_major l.0 c) refl (told_at tell all c)
  where
    cases : (o : Ordering) → row_major l.0 c ≡ o → cell_at (map (λ (m : Landed). placed m.0 (tell m.0)) all) c ≡ option_map (λ some. tell c) (unless_empty (landed_at all c))
        → cond (is_eq o) (Some (tell l.0)) (cell_at (map (λ (m : Landed). placed m.0 (tell m.0)) all) c)
        ≡ option_map (λ some. tell c) (unless_empty (map (λ (m : Landed). m.1) (cond (is_eq o) (l ∷ filter (λ (m : Landed). is_eq (row_major m.0 c)) all) (filter (λ (m : Landed). is_eq (row_major m.0 c)) all))))
    cases Equal e ih = ap (λ (d : Coordinate). Some (tell d)) (row_major_exact l.0 c e)
    cases Less e ih = ih
    cases Greater e ih = ih

by_themselves : (tell : List Row → Cell) (gs : List Aggregate) (rows : List Row) → tell rows ≡ aggregates_of gs rows → option_map (λ (some : List Row). tell rows) (unless_empty rows) ≡ option_map (aggregates_of gs) (unless_empty rows)
by_themselves tell gs [] e = refl
by_themselves tell gs (row ∷ rows) e = ap (λ (z : Cell). Some z) e

abbrev gathered_of : List Attribute → List Aggregate → List Landed → List Row
gathered_of attributes gs all = map (λ (l : Landed). placed l.0 (by_names attributes gs (landed_at all l.0))) all

same_gathered : (source attributes : List Attribute) (gs : List Aggregate) (all : List Landed) (new : List Row) → IsTrue (list_all (λ a. is_kind_of source a.kind (named gs a.name)) attributes)
    → AreRowsOfSets (ordered attributes gs) (landed_sets all) new → new ≡ in_order (gathered_of attributes gs all)
same_gathered source attributes gs all new named_all told =
    same_rows new (in_order (gathered_of attributes gs all)) told.rising (IsRising-in_order (gathered_of attributes gs all))
    (λ c. told.each c
    ∙ sym (by_themselves (by_names attributes gs) (ordered attributes gs) (landed_at all c) (cell_named source attributes gs (landed_at all c) named_all))
    ∙ sym (told_at (λ d. by_names attributes gs (landed_at all d)) all c)
    ∙ sym (cell_at-in_order (gathered_of attributes gs all) c))

-- ---- the set of a coordinate

cells_there : (P : Row → Type 0) (bounds : Bounds) (all : List Landed) (c : Coordinate) → AllByRecursion (λ l. IsTrue (is_inside bounds l.0) × P l.1) all → AllByRecursion (λ row. IsTrue (is_inside bounds c) × P row) (landed_at all c)
cells_there P bounds [] c h = tt
cells_there P bounds (l ∷ all) c h = cases (row_major l.0 c) refl (cells_there P bounds all c h.1)
  where
    cases : (o : Ordering) → row_major l.0 c ≡ o → AllByRecursion (λ row. IsTrue (is_inside bounds c) × P row) (landed_at all c)
        → AllByRecursion (λ row. IsTrue (is_inside bounds c) × P row) (map (λ (m : Landed). m.1) (cond (is_eq o) (l ∷ filter (λ (m : Landed). is_eq (row_major m.0 c)) all) (filter (λ (m : Landed). is_eq (row_major m.0 c)) all)))
    cases Equal e ih = ((subst (λ (d : Coordinate). IsTrue (is_inside bounds d)) (row_major_exact l.0 c e) h.0.0, h.0.1), ih)
    cases Less e ih = ih
    cases Greater e ih = ih

set_fits : (source : List Attribute) (target : Schema) (c : Coordinate) (some : List Row) → AllByRecursion (λ row. IsTrue (is_inside (bounds_of target.dimensions) c) × IsCellOf source row.cell) some → IsSetFor source target c (unless_empty some)
set_fits source target c [] h = tt
set_fits source target c (row ∷ some) h = (h.0.0, (h.0.1, seconds some h.1))
  where
    seconds : (rows : List Row) → AllByRecursion (λ row. IsTrue (is_inside (bounds_of target.dimensions) c) × IsCellOf source row.cell) rows → AllByRecursion (λ row. IsCellOf source row.cell) rows
    seconds [] k = tt
    seconds (r ∷ rows) k = (k.0.1, seconds rows k.1)

landed_fit : (source target : Schema) (rows : List Row) (all : List Landed) → AreRowsOf source rows → landed (map (origin_of source) target.dimensions) (bounds_of target.dimensions) false rows [] ≡ Ok all
    → (c : Coordinate) → IsSetFor source.attributes target c (landed_sets all c)
landed_fit source target rows all are e c =
    set_fits source.attributes target c (landed_at all c)
    (cells_there (λ row. IsCellOf source.attributes row.cell) (bounds_of target.dimensions) all c
    (all_landed (map (origin_of source) target.dimensions) (bounds_of target.dimensions) false (λ row. IsCellOf source.attributes row.cell) rows [] all are.kinds e))

-- ---- the rows

abbrev made_of : Schema → Schema → List Aggregate → List Row → Result (List Row) Broken
made_of source target gs rows = gathered_rows (map (origin_of source) target.dimensions) (bounds_of target.dimensions) target.attributes gs rows

abbrev pub AreLanded : Schema → Schema → List Aggregate → List Row → Result Groups Broken → Type 0
AreLanded source target gs rows made = AreGroupsLanded (ordered target.attributes gs) (map (origin_of source) target.dimensions) (bounds_of target.dimensions) rows made

module _ (source target : Schema) (gs : List Aggregate) (rows : List Row) (groups : Groups) (told : List Row) (are : AreRowsOf source rows) (valid : IsValid target) (typed : Gathers source target gs)
    (land : AreLanded source target gs rows (Ok groups)) (tell : AllZip IsRowOf groups.groups told) where
  sets : AreRowsOfSets (ordered target.attributes gs) (landed_sets land.0) told
  sets = told_rows (ordered target.attributes gs) source.attributes target (landed_sets land.0) groups.groups told tell land.2 (ordered_typed source.attributes target.attributes gs typed.typed) (landed_fit source target rows land.0 are land.1)

  pub gathered_values : Ok told ≡ made_of source target gs rows
  gathered_values =
      ap (λ (z : List Row). Ok z) (same_gathered source.attributes target.attributes gs land.0 told typed.named_all sets)
      ∙ ap (if_whole (λ all. in_order (gathered_of target.attributes gs all))) (sym land.1)

  pub gathered_are : cells_in groups.groups < 9223372036854775808 → AreRowsOf target told
  gathered_are few =
      rows_of_target (ordered target.attributes gs) source.attributes target (landed_sets land.0) groups.groups told valid land.2 sets (ordered_typed source.attributes target.attributes gs typed.typed) (landed_fit source target rows land.0 are land.1)
      (ordered_kinds source.attributes target.attributes gs typed.named_all) few

pub gathered_breaks : (source target : Schema) (gs : List Aggregate) (rows : List Row) (broken : Broken) → AreLanded source target gs rows (Err broken) → Err broken ≡ made_of source target gs rows
gathered_breaks source target gs rows broken land = ap (if_whole (λ all. in_order (gathered_of target.attributes gs all))) (sym land)

pub land_of : (source target : Schema) (gs named_by asked : List Aggregate) (rows : List Row) (found : Result (Result Groups Broken) Memory) → asked ≡ named_by → named_by ≡ ordered target.attributes gs
    → IfOk found (AreGroupsLanded asked (map (origin_of source) target.dimensions) (bounds_of target.dimensions) rows) → IfOk found (λ some. AreLanded source target gs rows some)
land_of source target gs named_by asked rows found same by are =
    subst (λ (those : List Aggregate). IfOk found (AreGroupsLanded those (map (origin_of source) target.dimensions) (bounds_of target.dimensions) rows)) (same ∙ by) are

few_in : (rows : List Row) (groups : Groups) → cells_in groups.groups ≤ length rows → length rows < 2 ^ 63 → cells_in groups.groups < 9223372036854775808
few_in rows groups fewer few = omega (arith, fewer, few)

-- what is told of the groups that were found
module _ (source target : Schema) (gs : List Aggregate) (rows : List Row) (are : AreRowsOf source rows) (valid : IsValid target) (typed : Gathers source target gs) where
  pub told_values : (found : Result (Result Groups Broken) Memory) (made : Result (Result (List Row) Broken) Memory) → IfOk found (λ some. AreLanded source target gs rows some) → IfOk made (AreRowsTold found)
      → IfOk made (λ some. some ≡ made_of source target gs rows)
  told_values found (Err memory) land tell = tt
  told_values (Ok (Ok groups)) (Ok (Ok told)) land tell = gathered_values source target gs rows groups told are valid typed land tell
  told_values (Ok (Err broken)) (Ok (Err other)) land tell = gathered_breaks source target gs rows other (subst (λ (b : Broken). AreLanded source target gs rows (Err b)) tell land)
  told_values (Ok (Ok groups)) (Ok (Err other)) land tell = absurd tell
  told_values (Ok (Err broken)) (Ok (Ok told)) land tell = absurd tell
  told_values (Err memory) (Ok some) land tell = absurd tell

  pub told_are : (found : Result (Result Groups Broken) Memory) (made : Result (Result (List Row) Broken) Memory) → IfOk found (λ some. AreLanded source target gs rows some)
      → IfOk found (λ some. IfOk some (λ groups. cells_in groups.groups ≤ length rows)) → length rows < 2 ^ 63 → IfOk made (AreRowsTold found) → IfOk made (λ some. IfOk some (AreRowsOf target))
  told_are found (Err memory) land cells few tell = tt
  told_are (Ok (Ok groups)) (Ok (Ok told)) land cells few tell = gathered_are source target gs rows groups told are valid typed land tell (few_in rows groups cells few)
  told_are (Ok (Err broken)) (Ok (Err other)) land cells few tell = tt
  told_are (Ok (Ok groups)) (Ok (Err other)) land cells few tell = tt
  told_are (Ok (Err broken)) (Ok (Ok told)) land cells few tell = absurd tell
  told_are (Err memory) (Ok some) land cells few tell = absurd tell

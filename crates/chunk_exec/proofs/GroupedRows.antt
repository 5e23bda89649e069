-- Groups, blocks and windows of an array's rows are rows of their schemas.
use Rattle.std.proofs.Common.{◌≡◌, ℕ, ◌<◌, ℤ, Bool, cond, IsTrue, List, [], ◌∷◌, map, length, Result, Ok, Err, refl, ap, subst, arith}
use Rattle.std.proofs.lemmas.List.{length-map}
use Rattle.std.specs.List.{AllByRecursion}
use Rattle.std.specs.Ordering.{is_eq}
use Rattle.std.specs.Prelude.{IfOk}
use Rattle.std.specs.declared.cmp.Ordering.{Ordering}
use Rattle.std.specs.declared.cmp.Ordering.TheVariants.{Less, Equal, Greater}
use Rattle.cell_values.specs.declared.datum.Broken.{Broken}
use Rattle.cell_values.specs.declared.datum.Row.{Row}
use Rattle.cell_values.specs.declared.schema.Attribute.{Attribute}
use Rattle.cell_values.specs.declared.schema.Dimension.{Dimension}
use Rattle.cell_values.specs.declared.schema.Schema.{Schema}
use Rattle.cell_values.specs.Cells.{is_of_kind, IsCellOf}
use Rattle.cell_values.specs.Schemas.{IsValid}
use Rattle.array_geom.proofs.TestLaws.{and_parts}
use Rattle.array_rows.specs.Arrays.{AreRowsOf}
use Rattle.array_rows.specs.Boxes.{by_pairs, is_inside, bounds_of}
use Rattle.array_rows.specs.Rows.{Coordinate, row_major, placed, put_by, put_row, in_order}
use Rattle.array_rows.proofs.RowsLemmas.{same_coordinate}
use Rattle.array_rows.proofs.RowSets.{IsRising-in_order}
use Rattle.array_parts.proofs.PartLemmas.{all_kept}
use Rattle.logical_plan.specs.declared.parts.Aggregate.{Aggregate}
use Rattle.logical_plan.specs.declared.parts.Reach.{Reach}
use Rattle.logical_plan.specs.BoxOps.{numbers_at}
use Rattle.logical_plan.specs.Faults.{if_whole}
use Rattle.logical_plan.specs.Groups.{aggregate_of, aggregates_of, cells_of, block, group_at, grouped, aggregate_rows, regrid_rows, window_rows}
use Rattle.logical_plan.specs.PlanSchema.{aggregate_kind, aggregate_attributes, aggregate_schema, regrid_schema, window_schema}
use Rattle.logical_plan.specs.Typing.{is_aggregate_of, are_aggregates_of, are_below, kinds_of}
use Rattle.group_rows.specs.Sets.{unless_empty, sets_by}
use Rattle.group_rows.specs.Inner.Keys.{block_at}
use Rattle.group_rows.specs.Inner.Merging.{IsSetFor}
use Rattle.group_rows.proofs.KindLaws.{aggregate_has_kind, kinds_for}
use Rattle.exec_group.proofs.BlockLaws.{regrid_fits}
use Rattle.group_rows.proofs.InsideLaws.{kinds_told, aggregate_fits}
use Rattle.window_overlap.proofs.ArraysWindowLaws.{windows_are_rows}
use Rattle.window_overlap.proofs.ChunksWindowLaws.{part_no_longer}
use Rattle.chunk_exec.specs.Counts.{CanCount}

-- ---- the cell of a group

all_cells : (attributes : List Attribute) (rows : List Row) → AllByRecursion (λ row. IsCellOf attributes row.cell) rows → AllByRecursion (IsCellOf attributes) (cells_of rows)
all_cells attributes [] h = tt
all_cells attributes (row ∷ rows) h = (h.0, all_cells attributes rows h.1)

each_kind : (attributes : List Attribute) (gs : List Aggregate) (rows : List Row) → IsTrue (are_aggregates_of attributes gs) → AllByRecursion (λ row. IsCellOf attributes row.cell) rows → length rows < 9223372036854775808
    → AllByRecursion (λ g. IsTrue (is_of_kind (aggregate_kind attributes g) (aggregate_of g (cells_of rows)))) gs
each_kind attributes [] rows t k few = tt
each_kind attributes (g ∷ gs) rows t k few =
    let typed = and_parts (is_aggregate_of attributes g) (are_aggregates_of attributes gs) t in
    let same = length-map rows (λ (row : Row). row.cell) in
    (aggregate_has_kind attributes g (cells_of rows) typed.0 (all_cells attributes rows k) (omega (arith, same, few)), each_kind attributes gs rows typed.1 k few)

-- the aggregates of rows have the kinds that their attributes have
pub told_kinds : (attributes targets : List Attribute) (gs : List Aggregate) (some : List Row) → kinds_of targets ≡ map (aggregate_kind attributes) gs → IsTrue (are_aggregates_of attributes gs)
    → AllByRecursion (λ row. IsCellOf attributes row.cell) some → length some < 9223372036854775808 → IsCellOf targets (aggregates_of gs some)
told_kinds attributes targets gs some kinds typed cells few = kinds_for attributes (λ g. aggregate_of g (cells_of some)) targets gs kinds (each_kind attributes gs some typed cells few)

-- ---- rows in order

pub all_put : (P : Row → Type 0) (new : Row) (rows : List Row) → P new → AllByRecursion P rows → AllByRecursion P (put_row new rows)
all_put P new [] p ps = (p, tt)
all_put P new (row ∷ rows) p ps = cases (row_major new.at.items row.at.items) (all_put P new rows p ps.1)
  where
    cases : (o : Ordering) → AllByRecursion P (put_row new rows) → AllByRecursion P (put_by o new row rows (put_row new rows))
    cases Less more = (p, ps)
    cases Equal more = (p, ps.1)
    cases Greater more = (ps.0, more)

pub all_in_order : (P : Row → Type 0) (rows : List Row) → AllByRecursion P rows → AllByRecursion P (in_order rows)
all_in_order P [] ps = tt
all_in_order P (row ∷ rows) ps = all_put P row (in_order rows) ps.0 (all_in_order P rows ps.1)

pub all_mapped : {A : Type 0} (Q : A → Type 0) (P : Row → Type 0) (f : A → Row) → ((x : A) → Q x → P (f x)) → (xs : List A) → AllByRecursion Q xs → AllByRecursion P (map f xs)
all_mapped Q P f h [] qs = tt
all_mapped Q P f h (x ∷ xs) qs = (h x qs.0, all_mapped Q P f h xs qs.1)

-- ---- groups

-- the row of the group of a row
abbrev group_row : (Coordinate → Coordinate) → List Aggregate → List Row → Row → Row
group_row group gs rows row = placed (group row.at.items) (aggregates_of gs (group_at group (group row.at.items) rows))

-- groups of which each coordinate lies within the target
grouped_array : (source target : Schema) (group : Coordinate → Coordinate) (gs : List Aggregate) → IsValid target → kinds_of target.attributes ≡ map (aggregate_kind source.attributes) gs → IsTrue (are_aggregates_of source.attributes gs)
    → ((some : List Row) → AreRowsOf source some → (c : Coordinate) → IsSetFor source.attributes target c (sets_by group some c)) → (rows : List Row) → AreRowsOf source rows → length rows < 9223372036854775808 → AreRowsOf target (grouped group gs rows)
grouped_array source target group gs valid kinds typed fits rows are few = record {
  valid = valid;
  are_rows = record {
    rising = IsRising-in_order (map (group_row group gs rows) rows);
    in_bounds = all_in_order (λ row. IsTrue (is_inside (bounds_of target.dimensions) row.at.items)) (map (group_row group gs rows) rows)
        (all_mapped (λ row. IsTrue (is_inside (bounds_of source.dimensions) row.at.items) × IsCellOf source.attributes row.cell) (λ row. IsTrue (is_inside (bounds_of target.dimensions) row.at.items)) (group_row group gs rows) inside rows
        (both_hold rows are.are_rows.in_bounds are.kinds));
  };
  kinds = all_in_order (λ row. IsCellOf target.attributes row.cell) (map (group_row group gs rows) rows)
      (all_mapped (λ row. IsCellOf source.attributes row.cell) (λ row. IsCellOf target.attributes row.cell) (group_row group gs rows) (λ row k. cell_of row) rows are.kinds);
}
  where
    both_hold : (some : List Row) → AllByRecursion (λ row. IsTrue (is_inside (bounds_of source.dimensions) row.at.items)) some → AllByRecursion (λ row. IsCellOf source.attributes row.cell) some
        → AllByRecursion (λ row. IsTrue (is_inside (bounds_of source.dimensions) row.at.items) × IsCellOf source.attributes row.cell) some
    both_hold [] i k = tt
    both_hold (row ∷ some) i k = ((i.0, k.0), both_hold some i.1 k.1)

    -- a row by itself is an array, and its group lies within the target
    inside : (row : Row) → IsTrue (is_inside (bounds_of source.dimensions) row.at.items) × IsCellOf source.attributes row.cell → IsTrue (is_inside (bounds_of target.dimensions) (group row.at.items))
    inside row h =
        let alone : AreRowsOf source (row ∷ []) = record { valid = are.valid; are_rows = record { rising = (tt, tt); in_bounds = (h.0, tt) }; kinds = (h.1, tt) } in
        (subst (λ (o : Ordering). IsSetFor source.attributes target (group row.at.items) (unless_empty (cond (is_eq o) (row ∷ []) []))) (same_coordinate (group row.at.items)) (fits (row ∷ []) alone (group row.at.items))).0

    cell_of : (row : Row) → IsCellOf target.attributes (aggregates_of gs (group_at group (group row.at.items) rows))
    cell_of row =
        let test : Row → Bool = λ other. is_eq (row_major (group other.at.items) (group row.at.items)) in
        let fewer = part_no_longer test rows in
        told_kinds source.attributes target.attributes gs (group_at group (group row.at.items) rows) kinds typed (all_kept (λ other. IsCellOf source.attributes other.cell) test rows are.kinds) (omega (arith, fewer, few))

pub aggregated_array : (source : Schema) (gs : List Aggregate) (places : List ℕ) → IsValid (aggregate_schema gs places source) → IsTrue (are_below (length source.dimensions) places) → IsTrue (are_aggregates_of source.attributes gs)
    → (rows : List Row) → AreRowsOf source rows → length rows < 9223372036854775808 → AreRowsOf (aggregate_schema gs places source) (aggregate_rows places gs rows)
aggregated_array source gs [] valid below typed rows are few = record {
  valid = valid;
  are_rows = record { rising = (tt, tt); in_bounds = (refl, tt) };
  kinds = (told_kinds source.attributes (aggregate_schema gs [] source).attributes gs rows (kinds_told source.attributes gs) typed are.kinds few, tt);
}
aggregated_array source gs (d ∷ places) valid below typed rows are few =
    grouped_array source (aggregate_schema gs (d ∷ places) source) (numbers_at (d ∷ places)) gs valid (kinds_told source.attributes gs) typed
    (λ some is c. aggregate_fits source (aggregate_schema gs (d ∷ places) source) gs (d ∷ places) some is refl below c) rows are few

-- ---- blocks

same_blocks : (dims : List Dimension) (sizes : List ℕ) → by_pairs (λ d size. block d.lo size) dims sizes ≡ by_pairs block (map (λ d. d.lo) dims) sizes
same_blocks [] sizes = refl
same_blocks (d ∷ dims) [] = refl
same_blocks (d ∷ dims) (size ∷ sizes) = ap (λ (blocks : List (ℤ → ℤ)). block d.lo size ∷ blocks) (same_blocks dims sizes)

pub regridded_array : (source : Schema) (sizes : List ℕ) (gs : List Aggregate) → IsValid (regrid_schema sizes gs source) → IsTrue (are_aggregates_of source.attributes gs)
    → (rows : List Row) → AreRowsOf source rows → length rows < 9223372036854775808 → AreRowsOf (regrid_schema sizes gs source) (regrid_rows (bounds_of source.dimensions).lo.items sizes gs rows)
regridded_array source sizes gs valid typed rows are few =
    subst (λ (blocks : List (ℤ → ℤ)). AreRowsOf (regrid_schema sizes gs source) (grouped (λ c. by_pairs (λ b x. b x) blocks c) gs rows)) (same_blocks source.dimensions sizes)
    (grouped_array source (regrid_schema sizes gs source) (block_at source.dimensions sizes) gs valid (kinds_told source.attributes gs) typed
    (λ some is c. regrid_fits source (regrid_schema sizes gs source) gs sizes some is refl c) rows are few)

-- ---- windows

pub windowed_array : (source : Schema) (reach : List Reach) (gs : List Aggregate) → IsValid (window_schema gs source) → IsTrue (are_aggregates_of source.attributes gs)
    → (rows : List Row) → AreRowsOf source rows → length rows < 9223372036854775808 → AreRowsOf (window_schema gs source) (window_rows reach gs rows)
windowed_array source reach gs valid typed rows are few = windows_are_rows source (window_schema gs source) reach gs rows (window_rows reach gs rows) are refl valid typed few refl

-- ---- arrays that may be broken

-- a schema has attributes
no_attributes : (dims : List Dimension) → IsValid (record { attributes = []; dimensions = dims }) → ⊥
no_attributes dims valid = cc

-- what holds where numbers of cells fit
pub counted : (source : Schema) (gs : List Aggregate) (dims : List Dimension) (f : List Row → List Row) → IsValid (record { attributes = aggregate_attributes source.attributes gs; dimensions = dims })
    → ((rows : List Row) → AreRowsOf source rows → length rows < 9223372036854775808 → AreRowsOf (record { attributes = aggregate_attributes source.attributes gs; dimensions = dims }) (f rows))
    → (r : Result (List Row) Broken) → IfOk r (AreRowsOf source) → CanCount gs r → IfOk (if_whole f r) (AreRowsOf (record { attributes = aggregate_attributes source.attributes gs; dimensions = dims }))
counted source [] dims f valid h r is few = absurd (no_attributes dims valid)
counted source (g ∷ gs) dims f valid h (Ok rows) is few = h rows is few
counted source (g ∷ gs) dims f valid h (Err broken) is few = is

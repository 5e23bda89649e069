-- The rows of groups, by the sets of their cells.
use Rattle.std.proofs.Common.{◌≡◌, ℕ, ℤ, pos, Bool, true, false, cond, List, [], ◌∷◌, map, Some, None, refl, sym, ap, ◌∙◌}
use Rattle.std.specs.Option.{option_map}
use Rattle.std.specs.Ordering.{is_eq}
use Rattle.std.specs.declared.cmp.Ordering.{Ordering}
use Rattle.std.specs.declared.cmp.Ordering.TheVariants.{Less, Equal, Greater}
use Rattle.cell_values.specs.declared.datum.Cell.{Cell}
use Rattle.cell_values.specs.declared.datum.Row.{Row}
use Rattle.cell_values.specs.declared.schema.Dimension.{Dimension}
use Rattle.array_rows.specs.Boxes.{by_pairs}
use Rattle.array_rows.specs.Rows.{Coordinate, row_major, placed, cell_at}
use Rattle.array_rows.proofs.RowsLemmas.{row_major_exact, same_rows}
use Rattle.array_rows.proofs.RowSets.{IsRising-in_order, cell_at-in_order}
use Rattle.logical_plan.specs.declared.parts.Aggregate.{Aggregate}
use Rattle.logical_plan.specs.BoxOps.{numbers_at}
use Rattle.logical_plan.specs.Groups.{aggregates_of, block, group_at, grouped, aggregate_all, aggregate_rows, regrid_rows}
use Rattle.group_rows.specs.Sets.{unless_empty, sets_by, one_set}
use Rattle.group_rows.specs.Inner.Keys.{aggregate_sets, block_at, regrid_sets}
use Rattle.group_rows.specs.Told.{AreRowsOfSets}

-- what is told of each row's group, at a coordinate
told_at : (group : Coordinate → Coordinate) (tell : Coordinate → Cell) (rows : List Row) (c : Coordinate)
    → cell_at (map (λ row. placed (group row.at.items) (tell (group row.at.items))) rows) c ≡ option_map (λ some. tell c) (unless_empty (group_at group c rows))
told_at group tell [] c = refl
told_at group tell (row ∷ rows) c = cases (row_major (group row.at.items) c) refl (told_at group tell rows c)
  where
    cases : (o : Ordering) → row_major (group row.at.items) c ≡ o
        → cell_at (map (λ row. placed (group row.at.items) (tell (group row.at.items))) rows) c ≡ option_map (λ some. tell c) (unless_empty (group_at group c rows))
        → cond (is_eq o) (Some (tell (group row.at.items))) (cell_at (map (λ row. placed (group row.at.items) (tell (group row.at.items))) rows) c)
        ≡ option_map (λ some. tell c) (unless_empty (cond (is_eq o) (row ∷ group_at group c rows) (group_at group c rows)))
    cases Equal e ih = ap (λ (d : Coordinate). Some (tell d)) (row_major_exact (group row.at.items) c e)
    cases Less e ih = ih
    cases Greater e ih = ih

of_itself : (gs : List Aggregate) (rows : List Row) → option_map (λ some. aggregates_of gs rows) (unless_empty rows) ≡ option_map (aggregates_of gs) (unless_empty rows)
of_itself gs [] = refl
of_itself gs (row ∷ rows) = refl

grouped_at : (group : Coordinate → Coordinate) (gs : List Aggregate) (rows : List Row) (c : Coordinate) → cell_at (grouped group gs rows) c ≡ option_map (aggregates_of gs) (sets_by group rows c)
grouped_at group gs rows c =
    cell_at-in_order (map (λ row. placed (group row.at.items) (aggregates_of gs (group_at group (group row.at.items) rows))) rows) c
    ∙ told_at group (λ d. aggregates_of gs (group_at group d rows)) rows c
    ∙ of_itself gs (group_at group c rows)

same_groups : (group : Coordinate → Coordinate) (gs : List Aggregate) (rows new : List Row) → AreRowsOfSets gs (sets_by group rows) new → new ≡ grouped group gs rows
same_groups group gs rows new told =
    same_rows new (grouped group gs rows) told.rising (IsRising-in_order (map (λ row. placed (group row.at.items) (aggregates_of gs (group_at group (group row.at.items) rows))) rows))
    (λ c. told.each c ∙ sym (grouped_at group gs rows c))

same_cell : (gs : List Aggregate) (rows new : List Row) → AreRowsOfSets gs (one_set (pos 0 ∷ []) rows) new → new ≡ aggregate_all gs rows
same_cell gs rows new told = same_rows new (aggregate_all gs rows) told.rising (tt, tt) (λ c. told.each c ∙ cases (is_eq (row_major (pos 0 ∷ []) c)))
  where
    cases : (b : Bool) → option_map (aggregates_of gs) (cond b (Some rows) None) ≡ cond b (Some (aggregates_of gs rows)) None
    cases true = refl
    cases false = refl

pub aggregate_told : (places : List ℕ) (gs : List Aggregate) (rows new : List Row) → AreRowsOfSets gs (aggregate_sets places rows) new → new ≡ aggregate_rows places gs rows
aggregate_told [] gs rows new told = same_cell gs rows new told
aggregate_told (d ∷ places) gs rows new told = same_groups (numbers_at (d ∷ places)) gs rows new told

-- blocks by the low bounds
same_blocks : (dims : List Dimension) (sizes : List ℕ) → by_pairs (λ d size. block d.lo size) dims sizes ≡ by_pairs block (map (λ d. d.lo) dims) sizes
same_blocks [] sizes = refl
same_blocks (d ∷ dims) [] = refl
same_blocks (d ∷ dims) (size ∷ sizes) = ap (λ (blocks : List (ℤ → ℤ)). block d.lo size ∷ blocks) (same_blocks dims sizes)

pub regrid_told : (dims : List Dimension) (sizes : List ℕ) (gs : List Aggregate) (rows new : List Row) → AreRowsOfSets gs (regrid_sets dims sizes rows) new → new ≡ regrid_rows (map (λ d. d.lo) dims) sizes gs rows
regrid_told dims sizes gs rows new told =
    same_groups (block_at dims sizes) gs rows new told
    ∙ ap (λ (blocks : List (ℤ → ℤ)). grouped (λ c. by_pairs (λ b x. b x) blocks c) gs rows) (same_blocks dims sizes)

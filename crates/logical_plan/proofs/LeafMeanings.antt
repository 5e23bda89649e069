-- One induction over plans.
use Rattle.std.proofs.Common.{◌≡◌, List, [], ◌∷◌, ◌++◌, refl, ap, ◌∙◌}
use Rattle.std.specs.List.{AllByRecursion}
use Rattle.array_rows.specs.Boxes.{within, meet, bounds_of}
use Rattle.logical_plan.specs.declared.parts.Leaf.{Leaf}
use Rattle.logical_plan.specs.BoxOps.{subarray_rows, slice_rows}
use Rattle.logical_plan.specs.CellOps.{filter_rows, apply_rows, project_rows}
use Rattle.logical_plan.specs.Groups.{regrid_rows, window_rows, aggregate_rows}
use Rattle.logical_plan.specs.Joins.{join_rows, cross_rows}
use Rattle.logical_plan.specs.Leaves.{leaves}
use Rattle.logical_plan.specs.Meaning.{Meant, Database, meaning, version_rows, whole, made, made_of_two, redimensioned_from, sorted_from}
use Rattle.logical_plan.specs.PlanSchema.{apply_schema, project_schema, subarray_schema, slice_schema, regrid_schema, window_schema, aggregate_schema, rank_schema, cumulate_schema}
use Rattle.logical_plan.specs.Query.{built, listed, scanned, filtered, applied, projected, between, subarray, sliced, joined, crossed, redimensioned, regridded, windowed, aggregated, sorted, ranked, cumulated, transposed, reversed, unpacked, xgridded, merged, concatenated}
use Rattle.logical_plan.specs.Ordered.{rank_rows, cumulate_rows}
use Rattle.logical_plan.specs.Reads.{MeaningReadsLeaves}
use Rattle.logical_plan.specs.ShapeMeant.{transpose_meant, reverse_meant, unpack_meant, xgrid_meant, merge_meant, concat_meant}

-- what holds of all of two lists holds of each of them
abbrev SameRows : Database → Database → Leaf → Type 0
SameRows a b leaf = version_rows a leaf.name leaf.version ≡ version_rows b leaf.name leaf.version

of_first : {A : Type 0} (P : A → Type 0) (xs ys : List A) → AllByRecursion P (xs ++ ys) → AllByRecursion P xs
of_first P [] ys all = tt
of_first P (x ∷ xs) ys all = (all.0, of_first P xs ys all.1)

of_second : {A : Type 0} (P : A → Type 0) (xs ys : List A) → AllByRecursion P (xs ++ ys) → AllByRecursion P ys
of_second P [] ys all = all
of_second P (x ∷ xs) ys all = of_second P xs ys all.1

of_two : (make : Meant → Meant → Meant) (l l' r r' : Meant) → l ≡ l' → r ≡ r' → make l r ≡ make l' r'
of_two make l l' r r' p q = ap (λ m. make m r) p ∙ ap (make l') q

pub same_meaning : MeaningReadsLeaves
same_meaning a b (built schema e) same = refl
same_meaning a b (listed schema rows) same = refl
same_meaning a b (scanned leaf) same = ap (whole leaf.schema) same.0
same_meaning a b (filtered source test) same = ap (made (λ s. s) (λ s. filter_rows test)) (same_meaning a b source same)
same_meaning a b (applied source values) same = ap (made (apply_schema values) (λ s. apply_rows values)) (same_meaning a b source same)
same_meaning a b (projected source places) same = ap (made (project_schema places) (λ s. project_rows places)) (same_meaning a b source same)
same_meaning a b (between source area) same = ap (made (λ s. s) (λ s. within area)) (same_meaning a b source same)
same_meaning a b (subarray source area) same = ap (made (subarray_schema area) (λ s. subarray_rows (meet (bounds_of s.dimensions) area))) (same_meaning a b source same)
same_meaning a b (sliced source fixed) same = ap (made (slice_schema fixed) (λ s. slice_rows fixed)) (same_meaning a b source same)
same_meaning a b (joined left right schema) same =
    of_two (made_of_two schema join_rows) (meaning a left) (meaning b left) (meaning a right) (meaning b right)
    (same_meaning a b left (of_first (SameRows a b) (leaves left) (leaves right) same)) (same_meaning a b right (of_second (SameRows a b) (leaves left) (leaves right) same))
same_meaning a b (crossed left right pairs schema) same =
    of_two (made_of_two schema (cross_rows pairs)) (meaning a left) (meaning b left) (meaning a right) (meaning b right)
    (same_meaning a b left (of_first (SameRows a b) (leaves left) (leaves right) same)) (same_meaning a b right (of_second (SameRows a b) (leaves left) (leaves right) same))
same_meaning a b (redimensioned source schema gs) same = ap (redimensioned_from schema gs) (same_meaning a b source same)
same_meaning a b (regridded source sizes gs) same = ap (made (regrid_schema sizes gs) (λ s. regrid_rows (bounds_of s.dimensions).lo.items sizes gs)) (same_meaning a b source same)
same_meaning a b (windowed source reach gs) same = ap (made (window_schema gs) (λ s. window_rows reach gs)) (same_meaning a b source same)
same_meaning a b (aggregated source gs places) same = ap (made (aggregate_schema gs places) (λ s. aggregate_rows places gs)) (same_meaning a b source same)
same_meaning a b (sorted source keys schema) same = ap (sorted_from keys schema) (same_meaning a b source same)
same_meaning a b (ranked source x dims) same = ap (made (rank_schema x) (λ s. rank_rows x dims)) (same_meaning a b source same)
same_meaning a b (cumulated source gs n) same = ap (made (cumulate_schema gs) (λ s. cumulate_rows n gs)) (same_meaning a b source same)
same_meaning a b (transposed source) same = ap transpose_meant (same_meaning a b source same)
same_meaning a b (reversed source) same = ap reverse_meant (same_meaning a b source same)
same_meaning a b (unpacked source schema) same = ap (unpack_meant schema) (same_meaning a b source same)
same_meaning a b (xgridded source sizes) same = ap (xgrid_meant sizes) (same_meaning a b source same)
same_meaning a b (merged left right) same =
    of_two merge_meant (meaning a left) (meaning b left) (meaning a right) (meaning b right)
    (same_meaning a b left (of_first (SameRows a b) (leaves left) (leaves right) same)) (same_meaning a b right (of_second (SameRows a b) (leaves left) (leaves right) same))
same_meaning a b (concatenated left right) same =
    of_two concat_meant (meaning a left) (meaning b left) (meaning a right) (meaning b right)
    (same_meaning a b left (of_first (SameRows a b) (leaves left) (leaves right) same)) (same_meaning a b right (of_second (SameRows a b) (leaves left) (leaves right) same))

-- Cells at other coordinates, and cells of two arrays in one, are rows of their schemas.
use Rattle.std.proofs.Common.{◌≡◌, ℕ, IsTrue, List, Result, Ok, Err, refl, sym, subst}
use Rattle.std.specs.Prelude.{nat_le, IfOk}
use Rattle.cell_values.specs.declared.datum.Broken.{Broken}
use Rattle.cell_values.specs.declared.datum.Row.{Row}
use Rattle.cell_values.specs.declared.schema.Schema.{Schema}
use Rattle.cell_values.specs.Schemas.{IsValid}
use Rattle.array_geom.proofs.NearLemmas.{valid_placed}
use Rattle.array_geom.proofs.TestLaws.{and_parts}
use Rattle.array_rows.specs.Arrays.{AreRowsOf, Meant}
use Rattle.array_rows.specs.Boxes.{bounds_of, within}
use Rattle.logical_plan.specs.Faults.{and_then, if_whole}
use Rattle.logical_plan.specs.Shapes.{backwards, blocks_back, concat_rows, merge_rows, mirrored, reverse_rows, step_between, transpose_rows, unpack_rows, xgrid_rows}
use Rattle.logical_plan.specs.ShapeSchemas.{concat_schema, merge_schema, transpose_schema, unpack_schema, xgrid_schema}
use Rattle.logical_plan.specs.Typing.{can_enlarge, can_follow, concatenates, enlarges, first_name, merges, product_of, same_bounds, same_kinds}
use Rattle.shape_rows.proofs.BlockLaws.{xgrid_cells}
use Rattle.shape_rows.proofs.PairLaws.{concats_are_arrays, merges_are_arrays}
use Rattle.shape_rows.proofs.PullLaws.{pulled_arrays, reverse_cells, transpose_cells}
use Rattle.shape_rows.proofs.TypedLaws.{all_enlarge, bounds_are_same, follows, kinds_are_same}
use Rattle.shape_rows.proofs.UnpackLaws.{unpacked_parts_are_arrays}
use Rattle.chunk_exec.proofs.KeptPlaces.{both_follow, whole_follows}

-- ---- cells at other coordinates

pub transposed_array : (schema : Schema) → IsValid (transpose_schema schema) → (r : Result (List Row) Broken) → IfOk r (AreRowsOf schema) → IfOk (if_whole transpose_rows r) (AreRowsOf (transpose_schema schema))
transposed_array schema valid r is =
    whole_follows (AreRowsOf schema) (AreRowsOf (transpose_schema schema)) transpose_rows
    (λ rows are. pulled_arrays schema (transpose_schema schema) backwards rows (transpose_rows rows) valid refl are (transpose_cells schema.dimensions rows are.are_rows)) r is

pub reversed_array : (schema : Schema) (m : Meant) → m.schema ≡ schema → IfOk m.rows (AreRowsOf schema) → IfOk (if_whole (reverse_rows m.schema.dimensions) m.rows) (AreRowsOf schema)
reversed_array schema m same is =
    subst (λ (s : Schema). IfOk (if_whole (reverse_rows s.dimensions) m.rows) (AreRowsOf schema)) (sym same)
    (whole_follows (AreRowsOf schema) (AreRowsOf schema) (reverse_rows schema.dimensions)
    (λ rows are. pulled_arrays schema schema (mirrored schema.dimensions) rows (reverse_rows schema.dimensions rows) are.valid refl are (reverse_cells schema.dimensions rows are.are_rows)) m.rows is)

pub xgridded_array : (schema : Schema) (sizes : List ℕ) → IsTrue (enlarges schema sizes) → IsValid (xgrid_schema sizes schema) → (m : Meant) → m.schema ≡ schema → IfOk m.rows (AreRowsOf schema)
    → IfOk (if_whole (xgrid_rows m.schema.dimensions sizes) m.rows) (AreRowsOf (xgrid_schema sizes schema))
xgridded_array schema sizes typed valid m same is =
    let can = and_parts (can_enlarge schema.dimensions sizes) (nat_le (product_of sizes) 65536) typed in
    subst (λ (s : Schema). IfOk (if_whole (xgrid_rows s.dimensions sizes) m.rows) (AreRowsOf (xgrid_schema sizes schema))) (sym same)
    (whole_follows (AreRowsOf schema) (AreRowsOf (xgrid_schema sizes schema)) (xgrid_rows schema.dimensions sizes)
    (λ rows are. pulled_arrays schema (xgrid_schema sizes schema) (blocks_back schema.dimensions sizes) rows (xgrid_rows schema.dimensions sizes rows) valid refl are
    (xgrid_cells schema.dimensions sizes rows (all_enlarge schema.dimensions sizes (valid_placed schema are.valid).near can.0) are.are_rows)) m.rows is)

pub unpacked_array : (schema target : Schema) → target ≡ unpack_schema (first_name target.dimensions) schema → IsValid target → (r : Result (List Row) Broken) → IfOk r (AreRowsOf schema)
    → IfOk (if_whole (within (bounds_of target.dimensions)) (and_then unpack_rows r)) (AreRowsOf target)
unpacked_array schema target e valid (Err broken) is = is
unpacked_array schema target e valid (Ok rows) is =
    subst (λ (s : Schema). IfOk (if_whole (within (bounds_of s.dimensions)) (unpack_rows rows)) (AreRowsOf s)) (sym e)
    (unpacked_parts_are_arrays (first_name target.dimensions) schema rows (subst IsValid e valid) is)

-- ---- two arrays in one

pub merged_array : (left right : Schema) → IsTrue (merges left right) → IsValid (merge_schema left right) → (l r : Result (List Row) Broken) → IfOk l (AreRowsOf left) → IfOk r (AreRowsOf right)
    → IfOk (and_then (λ ls. if_whole (merge_rows ls) r) l) (AreRowsOf (merge_schema left right))
merged_array left right typed valid l r p q =
    let can = and_parts (same_bounds left.dimensions right.dimensions) (same_kinds left.attributes right.attributes) typed in
    both_follow (AreRowsOf left) (AreRowsOf right) (AreRowsOf (merge_schema left right)) merge_rows
    (λ ls rs a b. merges_are_arrays left right ls rs valid (kinds_are_same left.attributes right.attributes can.1) (bounds_are_same left.dimensions right.dimensions can.0) a b) l r p q

pub concatenated_array : (left right : Schema) → IsTrue (concatenates left right) → IsValid (concat_schema left right) → (m n : Meant) → m.schema ≡ left → n.schema ≡ right → IfOk m.rows (AreRowsOf left) → IfOk n.rows (AreRowsOf right)
    → IfOk (and_then (λ ls. if_whole (concat_rows (step_between m.schema.dimensions n.schema.dimensions) ls) n.rows) m.rows) (AreRowsOf (concat_schema left right))
concatenated_array left right typed valid m n e f p q =
    let can = and_parts (can_follow left.dimensions right.dimensions) (same_kinds left.attributes right.attributes) typed in
    subst (λ (s : Schema). IfOk (and_then (λ ls. if_whole (concat_rows (step_between s.dimensions n.schema.dimensions) ls) n.rows) m.rows) (AreRowsOf (concat_schema left right))) (sym e)
    (subst (λ (s : Schema). IfOk (and_then (λ ls. if_whole (concat_rows (step_between left.dimensions s.dimensions) ls) n.rows) m.rows) (AreRowsOf (concat_schema left right))) (sym f)
    (both_follow (AreRowsOf left) (AreRowsOf right) (AreRowsOf (concat_schema left right)) (concat_rows (step_between left.dimensions right.dimensions))
    (λ ls rs a b. concats_are_arrays left right ls rs valid (kinds_are_same left.attributes right.attributes can.1)
    (follows left.dimensions right.dimensions (valid_placed left a.valid).near (valid_placed right b.valid).near can.0) a b) m.rows n.rows p q))

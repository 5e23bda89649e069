-- A plan in place of a source of another plan.
use Rattle.std.proofs.Common.{◌≡◌, ℕ, Bool, List, ◌++◌, length, refl, sym, ap, ◌∙◌, subst}
use Rattle.std.specs.Prelude.{◌&&◌, IsTrue}
use Rattle.std.specs.List.{AllByRecursion}
use Rattle.cell_values.specs.declared.schema.Bounds.{Bounds}
use Rattle.cell_values.specs.declared.schema.Kind.TheVariants.{Bool as Truths}
use Rattle.cell_values.specs.declared.schema.Schema.{Schema}
use Rattle.cell_values.specs.Schemas.{IsValid}
use Rattle.array_rows.specs.Arrays.{AreRowsOf}
use Rattle.array_rows.specs.Boxes.{within, meet, bounds_of}
use Rattle.expr_nulls.specs.Expr.{Expr}
use Rattle.logical_plan.specs.declared.parts.Aggregate.{Aggregate}
use Rattle.logical_plan.specs.declared.parts.Applied.{Applied}
use Rattle.logical_plan.specs.declared.parts.Fixed.{Fixed}
use Rattle.logical_plan.specs.declared.parts.Leaf.{Leaf}
use Rattle.logical_plan.specs.declared.parts.Pair.{Pair}
use Rattle.logical_plan.specs.declared.parts.Reach.{Reach}
use Rattle.logical_plan.specs.BoxOps.{subarray_rows, slice_rows, fixed_places}
use Rattle.logical_plan.specs.CellOps.{filter_rows, apply_rows, project_rows}
use Rattle.logical_plan.specs.Groups.{regrid_rows, window_rows, aggregate_rows}
use Rattle.logical_plan.specs.Joins.{join_rows, cross_rows}
use Rattle.logical_plan.specs.Leaves.{leaves}
use Rattle.logical_plan.specs.Meaning.{Database, meaning, version_rows, made, made_of_two, redimensioned_from}
use Rattle.logical_plan.specs.PlanSchema.{schema_of, apply_schema, project_schema, subarray_schema, slice_schema, regrid_schema, window_schema, aggregate_schema, join_schema, cross_schema}
use Rattle.logical_plan.specs.Query.{Query, filtered, applied, projected, between, subarray, sliced, joined, crossed, redimensioned, regridded, windowed, aggregated}
use Rattle.logical_plan.specs.Typing.{is_over, fits_apply, are_below, are_apart, is_box_of, same_bounds, pairs_dimensions, redimensions, are_blocks_of, are_aggregates_of, are_windows_of}
use Rattle.plan_needs.specs.Needs.{is_scan, needs}
use Rattle.plan_needs.specs.Sufficient.{HasArrays}
use Rattle.plan_needs.proofs.LeafParts.{left_arrays, right_arrays}
use Rattle.plan_rewrite.specs.Same.{IsSame}
use Rattle.plan_needs.specs.Sides.{whole, of_between, of_subarray, of_slice, of_left, of_right, of_regrid, of_aggregate, of_window}

pub refl_same : (query : Query) → IsSame query query
refl_same query = record {
  keeps_type = λ t. t;
  same_schema = refl;
  same_leaves = refl;
  same_meaning = λ db h. refl;
  same_needs = λ sides. refl;
  same_scan = refl;
}

has_leaves : (db : Database) (a b : Query) → leaves b ≡ leaves a → HasArrays db a → HasArrays db b
has_leaves db a b same h = subst (λ (ls : List Leaf). AllByRecursion (λ leaf. AreRowsOf leaf.schema (version_rows db leaf.name leaf.version)) ls) (sym same) h

pub then_same : (a b c : Query) → IsSame a b → IsSame b c → IsSame a c
then_same a b c f g = record {
  keeps_type = λ t. g.keeps_type (f.keeps_type t);
  same_schema = g.same_schema ∙ f.same_schema;
  same_leaves = g.same_leaves ∙ f.same_leaves;
  same_meaning = λ db h. g.same_meaning db (has_leaves db a b f.same_leaves h) ∙ f.same_meaning db h;
  same_needs = λ sides. g.same_needs sides ∙ f.same_needs sides;
  same_scan = g.same_scan ∙ f.same_scan;
}

-- ---- one source

pub under_filter : (s r : Query) (test : Expr) → IsSame s r → IsSame (filtered s test) (filtered r test)
under_filter s r test h = record {
  keeps_type = λ t. (h.keeps_type t.0, subst (λ (x : Schema). IsTrue (is_over x Truths test)) (sym h.same_schema) t.1);
  same_schema = h.same_schema;
  same_leaves = h.same_leaves;
  same_meaning = λ db l. ap (made (λ x. x) (λ x. filter_rows test)) (h.same_meaning db l);
  same_needs = h.same_needs;
  same_scan = h.same_scan;
}

pub under_apply : (s r : Query) (values : List Applied) → IsSame s r → IsSame (applied s values) (applied r values)
under_apply s r values h = record {
  keeps_type = λ t. (h.keeps_type t.0, subst (λ (x : Schema). IsTrue (fits_apply x values)) (sym h.same_schema) t.1, subst (λ (x : Schema). IsValid (apply_schema values x)) (sym h.same_schema) t.2);
  same_schema = ap (apply_schema values) h.same_schema;
  same_leaves = h.same_leaves;
  same_meaning = λ db l. ap (made (apply_schema values) (λ x. apply_rows values)) (h.same_meaning db l);
  same_needs = h.same_needs;
  same_scan = h.same_scan;
}

pub under_project : (s r : Query) (places : List ℕ) → IsSame s r → IsSame (projected s places) (projected r places)
under_project s r places h = record {
  keeps_type = λ t. (h.keeps_type t.0, subst (λ (x : Schema). IsTrue (are_below (length x.attributes) places)) (sym h.same_schema) t.1, subst (λ (x : Schema). IsValid (project_schema places x)) (sym h.same_schema) t.2);
  same_schema = ap (project_schema places) h.same_schema;
  same_leaves = h.same_leaves;
  same_meaning = λ db l. ap (made (project_schema places) (λ x. project_rows places)) (h.same_meaning db l);
  same_needs = h.same_needs;
  same_scan = h.same_scan;
}

pub under_between : (s r : Query) (area : Bounds) → IsSame s r → IsSame (between s area) (between r area)
under_between s r area h = record {
  keeps_type = λ t. (h.keeps_type t.0, subst (λ (x : Schema). IsTrue (is_box_of x area)) (sym h.same_schema) t.1);
  same_schema = h.same_schema;
  same_leaves = h.same_leaves;
  same_meaning = λ db l. ap (made (λ x. x) (λ x. within area)) (h.same_meaning db l);
  same_needs = λ sides. h.same_needs (of_between area sides);
  same_scan = h.same_scan;
}

pub under_subarray : (s r : Query) (area : Bounds) → IsSame s r → IsSame (subarray s area) (subarray r area)
under_subarray s r area h = record {
  keeps_type = λ t. (h.keeps_type t.0, subst (λ (x : Schema). IsTrue (is_box_of x area)) (sym h.same_schema) t.1, subst (λ (x : Schema). IsValid (subarray_schema area x)) (sym h.same_schema) t.2);
  same_schema = ap (subarray_schema area) h.same_schema;
  same_leaves = h.same_leaves;
  same_meaning = λ db l. ap (made (subarray_schema area) (λ x. subarray_rows (meet (bounds_of x.dimensions) area))) (h.same_meaning db l);
  same_needs = λ sides. ap (λ (x : Schema). needs r (of_subarray x.dimensions area sides)) h.same_schema ∙ h.same_needs (of_subarray (schema_of s).dimensions area sides);
  same_scan = refl;
}

pub under_slice : (s r : Query) (fixed : List Fixed) → IsSame s r → IsSame (sliced s fixed) (sliced r fixed)
under_slice s r fixed h = record {
  keeps_type = λ t. (h.keeps_type t.0, subst (λ (x : Schema). IsTrue (are_below (length x.dimensions) (fixed_places fixed) && are_apart (fixed_places fixed))) (sym h.same_schema) t.1, subst (λ (x : Schema). IsValid (slice_schema fixed x)) (sym h.same_schema) t.2);
  same_schema = ap (slice_schema fixed) h.same_schema;
  same_leaves = h.same_leaves;
  same_meaning = λ db l. ap (made (slice_schema fixed) (λ x. slice_rows fixed)) (h.same_meaning db l);
  same_needs = λ sides. ap (λ (x : Schema). needs r (of_slice x.dimensions fixed sides)) h.same_schema ∙ h.same_needs (of_slice (schema_of s).dimensions fixed sides);
  same_scan = refl;
}

pub under_redimension : (s r : Query) (target : Schema) (gs : List Aggregate) → IsSame s r → IsSame (redimensioned s target gs) (redimensioned r target gs)
under_redimension s r target gs h = record {
  keeps_type = λ t. (h.keeps_type t.0, subst (λ (x : Schema). IsTrue (redimensions x target gs)) (sym h.same_schema) t.1, t.2);
  same_schema = refl;
  same_leaves = h.same_leaves;
  same_meaning = λ db l. ap (redimensioned_from target gs) (h.same_meaning db l);
  same_needs = λ sides. ap (λ (x : Schema). needs r (whole x.dimensions)) h.same_schema ∙ h.same_needs (whole (schema_of s).dimensions);
  same_scan = refl;
}

pub under_regrid : (s r : Query) (sizes : List ℕ) (gs : List Aggregate) → IsSame s r → IsSame (regridded s sizes gs) (regridded r sizes gs)
under_regrid s r sizes gs h = record {
  keeps_type = λ t. (h.keeps_type t.0, subst (λ (x : Schema). IsTrue (are_blocks_of x sizes && are_aggregates_of x.attributes gs)) (sym h.same_schema) t.1, subst (λ (x : Schema). IsValid (regrid_schema sizes gs x)) (sym h.same_schema) t.2);
  same_schema = ap (regrid_schema sizes gs) h.same_schema;
  same_leaves = h.same_leaves;
  same_meaning = λ db l. ap (made (regrid_schema sizes gs) (λ x. regrid_rows (bounds_of x.dimensions).lo.items sizes gs)) (h.same_meaning db l);
  same_needs = λ sides. ap (λ (x : Schema). needs r (of_regrid x.dimensions sizes sides)) h.same_schema ∙ h.same_needs (of_regrid (schema_of s).dimensions sizes sides);
  same_scan = refl;
}

pub under_window : (s r : Query) (reach : List Reach) (gs : List Aggregate) → IsSame s r → IsSame (windowed s reach gs) (windowed r reach gs)
under_window s r reach gs h = record {
  keeps_type = λ t. (h.keeps_type t.0, subst (λ (x : Schema). IsTrue (are_windows_of x reach && are_aggregates_of x.attributes gs)) (sym h.same_schema) t.1, subst (λ (x : Schema). IsValid (window_schema gs x)) (sym h.same_schema) t.2);
  same_schema = ap (window_schema gs) h.same_schema;
  same_leaves = h.same_leaves;
  same_meaning = λ db l. ap (made (window_schema gs) (λ x. window_rows reach gs)) (h.same_meaning db l);
  same_needs = λ sides.
      ap (λ (b : Bool). needs r (of_window b (schema_of r).dimensions reach sides)) h.same_scan
      ∙ ap (λ (x : Schema). needs r (of_window (is_scan s) x.dimensions reach sides)) h.same_schema
      ∙ h.same_needs (of_window (is_scan s) (schema_of s).dimensions reach sides);
  same_scan = refl;
}

pub under_aggregate : (s r : Query) (gs : List Aggregate) (places : List ℕ) → IsSame s r → IsSame (aggregated s gs places) (aggregated r gs places)
under_aggregate s r gs places h = record {
  keeps_type = λ t. (h.keeps_type t.0, subst (λ (x : Schema). IsTrue (are_below (length x.dimensions) places && are_aggregates_of x.attributes gs)) (sym h.same_schema) t.1, subst (λ (x : Schema). IsValid (aggregate_schema gs places x)) (sym h.same_schema) t.2);
  same_schema = ap (aggregate_schema gs places) h.same_schema;
  same_leaves = h.same_leaves;
  same_meaning = λ db l. ap (made (aggregate_schema gs places) (λ x. aggregate_rows places gs)) (h.same_meaning db l);
  same_needs = λ sides. ap (λ (x : Schema). needs r (of_aggregate x.dimensions places sides)) h.same_schema ∙ h.same_needs (of_aggregate (schema_of s).dimensions places sides);
  same_scan = refl;
}

-- ---- two sources

pub both_same : {A B C : Type 0} (f : A → B → C) (a a' : A) (b b' : B) → a ≡ a' → b ≡ b' → f a b ≡ f a' b'
both_same f a a' b b' p q = ap (λ x. f x b) p ∙ ap (f a') q

pub both_hold : (P : Schema → Schema → Type 0) (a a' b b' : Schema) → a ≡ a' → b ≡ b' → P a' b' → P a b
both_hold P a a' b b' p q h = subst (λ (x : Schema). P x b) (sym p) (subst (λ (x : Schema). P a' x) (sym q) h)

pub under_join : (l r l' r' : Query) (schema : Schema) → IsSame l l' → IsSame r r' → IsSame (joined l r schema) (joined l' r' schema)
under_join l r l' r' schema f g = record {
  keeps_type = λ t. (
    f.keeps_type t.0,
    g.keeps_type t.1,
    both_hold (λ x y. IsTrue (same_bounds x.dimensions y.dimensions)) (schema_of l') (schema_of l) (schema_of r') (schema_of r) f.same_schema g.same_schema t.2,
    both_hold (λ x y. schema ≡ join_schema x y) (schema_of l') (schema_of l) (schema_of r') (schema_of r) f.same_schema g.same_schema t.3,
    t.4,
  );
  same_schema = refl;
  same_leaves = both_same (λ x y. x ++ y) (leaves l') (leaves l) (leaves r') (leaves r) f.same_leaves g.same_leaves;
  same_meaning = λ db h.
      both_same (made_of_two schema join_rows) (meaning db l') (meaning db l) (meaning db r') (meaning db r)
      (f.same_meaning db (left_arrays db l r schema h)) (g.same_meaning db (right_arrays db l r schema h));
  same_needs = λ sides. both_same (λ x y. x ++ y) (needs l' sides) (needs l sides) (needs r' sides) (needs r sides) (f.same_needs sides) (g.same_needs sides);
  same_scan = refl;
}

pub under_cross : (l r l' r' : Query) (pairs : List Pair) (schema : Schema) → IsSame l l' → IsSame r r' → IsSame (crossed l r pairs schema) (crossed l' r' pairs schema)
under_cross l r l' r' pairs schema f g = record {
  keeps_type = λ t. (
    f.keeps_type t.0,
    g.keeps_type t.1,
    both_hold (λ x y. IsTrue (pairs_dimensions pairs x y)) (schema_of l') (schema_of l) (schema_of r') (schema_of r) f.same_schema g.same_schema t.2,
    both_hold (λ x y. schema ≡ cross_schema pairs x y) (schema_of l') (schema_of l) (schema_of r') (schema_of r) f.same_schema g.same_schema t.3,
    t.4,
  );
  same_schema = refl;
  same_leaves = both_same (λ x y. x ++ y) (leaves l') (leaves l) (leaves r') (leaves r) f.same_leaves g.same_leaves;
  same_meaning = λ db h.
      both_same (made_of_two schema (cross_rows pairs)) (meaning db l') (meaning db l) (meaning db r') (meaning db r)
      (f.same_meaning db (left_arrays db l r schema h)) (g.same_meaning db (right_arrays db l r schema h));
  same_needs = λ sides.
      both_same (λ x y. x ++ y) (needs l' (of_left (schema_of l').dimensions sides)) (needs l (of_left (schema_of l).dimensions sides))
      (needs r' (of_right (schema_of l').dimensions (schema_of r').dimensions pairs sides)) (needs r (of_right (schema_of l).dimensions (schema_of r).dimensions pairs sides))
      (ap (λ (x : Schema). needs l' (of_left x.dimensions sides)) f.same_schema ∙ f.same_needs (of_left (schema_of l).dimensions sides))
      (ap (λ (x : Schema). needs r' (of_right x.dimensions (schema_of r').dimensions pairs sides)) f.same_schema
      ∙ ap (λ (x : Schema). needs r' (of_right (schema_of l).dimensions x.dimensions pairs sides)) g.same_schema ∙ g.same_needs (of_right (schema_of l).dimensions (schema_of r).dimensions pairs sides));
  same_scan = refl;
}

-- A plan in place of a source of another one that orders cells, moves them, or puts two arrays into one.
use Rattle.std.proofs.Common.{◌≡◌, ℕ, List, ◌++◌, refl, sym, ap, ◌∙◌, subst}
use Rattle.std.specs.Prelude.{IsTrue}
use Rattle.cell_values.specs.declared.schema.Schema.{Schema}
use Rattle.cell_values.specs.Schemas.{IsValid}
use Rattle.logical_plan.specs.declared.parts.Aggregate.{Aggregate}
use Rattle.logical_plan.specs.Leaves.{leaves}
use Rattle.logical_plan.specs.Meaning.{meaning, made, sorted_from}
use Rattle.logical_plan.specs.Ordered.{cumulate_rows, rank_rows}
use Rattle.logical_plan.specs.PlanSchema.{schema_of, cumulate_schema, rank_schema, sort_schema}
use Rattle.logical_plan.specs.Query.{Query, sorted, ranked, cumulated, transposed, reversed, unpacked, xgridded, merged, concatenated}
use Rattle.logical_plan.specs.ShapeMeant.{concat_meant, merge_meant, reverse_meant, transpose_meant, unpack_meant, xgrid_meant}
use Rattle.logical_plan.specs.ShapeSchemas.{concat_schema, merge_schema, transpose_schema, unpack_schema, xgrid_schema}
use Rattle.logical_plan.specs.Typing.{are_bounded, are_keys_of, concatenates, cumulates, enlarges, first_name, merges, ranks}
use Rattle.plan_needs.specs.Needs.{needs}
use Rattle.plan_needs.specs.OrderSides.{of_cumulate, of_rank}
use Rattle.plan_needs.specs.ShapeSides.{of_behind, of_front, of_reverse, of_transpose, of_xgrid}
use Rattle.plan_needs.specs.Sides.{whole}
use Rattle.plan_needs.proofs.LeafParts.{left_arrays, right_arrays}
use Rattle.plan_rewrite.specs.Same.{IsSame}
use Rattle.plan_rewrite.proofs.SameLaws.{both_hold, both_same}

pub under_sort : (s r : Query) (keys : List ℕ) (target : Schema) → IsSame s r → IsSame (sorted s keys target) (sorted r keys target)
under_sort s r keys target h = record {
  keeps_type = λ t. (h.keeps_type t.0, subst (λ (x : Schema). IsTrue (are_keys_of x.attributes keys)) (sym h.same_schema) t.1, subst (λ (x : Schema). target ≡ sort_schema x) (sym h.same_schema) t.2, t.3);
  same_schema = refl;
  same_leaves = h.same_leaves;
  same_meaning = λ db l. ap (sorted_from keys target) (h.same_meaning db l);
  same_needs = λ sides. ap (λ (x : Schema). needs r (whole x.dimensions)) h.same_schema ∙ h.same_needs (whole (schema_of s).dimensions);
  same_scan = refl;
}

pub under_rank : (s r : Query) (a : ℕ) (dims : List ℕ) → IsSame s r → IsSame (ranked s a dims) (ranked r a dims)
under_rank s r a dims h = record {
  keeps_type = λ t. (h.keeps_type t.0, subst (λ (x : Schema). IsTrue (ranks x a dims)) (sym h.same_schema) t.1, subst (λ (x : Schema). IsValid (rank_schema a x)) (sym h.same_schema) t.2);
  same_schema = ap (rank_schema a) h.same_schema;
  same_leaves = h.same_leaves;
  same_meaning = λ db l. ap (made (rank_schema a) (λ x. rank_rows a dims)) (h.same_meaning db l);
  same_needs = λ sides. ap (λ (x : Schema). needs r (of_rank x.dimensions dims sides)) h.same_schema ∙ h.same_needs (of_rank (schema_of s).dimensions dims sides);
  same_scan = refl;
}

pub under_cumulate : (s r : Query) (gs : List Aggregate) (d : ℕ) → IsSame s r → IsSame (cumulated s gs d) (cumulated r gs d)
under_cumulate s r gs d h = record {
  keeps_type = λ t. (h.keeps_type t.0, subst (λ (x : Schema). IsTrue (cumulates x gs d)) (sym h.same_schema) t.1, subst (λ (x : Schema). IsValid (cumulate_schema gs x)) (sym h.same_schema) t.2);
  same_schema = ap (cumulate_schema gs) h.same_schema;
  same_leaves = h.same_leaves;
  same_meaning = λ db l. ap (made (cumulate_schema gs) (λ x. cumulate_rows d gs)) (h.same_meaning db l);
  same_needs = λ sides. ap (λ (x : Schema). needs r (of_cumulate x.dimensions d sides)) h.same_schema ∙ h.same_needs (of_cumulate (schema_of s).dimensions d sides);
  same_scan = refl;
}

pub under_transpose : (s r : Query) → IsSame s r → IsSame (transposed s) (transposed r)
under_transpose s r h = record {
  keeps_type = λ t. (h.keeps_type t.0, subst (λ (x : Schema). IsValid (transpose_schema x)) (sym h.same_schema) t.1);
  same_schema = ap transpose_schema h.same_schema;
  same_leaves = h.same_leaves;
  same_meaning = λ db l. ap transpose_meant (h.same_meaning db l);
  same_needs = λ sides. h.same_needs (of_transpose sides);
  same_scan = refl;
}

pub under_reverse : (s r : Query) → IsSame s r → IsSame (reversed s) (reversed r)
under_reverse s r h = record {
  keeps_type = λ t. (h.keeps_type t.0, subst (λ (x : Schema). IsTrue (are_bounded x.dimensions)) (sym h.same_schema) t.1);
  same_schema = h.same_schema;
  same_leaves = h.same_leaves;
  same_meaning = λ db l. ap reverse_meant (h.same_meaning db l);
  same_needs = λ sides. ap (λ (x : Schema). needs r (of_reverse x.dimensions sides)) h.same_schema ∙ h.same_needs (of_reverse (schema_of s).dimensions sides);
  same_scan = refl;
}

pub under_unpack : (s r : Query) (target : Schema) → IsSame s r → IsSame (unpacked s target) (unpacked r target)
under_unpack s r target h = record {
  keeps_type = λ t. (h.keeps_type t.0, subst (λ (x : Schema). target ≡ unpack_schema (first_name target.dimensions) x) (sym h.same_schema) t.1, t.2);
  same_schema = refl;
  same_leaves = h.same_leaves;
  same_meaning = λ db l. ap (unpack_meant target) (h.same_meaning db l);
  same_needs = λ sides. ap (λ (x : Schema). needs r (whole x.dimensions)) h.same_schema ∙ h.same_needs (whole (schema_of s).dimensions);
  same_scan = refl;
}

pub under_xgrid : (s r : Query) (sizes : List ℕ) → IsSame s r → IsSame (xgridded s sizes) (xgridded r sizes)
under_xgrid s r sizes h = record {
  keeps_type = λ t. (h.keeps_type t.0, subst (λ (x : Schema). IsTrue (enlarges x sizes)) (sym h.same_schema) t.1, subst (λ (x : Schema). IsValid (xgrid_schema sizes x)) (sym h.same_schema) t.2);
  same_schema = ap (xgrid_schema sizes) h.same_schema;
  same_leaves = h.same_leaves;
  same_meaning = λ db l. ap (xgrid_meant sizes) (h.same_meaning db l);
  same_needs = λ sides. ap (λ (x : Schema). needs r (of_xgrid x.dimensions sizes sides)) h.same_schema ∙ h.same_needs (of_xgrid (schema_of s).dimensions sizes sides);
  same_scan = refl;
}

-- ---- two sources

pub under_merge : (l r l' r' : Query) → IsSame l l' → IsSame r r' → IsSame (merged l r) (merged l' r')
under_merge l r l' r' f g = record {
  keeps_type = λ t. (
    f.keeps_type t.0,
    g.keeps_type t.1,
    both_hold (λ x y. IsTrue (merges x y)) (schema_of l') (schema_of l) (schema_of r') (schema_of r) f.same_schema g.same_schema t.2,
    both_hold (λ x y. IsValid (merge_schema x y)) (schema_of l') (schema_of l) (schema_of r') (schema_of r) f.same_schema g.same_schema t.3,
  );
  same_schema = both_same merge_schema (schema_of l') (schema_of l) (schema_of r') (schema_of r) f.same_schema g.same_schema;
  same_leaves = both_same (λ x y. x ++ y) (leaves l') (leaves l) (leaves r') (leaves r) f.same_leaves g.same_leaves;
  same_meaning = λ db h.
      both_same merge_meant (meaning db l') (meaning db l) (meaning db r') (meaning db r)
      (f.same_meaning db (left_arrays db l r (schema_of l) h)) (g.same_meaning db (right_arrays db l r (schema_of l) h));
  same_needs = λ sides.
      both_same (λ x y. x ++ y) (needs l' sides) (needs l sides) (needs r' sides) (needs r sides) (f.same_needs sides) (g.same_needs sides);
  same_scan = refl;
}

pub under_concat : (l r l' r' : Query) → IsSame l l' → IsSame r r' → IsSame (concatenated l r) (concatenated l' r')
under_concat l r l' r' f g = record {
  keeps_type = λ t. (
    f.keeps_type t.0,
    g.keeps_type t.1,
    both_hold (λ x y. IsTrue (concatenates x y)) (schema_of l') (schema_of l) (schema_of r') (schema_of r) f.same_schema g.same_schema t.2,
    both_hold (λ x y. IsValid (concat_schema x y)) (schema_of l') (schema_of l) (schema_of r') (schema_of r) f.same_schema g.same_schema t.3,
  );
  same_schema = both_same concat_schema (schema_of l') (schema_of l) (schema_of r') (schema_of r) f.same_schema g.same_schema;
  same_leaves = both_same (λ x y. x ++ y) (leaves l') (leaves l) (leaves r') (leaves r) f.same_leaves g.same_leaves;
  same_meaning = λ db h.
      both_same concat_meant (meaning db l') (meaning db l) (meaning db r') (meaning db r)
      (f.same_meaning db (left_arrays db l r (schema_of l) h)) (g.same_meaning db (right_arrays db l r (schema_of l) h));
  same_needs = λ sides.
      both_same (λ x y. x ++ y) (needs l' (of_front (schema_of l').dimensions sides)) (needs l (of_front (schema_of l).dimensions sides))
      (needs r' (of_behind (schema_of l').dimensions (schema_of r').dimensions sides)) (needs r (of_behind (schema_of l).dimensions (schema_of r).dimensions sides))
      (ap (λ (x : Schema). needs l' (of_front x.dimensions sides)) f.same_schema ∙ f.same_needs (of_front (schema_of l).dimensions sides))
      (ap (λ (x : Schema). needs r' (of_behind x.dimensions (schema_of r').dimensions sides)) f.same_schema
      ∙ ap (λ (x : Schema). needs r' (of_behind (schema_of l).dimensions x.dimensions sides)) g.same_schema ∙ g.same_needs (of_behind (schema_of l).dimensions (schema_of r).dimensions sides));
  same_scan = refl;
}

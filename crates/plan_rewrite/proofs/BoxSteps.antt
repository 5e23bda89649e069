-- A between goes below what works cell by cell, and two betweens are one.
use Rattle.std.proofs.Common.{◌≡◌, ℕ, ℤ, List, [], ◌∷◌, length, refl, sym, ap, ◌∙◌, arith}
use Rattle.std.specs.Prelude.{◌==◌, IsTrue, Result, Ok, Err}
use Rattle.std.specs.Int.{int_max, int_min}
use Rattle.std.proofs.lemmas.Bool.{eq-eqb}
use Rattle.std.proofs.lemmas.Int.{ints, clamps}
use Rattle.cell_values.specs.declared.datum.Broken.{Broken}
use Rattle.cell_values.specs.declared.datum.Row.{Row}
use Rattle.cell_values.specs.declared.schema.Bounds.{Bounds}
use Rattle.cell_values.specs.declared.schema.Schema.{Schema}
use Rattle.array_rows.specs.Arrays.{Meant}
use Rattle.array_rows.specs.Boxes.{by_pairs, within, meet}
use Rattle.array_geom.proofs.TestLaws.{and_both}
use Rattle.expr_nulls.specs.Expr.{Expr}
use Rattle.logical_plan.specs.declared.parts.Applied.{Applied}
use Rattle.logical_plan.specs.CellOps.{filter_cell, apply_cell, project_cell}
use Rattle.logical_plan.specs.Faults.{if_whole}
use Rattle.logical_plan.specs.Meaning.{meaning}
use Rattle.logical_plan.specs.PlanSchema.{schema_of, apply_schema, project_schema}
use Rattle.logical_plan.specs.Query.{Query, filtered, applied, projected, between}
use Rattle.logical_plan.specs.Typing.{IsTyped, is_box_of}
use Rattle.plan_needs.specs.declared.stretch.Stretch.{Stretch}
use Rattle.plan_needs.specs.Needs.{needs}
use Rattle.plan_needs.proofs.BoxLaws.{box_lengths, length-by_pairs, swapped, within_both}
use Rattle.plan_rewrite.specs.Same.{IsSame}
use Rattle.plan_needs.specs.Sides.{Sides}
use Rattle.plan_needs.specs.Stretches.{stretch, shared}

-- ---- below what works cell by cell

meant : Schema → Result (List Row) Broken → Meant
meant schema rows = record { schema = schema; rows = rows }

pub below_filter : (s : Query) (test : Expr) (area : Bounds) → IsSame (between (filtered s test) area) (filtered (between s area) test)
unfolding meant
below_filter s test area = record {
  keeps_type = λ t. ((t.0.0, t.1), t.0.1);
  same_schema = refl;
  same_leaves = refl;
  same_meaning = λ db l. ap (meant (meaning db s).schema) (swapped area (filter_cell test) (meaning db s).rows);
  same_needs = λ sides. refl;
  same_scan = refl;
}

pub below_apply : (s : Query) (values : List Applied) (area : Bounds) → IsSame (between (applied s values) area) (applied (between s area) values)
unfolding meant
below_apply s values area = record {
  keeps_type = λ t. ((t.0.0, t.1), t.0.1, t.0.2);
  same_schema = refl;
  same_leaves = refl;
  same_meaning = λ db l. ap (meant (apply_schema values (meaning db s).schema)) (swapped area (apply_cell values) (meaning db s).rows);
  same_needs = λ sides. refl;
  same_scan = refl;
}

pub below_project : (s : Query) (places : List ℕ) (area : Bounds) → IsSame (between (projected s places) area) (projected (between s area) places)
unfolding meant
below_project s places area = record {
  keeps_type = λ t. ((t.0.0, t.1), t.0.1, t.0.2);
  same_schema = refl;
  same_leaves = refl;
  same_meaning = λ db l. ap (meant (project_schema places (meaning db s).schema)) (swapped area (project_cell places) (meaning db s).rows);
  same_needs = λ sides. refl;
  same_scan = refl;
}

-- ---- two betweens

max_assoc : (a b c : ℤ) → int_max (int_max a b) c ≡ int_max a (int_max b c)
max_assoc a b c = omega (arith, ints, clamps)

min_assoc : (a b c : ℤ) → int_min (int_min a b) c ≡ int_min a (int_min b c)
min_assoc a b c = omega (arith, ints, clamps)

shared_assoc : (s : Stretch) (l h m k : ℤ) → shared (shared s (stretch l h)) (stretch m k) ≡ shared s (stretch (int_max l m) (int_min h k))
shared_assoc s l h m k = λ i. stretch (max_assoc s.first l m i) (min_assoc s.last h k i)

met_sides : (sides : Sides) (lo hi lo' hi' : List ℤ) → by_pairs shared (by_pairs shared sides (by_pairs stretch lo hi)) (by_pairs stretch lo' hi') ≡ by_pairs shared sides (by_pairs stretch (by_pairs int_max lo lo') (by_pairs int_min hi hi'))
met_sides [] lo hi lo' hi' = refl
met_sides (s ∷ sides) [] hi lo' hi' = refl
met_sides (s ∷ sides) (l ∷ lo) [] [] hi' = refl
met_sides (s ∷ sides) (l ∷ lo) [] (m ∷ lo') hi' = refl
met_sides (s ∷ sides) (l ∷ lo) (h ∷ hi) [] hi' = refl
met_sides (s ∷ sides) (l ∷ lo) (h ∷ hi) (m ∷ lo') [] = refl
met_sides (s ∷ sides) (l ∷ lo) (h ∷ hi) (m ∷ lo') (k ∷ hi') = λ i. shared_assoc s l h m k i ∷ met_sides sides lo hi lo' hi' i

meet_is_box : (s : Schema) (a b : Bounds) → IsTrue (is_box_of s a) → IsTrue (is_box_of s b) → IsTrue (is_box_of s (meet a b))
meet_is_box s a b ta tb =
    let la = box_lengths s a ta in
    let lb = box_lengths s b tb in
    and_both (length (meet a b).lo.items == length s.dimensions) (length (meet a b).hi.items == length s.dimensions)
    (eq-eqb _ _ (length-by_pairs int_max a.lo.items b.lo.items (lb.0 ∙ sym la.0) ∙ la.0))
    (eq-eqb _ _ (length-by_pairs int_min a.hi.items b.hi.items (lb.1 ∙ sym la.1) ∙ la.1))

met : (s : Schema) (a b : Bounds) → IsTrue (is_box_of s a) → IsTrue (is_box_of s b) → (r : Result (List Row) Broken) → if_whole (within (meet a b)) r ≡ if_whole (within a) (if_whole (within b) r)
met s a b ta tb (Ok rows) = ap (λ (x : List Row). Ok x) (within_both s a b ta tb rows)
met s a b ta tb (Err broken) = refl

pub two_betweens : (s : Query) (a b : Bounds) → IsTyped (between (between s b) a) → IsSame (between (between s b) a) (between s (meet a b))
unfolding meant
two_betweens s a b typed = record {
  keeps_type = λ t. (t.0.0, meet_is_box (schema_of s) a b t.1 t.0.1);
  same_schema = refl;
  same_leaves = refl;
  same_meaning = λ db l. ap (meant (meaning db s).schema) (met (schema_of s) a b typed.1 typed.0.1 (meaning db s).rows);
  same_needs = λ sides. ap (needs s) (sym (met_sides sides a.lo.items a.hi.items b.lo.items b.hi.items));
  same_scan = refl;
}

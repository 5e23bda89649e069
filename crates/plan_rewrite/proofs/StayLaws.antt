-- A box and a project stay on an operator below which neither goes.
use Rattle.std.proofs.Common.{◌≡◌, ◌∙◌, ℕ, Bool, true, false, List, length, cond, Option, None, ap, refl, sym}
use Rattle.cell_values.specs.declared.schema.Bounds.{Bounds}
use Rattle.logical_plan.specs.declared.arity.BinaryNode.{BinaryNode}
use Rattle.logical_plan.specs.declared.arity.BinaryNode.TheVariants.{Join, CrossJoin, Merge, Concat}
use Rattle.logical_plan.specs.declared.arity.LeafNode.{LeafNode}
use Rattle.logical_plan.specs.declared.arity.LeafNode.TheVariants.{Build, Literal, Scan}
use Rattle.logical_plan.specs.declared.arity.UnaryNode.{UnaryNode}
use Rattle.logical_plan.specs.declared.arity.UnaryNode.TheVariants.{Filter, Apply, Project, Between, Subarray, Slice, Redimension, Regrid}
use Rattle.logical_plan.specs.declared.arity.UnaryNode.TheVariants.{Window, Aggregate, Sort, Rank, Cumulate, Transpose, Reverse, Unpack, Xgrid}
use Rattle.logical_plan.specs.declared.parts.Applied.{Applied}
use Rattle.logical_plan.specs.Arity.{binary_query, leaf_query, unary_query}
use Rattle.logical_plan.specs.PlanSchema.{schema_of}
use Rattle.logical_plan.specs.Query.{Query, applied}
use Rattle.plan_rewrite.specs.Inner.Pending.{pending}
use Rattle.plan_rewrite.specs.Inner.Settling.{applied_for, keeps_above, settle}
use Rattle.plan_rewrite.specs.Inner.Trimmed.{names_none}

pub leaf_stays : (node : LeafNode) (area : Option Bounds) (places : Option (List ℕ)) → settle area places (leaf_query node) ≡ pending area places (leaf_query node)
leaf_stays (Build schema value) area places = refl
leaf_stays (Literal schema rows) area places = refl
leaf_stays (Scan leaf) area places = refl

pub one_stays : (node : UnaryNode) (source : Query) (area : Option Bounds) (places : Option (List ℕ)) → keeps_above node ≡ true
    → settle area places (unary_query node source) ≡ pending area places (unary_query node (settle None None source))
one_stays (Filter test) source area places above = cc
one_stays (Apply values) source area places above = cc
one_stays (Project own) source area places above = cc
one_stays (Between own) source area places above = cc
one_stays (Subarray own) source area places above = refl
one_stays (Slice fixed) source area places above = refl
one_stays (Redimension schema gs) source area places above = refl
one_stays (Regrid sizes gs) source area places above = refl
one_stays (Window reach gs) source area places above = refl
one_stays (Aggregate gs groups) source area places above = refl
one_stays (Sort keys schema) source area places above = refl
one_stays (Rank x dims) source area places above = refl
one_stays (Cumulate gs n) source area places above = refl
one_stays Transpose source area places above = refl
one_stays Reverse source area places above = refl
one_stays (Unpack schema) source area places above = refl
one_stays (Xgrid sizes) source area places above = refl

pub two_stay : (node : BinaryNode) (left right : Query) (area : Option Bounds) (places : Option (List ℕ))
    → settle area places (binary_query node left right) ≡ pending area places (binary_query node (settle None None left) (settle None None right))
two_stay (Join schema) left right area places = refl
two_stay (CrossJoin pairs schema) left right area places = refl
two_stay Merge left right area places = refl
two_stay Concat left right area places = refl

-- ---- an apply whose first attribute has this place

module _ (area : Option Bounds) (places : Option (List ℕ)) (source : Query) (values : List Applied) (first : ℕ) (is : first ≡ length (schema_of source).attributes) where
  by_use : (b : Bool) → names_none first places ≡ b → settle area places (applied source values) ≡ cond b (settle area places source) (applied_for first values places (settle area None source))
  by_use b e =
      ap (λ (n : ℕ). cond (names_none n places) (settle area places source) (applied_for n values places (settle area None source))) (sym is)
      ∙ ap (λ (t : Bool). cond t (settle area places source) (applied_for first values places (settle area None source))) e

  -- a project on it goes below it
  pub apply_unused : names_none first places ≡ true → settle area places (applied source values) ≡ settle area places source
  apply_unused e = by_use true e

  -- a project on it stays
  pub apply_used : names_none first places ≡ false → settle area places (applied source values) ≡ applied_for first values places (settle area None source)
  apply_used e = by_use false e

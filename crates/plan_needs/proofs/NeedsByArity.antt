-- What a plan needs, by the number of its sources.
use Rattle.std.proofs.Common.{◌≡◌, ◌++◌, refl}
use Rattle.logical_plan.specs.declared.arity.BinaryNode.{BinaryNode}
use Rattle.logical_plan.specs.declared.arity.BinaryNode.TheVariants.{Join, CrossJoin, Merge, Concat}
use Rattle.logical_plan.specs.declared.arity.LeafNode.{LeafNode}
use Rattle.logical_plan.specs.declared.arity.LeafNode.TheVariants.{Build, Literal, Scan}
use Rattle.logical_plan.specs.declared.arity.UnaryNode.{UnaryNode}
use Rattle.logical_plan.specs.declared.arity.UnaryNode.TheVariants.{Filter, Apply, Project, Between, Subarray, Slice, Redimension, Regrid}
use Rattle.logical_plan.specs.declared.arity.UnaryNode.TheVariants.{Window, Aggregate, Sort, Rank, Cumulate, Transpose, Reverse, Unpack, Xgrid}
use Rattle.logical_plan.specs.Arity.{leaf_query, unary_query, binary_query}
use Rattle.logical_plan.specs.Query.{Query}
use Rattle.plan_needs.specs.Inner.ByArity.{leaf_needs, source_sides, left_sides, right_sides}
use Rattle.plan_needs.specs.Needs.{needs}
use Rattle.plan_needs.specs.Sides.{Sides}

pub leaf_is : (node : LeafNode) (sides : Sides) → needs (leaf_query node) sides ≡ leaf_needs node sides
leaf_is (Build schema value) sides = refl
leaf_is (Literal schema rows) sides = refl
leaf_is (Scan leaf) sides = refl

pub source_is : (node : UnaryNode) (source : Query) (sides : Sides) → needs (unary_query node source) sides ≡ needs source (source_sides node source sides)
source_is (Filter test) source sides = refl
source_is (Apply values) source sides = refl
source_is (Project places) source sides = refl
source_is (Between area) source sides = refl
source_is (Subarray area) source sides = refl
source_is (Slice fixed) source sides = refl
source_is (Redimension schema gs) source sides = refl
source_is (Regrid sizes gs) source sides = refl
source_is (Window reach gs) source sides = refl
source_is (Aggregate gs places) source sides = refl
source_is (Sort keys schema) source sides = refl
source_is (Rank x dims) source sides = refl
source_is (Cumulate gs n) source sides = refl
source_is Transpose source sides = refl
source_is Reverse source sides = refl
source_is (Unpack schema) source sides = refl
source_is (Xgrid sizes) source sides = refl

pub sources_are : (node : BinaryNode) (left right : Query) (sides : Sides) → needs (binary_query node left right) sides ≡ needs left (left_sides node left sides) ++ needs right (right_sides node left right sides)
sources_are (Join schema) left right sides = refl
sources_are (CrossJoin pairs schema) left right sides = refl
sources_are Merge left right sides = refl
sources_are Concat left right sides = refl

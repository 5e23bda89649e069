-- Facts of plans that depend on the number of their sources alone.
use Rattle.std.proofs.Common.{◌≡◌, ◌+◌, ◌++◌, refl}
use Rattle.logical_plan.specs.declared.arity.BinaryNode.{BinaryNode}
use Rattle.logical_plan.specs.declared.arity.BinaryNode.TheVariants.{Join, CrossJoin, Merge, Concat}
use Rattle.logical_plan.specs.declared.arity.UnaryNode.{UnaryNode}
use Rattle.logical_plan.specs.declared.arity.UnaryNode.TheVariants.{Filter, Apply, Project, Between, Subarray, Slice, Redimension, Regrid}
use Rattle.logical_plan.specs.declared.arity.UnaryNode.TheVariants.{Window, Aggregate, Sort, Rank, Cumulate, Transpose, Reverse, Unpack, Xgrid}
use Rattle.logical_plan.specs.Arity.{unary_query, binary_query}
use Rattle.logical_plan.specs.Inner.ByArity.{unary_schema, binary_schema, unary_meant, binary_meant}
use Rattle.logical_plan.specs.Leaves.{leaves}
use Rattle.logical_plan.specs.Meaning.{Database, meaning}
use Rattle.logical_plan.specs.PlanSchema.{schema_of}
use Rattle.logical_plan.specs.Query.{Query, query_size}
use Rattle.logical_plan.specs.Typing.{IsTyped}

-- ---- size

pub unary_size : (node : UnaryNode) (source : Query) → query_size (unary_query node source) ≡ query_size source + 1
unary_size (Filter test) source = refl
unary_size (Apply values) source = refl
unary_size (Project places) source = refl
unary_size (Between area) source = refl
unary_size (Subarray area) source = refl
unary_size (Slice fixed) source = refl
unary_size (Redimension schema gs) source = refl
unary_size (Regrid sizes gs) source = refl
unary_size (Window reach gs) source = refl
unary_size (Aggregate gs places) source = refl
unary_size (Sort keys schema) source = refl
unary_size (Rank x dims) source = refl
unary_size (Cumulate gs n) source = refl
unary_size Transpose source = refl
unary_size Reverse source = refl
unary_size (Unpack schema) source = refl
unary_size (Xgrid sizes) source = refl

pub binary_size : (node : BinaryNode) (left right : Query) → query_size (binary_query node left right) ≡ query_size left + query_size right + 1
binary_size (Join schema) left right = refl
binary_size (CrossJoin pairs schema) left right = refl
binary_size Merge left right = refl
binary_size Concat left right = refl

-- ---- leaves

pub unary_leaves : (node : UnaryNode) (source : Query) → leaves (unary_query node source) ≡ leaves source
unary_leaves (Filter test) source = refl
unary_leaves (Apply values) source = refl
unary_leaves (Project places) source = refl
unary_leaves (Between area) source = refl
unary_leaves (Subarray area) source = refl
unary_leaves (Slice fixed) source = refl
unary_leaves (Redimension schema gs) source = refl
unary_leaves (Regrid sizes gs) source = refl
unary_leaves (Window reach gs) source = refl
unary_leaves (Aggregate gs places) source = refl
unary_leaves (Sort keys schema) source = refl
unary_leaves (Rank x dims) source = refl
unary_leaves (Cumulate gs n) source = refl
unary_leaves Transpose source = refl
unary_leaves Reverse source = refl
unary_leaves (Unpack schema) source = refl
unary_leaves (Xgrid sizes) source = refl

pub binary_leaves : (node : BinaryNode) (left right : Query) → leaves (binary_query node left right) ≡ leaves left ++ leaves right
binary_leaves (Join schema) left right = refl
binary_leaves (CrossJoin pairs schema) left right = refl
binary_leaves Merge left right = refl
binary_leaves Concat left right = refl

-- ---- typing: the sources of a typed plan are typed

pub unary_typed : (node : UnaryNode) (source : Query) → IsTyped (unary_query node source) → IsTyped source
unary_typed (Filter test) source t = t.0
unary_typed (Apply values) source t = t.0
unary_typed (Project places) source t = t.0
unary_typed (Between area) source t = t.0
unary_typed (Subarray area) source t = t.0
unary_typed (Slice fixed) source t = t.0
unary_typed (Redimension schema gs) source t = t.0
unary_typed (Regrid sizes gs) source t = t.0
unary_typed (Window reach gs) source t = t.0
unary_typed (Aggregate gs places) source t = t.0
unary_typed (Sort keys schema) source t = t.0
unary_typed (Rank x dims) source t = t.0
unary_typed (Cumulate gs n) source t = t.0
unary_typed Transpose source t = t.0
unary_typed Reverse source t = t.0
unary_typed (Unpack schema) source t = t.0
unary_typed (Xgrid sizes) source t = t.0

pub binary_typed : (node : BinaryNode) (left right : Query) → IsTyped (binary_query node left right) → IsTyped left × IsTyped right
binary_typed (Join schema) left right t = (t.0, t.1)
binary_typed (CrossJoin pairs schema) left right t = (t.0, t.1)
binary_typed Merge left right t = (t.0, t.1)
binary_typed Concat left right t = (t.0, t.1)

-- ---- schemas and meanings are those of the sources with what the operator makes of them

pub unary_schema_of : (node : UnaryNode) (source : Query) → schema_of (unary_query node source) ≡ unary_schema node (schema_of source)
unary_schema_of (Filter test) source = refl
unary_schema_of (Apply values) source = refl
unary_schema_of (Project places) source = refl
unary_schema_of (Between area) source = refl
unary_schema_of (Subarray area) source = refl
unary_schema_of (Slice fixed) source = refl
unary_schema_of (Redimension schema gs) source = refl
unary_schema_of (Regrid sizes gs) source = refl
unary_schema_of (Window reach gs) source = refl
unary_schema_of (Aggregate gs places) source = refl
unary_schema_of (Sort keys schema) source = refl
unary_schema_of (Rank x dims) source = refl
unary_schema_of (Cumulate gs n) source = refl
unary_schema_of Transpose source = refl
unary_schema_of Reverse source = refl
unary_schema_of (Unpack schema) source = refl
unary_schema_of (Xgrid sizes) source = refl

pub binary_schema_of : (node : BinaryNode) (left right : Query) → schema_of (binary_query node left right) ≡ binary_schema node (schema_of left) (schema_of right)
binary_schema_of (Join schema) left right = refl
binary_schema_of (CrossJoin pairs schema) left right = refl
binary_schema_of Merge left right = refl
binary_schema_of Concat left right = refl

pub unary_meaning : (db : Database) (node : UnaryNode) (source : Query) → meaning db (unary_query node source) ≡ unary_meant node (meaning db source)
unary_meaning db (Filter test) source = refl
unary_meaning db (Apply values) source = refl
unary_meaning db (Project places) source = refl
unary_meaning db (Between area) source = refl
unary_meaning db (Subarray area) source = refl
unary_meaning db (Slice fixed) source = refl
unary_meaning db (Redimension schema gs) source = refl
unary_meaning db (Regrid sizes gs) source = refl
unary_meaning db (Window reach gs) source = refl
unary_meaning db (Aggregate gs places) source = refl
unary_meaning db (Sort keys schema) source = refl
unary_meaning db (Rank x dims) source = refl
unary_meaning db (Cumulate gs n) source = refl
unary_meaning db Transpose source = refl
unary_meaning db Reverse source = refl
unary_meaning db (Unpack schema) source = refl
unary_meaning db (Xgrid sizes) source = refl

pub binary_meaning : (db : Database) (node : BinaryNode) (left right : Query) → meaning db (binary_query node left right) ≡ binary_meant node (meaning db left) (meaning db right)
binary_meaning db (Join schema) left right = refl
binary_meaning db (CrossJoin pairs schema) left right = refl
binary_meaning db Merge left right = refl
binary_meaning db Concat left right = refl

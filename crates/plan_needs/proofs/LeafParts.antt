-- What holds of all leaves of a join holds of those of each side.
use Rattle.std.proofs.Common.{List, [], ◌∷◌, ◌++◌}
use Rattle.std.specs.List.{AllByRecursion}
use Rattle.cell_values.specs.declared.schema.Schema.{Schema}
use Rattle.array_rows.specs.Arrays.{AreRowsOf}
use Rattle.logical_plan.specs.declared.parts.Leaf.{Leaf}
use Rattle.logical_plan.specs.Leaves.{leaves}
use Rattle.logical_plan.specs.Meaning.{Database, version_rows}
use Rattle.logical_plan.specs.Query.{Query, joined}
use Rattle.plan_needs.specs.Sufficient.{HasArrays}

IsArray : Database → Leaf → Type 0
IsArray db leaf = AreRowsOf leaf.schema (version_rows db leaf.name leaf.version)

of_first : {A : Type 0} (P : A → Type 0) (xs ys : List A) → AllByRecursion P (xs ++ ys) → AllByRecursion P xs
of_first P [] ys all = tt
of_first P (x ∷ xs) ys all = (all.0, of_first P xs ys all.1)

of_second : {A : Type 0} (P : A → Type 0) (xs ys : List A) → AllByRecursion P (xs ++ ys) → AllByRecursion P ys
of_second P [] ys all = all
of_second P (x ∷ xs) ys all = of_second P xs ys all.1

pub left_arrays : (db : Database) (l r : Query) (schema : Schema) → HasArrays db (joined l r schema) → HasArrays db l
unfolding IsArray
left_arrays db l r schema h = of_first (IsArray db) (leaves l) (leaves r) h

pub right_arrays : (db : Database) (l r : Query) (schema : Schema) → HasArrays db (joined l r schema) → HasArrays db r
unfolding IsArray
right_arrays db l r schema h = of_second (IsArray db) (leaves l) (leaves r) h

-- A box and a project that are to be put on a plan.
use Rattle.std.specs.Prelude.{ℕ, List, Option, Some, None}
use Rattle.cell_values.specs.declared.schema.Bounds.{Bounds}
use Rattle.logical_plan.specs.Query.{Query, projected, between}

abbrev pub boxed : Option Bounds → Query → Query
boxed None query = query
boxed (Some area) query = between query area

abbrev pub shown : Option (List ℕ) → Query → Query
shown None query = query
shown (Some places) query = projected query places

abbrev pub pending : Option Bounds → Option (List ℕ) → Query → Query
pending area places query = shown places (boxed area query)

-- `cross_join`: names of a left and a right dimension, pair by pair, each of which is there and named once on its side; and then the schema.
use Rattle.std.specs.Prelude.{ℕ, Ok, List, [], ◌++◌}
use Rattle.cell_values.specs.declared.name.Span.{Span}
use Rattle.cell_values.specs.declared.schema.Dimension.{Dimension}
use Rattle.cell_values.specs.declared.schema.Schema.{Schema}
use Rattle.afl_trees.specs.Term.{Term}
use Rattle.logical_plan.specs.BoxOps.{items_but}
use Rattle.logical_plan.specs.Joins.{right_places}
use Rattle.logical_plan.specs.Typing.{left_places}
use Rattle.logical_plan.specs.declared.parts.Pair.{Pair}
use Rattle.check_rules.specs.Checked.{Checked, then}
use Rattle.check_rules.specs.InTurn.{pairs_in_turn}
use Rattle.check_rules.specs.Sorts.{is_name, first_but, unless_other}
use Rattle.check_groups.specs.Names.{dimension_one}
use Rattle.check_joins.specs.JoinSchemas.{beside}
use Rattle.check_joins.specs.declared.cross.Crossed.{Crossed}

-- a left and a right name beside the places of dimensions that are paired already
abbrev pub pair_beside : List Dimension → List ℕ → List Dimension → List ℕ → Term → Term → Checked Pair
pair_beside left lefts right rights l r =
    then (dimension_one left lefts l) (λ a.
    then (dimension_one right rights r) (λ b. Ok (record { left = a; right = b })))

abbrev pub pair_one : List Dimension → List Dimension → List Pair → Term → Term → Checked Pair
pair_one left right done l r = pair_beside left (left_places done) right (right_places done) l r

abbrev pub crossed_schema : Span → List Pair → Schema → Schema → Checked Schema
crossed_schema s pairs left right = beside s (left.dimensions ++ items_but (right_places pairs) 0 right.dimensions) (left.attributes ++ right.attributes)

abbrev pub crossed_by : Span → Schema → Schema → List Pair → Checked Crossed
crossed_by s left right pairs = then (crossed_schema s pairs left right) (λ schema. Ok (record { pairs = pairs; schema = schema }))

abbrev pub cross_parts : Span → Schema → Schema → List Term → Checked Crossed
cross_parts s left right arguments =
    unless_other (first_but is_name arguments) (then (pairs_in_turn (pair_one left.dimensions right.dimensions) [] arguments) (crossed_by s left right))

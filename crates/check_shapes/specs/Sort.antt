-- `sort`: names of attributes, one at least, each of which is there and named once. Cells are numbered along a dimension `n`, or `n_k` with
-- the least k from 2 where an attribute has that name.
use Rattle.std.specs.Prelude.{ℕ, nat_le, length, codes, Ok, List, []}
use Rattle.cell_values.specs.declared.name.Span.{Span}
use Rattle.cell_values.specs.declared.schema.Attribute.{Attribute}
use Rattle.cell_values.specs.declared.schema.Schema.{Schema}
use Rattle.cell_values.specs.Schemas.{attribute_names}
use Rattle.schema_grammar.specs.declared.kinds.TypeKind.TheVariants.{WrongCount}
use Rattle.afl_trees.specs.Term.{Term}
use Rattle.logical_plan.specs.PlanSchema.{free_name}
use Rattle.check_rules.specs.Checked.{Checked, demand, then}
use Rattle.check_rules.specs.InTurn.{in_turn}
use Rattle.check_rules.specs.Sorts.{is_name, first_but, unless_other}
use Rattle.check_cellwise.specs.Project.{projected_one}
use Rattle.check_groups.specs.Names.{short_name}
use Rattle.check_shapes.specs.Numbered.{numbered_schema}
use Rattle.check_shapes.specs.declared.sort.SortKeys.{SortKeys}

abbrev pub number_name : Span → List Attribute → Checked (List ℕ)
number_name s attributes = short_name s (free_name (attribute_names attributes) (codes "n"))

abbrev pub sorted_schema : Span → Schema → Checked Schema
sorted_schema s source = then (number_name s source.attributes) (λ name. Ok (numbered_schema source.attributes name))

abbrev pub sorted_by : Span → Schema → List ℕ → Checked SortKeys
sorted_by s source keys = then (sorted_schema s source) (λ schema. Ok (record { keys = keys; schema = schema }))

abbrev pub sort_parts : Span → Schema → List Term → Checked SortKeys
sort_parts s source names =
    demand (nat_le 1 (length names)) s WrongCount
    (unless_other (first_but is_name names)
    (then (in_turn (projected_one source.attributes) [] names) (sorted_by s source)))

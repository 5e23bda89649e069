-- `regrid`: for each dimension how many places a block has, 1 at least, and then one aggregate at least.
use Rattle.std.specs.Prelude.{ℕ, pos, ◌&&◌, ◌==◌, nat_le, length, Ok, List, []}
use Rattle.cell_values.specs.declared.name.Span.{Span}
use Rattle.cell_values.specs.declared.schema.Schema.{Schema}
use Rattle.cell_values.specs.Schemas.{dimension_names}
use Rattle.schema_grammar.specs.declared.kinds.TypeKind.TheVariants.{WrongCount}
use Rattle.afl_trees.specs.Term.{Term}
use Rattle.check_rules.specs.Checked.{Checked, demand, then}
use Rattle.check_rules.specs.InTurn.{in_turn}
use Rattle.check_rules.specs.Sorts.{is_number, first_but, unless_other}
use Rattle.check_groups.specs.AggregateSort.{is_aggregate, front, behind}
use Rattle.check_groups.specs.Aggregates.{aggregates_of}
use Rattle.check_groups.specs.Numbers.{number_from}
use Rattle.check_groups.specs.declared.groups.regrid.Blocks.{Blocks}

abbrev pub block_one : List ℕ → Term → Checked ℕ
block_one done t = number_from (pos 1) t

abbrev pub with_blocks : Span → Schema → List Term → List ℕ → Checked Blocks
with_blocks s source aggregates sizes =
    then (aggregates_of s source.attributes (dimension_names source.dimensions) aggregates) (λ gs. Ok (record { sizes = sizes; aggregates = gs }))

abbrev pub blocks_of : Span → Schema → List Term → List Term → Checked Blocks
blocks_of s source numbers aggregates =
    unless_other (first_but is_aggregate aggregates)
    (demand ((length numbers == length source.dimensions) && nat_le 1 (length aggregates)) s WrongCount
    (then (in_turn block_one [] numbers) (with_blocks s source aggregates)))

abbrev pub regrid_parts : Span → Schema → List Term → Checked Blocks
regrid_parts s source arguments = blocks_of s source (front is_number arguments) (behind is_number arguments)

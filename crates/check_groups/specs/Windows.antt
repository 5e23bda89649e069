-- `window`: for each dimension how far a window reaches before and after its centre, no less than 0, and then one aggregate at least.
-- A window has at most 2^24 places, and a chunk with what the windows of its cells reach at most 2^48.
use Rattle.std.specs.Prelude.{pos, ◌*◌, ◌&&◌, ◌==◌, nat_le, length, Ok, List, []}
use Rattle.cell_values.specs.declared.name.Span.{Span}
use Rattle.cell_values.specs.declared.schema.Schema.{Schema}
use Rattle.cell_values.specs.Schemas.{dimension_names}
use Rattle.schema_grammar.specs.declared.kinds.TypeKind.TheVariants.{WindowTooLarge, WrongCount}
use Rattle.afl_trees.specs.Term.{Term}
use Rattle.logical_plan.specs.Typing.{are_windows_of}
use Rattle.logical_plan.specs.declared.parts.Reach.{Reach}
use Rattle.check_rules.specs.Checked.{Checked, demand, then}
use Rattle.check_rules.specs.InTurn.{pairs_in_turn}
use Rattle.check_rules.specs.Sorts.{is_number, first_but, unless_other}
use Rattle.check_groups.specs.AggregateSort.{is_aggregate, front, behind}
use Rattle.check_groups.specs.Aggregates.{aggregates_of}
use Rattle.check_groups.specs.Numbers.{number_from}
use Rattle.check_groups.specs.declared.groups.window.Windows.{Windows}

abbrev pub reach_one : List Reach → Term → Term → Checked Reach
reach_one done before after =
    then (number_from (pos 0) before) (λ b. then (number_from (pos 0) after) (λ a. Ok (record { before = b; after = a })))

abbrev pub with_reach : Span → Schema → List Term → List Reach → Checked Windows
with_reach s source aggregates reach =
    demand (are_windows_of source reach) s WindowTooLarge
    (then (aggregates_of s source.attributes (dimension_names source.dimensions) aggregates) (λ gs. Ok (record { reach = reach; aggregates = gs })))

abbrev pub windows_of : Span → Schema → List Term → List Term → Checked Windows
windows_of s source numbers aggregates =
    unless_other (first_but is_aggregate aggregates)
    (demand ((length numbers == 2 * length source.dimensions) && nat_le 1 (length aggregates)) s WrongCount
    (then (pairs_in_turn reach_one [] numbers) (with_reach s source aggregates)))

abbrev pub window_parts : Span → Schema → List Term → Checked Windows
window_parts s source arguments = windows_of s source (front is_number arguments) (behind is_number arguments)

-- The operators that are built: what a call is by its operator, and the rules of an operator on one source or two.
use Rattle.std.specs.Prelude.{ℕ, ◌%◌, Bool, true, ◌&&◌, ◌==◌, nat_le, Option, Some, None, List}
use Rattle.cell_values.specs.declared.name.Span.{Span}
use Rattle.afl_trees.specs.Term.{Term}
use Rattle.logical_plan.specs.Query.{Query}
use Rattle.check_rules.specs.Checked.{Checked}
use Rattle.check_rules.specs.declared.rules.operator.Operator.{Operator}
use Rattle.check_rules.specs.declared.rules.operator.Operator.TheVariants as operator
use Rattle.check_cellwise.specs.Filter.{filter_call}
use Rattle.check_cellwise.specs.Apply.{apply_call}
use Rattle.check_cellwise.specs.Project.{project_call}
use Rattle.check_cellwise.specs.Boxes.{between_call, subarray_call}
use Rattle.check_cellwise.specs.Slice.{slice_call}
use Rattle.afl_types.specs.GroupCalls.{regrid_call, window_call, aggregate_call}
use Rattle.afl_types.specs.JoinCalls.{join_call, cross_call}
use Rattle.afl_types.specs.MovedCalls.{redimension_call}
use Rattle.afl_types.specs.OrderCalls.{sort_call, rank_call, cumulate_call}
use Rattle.afl_types.specs.ShapeCalls.{transpose_call, reverse_call, unpack_call, xgrid_call, merge_call, concat_call}
use Rattle.afl_types.specs.declared.queries.call.Call.{Call}
use Rattle.afl_types.specs.declared.queries.call.Call.TheVariants.{Build, Scan, Over, Two}
use Rattle.afl_types.specs.declared.queries.call.OverSource.{OverSource}
use Rattle.afl_types.specs.declared.queries.call.OverSource.TheVariants.{Filter, Apply, Project, Between, Subarray, Slice, Redimension, Regrid, Window, Aggregate}
use Rattle.afl_types.specs.declared.queries.call.OverSource.TheVariants.{Sort, Rank, Cumulate, Transpose, Reverse, Unpack, Xgrid}
use Rattle.afl_types.specs.declared.queries.call.OverTwo.{OverTwo}
use Rattle.afl_types.specs.declared.queries.call.OverTwo.TheVariants.{Join, CrossJoin, Merge, Concat}

abbrev pub call_of : Option Operator → Option Call
call_of (Some operator.Build) = Some Build
call_of (Some operator.Scan) = Some Scan
call_of (Some operator.Filter) = Some (Over Filter)
call_of (Some operator.Apply) = Some (Over Apply)
call_of (Some operator.Project) = Some (Over Project)
call_of (Some operator.Between) = Some (Over Between)
call_of (Some operator.Subarray) = Some (Over Subarray)
call_of (Some operator.Slice) = Some (Over Slice)
call_of (Some operator.Redimension) = Some (Over Redimension)
call_of (Some operator.Regrid) = Some (Over Regrid)
call_of (Some operator.Window) = Some (Over Window)
call_of (Some operator.Aggregate) = Some (Over Aggregate)
call_of (Some operator.Sort) = Some (Over Sort)
call_of (Some operator.Rank) = Some (Over Rank)
call_of (Some operator.Cumulate) = Some (Over Cumulate)
call_of (Some operator.Transpose) = Some (Over Transpose)
call_of (Some operator.Reverse) = Some (Over Reverse)
call_of (Some operator.Unpack) = Some (Over Unpack)
call_of (Some operator.Xgrid) = Some (Over Xgrid)
call_of (Some operator.Join) = Some (Two Join)
call_of (Some operator.CrossJoin) = Some (Two CrossJoin)
call_of (Some operator.Merge) = Some (Two Merge)
call_of (Some operator.Concat) = Some (Two Concat)
call_of _ = None

-- pairs, and at least one
abbrev pub are_pairs : ℕ → Bool
are_pairs count = nat_le 1 count && (count % 2 == 0)

-- so many arguments may stand behind the source
abbrev pub fits_count : OverSource → ℕ → Bool
fits_count Filter count = count == 1
fits_count Apply count = are_pairs count
fits_count Project count = nat_le 1 count
fits_count Between count = true
fits_count Subarray count = true
fits_count Slice count = are_pairs count
fits_count Redimension count = nat_le 1 count
fits_count Regrid count = true
fits_count Window count = true
fits_count Aggregate count = true
fits_count Sort count = nat_le 1 count
fits_count Rank count = nat_le 1 count
fits_count Cumulate count = true
fits_count Transpose count = count == 0
fits_count Reverse count = count == 0
fits_count Unpack count = count == 1
fits_count Xgrid count = true

-- so many arguments may stand behind two sources
abbrev pub fits_two : OverTwo → ℕ → Bool
fits_two Join count = count == 0
fits_two CrossJoin count = are_pairs count
fits_two Merge count = count == 0
fits_two Concat count = count == 0

-- the sorts of the arguments behind the source, whose content stands at a place, and the operator's own rules
abbrev pub ruled : Span → OverSource → Span → Query → List Term → Checked Query
ruled s Filter at source arguments = filter_call s source arguments
ruled s Apply at source arguments = apply_call s source arguments
ruled s Project at source arguments = project_call s source arguments
ruled s Between at source arguments = between_call s source arguments
ruled s Subarray at source arguments = subarray_call s source arguments
ruled s Slice at source arguments = slice_call s source arguments
ruled s Redimension at source arguments = redimension_call s source arguments
ruled s Regrid at source arguments = regrid_call s source arguments
ruled s Window at source arguments = window_call s source arguments
ruled s Aggregate at source arguments = aggregate_call s source arguments
ruled s Sort at source arguments = sort_call s source arguments
ruled s Rank at source arguments = rank_call s source arguments
ruled s Cumulate at source arguments = cumulate_call s source arguments
ruled s Transpose at source arguments = transpose_call s source
ruled s Reverse at source arguments = reverse_call at source
ruled s Unpack at source arguments = unpack_call s source arguments
ruled s Xgrid at source arguments = xgrid_call s source arguments

-- the same behind two sources, where the place is that of the left one's content
abbrev pub ruled_two : Span → OverTwo → Span → Query → Query → List Term → Checked Query
ruled_two s Join at left right arguments = join_call s left right
ruled_two s CrossJoin at left right arguments = cross_call s left right arguments
ruled_two s Merge at left right arguments = merge_call s left right
ruled_two s Concat at left right arguments = concat_call s at left right

use Rattle.std.proofs.Common.{◌≤◌, ◌⊎◌, inl, inr, length, sym, subst, List, arith}
use Rattle.array_rows.specs.Rows.{IsRising}
use Rattle.area_cells.specs.declared.finding.Found.{Found}
use Rattle.area_cells.specs.Found.{found_rows}
use Rattle.area_cells.specs.Inner.Filled.{IsFilled}
use Rattle.array_geom.specs.declared.chunk.Chunk.{Chunk}
use Rattle.logical_plan.specs.Joins.{join_rows}
use Rattle.exec_join.proofs.MeetLaws.{all_met}
use Rattle.exec_join.proofs.arrays.meeting.meet.Goals as goal
use Rattle.exec_join.proofs.arrays.meeting.meet.Goals.{then-meeting-test+else-at_right-other, else-meeting-test}

pub returns-clause-filled : goal.returns-clause-filled
returns-clause-filled c =
    let grid = c.args.grid.now in
    let one = c.as_slice-one.ensures in
    let other = c.as_slice-other.ensures in
    let made0 : Chunk = record { at = c.copy_numbers.result; positions = c.another.result; cells = c.new.result } in
    let end : (length c.as_slice-one.result.now ≤ c.meeting.at_left) ⊎ (length c.as_slice-other.result.now ≤ c.meeting.at_right) =
    elim c.meeting-test.branch [ then-meeting-test+else-at_right-other w ↦ inr (omega arith) | else-meeting-test w ↦ inl (omega arith) ] in
    subst (λ (fs : List Found). IsFilled grid.low.items grid.lengths.items (join_rows (found_rows grid fs) (found_rows grid c.args.right)) c.meeting.made) one
    (subst (λ (fs : List Found). IsFilled grid.low.items grid.lengths.items (join_rows (found_rows grid c.as_slice-one.result.now) (found_rows grid fs)) c.meeting.made) other
    (all_met grid c.as_slice-one.result.now c.as_slice-other.result.now made0 c.meeting.made c.meeting.at_left c.meeting.at_right c.another.ensures c.new.ensures
    (subst (λ (fs : List Found). IsRising (found_rows grid fs)) (sym one) c.requires.left_rise) (subst (λ (fs : List Found). IsRising (found_rows grid fs)) (sym other) c.requires.right_rise)
    c.meeting.invariant.meets end))

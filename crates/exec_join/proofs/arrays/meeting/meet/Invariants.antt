use Rattle.std.proofs.Common.{◌+◌, ◌-◌, ◌≤◌, length}
use Rattle.exec_join.specs.Inner.Meeting.{Meets}
use Rattle.exec_join.proofs.arrays.meeting.meet.Given as goal

abbrev pub invariant-meeting : goal.invariant-meeting
invariant-meeting l = record {
  meets : Meets l.grid l.one l.other l.initial.made 0 0 l.made l.at_left l.at_right;
  left_within : l.at_left ≤ length l.one;
  right_within : l.at_right ≤ length l.other;
}

abbrev pub decreases-meeting : goal.decreases-meeting
decreases-meeting l = (length l.one + length l.other) - (l.at_left + l.at_right)

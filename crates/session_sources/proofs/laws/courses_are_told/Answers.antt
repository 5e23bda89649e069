use Rattle.std.proofs.Common.{refl, ◌++◌}
use Rattle.snapshot_manager.specs.Worked.{worked_others, worked_own, worked_seen}
use Rattle.session_sources.proofs.CourseLaws.{courses_add_own, courses_join, courses_keep_notes, courses_keep_pins, courses_may_be_empty, turns_are_courses}
use Rattle.session_sources.proofs.NoteSteps.{faults_are_own}
use Rattle.session_sources.proofs.laws.courses_are_told.Goals as goal

pub returns : goal.returns
returns g c = record {
  turns = turns_are_courses;
  none = courses_may_be_empty;
  join = courses_join;
  own = courses_add_own;
  faults = faults_are_own;
  pins = courses_keep_pins _;
  notes = courses_keep_notes _;
  worked = record {
    pinning = record { more = worked_seen; grown = refl; mine = refl };
    waiting = record { more = worked_others; grown = refl; mine = refl };
    whole = record { more = (worked_seen ++ worked_others) ++ worked_own; grown = refl; mine = refl };
    named = refl;
    unnamed = refl;
    other = refl;
  };
}

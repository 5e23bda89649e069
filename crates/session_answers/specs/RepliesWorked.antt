-- What a session is told of a damaged page under its pin, while another removes the array; and what both did.
use Rattle.std.specs.Prelude.{◌≡◌, ◌++◌, true, [], codes, None, Some}
use Rattle.afl_outside.specs.Disk.{Moment}
use Rattle.plan_changes.specs.declared.change.Change.TheVariants.{Remove}
use Rattle.array_store.specs.Worked.{worked_before, worked_others, worked_own, worked_seen, worked_start}
use Rattle.session_answers.specs.Acts.{acts_for, acts_in, looking, making}
use Rattle.session_answers.specs.Fresh.{AreLeftSince}
use Rattle.session_answers.specs.Replies.{IsDamagedPage}

-- an honest disk that had lost all its bytes
abbrev pub empty_moment : Unit {0} → Moment
empty_moment disk = record {
  state = record { name = None; first = Some []; seen = Some []; honest = true; moment = 0; faults = 0; wants = 0 };
  may_leave = λ image. image ≡ [];
  left_since = λ since image. image ≡ [];
}

-- each fact computes
pub record IsWorked : Type 0 where
  -- page 4 begins the payload of A's one chunk, as the place behind the pin tells, and lay behind the end of the file; it still does once A is
  -- removed
  pub page : IsDamagedPage empty_moment worked_start worked_seen 1 4
  pub later : IsDamagedPage empty_moment worked_start (worked_seen ++ worked_others) 1 4
  -- pins leave the removal as it was
  pub fresh : AreLeftSince worked_start worked_before 0 2 (Remove (codes "A"))
  -- the one session pinned and unpinned, and the other tried and made its commit between
  pub looked : acts_in (worked_seen ++ worked_own) ≡ acts_for looking
  pub made : acts_in worked_others ≡ acts_for (making (Remove (codes "A")))

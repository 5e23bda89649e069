-- A store that three sessions share, and what each has of it.
use Rattle.std.specs.Prelude.{◌≡◌, ◌≤◌, [], vec_capacity}
use Rattle.snapshot_manager.specs.Seats.{IsIdle, IsSeatOf, seats_in_all}
use Rattle.test_stores.specs.declared.runs.Run.{Run}
use Rattle.test_quiet.specs.Silent.{silent_moment}
use Rattle.test_stores.specs.Visits.{IsUntold}
use Rattle.test_stores.specs.Visitors.{IsVisitor}

pub record IsRun (run : Run) : Type 0 where
  pub untold : IsUntold silent_moment run.shared
  pub seats : seats_in_all run.shared ≡ 4
  pub first : IsVisitor silent_moment run.shared run.first
  pub second : IsVisitor silent_moment run.shared run.second
  pub third : IsVisitor silent_moment run.shared run.third
  pub reaper : IsSeatOf run.shared run.reaper × IsIdle run.reaper
  pub room : (run.room.items ≡ []) × (4 ≤ vec_capacity run.room)

-- The memory that a run takes before its first session begins.
use Rattle.std.specs.Prelude.{◌≡◌, ◌≤◌, ◌+◌, ℕ, [], vec_capacity}
use Rattle.session_threads.specs.declared.room.Room.{Room}

-- its lists are empty, and have room for so many sessions
pub record HasRoom {P W M : Type 0} (sessions : ℕ) (room : Room P W M) : Type 0 where
  pub no_desks : room.desks.items ≡ []
  pub no_seats : room.seats.items ≡ []
  pub no_reports : room.reports.items ≡ []
  pub for_desks : sessions ≤ vec_capacity room.desks
  pub for_seats : sessions + 1 ≤ vec_capacity room.seats
  pub for_reports : sessions ≤ vec_capacity room.reports

-- What a state keeps of the cells that it has taken.
use Rattle.std.specs.Prelude.{ℕ, ◌*◌, ◌^◌, ◌<◌, ◌≤◌, ℤ, unsigned_abs, Option}
use Rattle.cell_values.specs.declared.datum.Broken.{Broken}
use Rattle.cell_values.specs.declared.datum.Datum.{Datum}
use Rattle.logical_plan.specs.declared.parts.AggFunction.{AggFunction}

pub record Summary : Type 0 where
  pub function : AggFunction
  -- the fault that comes first in row-major order
  pub fault : Option Broken
  pub cells : ℕ
  -- how many values are not null, and their sum
  pub values : ℕ
  pub total : ℤ
  -- the least or the greatest value
  pub best : Option Datum

-- fewer than 2^63 cells have at most as many values, whose sum is in proportion
pub record IsInRange (cells values : ℕ) (total : ℤ) : Type 0 where
  pub few : cells < 2 ^ 63
  pub counted : values ≤ cells
  pub bounded : unsigned_abs total ≤ cells * 2 ^ 63

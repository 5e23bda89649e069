-- Calls that are counted, some of which are to fail.
use Rattle.std.specs.Prelude.{ℕ, List, Contains}
use Rattle.afl_outside.specs.Counts.{risen}

-- The numbers, from 0, of the calls that are to fail, how many calls there were, and how many of them were faults. Both counts stand
-- still at the end of a `u64`.
pub record Turns : Type 0 where
  pub fails : List ℕ
  pub calls : ℕ
  pub faults : ℕ

-- before the first call
abbrev pub no_turns : List ℕ → Turns
no_turns fails = record { fails = fails; calls = 0; faults = 0 }

-- the next call is one that is to fail
abbrev pub IsListed : Turns → Type 0
IsListed turns = Contains turns.fails turns.calls

-- after a call that is no fault
abbrev pub passed : Turns → Turns
passed turns = record turns { calls = risen turns.calls }

-- after a call that failed because its number is listed
abbrev pub failed : Turns → Turns
failed turns = record turns { calls = risen turns.calls; faults = risen turns.faults }

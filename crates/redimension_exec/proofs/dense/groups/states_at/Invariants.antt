use Rattle.std.proofs.Common.{List, take}
use Rattle.std.specs.List.{AllZip}
use Rattle.cell_values.specs.declared.datum.Row.{Row}
use Rattle.logical_plan.specs.Redimension.{landed_at}
use Rattle.agg_states.specs.Stands.{StandsFor}
use Rattle.group_rows.specs.Inner.Places.{place_of}
use Rattle.redimension_exec.specs.Inner.Dense.{IsColumn, landed_there}
use Rattle.redimension_exec.proofs.dense.groups.states_at.Given as goal

abbrev pub invariant-loop-k : goal.invariant-loop-k
invariant-loop-k l = (rows : List Row) → AllZip (λ g column. IsColumn g l.to (landed_there l.to l.targets rows) column) l.aggregates l.columns
    → AllZip (λ g state. StandsFor g (landed_at (landed_there l.to l.targets rows) (place_of l.to l.place)) state) (take l.k l.aggregates) l.states

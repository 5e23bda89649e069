use Rattle.std.proofs.Common.{take}
use Rattle.agg_states.specs.Stands.{StandsFor}
use Rattle.window_overlap.specs.Inner.Runs.{rows_of}
use Rattle.window_overlap.proofs.chunks.states.state_of.Given as goal

abbrev pub invariant-loop-run : goal.invariant-loop-run
invariant-loop-run l = StandsFor l.aggregate (rows_of l.rows (take l.run-index l.runs)) l.state

use Rattle.test_stores.specs.Runs.{IsRun}
use Rattle.test_commits.proofs.steps.push_steps.Given as goal

abbrev pub invariant-loop-line : goal.invariant-loop-line
invariant-loop-line g l = IsRun l.run

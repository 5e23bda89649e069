use Rattle.test_disks.specs.Pairs.{IsPair}
use Rattle.test_commits.proofs.commits.runs.push_steps.Given as goal

abbrev pub invariant-loop-line : goal.invariant-loop-line
invariant-loop-line g l = IsPair l.bench.pair

use Rattle.event_core.proofs.Runs.{step_allowed, step_core}
use Rattle.test_changes.proofs.steps.push_steps.Goals as goal

pub push_step-requires-clause-allowed : goal.push_step-requires-clause-allowed
push_step-requires-clause-allowed c =
    step_allowed c.args.base.now c.loop-entry.core c.args.entries.now c.loop-entry.entry-index c.entry-item.result c.loop-entry-test.true c.entry-item.is c.loop-entry.invariant c.requires.allowed

pub loop-entry-preserved : goal.loop-entry-preserved
loop-entry-preserved c =
    step_core c.args.base.now c.loop-entry.core c.args.entries.now c.loop-entry.entry-index c.entry-item.result c.loop-entry-test.true c.entry-item.is c.loop-entry.invariant _ c.in_ok-push_step.ensures

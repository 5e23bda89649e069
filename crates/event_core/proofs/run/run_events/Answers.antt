use Rattle.std.proofs.Common.{◌∙◌, reverse, ap}
use Rattle.std.proofs.lemmas.List.{take_all}
use Rattle.event_core.specs.Replay.{core_at}
use Rattle.event_core.proofs.Runs.{step_allowed, step_core}
use Rattle.event_core.proofs.Steps.{core_start}
use Rattle.event_core.proofs.run.run_events.Goals as goal

pub loop-entry-init : goal.loop-entry-init
loop-entry-init c = c.in_ok-core.ensures ∙ core_start c.args.base.now c.requires.base

pub advance-requires-clause-allowed : goal.advance-requires-clause-allowed
advance-requires-clause-allowed c =
    step_allowed c.args.base.now c.loop-entry.core c.args.entries.now c.loop-entry.entry-index c.entry-item.result c.loop-entry-test.true c.entry-item.is c.loop-entry.invariant c.requires.allowed

pub loop-entry-preserved : goal.loop-entry-preserved
loop-entry-preserved c =
    step_core c.args.base.now c.loop-entry.core c.args.entries.now c.loop-entry.entry-index c.entry-item.result c.loop-entry-test.true c.entry-item.is c.loop-entry.invariant _ c.in_ok-advance.ensures.ok

pub returns : goal.returns
returns c =
    c.loop-entry.invariant
    ∙ ap (λ entries. core_at c.args.base.now (reverse entries)) (take_all c.loop-entry.entry-index c.args.entries.now c.loop-entry-test.false)

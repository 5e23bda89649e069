use Rattle.std.proofs.Common.{◌∙◌, ap, sym}
use Rattle.event_core.specs.Replay.{core_after}
use Rattle.event_core.proofs.Steps.{core_step}
use Rattle.event_core.proofs.run.step.Goals as goal

pub returns-clause-after : goal.returns-clause-after
returns-clause-after c = c.in_ok-advance.ensures.ok ∙ ap (λ k. core_after k c.args.entry.now) c.in_ok-next.ensures

pub returns-clause-history : goal.returns-clause-history
returns-clause-history c base h e =
    c.in_ok-advance.ensures.ok
    ∙ ap (λ k. core_after k c.args.entry.now) (c.in_ok-next.ensures ∙ e)
    ∙ sym (core_step base h c.args.entry.now)

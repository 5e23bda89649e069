use Rattle.event_core.proofs.Reaping.{unmarked, ok_goes_on}
use Rattle.event_core.proofs.reap.reaped.Goals as goal

pub returns : goal.returns
returns c =
    ok_goes_on c.others.result _ _
    (unmarked c.args.core.now c.in_ok-set.set c.mark_live.new.set c.in_ok-set.ensures c.mark_live.ensures.limit c.mark_live.ensures.pages)
    c.others.ensures

use Rattle.session_sources.proofs.HeldSteps.{begins_at, is_unheld}
use Rattle.session_sources.proofs.held.HeldSource.new.Goals as goal

pub invariant_of-result : goal.invariant_of-result
invariant_of-result g c =
    begins_at g.D.Disk.moment c.args.session c.of-lent.result.value c.args.turn c.new.result c.of-lent.ensures c.new.ensures c.requires

pub returns : goal.returns
returns g c = is_unheld c.args.session c.of-lent.result.value c.args.turn c.new.result c.of-lent.ensures c.new.ensures

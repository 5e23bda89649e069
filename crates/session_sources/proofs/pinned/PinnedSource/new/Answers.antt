use Rattle.std.proofs.Common.{arith}
use Rattle.session_sources.proofs.PinnedSteps.{begins_at, is_unread}
use Rattle.session_sources.proofs.pinned.PinnedSource.new.Goals as goal

pub invariant_of-result : goal.invariant_of-result
invariant_of-result g c =
    begins_at g.D.Disk.moment c.args.shared.now c.args.pinned.now c.of-lent.result.value c.args.seat c.new.result
    c.of-lent.ensures c.new.ensures c.requires.seat c.requires.pin (omega (arith, c.reads-read.ensures))

pub returns : goal.returns
returns g c = is_unread c.args.shared.now c.args.pinned.now c.of-lent.result.value c.args.seat c.new.result c.of-lent.ensures c.new.ensures

use Rattle.test_disks.proofs.Pairs.{pair_outlasts}
use Rattle.test_disks.proofs.stores.pairs.push_counts.Goals as goal

pub returns : goal.returns
returns c = pair_outlasts c.args.pair.now c.free_pages-free.new.self c.free_pages-free.ensures.same c.requires

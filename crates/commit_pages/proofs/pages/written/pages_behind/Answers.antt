use Rattle.commit_pages.proofs.Firsts.{later_ones}
use Rattle.commit_pages.proofs.pages.written.pages_behind.Goals as goal

pub returns : goal.returns
returns c = later_ones c.args.pages.now c.args.count c.min.result c.min.ensures

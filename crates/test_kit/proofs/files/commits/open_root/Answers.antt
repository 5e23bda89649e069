use Rattle.test_kit.proofs.Ready.{root_ready}
use Rattle.test_kit.proofs.files.commits.open_root.Goals as goal

pub open_written-requires-clause-ready : goal.open_written-requires-clause-ready
open_written-requires-clause-ready g c = root_ready c.args.file.now.slots c.write_root.new.self.slots c.args.root c.in-Ok.ensures.slots c.requires.target c.requires.laid.zeroed

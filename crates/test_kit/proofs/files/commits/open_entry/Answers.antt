use Rattle.test_kit.proofs.Ready.{entry_ready}
use Rattle.test_kit.proofs.files.commits.open_entry.Goals as goal

pub open_written-requires-clause-ready : goal.open_written-requires-clause-ready
open_written-requires-clause-ready g c = entry_ready c.args.file.now.slots c.write_record.new.self.slots c.args.at c.in-Ok.ensures.slots c.requires.target

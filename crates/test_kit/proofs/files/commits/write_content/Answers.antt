use Rattle.test_kit.proofs.Ready.{still_closed}
use Rattle.test_kit.proofs.files.commits.write_content.Goals as goal

pub returns-clause-closed : goal.returns-clause-closed
returns-clause-closed g c = still_closed c.args.file.now.slots c.write_chain.new.self.slots _ c.write_chain.ensures.slots c.requires.closed

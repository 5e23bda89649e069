use Rattle.test_kit.proofs.Ready.{still_laid}
use Rattle.test_kit.proofs.files.commits.write_catalogue.Goals as goal

pub returns-clause-laid : goal.returns-clause-laid
returns-clause-laid g c =
    still_laid c.args.file.now.slots c.write_chain.new.self.slots c.args.page c.args.log c.write_chain.ensures.slots c.requires.laid c.if-page-log.false

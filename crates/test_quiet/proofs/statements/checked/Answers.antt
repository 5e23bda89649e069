use Rattle.test_quiet.proofs.Checking.{checked_is}
use Rattle.test_quiet.proofs.statements.checked.Goals as goal

pub returns-in-Ok : goal.returns-in-Ok
returns-in-Ok c = checked_is c.args.names.now c.args.text.now c.args.tree.now c.in-Ok.typed c.requires.stored c.requires.fits c.in-Ok.ensures

use Rattle.std.proofs.Common.{sym, ap}
use Rattle.afl_trees.specs.Term.{Term}
use Rattle.afl_parser.specs.Inner.Machine.{Go}
use Rattle.afl_parser.specs.declared.frame.Focus.TheVariants.{Have}
use Rattle.afl_parser.proofs.reader.rename.Goals as goal

pub returns-in-Ok : goal.returns-in-Ok
returns-in-Ok c = ap (λ (t : Term). Go c.args.stack (Have t)) (sym c.in-Ok.ensures)

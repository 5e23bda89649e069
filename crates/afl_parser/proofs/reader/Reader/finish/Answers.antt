use Rattle.std.proofs.Common.{refl}
use Rattle.afl_parser.proofs.Unfinished.{none_finished}
use Rattle.afl_parser.proofs.reader.Reader.finish.Goals as goal

pub returns-in_default : goal.returns-in_default
returns-in_default c = (refl, none_finished c.args.self.stack c.args.self.focus c.in_default.not-Have c.in_default.not-Made)

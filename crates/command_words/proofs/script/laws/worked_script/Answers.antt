use Rattle.std.proofs.Common.{refl}
use Rattle.std.specs.Fmt.{digits}
use Rattle.command_words.proofs.script.laws.worked_script.Goals as goal

pub returns : goal.returns
unfolding digits
returns c = refl

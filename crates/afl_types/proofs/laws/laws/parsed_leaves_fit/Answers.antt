use Rattle.afl_types.proofs.ParsedLeaves.{parsed_leaves}
use Rattle.afl_types.proofs.laws.laws.parsed_leaves_fit.Goals as goal

pub returns : goal.returns
returns c = parsed_leaves

use Rattle.check_cellwise.proofs.PartLengths.{parts_are_told_by_lengths}
use Rattle.check_cellwise.proofs.laws.parts_are_told_by_lengths.Goals as goal

pub returns : goal.returns
returns c = parts_are_told_by_lengths

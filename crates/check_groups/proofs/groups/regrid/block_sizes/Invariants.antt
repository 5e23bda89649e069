use Rattle.std.proofs.Common.{◌≡◌, [], drop}
use Rattle.check_rules.specs.InTurn.{in_turn}
use Rattle.check_groups.specs.Blocks.{block_one}
use Rattle.check_groups.proofs.groups.regrid.block_sizes.Given as goal

abbrev pub invariant-loop-number : goal.invariant-loop-number
invariant-loop-number l = in_turn block_one l.sizes (drop l.number-index l.numbers) ≡ in_turn block_one [] l.numbers

use Rattle.std.proofs.Common.{◌≡◌, ◌∙◌, w64, FitsSigned, rules}
use Rattle.std.proofs.lemmas.Int.{to_z-of_z}
use Rattle.std.specs.Int.{saturate_signed}
use Rattle.logical_plan.specs.Groups.{block}
use Rattle.group_rows.proofs.KeyLaws.{exact_block}
use Rattle.group_rows.proofs.grouping.blocks.block_of.Goals as goal

pub returns : goal.returns
returns c =
    let d = c.args.dimension.now in
    let fits : FitsSigned w64 c.clamped_block.result = search rules in
    let low : FitsSigned w64 d.lo = search rules in
    let number : FitsSigned w64 c.args.number = c.ranges.number in
    let is : c.clamped_block.result ≡ saturate_signed w64 (block d.lo c.args.size c.args.number) = simp to_z-of_z at c.clamped_block.ensures in
    to_z-of_z w64 c.clamped_block.result fits ∙ is ∙ exact_block d c.args.size c.args.number c.requires.near c.requires.low c.requires.high

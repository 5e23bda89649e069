use Rattle.std.proofs.Common.{◌≡◌, ◌∙◌, pos, ◌+ℤ◌, ◌-ℤ◌, unsigned_abs, w64, FitsSigned, rules}
use Rattle.std.proofs.lemmas.Int.{to_z-of_z}
use Rattle.std.specs.Int.{saturate_signed}
use Rattle.group_rows.proofs.KeyLaws.{clamped}
use Rattle.group_rows.proofs.grouping.blocks.clamped_block.Goals as goal

pub returns : goal.returns
returns c =
    let low : FitsSigned w64 c.args.low = c.ranges.low in
    let number : FitsSigned w64 c.args.number = c.ranges.number in
    let fits : FitsSigned w64 c.saturating_add_unsigned.result = search rules in
    let far : c.abs_diff.result ≡ unsigned_abs (c.args.number -ℤ c.args.low) = simp to_z-of_z at c.abs_diff.ensures in
    let sum : c.saturating_add_unsigned.result ≡ saturate_signed w64 (c.args.low +ℤ pos c.unwrap_or.result) = simp to_z-of_z at c.saturating_add_unsigned.ensures in
    to_z-of_z w64 c.saturating_add_unsigned.result fits
    ∙ clamped c.args.low c.args.number c.args.size c.abs_diff.result c.unwrap_or.result c.checked_div.result _ far c.checked_div.ensures c.unwrap_or.ensures sum

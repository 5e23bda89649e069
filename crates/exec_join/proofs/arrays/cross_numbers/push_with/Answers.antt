use Rattle.std.proofs.Common.{◌<◌, ◌+◌, length, rules, arith}
use Rattle.std.proofs.lemmas.Grind.{common_steps}
use Rattle.exec_join.proofs.CrossPieceLaws.{too_long}
use Rattle.exec_join.proofs.arrays.cross_numbers.push_with.Goals as goal

pub returns-then-as_slice-others-gt6 : goal.returns-then-as_slice-others-gt6
returns-then-as_slice-others-gt6 c =
    let long : 6 < length c.args.front.now.items + length c.args.other.now.items = first_of (search rules, grind (arith, common_steps)) in
    too_long c.args.schema.now c.args.front.now.items c.args.other.now.items c.args.found.now c.requires long

use Rattle.std.proofs.Common.{◌-ℤ◌, rules}
use Rattle.std.proofs.lemmas.Int.{to_z-of_z}
use mir.Val.{SFits}
use mir.Syntax.{w64}
use Rattle.array_geom.proofs.cores.number_of.Goals as goal

pub returns : goal.returns
returns c =
    let number : SFits w64 c.args.x = c.ranges.x in
    let low : SFits w64 c.args.d.now.lo = search rules in
    let steps : SFits w64 (c.args.x -ℤ c.args.d.now.lo) = search rules in
    simp to_z-of_z

use Rattle.std.proofs.Common.{rules}
use Rattle.std.specs.Prelude.{int_le}
use Rattle.std.proofs.lemmas.Int.{to_z-of_z}
use mir.Val.{SFits}
use mir.Syntax.{w64}
use Rattle.array_geom.proofs.cores.share.Goals as goal

pub returns : goal.returns
returns c =
    let first = c.ranges.first in
    let last = c.ranges.last in
    let lo = c.ranges.lo in
    let hi = c.ranges.hi in
    let max : SFits w64 c.max.result = search rules in
    let min : SFits w64 c.min.result = search rules in
    let low = simp to_z-of_z at c.max.ensures.value in
    let high = simp to_z-of_z at c.min.ensures.value in
    simp to_z-of_z (λ i. int_le (low i) (high i))

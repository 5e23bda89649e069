use Rattle.std.proofs.Common.{◌∷◌, [], ◌++◌, map, refl}
use Rattle.redimension_exec.specs.Inner.Places.{origin}
use Rattle.redimension_exec.specs.Inner.Steps.{targets_of}
use Rattle.redimension_exec.proofs.StepLaws.{step_drops, step_lands}
use Rattle.redimension_exec.proofs.places.landing.next_of.Goals as goal

pub returns-in_ok-new-in-Ok-Some-clause-next : goal.returns-in_ok-new-in-Ok-Some-clause-next
returns-in_ok-new-in-Ok-Some-clause-next c = λ made counted.
    let new = c.in_ok-new-in-Ok-Some.new in
    let some = rw c.in-Ok-Some.is at c.in_ok-kind.ensures.landed (targets_of made) counted in
    let landed = rw c.in-Ok-Some.field-0-is at some in
    step_lands (map origin c.args.places.now) c.args.bounds.now (map origin c.args.values.now) made c.args.row.now c.land.new.counts c.in-Ok-Some.at new
    (made ++ new ∷ []) landed c.in_ok-new-in-Ok-Some.ensures refl

pub returns-in-Ok-None-clause-next : goal.returns-in-Ok-None-clause-next
returns-in-Ok-None-clause-next c = λ made counted.
    let none = rw c.in-Ok-None.is at c.in_ok-kind.ensures.landed (targets_of made) counted in
    let landed = rw c.in-Ok-None.field-0-is at none in
    step_drops (map origin c.args.places.now) c.args.bounds.now (map origin c.args.values.now) made c.args.row.now c.land.new.counts landed

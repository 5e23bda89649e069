use Rattle.std.proofs.Common.{◌≡◌, ◌≤◌, List, length, sym, subst}
use Rattle.std.proofs.lemmas.Result.{IfOk-weaker}
use Rattle.logical_plan.specs.Redimension.{origin_of}
use Rattle.redimension_exec.specs.declared.moving.Origins.{Origins}
use Rattle.redimension_exec.specs.declared.places.places.Place.{Place}
use Rattle.redimension_exec.proofs.FrontLaws.{few_places}
use Rattle.redimension_exec.proofs.moving.origins_of.Goals as goal

pub returns-clause-few : goal.returns-clause-few
returns-clause-few c =
    let places = c.in_ok-places.places in
    let few = few_places c.args.target.now c.as_slice.result.now (origin_of c.args.source.now) places c.requires c.as_slice.ensures c.in_ok-places.ensures in
    IfOk-weaker c.origins_with.result (λ (o : Origins). o.places ≡ places) (λ (o : Origins). length o.places ≤ 6)
    (λ o is. subst (λ (ps : List Place). length ps ≤ 6) (sym is) few) c.origins_with.ensures.places

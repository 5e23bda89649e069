use Rattle.std.proofs.Common.{◌≡◌, ◌∙◌, ℕ, List, Ok, subst}
use Rattle.check_groups.specs.Names.{dimension_one}
use Rattle.check_rules.proofs.Turns.{turn_on}
use Rattle.check_groups.proofs.names.dimension.dimension_places.Goals as goal

pub loop-name-preserved : goal.loop-name-preserved
loop-name-preserved c =
    let step = dimension_one c.args.dimensions.now in
    let one : step c.loop-name.places c.name-item.result ≡ Ok c.in_ok-place.place =
    subst (λ (places : List ℕ). step places c.name-item.result ≡ Ok c.in_ok-place.place) c.as_slice.ensures c.in_ok-place.ensures in
    rw c.in_ok-push.ensures.ok (turn_on step c.loop-name.places c.args.names.now c.loop-name.name-index c.name-item.result c.in_ok-place.place
    c.loop-name-test.true c.name-item.is one ∙ c.loop-name.invariant)

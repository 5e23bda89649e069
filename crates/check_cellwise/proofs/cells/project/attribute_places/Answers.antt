use Rattle.std.proofs.Common.{◌≡◌, ◌∙◌, ℕ, List, [], Ok, Err, subst}
use Rattle.check_cellwise.specs.Project.{projected_one}
use Rattle.check_rules.proofs.Turns.{turn_on}
use Rattle.check_rules.specs.Checked.{Answers}
use Rattle.check_rules.specs.InTurn.{in_turn}
use Rattle.check_cellwise.proofs.Stops.{handed_on, turn_stops}
use Rattle.check_cellwise.proofs.cells.project.attribute_places.Goals as goal

pub loop-name-preserved : goal.loop-name-preserved
loop-name-preserved c =
    let one : projected_one c.args.attributes.now c.loop-name.done c.name-item.result ≡ Ok c.in_ok-place.place =
    subst (λ (done : List ℕ). projected_one c.args.attributes.now done c.name-item.result ≡ Ok c.in_ok-place.place) c.as_slice.ensures c.in_ok-place.ensures in
    rw c.in_ok-push.ensures.ok (turn_on (projected_one c.args.attributes.now) c.loop-name.done c.args.names.now c.loop-name.name-index c.name-item.result c.in_ok-place.place
    c.loop-name-test.true c.name-item.is one ∙ c.loop-name.invariant)

pub returns-in_err-place : goal.returns-in_err-place
returns-in_err-place c =
    let fault = c.in_err-place.field-0.0 in
    let step = projected_one c.args.attributes.now in
    let broken : Answers {A = ℕ} (Err fault) (step c.loop-name.done c.name-item.result) =
    subst (λ (done : List ℕ). Answers {A = ℕ} (Err fault) (step done c.name-item.result)) c.as_slice.ensures c.in_err-place.ensures in
    handed_on c.from_residual.result fault (in_turn step [] c.args.names.now) c.from_residual.ensures.1
    (turn_stops step c.loop-name.done c.args.names.now c.loop-name.name-index c.name-item.result fault c.loop-name-test.true c.name-item.is broken c.loop-name.invariant)

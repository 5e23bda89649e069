use Rattle.session_answers.proofs.BehindPins.{pins_change_nothing}
use Rattle.session_answers.proofs.PinPlaces.{open_pins_are_entered}
use Rattle.session_answers.proofs.replies.laws.pins_are_entered.Goals as goal

pub returns : goal.returns
returns g c = record { entered = open_pins_are_entered _; behind = pins_change_nothing _ }

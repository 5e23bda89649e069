use Rattle.file_checking.proofs.WorkedChecks.{two_cells_are_sound, zeros_are_damaged}
use Rattle.file_checking.proofs.laws.worked_checks.Goals as goal

pub returns-clause-sound : goal.returns-clause-sound
returns-clause-sound c = two_cells_are_sound

pub returns-clause-damaged : goal.returns-clause-damaged
returns-clause-damaged c = zeros_are_damaged

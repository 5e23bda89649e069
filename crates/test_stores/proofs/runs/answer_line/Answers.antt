use Rattle.test_stores.proofs.runs.answer_line.Goals as goal

pub returns-in-Step-eq0-default : goal.returns-in-Step-eq0-default
returns-in-Step-eq0-default g c =
    record { untold = c.requires.untold; seats = c.requires.seats; first = c.answer.ensures; second = c.requires.second; third = c.requires.third; reaper = c.requires.reaper; room = c.requires.room }

pub returns-in-Step-eq1-default : goal.returns-in-Step-eq1-default
returns-in-Step-eq1-default g c =
    record { untold = c.requires.untold; seats = c.requires.seats; first = c.requires.first; second = c.answer-in-Step-eq1-default.ensures; third = c.requires.third; reaper = c.requires.reaper; room = c.requires.room }

pub returns-in-Step-eq2-default : goal.returns-in-Step-eq2-default
returns-in-Step-eq2-default g c =
    record { untold = c.requires.untold; seats = c.requires.seats; first = c.requires.first; second = c.requires.second; third = c.answer-in-Step-eq2-default.ensures; reaper = c.requires.reaper; room = c.requires.room }

pub returns-in-Reap : goal.returns-in-Reap
returns-in-Reap g c =
    record { untold = c.requires.untold; seats = c.requires.seats; first = c.requires.first; second = c.requires.second; third = c.requires.third; reaper = c.reap.ensures.seat; room = c.requires.room }

use Rattle.session_answers.proofs.Readings.{holds_versions}
use Rattle.session_answers.proofs.answers.pinned.read_source.Goals as goal

pub outcome_of-requires-clause-undamaged : goal.outcome_of-requires-clause-undamaged
outcome_of-requires-clause-undamaged g c κs within = c.requires.ready.undamaged

pub outcome_of-requires-clause-fit : goal.outcome_of-requires-clause-fit
outcome_of-requires-clause-fit g c κs within = c.requires.ready.fit

pub outcome_of-requires-clause-stored : goal.outcome_of-requires-clause-stored
outcome_of-requires-clause-stored g c κs within = c.requires.ready.stored

pub outcome_of-requires-clause-holds : goal.outcome_of-requires-clause-holds
outcome_of-requires-clause-holds g c κs within = holds_versions g.D.Disk.moment c.args.pinned.now c.args.source.now c.requires.ready.same

pub outcome_of-requires-clause-workers : goal.outcome_of-requires-clause-workers
outcome_of-requires-clause-workers g c κs within = c.requires.ready.workers

pub returns : goal.returns
returns g c =
    let e = c.outcome_of.ensures in
    record { lent = e.start; kind = e.kind; told = e.told; asked = e.asked; cause = e.cause; allowed = e.allowed }

use Rattle.session_answers.specs.Inner.Turns.{IsRead}
use Rattle.session_answers.proofs.Going.{asked_read, goes_on, keeps_both, keeps_read, pinned_read, read_by, start_holds, start_whole, tried_read}
use Rattle.session_answers.proofs.turns.held.answer_over.Goals as goal

pub outcome_of-outcome-requires-clause-undamaged : goal.outcome_of-outcome-requires-clause-undamaged
outcome_of-outcome-requires-clause-undamaged g c κs within =
    start_whole g.D.Disk.moment c.args.session c.args.turn c.new-source.result c.new-source.ensures c.args.names.now c.requires.names

pub outcome_of-outcome-requires-clause-holds : goal.outcome_of-outcome-requires-clause-holds
outcome_of-outcome-requires-clause-holds g c κs within =
    start_holds g.D.Disk.moment c.args.session c.args.turn c.new-source.result c.new-source.ensures c.args.names.now c.requires.names

pub answer_read-requires : goal.answer_read-requires
answer_read-requires g c =
    let moment = g.D.Disk.moment in
    let style = c.args.options.now.style in
    let o = c.outcome_of-outcome in
    let new = c.into_turn.result in
    let read : IsRead style moment c.args.session c.args.turn new c.args.text.now c.args.tree.now o.result =
    read_by moment c.args.session c.args.turn c.new-source.result c.new-source.ensures c.args.names.now c.requires.names style new o.new.source o.ensures.start
    c.into_turn.ensures.turn c.into_turn.ensures.held
    c.args.text.now c.args.tree.now o.result o.ensures.kind o.ensures.told o.ensures.cause o.ensures.allowed in record {
      pinned = pinned_read moment style c.args.session c.args.turn new c.requires.over.database c.args.text.now c.args.tree.now o.result read;
      tried = tried_read moment style c.args.session c.args.turn new c.requires.over.database c.args.text.now c.args.tree.now o.result read c.requires.over.tried;
      asked = asked_read moment style c.args.session c.args.turn new c.requires.over.database c.args.text.now c.args.tree.now o.result read;
    }

pub returns : goal.returns
returns g c =
    let moment = g.D.Disk.moment in
    let style = c.args.options.now.style in
    let o = c.outcome_of-outcome in
    let new = c.into_turn.result in
    let read : IsRead style moment c.args.session c.args.turn new c.args.text.now c.args.tree.now o.result =
    read_by moment c.args.session c.args.turn c.new-source.result c.new-source.ensures c.args.names.now c.requires.names style new o.new.source o.ensures.start
    c.into_turn.ensures.turn c.into_turn.ensures.held
    c.args.text.now c.args.tree.now o.result o.ensures.kind o.ensures.told o.ensures.cause o.ensures.allowed in record {
      keeps = keeps_both moment c.args.session c.args.turn new c.answer_read.result.1
          (keeps_read moment c.args.session c.args.turn new read.marks read.held) c.answer_read.ensures.keeps;
      goes = goes_on moment style c.args.session c.args.turn new c.answer_read.result.1 c.args.text.now c.args.tree.now c.answer_read.result.0
          o.result read c.answer_read.ensures.follows;
    }

pub outcome_of-outcome-requires-clause-fit : goal.outcome_of-outcome-requires-clause-fit
outcome_of-outcome-requires-clause-fit g c κs within = c.requires.over.fit

pub outcome_of-outcome-requires-clause-stored : goal.outcome_of-outcome-requires-clause-stored
outcome_of-outcome-requires-clause-stored g c κs within = c.requires.stored

pub outcome_of-outcome-requires-clause-workers : goal.outcome_of-outcome-requires-clause-workers
outcome_of-outcome-requires-clause-workers g c κs within = c.requires.over.workers

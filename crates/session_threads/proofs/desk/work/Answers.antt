use Rattle.std.proofs.Common.{◌∙◌, sym, subst}
use Rattle.session_threads.specs.Inner.Desks.{IsWaiting}
use Rattle.session_threads.proofs.desk.work.Goals as goal

pub serve-report-requires-clause-seat : goal.serve-report-requires-clause-seat
serve-report-requires-clause-seat g c κs within =
    let waiting = subst (IsWaiting c.args.shared.now) (sym c.replace.ensures.value ∙ c.in-Waiting.is) c.requires.waits in
    (waiting.0.of_store, waiting.0.idle)

pub serve-report-requires-clause-begun : goal.serve-report-requires-clause-begun
serve-report-requires-clause-begun g c κs within =
    let waiting = subst (IsWaiting c.args.shared.now) (sym c.replace.ensures.value ∙ c.in-Waiting.is) c.requires.waits in
    waiting.1

pub serve-report-requires-clause-workers : goal.serve-report-requires-clause-workers
serve-report-requires-clause-workers g c κs within = (c.requires.some, c.requires.few)

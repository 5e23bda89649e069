use Rattle.std.proofs.Common.{ℕ, List, Option, None, refl}
use Rattle.afl_outside.specs.Shelf.{ShelfState}
use Rattle.afl_outside.specs.Inner.Records.{SureBytes, sure_disk_moment}
use Rattle.event_core.specs.declared.entry.Entry.{Entry}
use Rattle.run_opening.specs.declared.reports.notices.Notice.{Notice}
use Rattle.run_opening.specs.declared.reports.notices.Notice.TheVariants.{Memory}
use Rattle.run_opening.specs.declared.reports.reports.SessionReport.{SessionReport}
use Rattle.afl_run.specs.Run.{RunsTry}
use Rattle.afl_run.proofs.StandardLemmas.{tries_not}
use Rattle.afl_run.proofs.StreamsLemmas.{reported}
use Rattle.afl_run.proofs.standard.run_try.Goals as goal

pub returns-in-Err-standard_name-clause-runs : goal.returns-in-Err-standard_name-clause-runs
returns-in-Err-standard_name-clause-runs g c =
    let source = g.F.S.Source.state in
    let sink = g.F.K.Sink.state in
    let state = g.F.Shelf.state in
    let old = state c.args.shelf in
    let r = c.unrun.result in
    let e = c.unrun.ensures in
    reported state
    (λ (now : ShelfState) (n : Notice) (h : List Entry) (reports : List (SessionReport g.row.F-S.Denot g.row.F-K.Denot)) (f : ℕ) (d : Option SureBytes).
    RunsTry sure_disk_moment source sink old now n h reports f)
    r.shelf c.args.shelf r.notice Memory r.history _ r.sessions _ r.free_pages _ None None
    e.shelf e.notice e.history e.sessions e.free_pages refl (tries_not source sink old)

pub returns-in-Err-clause-runs : goal.returns-in-Err-clause-runs
returns-in-Err-clause-runs g c =
    let source = g.F.S.Source.state in
    let sink = g.F.K.Sink.state in
    let state = g.F.Shelf.state in
    let old = state c.args.shelf in
    let r = c.unrun-in-Err.result in
    let e = c.unrun-in-Err.ensures in
    reported state
    (λ (now : ShelfState) (n : Notice) (h : List Entry) (reports : List (SessionReport g.row.F-S.Denot g.row.F-K.Denot)) (f : ℕ) (d : Option SureBytes).
    RunsTry sure_disk_moment source sink old now n h reports f)
    r.shelf c.args.shelf r.notice Memory r.history _ r.sessions _ r.free_pages _ None None
    e.shelf e.notice e.history e.sessions e.free_pages refl (tries_not source sink old)

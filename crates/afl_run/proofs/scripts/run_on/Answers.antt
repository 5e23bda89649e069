use Rattle.std.proofs.Common.{◌≤◌, ℕ, List, Option, sym, subst}
use Rattle.afl_outside.specs.Shelf.{ShelfState}
use Rattle.event_core.specs.declared.entry.Entry.{Entry}
use Rattle.run_opening.specs.Opened.{IsOpenedFor}
use Rattle.run_opening.specs.declared.reports.notices.Notice.{Notice}
use Rattle.run_opening.specs.declared.reports.reports.SessionReport.{SessionReport}
use Rattle.afl_run.specs.Inner.Streams.{RunsOn}
use Rattle.afl_run.proofs.StreamsLemmas.{begun, fails_or_memory, on_ran, on_unopened, reported, zip_length}
use Rattle.afl_run.proofs.scripts.run_on.Goals as goal

pub run_over-run-requires-clause-count : goal.run_over-run-requires-clause-count
run_over-run-requires-clause-count g c κs within =
    subst (λ (n : ℕ). (1 ≤ n) × (n ≤ 16))
    (sym (zip_length (IsOpenedFor g.F.S.Source.state g.F.K.Sink.state (g.F.Shelf.state c.args.shelf)) c.args.scripts.now c.in-Ok.streams c.in-Ok.ensures.opened))
    c.requires.count

pub run_over-run-requires-clause-begun : goal.run_over-run-requires-clause-begun
run_over-run-requires-clause-begun g c κs within =
    begun g.F.S.Source.state g.F.K.Sink.state (g.F.Shelf.state c.args.shelf) c.args.scripts.now c.in-Ok.streams c.in-Ok.ensures.opened

pub returns-in-Ok-clause-runs : goal.returns-in-Ok-clause-runs
returns-in-Ok-clause-runs g c =
    let moment = g.F.Device.Disk.moment in
    let source = g.F.S.Source.state in
    let sink = g.F.K.Sink.state in
    let state = g.F.Shelf.state in
    let old = state c.args.shelf in
    let scripts = c.args.scripts.now in
    let limits = c.args.limits in
    let run = c.run_over-run.result in
    let r = c.report_of.result in
    let e = c.report_of.ensures in
    let s = c.in-Ok.ensures in
    reported state
    (λ (now : ShelfState) (n : Notice) (h : List Entry) (reports : List (SessionReport g.row.F-S.Denot g.row.F-K.Denot)) (f : ℕ) (d : Option g.row.F-Device.Denot).
    RunsOn c.args.options.style moment source sink old now n h reports f c.args.disk scripts limits.pages limits.history d)
    r.shelf c.open_streams.new.shelf r.notice run.notice r.history run.history r.sessions run.sessions r.free_pages run.free_pages r.disk _
    e.shelf e.notice e.history e.sessions e.free_pages e.disk
    (on_ran c.args.options.style moment source sink old (state c.open_streams.new.shelf) c.args.disk scripts limits s.others c.in-Ok.streams run s.opened s.handed c.requires.count.0
    c.requires.begun c.run_over-run.ensures.same c.run_over-run.ensures.run)

pub returns-in-Err-clause-runs : goal.returns-in-Err-clause-runs
returns-in-Err-clause-runs g c =
    let moment = g.F.Device.Disk.moment in
    let source = g.F.S.Source.state in
    let sink = g.F.K.Sink.state in
    let state = g.F.Shelf.state in
    let old = state c.args.shelf in
    let scripts = c.args.scripts.now in
    let limits = c.args.limits in
    let r = c.unrun.result in
    let e = c.unrun.ensures in
    let s = c.in-Err.ensures in
    reported state
    (λ (now : ShelfState) (n : Notice) (h : List Entry) (reports : List (SessionReport g.row.F-S.Denot g.row.F-K.Denot)) (f : ℕ) (d : Option g.row.F-Device.Denot).
    RunsOn c.args.options.style moment source sink old now n h reports f c.args.disk scripts limits.pages limits.history d)
    r.shelf c.open_streams.new.shelf r.notice c.in-Err.notice r.history _ r.sessions _ r.free_pages _ r.disk _
    e.shelf e.notice e.history e.sessions e.free_pages e.disk
    (on_unopened c.args.options.style moment source sink old (state c.open_streams.new.shelf) c.args.disk scripts limits s.others c.in-Err.notice s.some (fails_or_memory s.cause) s.first c.is_unmoved.ensures)

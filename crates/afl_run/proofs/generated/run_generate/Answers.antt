use Rattle.std.proofs.Common.{[], None}
use Rattle.command_words.specs.Script.{script}
use Rattle.run_opening.specs.declared.reports.notices.Notice.TheVariants.{Memory}
use Rattle.afl_run.proofs.GeneratedLemmas.{generated_reported, generates_not}
use Rattle.afl_run.proofs.generated.run_generate.Goals as goal

pub returns-in-Ok-clause-runs : goal.returns-in-Ok-clause-runs
returns-in-Ok-clause-runs g c = c.run_prepared.ensures.runs (script c.args.number) c.in-Ok.ensures.source

pub returns-in-Err-clause-runs : goal.returns-in-Err-clause-runs
returns-in-Err-clause-runs g c =
    let state = g.F.Shelf.state in
    let r = c.unrun.result in
    let e = c.unrun.ensures in
    generated_reported state g.F.K.Sink.state (state c.args.shelf) (script c.args.number) r.shelf c.args.shelf r.notice Memory r.history [] r.generated None r.free_pages 0
    e.shelf e.notice e.history e.generated e.free_pages (generates_not g.F.K.Sink.state (state c.args.shelf) (script c.args.number))

use Rattle.std.proofs.Common.{◌+◌, length, sym, subst}
use Rattle.csv_scripts.specs.Conversion.{HasRecordValues, records_of}
use Rattle.csv_scripts.specs.Loads.{IsLoading}
use Rattle.csv_scripts.specs.declared.loader.Loader.{Loader}
use Rattle.csv_scripts.proofs.Conversions.{ended}
use Rattle.csv_scripts.proofs.conversion.Progress.end_load.Goals as goal

pub returns-clause-loaded : goal.returns-clause-loaded
returns-clause-loaded g c is_bare null places fields before s =
    let plan = c.args.plan.now in
    let from = 2 + length (records_of s.loads) in
    let full = c.replace-full.result in
    let loading : IsLoading plan from full.batch.text full.batch.first full.batch.count full.versions s.script s.rows
    = subst (λ (l : Loader). IsLoading plan from l.batch.text l.batch.first l.batch.count l.versions s.script s.rows) (sym c.replace-full.ensures.value) s.is_loading in
    let done = c.in_ok-finish_load.ensures from s.script s.rows loading in
    ended plan (HasRecordValues plan is_bare null places) fields c.args.self.now.number c.args.self.now.loader before (g.W.Write.contents c.args.out.now)
    (g.W.Write.contents c.finish_load.new.out) done.0 s done.1 done.2

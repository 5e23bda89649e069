use Rattle.csv_scripts.specs.Conversion.{HasRecordValues}
use Rattle.csv_scripts.proofs.Conversions.{goes_on, on_ok_two}
use Rattle.csv_scripts.proofs.conversion.Progress.make_room.Goals as goal

pub returns-then-self-rows-clause-converting : goal.returns-then-self-rows-clause-converting
returns-then-self-rows-clause-converting g c is_bare null places fields before s =
    let plan = c.args.plan.now in
    on_ok_two c.end_load.result
    (goes_on plan (HasRecordValues plan is_bare null places) fields c.end_load.new.self.number c.end_load.new.self.loader before (g.W.Write.contents c.end_load.new.out))
    (c.end_load.ensures.loaded is_bare null places fields before s) (c.end_load.ensures.loader plan)

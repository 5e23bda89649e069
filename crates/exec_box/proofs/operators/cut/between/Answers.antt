use Rattle.array_parts.proofs.PartLemmas.{cuts_are_local}
use Rattle.exec_box.proofs.operators.cut.between.Goals as goal

pub over_array-requires-clause-local : goal.over_array-requires-clause-local
over_array-requires-clause-local g c κs lives = cuts_are_local c.args.area.now

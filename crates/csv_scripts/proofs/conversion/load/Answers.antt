use Rattle.std.proofs.lemmas.Result.{on_ok_weaker}
use Rattle.csv_scripts.proofs.conversion.load.Goals as goal

pub returns-in-Ok : goal.returns-in-Ok
returns-in-Ok g c from script rows s = on_ok_weaker c.put.result (λ written. (c.in-Ok.text, written, c.in-Ok.ensures from script rows s)) c.put.ensures

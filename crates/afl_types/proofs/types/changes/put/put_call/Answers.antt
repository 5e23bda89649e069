use Rattle.std.proofs.Common.{Ok, ap, sym, ◌∙◌}
use Rattle.plan_changes.specs.declared.change.Change.{Change}
use Rattle.check_rules.specs.Checked.{Checked, then}
use Rattle.afl_types.specs.Inner.Putting.{put_change}
use Rattle.afl_types.specs.declared.types.changes.put.Target.{Target}
use Rattle.afl_types.proofs.types.changes.put.put_call.Goals as goal

pub returns-in-Ok : goal.returns-in-Ok
returns-in-Ok c =
    let put : Target → Checked Change = λ target. Ok (put_change c.args.putting target c.args.plan) in
    ap (λ (checked : Checked Target). then checked put) c.in-Ok.ensures ∙ ap (λ (change : Change). Ok change) (sym c.put_change.ensures)

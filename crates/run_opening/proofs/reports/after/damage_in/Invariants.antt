use Rattle.std.proofs.Common.{◌≡◌, drop}
use Rattle.run_opening.specs.Outcomes.{damage_in}
use Rattle.run_opening.proofs.reports.after.damage_in.Given as goal

abbrev pub invariant-loop-mark : goal.invariant-loop-mark
invariant-loop-mark l = damage_in l.marks ≡ damage_in (drop l.mark-index l.marks)

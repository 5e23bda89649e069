use Rattle.std.proofs.Common.{◌≡◌, drop}
use Rattle.run_opening.specs.Outcomes.{first_damage}
use Rattle.run_opening.proofs.reports.after.damage_of.Given as goal

abbrev pub invariant-loop-session : goal.invariant-loop-session
invariant-loop-session g l = first_damage l.sessions ≡ first_damage (drop l.session-index l.sessions)

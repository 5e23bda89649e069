use Rattle.std.proofs.Common.{ap, ◌∙◌}
use Rattle.run_opening.specs.Outcomes.{damage_in}
use Rattle.run_opening.proofs.OutcomeLemmas.{first_here, first_nowhere, first_past}
use Rattle.run_opening.proofs.reports.after.damage_of.Goals as goal

pub loop-session-preserved : goal.loop-session-preserved
loop-session-preserved g c =
    first_past (λ r. damage_in r.marks) c.args.sessions.now c.loop-session.session-index c.loop-session.invariant c.session-item.result c.loop-session-test.true
    c.session-item.is (c.in_default.ensures ∙ ap damage_in c.as_slice.ensures)

pub returns-in-Some : goal.returns-in-Some
returns-in-Some g c =
    first_here (λ r. damage_in r.marks) c.args.sessions.now c.loop-session.session-index c.loop-session.invariant c.session-item.result c.in-Some.page
    c.loop-session-test.true c.session-item.is (c.in-Some.ensures ∙ ap damage_in c.as_slice.ensures)

pub returns : goal.returns
returns g c = first_nowhere (λ r. damage_in r.marks) c.args.sessions.now c.loop-session.session-index c.loop-session.invariant c.loop-session-test.false

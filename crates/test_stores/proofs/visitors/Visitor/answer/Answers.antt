use Rattle.std.proofs.Common.{◌∙◌, subst, sym}
use Rattle.test_stores.specs.Visits.{IsHeld}
use Rattle.test_stores.proofs.Seeing.{visits_on}
use Rattle.test_stores.proofs.visitors.Visitor.answer.Goals as goal
use Rattle.test_stores.proofs.visitors.Visitor.answer.Goals.{in-Free, in-Pinned, in-Tried}

pub free_step-requires-clause-free : goal.free_step-requires-clause-free
free_step-requires-clause-free g c κs within =
    let held = IsHeld g.D.Disk.moment c.args.shared.now c.args.self.now.seat in
    let none = subst held (sym c.replace-held.ensures.value ∙ c.in-Free.is) c.requires.here.held in
    record { here = c.requires.here.here; idle = c.requires.here.idle; none = none }

pub pinned_step-requires-clause-pin : goal.pinned_step-requires-clause-pin
pinned_step-requires-clause-pin g c κs within =
    let held = IsHeld g.D.Disk.moment c.args.shared.now c.args.self.now.seat in
    subst held (sym c.replace-held.ensures.value ∙ c.in-Pinned.is) c.requires.here.held

pub used_step-requires-clause-pin : goal.used_step-requires-clause-pin
used_step-requires-clause-pin g c =
    let held = IsHeld g.D.Disk.moment c.args.shared.now c.args.self.now.seat in
    subst held (sym c.replace-held.ensures.value ∙ c.in-Tried.is) c.requires.here.held

pub returns : goal.returns
returns g c =
    let visits = visits_on g.D.Disk.moment c.args.shared.now c.match-held.self in
    elim c.match-held.branch [
      | in-Free w ↦ visits _ c.match-held.held w.free_step.result w.self-is w.held-is w.free_step.ensures.seat w.free_step.ensures.held
      | in-Pinned w ↦ visits _ c.match-held.held w.pinned_step.result w.self-is w.held-is w.pinned_step.ensures.seat w.pinned_step.ensures.held
      | in-Tried w ↦ visits _ c.match-held.held w.used_step.result w.self-is w.held-is w.used_step.ensures.seat w.used_step.ensures.held
    ]

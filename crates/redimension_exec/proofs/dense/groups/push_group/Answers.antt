use Rattle.std.proofs.Common.{◌∙◌, sym}
use Rattle.redimension_exec.proofs.GridGroups.{group_passed, group_pushed}
use Rattle.redimension_exec.proofs.dense.groups.push_group.Goals as goal

pub returns-in_ok-push : goal.returns-in_ok-push
returns-in_ok-push c = λ rows rise many zip upto.
    group_pushed c.args.aggregates.now c.args.to.now c.args.targets.now rows c.args.place c.args.groups.now c.requires.grid c.requires.inside c.requires.below rise upto _ c.push.new.self
    c.place-at.ensures many (sym (c.requires.marks.each c.args.place c.requires.inside) ∙ c.if-marks-place.true) (c.in_ok-states.ensures rows zip) c.in_ok-push.ensures.ok

pub returns-else-marks-place : goal.returns-else-marks-place
returns-else-marks-place c = λ rows rise many zip upto.
    group_passed c.args.aggregates.now c.args.to.now c.args.targets.now rows c.args.place c.args.groups.now c.requires.grid c.requires.inside c.requires.below rise upto
    (sym (c.requires.marks.each c.args.place c.requires.inside) ∙ c.if-marks-place.false)

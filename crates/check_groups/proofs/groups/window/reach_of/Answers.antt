use Rattle.std.proofs.Common.{◌∙◌}
use Rattle.check_groups.specs.Windows.{reach_one}
use Rattle.check_rules.proofs.Turns.{pairs_turn}
use Rattle.check_groups.proofs.groups.window.reach_of.Goals as goal

pub loop-left-preserved : goal.loop-left-preserved
loop-left-preserved c =
    rw c.in_ok-push.ensures.ok (pairs_turn reach_one c.loop-left.done c.loop-left.left.now c.before-item.result c.after-item.result c.in_ok-reach.reach
    c.in-len2-up.len_at_least c.before-item.is c.after-item.is c.in_ok-reach.ensures ∙ c.loop-left.invariant)

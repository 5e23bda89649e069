use Rattle.std.proofs.Common.{length}
use Rattle.plan_needs.proofs.boxes.+are_near.Given as goal

abbrev pub decreases-are_near : goal.decreases-are_near
decreases-are_near l = length l.reach.now

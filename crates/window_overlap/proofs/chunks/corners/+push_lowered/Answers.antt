use Rattle.std.proofs.Common.{ℤ, pos, ◌-ℤ◌, rules}
use Rattle.std.specs.Int.{w64, saturate_signed}
use Rattle.array_geom.proofs.Pairs.{no_pairs}
use Rattle.logical_plan.specs.declared.parts.Reach.{Reach}
use Rattle.window_overlap.proofs.ReachFronts.{no_reach, reach_pushed}
use Rattle.window_overlap.proofs.chunks.corners.+push_lowered.Goals as goal

pub returns-in-len1-up-reach : goal.returns-in-len1-up-reach
returns-in-len1-up-reach t c =
    reach_pushed (λ (x : ℤ) (r : Reach). saturate_signed w64 (x -ℤ pos r.before)) c.args.at.now c.args.reach.now _ _ _ _ c.in-len1-up.len_at_least
    c.in-len1-up-reach.len_at_least c.push.ensures.items c.push_lowered.ensures (search rules)

pub returns-in-empty-reach : goal.returns-in-empty-reach
returns-in-empty-reach t c =
    no_reach (λ (x : ℤ) (r : Reach). saturate_signed w64 (x -ℤ pos r.before)) c.args.at.now c.args.reach.now c.args.out.now.items c.in-empty-reach.len_below

pub returns-in-empty : goal.returns-in-empty
returns-in-empty t c =
    no_pairs (λ (x : ℤ) (r : Reach). saturate_signed w64 (x -ℤ pos r.before)) c.args.at.now c.args.reach.now c.args.out.now.items c.in-empty.len_below

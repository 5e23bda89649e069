use Rattle.std.proofs.Common.{ℤ, pos, ◌+ℤ◌, rules}
use Rattle.array_geom.specs.Inner.Ranges.{IsLow}
use Rattle.array_geom.proofs.Fronts.{all_head, all_rest, room_left, shorter}
use Rattle.array_geom.proofs.Pairs.{no_pairs}
use Rattle.logical_plan.specs.declared.parts.Reach.{Reach}
use Rattle.window_overlap.proofs.ReachFronts.{IsShort, no_reach, reach_pushed}
use Rattle.window_overlap.proofs.chunks.corners.+push_high.Goals as goal

pub push_high-requires : goal.push_high-requires
push_high-requires t c =
    let less = shorter c.args.at.now c.in-len1-up.len_at_least in
    let room = room_left c.args.out.now.items c.push.new.self.items _ c.args.at.now c.in-len1-up.len_at_least c.push.ensures.items c.requires.room in
    let low = all_rest IsLow c.args.at.now c.in-len1-up.len_at_least c.requires.low in
    let short = all_rest IsShort c.args.reach.now c.in-len1-up-reach.len_at_least c.requires.short in
    (search rules, (room, (low, short)))

pub high_of-requires-clause-low : goal.high_of-requires-clause-low
high_of-requires-clause-low t c = let low = all_head IsLow c.args.at.now (pos 0) c.in-len1-up.len_at_least c.requires.low in search rules

pub high_of-requires-clause-short : goal.high_of-requires-clause-short
high_of-requires-clause-short t c =
    (all_head IsShort c.args.reach.now _ c.in-len1-up-reach.len_at_least c.requires.short).1

pub returns-in-len1-up-reach : goal.returns-in-len1-up-reach
returns-in-len1-up-reach t c =
    reach_pushed (λ (x : ℤ) (r : Reach). x +ℤ pos r.after) c.args.at.now c.args.reach.now _ _ _ _ c.in-len1-up.len_at_least
    c.in-len1-up-reach.len_at_least c.push.ensures.items c.push_high.ensures (search rules)

pub returns-in-empty-reach : goal.returns-in-empty-reach
returns-in-empty-reach t c =
    no_reach (λ (x : ℤ) (r : Reach). x +ℤ pos r.after) c.args.at.now c.args.reach.now c.args.out.now.items c.in-empty-reach.len_below

pub returns-in-empty : goal.returns-in-empty
returns-in-empty t c =
    no_pairs (λ (x : ℤ) (r : Reach). x +ℤ pos r.after) c.args.at.now c.args.reach.now c.args.out.now.items c.in-empty.len_below

use Rattle.std.proofs.Common.{pos, get_or, ◌∷◌, ◌∙◌, rules}
use Rattle.std.proofs.lemmas.Int.{to_z-of_z}
use mir.Val.{SFits}
use mir.Syntax.{w64}
use Rattle.window_overlap.proofs.FollowLaws.{follows_low, same_at, more_at}
use Rattle.window_overlap.proofs.chunks.skips.+following.Goals as goal

pub returns-then-first-first_low-clause-follows : goal.returns-then-first-first_low-clause-follows
returns-then-first-first_low-clause-follows t c = follows_low c.args.low.now c.args.high.now c.args.at.now c.coord_of-then-first-first_low.result c.coord_of-then-first-first_low.ensures

pub returns-in-empty-at-clause-follows : goal.returns-in-empty-at-clause-follows
returns-in-empty-at-clause-follows t c = follows_low c.args.low.now c.args.high.now c.args.at.now c.coord_of.result c.coord_of.ensures

pub returns-in-Some-clause-follows : goal.returns-in-Some-clause-follows
returns-in-Some-clause-follows t c =
    let fits : SFits w64 (get_or c.args.at.now 0 (pos 0)) = search rules in
    same_at c.args.low.now c.args.high.now c.args.at.now c.in-Some.next c.behind.result c.in-len1-up.len_at_least c.in-len1-up-high.len_at_least c.in-len1-up-at.len_at_least c.in-Some.ensures.follows (simp to_z-of_z at c.behind.ensures)

pub returns-in-None-clause-follows : goal.returns-in-None-clause-follows
returns-in-None-clause-follows t c =
    let fits : SFits w64 (get_or c.args.at.now 0 (pos 0)) = search rules in
    let made : SFits w64 c.next_number.result = search rules in
    more_at c.args.low.now c.args.high.now c.args.at.now c.behind-in-None.result c.in-len1-up.len_at_least c.in-len1-up-high.len_at_least c.in-len1-up-at.len_at_least c.in-None.ensures.follows
    ((simp to_z-of_z at c.behind-in-None.ensures) ∙ (λ i. (simp to_z-of_z at c.next_number.ensures) i ∷ c.coord_of-in-None.ensures i))

use Rattle.std.proofs.Common.{Some, None}
use Rattle.window_overlap.proofs.FollowLaws.{follows_for, skips_some, skips_all}
use Rattle.window_overlap.proofs.chunks.skips.count_outside.Goals as goal

pub returns-in-Some-clause-outside : goal.returns-in-Some-clause-outside
returns-in-Some-clause-outside c =
    skips_some c.args.area.now c.args.rows.now c.first-item.result c.in-Some.next c.count_before.result c.in-len1-up.len_at_least c.first-item.is c.requires.rising c.requires.outside
    (follows_for c.as_slice.result.now _ c.as_slice-in-len1-up.result.now _ c.as_slice-in-len1-up-2.result.now _ (Some c.in-Some.next) c.as_slice.ensures.value c.as_slice-in-len1-up.ensures.value c.as_slice-in-len1-up-2.ensures.value c.in-Some.ensures.follows)
    c.count_before.ensures.before

pub returns-in-None-clause-outside : goal.returns-in-None-clause-outside
returns-in-None-clause-outside c =
    skips_all c.args.area.now c.args.rows.now c.first-item.result c.in-len1-up.len_at_least c.first-item.is c.requires.rising c.requires.outside
    (follows_for c.as_slice.result.now _ c.as_slice-in-len1-up.result.now _ c.as_slice-in-len1-up-2.result.now _ None c.as_slice.ensures.value c.as_slice-in-len1-up.ensures.value c.as_slice-in-len1-up-2.ensures.value c.in-None.ensures.follows)

use Rattle.std.proofs.Common.{ℤ, ◌+ℤ◌, get_or, pos, rules}
use Rattle.array_geom.proofs.Fronts.{get_first, moved_fit, room_left, shorter}
use Rattle.array_geom.proofs.Pairs.{pairs_pushed, no_pairs}
use Rattle.array_geom.proofs.boxes.+push_moved.Goals as goal

pub push_moved-requires : goal.push_moved-requires
push_moved-requires t c =
    let less = shorter c.args.at.now c.in-len1-up.len_at_least in
    let room = room_left c.args.out.now.items c.push.new.self.items _ c.args.at.now c.in-len1-up.len_at_least c.push.ensures.items c.requires.room in
    let fit = (moved_fit c.args.at.now c.args.by.now c.in-len1-up.len_at_least c.in-len1-up-by.len_at_least c.requires.in_range).1 in
    (search rules, (room, fit))

pub returns-in-len1-up-by : goal.returns-in-len1-up-by
returns-in-len1-up-by t c =
    pairs_pushed (λ (x n : ℤ). x +ℤ n) c.args.at.now c.args.by.now (get_or c.args.at.now 0 (pos 0)) (pos 0) _ _ _ _ c.in-len1-up.len_at_least
    c.in-len1-up-by.len_at_least (get_first c.args.at.now (pos 0) c.in-len1-up.len_at_least) c.push.ensures.items c.push_moved.ensures
    (search rules)

pub overflow_add-x : goal.overflow_add-x
overflow_add-x t c =
    let fits = (moved_fit c.args.at.now c.args.by.now c.in-len1-up.len_at_least c.in-len1-up-by.len_at_least c.requires.in_range).0 in search rules

pub returns-in-empty : goal.returns-in-empty
returns-in-empty t c = no_pairs (λ (x n : ℤ). x +ℤ n) c.args.at.now c.args.by.now c.args.out.now.items c.in-empty.len_below

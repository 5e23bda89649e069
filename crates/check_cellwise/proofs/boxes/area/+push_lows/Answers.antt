use Rattle.std.proofs.Common.{rules}
use Rattle.check_cellwise.specs.Boxes.{low_bound}
use Rattle.check_cellwise.proofs.PairFronts.{no_first, no_second, pushed, room_left, shorter}
use Rattle.check_cellwise.proofs.boxes.area.+push_lows.Goals as goal

pub push_lows-requires : goal.push_lows-requires
push_lows-requires t c =
    let less = shorter c.args.dimensions.now c.in-len1-up.len_at_least in
    (search rules, room_left c.args.at.now.items c.push.new.self.items _ c.args.dimensions.now c.in-len1-up.len_at_least c.push.ensures.items c.requires)

pub returns-in-len1-up-bounds : goal.returns-in-len1-up-bounds
returns-in-len1-up-bounds t c =
    pushed low_bound c.args.dimensions.now c.args.bounds.now c.dimension-item.result c.bound-item.result _ _ _ _ c.in-len1-up.len_at_least
    c.in-len1-up-bounds.len_at_least c.dimension-item.is c.bound-item.is c.push.ensures.items c.push_lows.ensures (search rules)

pub returns-in-empty-bounds : goal.returns-in-empty-bounds
returns-in-empty-bounds t c = no_second low_bound c.args.dimensions.now c.args.bounds.now c.args.at.now.items c.in-empty-bounds.len_below

pub returns-in-empty : goal.returns-in-empty
returns-in-empty t c = no_first low_bound c.args.dimensions.now c.args.bounds.now c.args.at.now.items c.in-empty.len_below

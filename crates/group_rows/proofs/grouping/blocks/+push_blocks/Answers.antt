use Rattle.std.proofs.Common.{pos, get_or, rules}
use Rattle.std.proofs.lemmas.Int.{to_z-of_z}
use mir.Val.{SFits}
use mir.Syntax.{w64}
use Rattle.group_rows.proofs.KeyLaws.{next_block, no_blocks, front, room_left, fewer}
use Rattle.group_rows.proofs.grouping.blocks.+push_blocks.Goals as goal

pub returns-in-len1-up-at : goal.returns-in-len1-up-at
returns-in-len1-up-at t c =
    let fits : SFits w64 (get_or c.args.at.now 0 (pos 0)) = search rules in
    let made : SFits w64 c.block_of.result = search rules in
    next_block c.args.dims.now c.args.sizes.now c.args.at.now c.args.out.now.items c.push.new.self.items c.push_blocks.new.out.items
    c.dimension-item.result c.block_of.result c.in-len1-up.len_at_least c.in-len1-up-sizes.len_at_least c.in-len1-up-at.len_at_least c.dimension-item.is
    (simp to_z-of_z at c.block_of.ensures) (simp to_z-of_z at c.push.ensures.items) c.push_blocks.ensures

pub push_blocks-requires : goal.push_blocks-requires
push_blocks-requires t c =
    let f = front c.dimension-item.result c.args.dims.now c.args.at.now c.in-len1-up.len_at_least c.in-len1-up-at.len_at_least c.dimension-item.is
    c.requires.near c.requires.inside in
    let room = room_left c.args.out.now.items c.push.new.self.items _ c.args.dims.now c.in-len1-up.len_at_least c.push.ensures.items c.requires.room in
    let less = fewer c.args.dims.now c.in-len1-up.len_at_least in
    (search rules, (room, (f.others, f.inside)))

pub block_of-requires-clause-near : goal.block_of-requires-clause-near
block_of-requires-clause-near t c =
    (front c.dimension-item.result c.args.dims.now c.args.at.now c.in-len1-up.len_at_least c.in-len1-up-at.len_at_least c.dimension-item.is
    c.requires.near c.requires.inside).near

pub block_of-requires-clause-low : goal.block_of-requires-clause-low
block_of-requires-clause-low t c =
    let low = (front c.dimension-item.result c.args.dims.now c.args.at.now c.in-len1-up.len_at_least c.in-len1-up-at.len_at_least c.dimension-item.is
    c.requires.near c.requires.inside).low in search rules

pub block_of-requires-clause-high : goal.block_of-requires-clause-high
block_of-requires-clause-high t c =
    let high = (front c.dimension-item.result c.args.dims.now c.args.at.now c.in-len1-up.len_at_least c.in-len1-up-at.len_at_least c.dimension-item.is
    c.requires.near c.requires.inside).high in search rules

pub returns-in-empty : goal.returns-in-empty
returns-in-empty t c = no_blocks c.args.dims.now c.args.sizes.now c.args.at.now c.args.out.now.items c.in-empty.len_below

use Rattle.std.proofs.Common.{rules}
use Rattle.array_geom.specs.Inner.Ranges.{IsNear}
use Rattle.array_geom.proofs.Fronts.{all_first, all_rest, room_left, shorter}
use Rattle.exec_box.proofs.FrontLaws.{chunks_pushed, no_chunks, no_chunks_at, no_chunks_low}
use Rattle.exec_box.proofs.arrays.numbers.+push_chunks_from.Goals as goal

pub push_chunks_from-requires : goal.push_chunks_from-requires
push_chunks_from-requires t c =
    let less = shorter c.args.dims.now c.in-len1-up.len_at_least in
    let room = room_left c.args.out.now.items c.push.new.self.items _ c.args.dims.now c.in-len1-up.len_at_least c.push.ensures.items c.requires.room in
    let near = all_rest IsNear c.args.dims.now c.in-len1-up.len_at_least c.requires.near in
    (search rules, (room, near))

pub chunks_between-requires : goal.chunks_between-requires
chunks_between-requires t c = all_first IsNear c.args.dims.now c.d-item.result c.in-len1-up.len_at_least c.d-item.is c.requires.near

pub returns-in-len1-up-at : goal.returns-in-len1-up-at
returns-in-len1-up-at t c =
    chunks_pushed c.d-item.result c.args.dims.now c.args.low.now c.args.at.now _ _ _ _ c.in-len1-up.len_at_least c.in-len1-up-low.len_at_least
    c.in-len1-up-at.len_at_least c.d-item.is c.push.ensures.items c.push_chunks_from.ensures (search rules)

pub returns-in-empty-at : goal.returns-in-empty-at
returns-in-empty-at t c = no_chunks_at c.args.dims.now c.args.low.now c.args.at.now c.args.out.now.items c.in-empty-at.len_below

pub returns-in-empty-low : goal.returns-in-empty-low
returns-in-empty-low t c = no_chunks_low c.args.dims.now c.args.low.now c.args.at.now c.args.out.now.items c.in-empty-low.len_below

pub returns-in-empty : goal.returns-in-empty
returns-in-empty t c = no_chunks c.args.dims.now c.args.low.now c.args.at.now c.args.out.now.items c.in-empty.len_below

use Rattle.std.proofs.Common.{◌++◌, ℤ, List, sym, ◌∙◌, ap, append-nil, rules}
use Rattle.array_geom.specs.Geometry.{first_in}
use Rattle.array_geom.specs.Inner.Ranges.{IsNear}
use Rattle.array_geom.proofs.Pairs.{pairs_pushed, by_pairs_none, no_pairs}
use Rattle.array_geom.proofs.Fronts.{all_first, all_rest, core_first, core_rest, room_left, shorter}
use Rattle.array_geom.proofs.cores.+push_first.Goals as goal

pub returns-in-len1-up-chunk : goal.returns-in-len1-up-chunk
returns-in-len1-up-chunk t c =
    pairs_pushed first_in c.args.dims.now c.args.chunk.now c.d-item.result 0 _ _ _ _ c.in-len1-up.len_at_least c.in-len1-up-chunk.len_at_least
    c.d-item.is c.push.ensures.items c.push_first.ensures
    (search rules)

pub returns-in-empty-chunk : goal.returns-in-empty-chunk
returns-in-empty-chunk t c =
    sym (ap (λ (l : List ℤ). c.args.out.now.items ++ l) (by_pairs_none first_in c.args.dims.now c.args.chunk.now c.in-empty-chunk.len_below)
    ∙ append-nil c.args.out.now.items)

pub push_first-requires : goal.push_first-requires
push_first-requires t c =
    let less = shorter c.args.dims.now c.in-len1-up.len_at_least in
    let room = room_left c.args.out.now.items c.push.new.self.items _ c.args.dims.now c.in-len1-up.len_at_least c.push.ensures.items c.requires.room in
    let near = all_rest IsNear c.args.dims.now c.in-len1-up.len_at_least c.requires.near in
    let core = core_rest c.args.dims.now c.args.chunk.now c.in-len1-up.len_at_least c.in-len1-up-chunk.len_at_least c.requires.core in
    (search rules, (room, (near, core)))

pub first_of-requires-clause-near : goal.first_of-requires-clause-near
first_of-requires-clause-near t c = all_first IsNear c.args.dims.now c.d-item.result c.in-len1-up.len_at_least c.d-item.is c.requires.near

pub first_of-requires-clause-core : goal.first_of-requires-clause-core
first_of-requires-clause-core t c =
    core_first c.d-item.result c.args.dims.now c.args.chunk.now c.in-len1-up.len_at_least c.in-len1-up-chunk.len_at_least c.d-item.is c.requires.core

pub returns-in-empty : goal.returns-in-empty
returns-in-empty t c = no_pairs first_in c.args.dims.now c.args.chunk.now c.args.out.now.items c.in-empty.len_below

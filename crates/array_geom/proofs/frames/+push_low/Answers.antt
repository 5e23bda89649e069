use Rattle.std.proofs.Common.{rules, arith, ℕ, ℤ, ◌-ℤ◌, pos}
use Rattle.array_geom.specs.Inner.Ranges.{IsNear}
use Rattle.array_geom.specs.Geometry.{first_in}
use Rattle.array_geom.proofs.Fronts.{all_first, all_rest, core_first, core_rest, margin_first, margins_rest, room_left, shorter, frame_pushed, no_frame}
use Rattle.array_geom.proofs.frames.+push_low.Goals as goal

pub push_low-requires : goal.push_low-requires
push_low-requires t c =
    let less = shorter c.args.dims.now c.in-len1-up.len_at_least in
    let room = room_left c.args.out.now.items c.push.new.self.items _ c.args.dims.now c.in-len1-up.len_at_least c.push.ensures.items c.requires.room in
    let near = all_rest IsNear c.args.dims.now c.in-len1-up.len_at_least c.requires.near in
    let core = core_rest c.args.dims.now c.args.chunk.now c.in-len1-up.len_at_least c.in-len1-up-chunk.len_at_least c.requires.core in
    let margins = margins_rest c.args.dims.now c.args.margins.now c.in-len1-up.len_at_least c.in-len1-up-margins.len_at_least c.requires.margins in
    (search rules, (room, (near, (core, margins))))

pub low_of-requires-clause-core : goal.low_of-requires-clause-core
low_of-requires-clause-core t c =
    core_first c.d-item.result c.args.dims.now c.args.chunk.now c.in-len1-up.len_at_least c.in-len1-up-chunk.len_at_least c.d-item.is c.requires.core

pub low_of-requires-clause-near : goal.low_of-requires-clause-near
low_of-requires-clause-near t c = all_first IsNear c.args.dims.now c.d-item.result c.in-len1-up.len_at_least c.d-item.is c.requires.near

pub returns-in-len1-up-margins : goal.returns-in-len1-up-margins
returns-in-len1-up-margins t c =
    frame_pushed first_in (λ (x : ℤ) (m : ℕ). x -ℤ pos m) c.d-item.result c.args.dims.now c.args.chunk.now c.args.margins.now _ _ _ _
    c.in-len1-up.len_at_least c.in-len1-up-chunk.len_at_least c.in-len1-up-margins.len_at_least c.d-item.is c.push.ensures.items c.push_low.ensures
    (search rules)

pub low_of-requires-clause-margin : goal.low_of-requires-clause-margin
low_of-requires-clause-margin t c =
    let both = margin_first c.d-item.result c.args.dims.now c.args.margins.now c.in-len1-up.len_at_least c.in-len1-up-margins.len_at_least c.d-item.is
    c.requires.margins in omega (arith, both)

pub returns-in-empty : goal.returns-in-empty
returns-in-empty t c =
    no_frame first_in (λ (x : ℤ) (m : ℕ). x -ℤ pos m) c.args.dims.now c.args.chunk.now c.args.margins.now c.args.out.now.items c.in-empty.len_below

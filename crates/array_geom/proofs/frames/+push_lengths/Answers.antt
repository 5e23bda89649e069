use Rattle.std.proofs.Common.{◌+◌, ◌*◌, ℕ, refl, rules}
use Rattle.array_rows.specs.Dimension.{Dimension}
use Rattle.array_geom.specs.Inner.Ranges.{IsNear}
use Rattle.array_geom.proofs.Pairs.{pairs_pushed, no_pairs}
use Rattle.array_geom.proofs.Fronts.{all_rest, margins_rest, room_left, shorter}
use Rattle.array_geom.proofs.frames.+push_lengths.Goals as goal

pub push_lengths-requires : goal.push_lengths-requires
push_lengths-requires t c =
    let less = shorter c.args.dims.now c.in-len1-up.len_at_least in
    let room = room_left c.args.out.now.items c.push.new.self.items _ c.args.dims.now c.in-len1-up.len_at_least c.push.ensures.items c.requires.room in
    let near = all_rest IsNear c.args.dims.now c.in-len1-up.len_at_least c.requires.near in
    let margins = margins_rest c.args.dims.now c.args.margins.now c.in-len1-up.len_at_least c.in-len1-up-margins.len_at_least c.requires.margins in
    (search rules, (room, (near, margins)))

pub returns-in-len1-up-margins : goal.returns-in-len1-up-margins
returns-in-len1-up-margins t c =
    pairs_pushed (λ (d : Dimension) (m : ℕ). d.chunk + 2 * m) c.args.dims.now c.args.margins.now c.d-item.result 0 _ _ _ _ c.in-len1-up.len_at_least
    c.in-len1-up-margins.len_at_least c.d-item.is c.push.ensures.items c.push_lengths.ensures refl

pub returns-in-empty : goal.returns-in-empty
returns-in-empty t c = no_pairs (λ (d : Dimension) (m : ℕ). d.chunk + 2 * m) c.args.dims.now c.args.margins.now c.args.out.now.items c.in-empty.len_below

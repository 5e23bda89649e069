use Rattle.std.proofs.Common.{ℕ, ◌<◌, ◌^◌, pos, rules, subst}
use Rattle.array_geom.specs.Inner.Ranges.{IsLow}
use Rattle.array_geom.proofs.Fronts.{all_head, all_rest, as_many_rest, room_left, shorter, small_rest, place_pushed, no_place}
use Rattle.array_geom.proofs.grid.+push_place.Goals as goal

pub push_place-requires : goal.push_place-requires
push_place-requires t c =
    let less = shorter c.args.lengths.now c.in-len1-up.len_at_least in
    let room = room_left c.args.out.now.items c.push.new.self.items _ c.args.low.now c.in-len1-up-low.len_at_least c.push.ensures.items c.requires.room in
    let same = as_many_rest c.args.low.now c.args.lengths.now c.in-len1-up-low.len_at_least c.in-len1-up.len_at_least c.requires.same in
    let lows = all_rest IsLow c.args.low.now c.in-len1-up-low.len_at_least c.requires.low in
    let lengths = all_rest (λ (n : ℕ). 0 < n) c.args.lengths.now c.in-len1-up.len_at_least c.requires.lengths in
    let small = small_rest c.args.lengths.now (2 ^ 48) c.in-len1-up.len_at_least c.requires.lengths c.requires.small in
    let below = subst (λ (n : ℕ). c.place_in_row.result < n) c.volume_of-row_size.ensures.value c.place_in_row.ensures.below in
    (search rules, (room, (same, (lows, (lengths, (small, below))))))

pub returns-in-len1-up-low : goal.returns-in-len1-up-low
returns-in-len1-up-low t c =
    place_pushed c.args.low.now c.args.lengths.now c.args.position c.volume_of-row_size.result c.place_in_row.result _ _ _ _
    c.in-len1-up-low.len_at_least c.in-len1-up.len_at_least c.push.ensures.items c.push_place.ensures
    (search rules) c.place_in_row.ensures.value c.volume_of-row_size.ensures.value

pub above-requires-clause-low : goal.above-requires-clause-low
above-requires-clause-low t c = let low = (all_head IsLow c.args.low.now (pos 0) c.in-len1-up-low.len_at_least c.requires.low).1 in search rules

pub volume_of-row_size-requires-clause-small : goal.volume_of-row_size-requires-clause-small
volume_of-row_size-requires-clause-small t c = small_rest c.args.lengths.now (2 ^ 48) c.in-len1-up.len_at_least c.requires.lengths c.requires.small

pub returns-in-empty : goal.returns-in-empty
returns-in-empty t c = no_place c.args.low.now c.args.lengths.now c.args.position c.args.out.now.items c.in-empty.len_below

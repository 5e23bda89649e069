use Rattle.std.proofs.Common.{◌++◌, ◌/◌, ◌-ℤ◌, ℕ, ℤ, pos, List, sym, ◌∙◌, ap, append-nil, rules}
use Rattle.std.specs.Prelude.{unsigned_abs}
use Rattle.array_rows.specs.Dimension.{Dimension}
use Rattle.array_geom.specs.Inner.Ranges.{IsNear}
use Rattle.array_geom.proofs.Pairs.{pairs_pushed, by_pairs_none, no_pairs}
use Rattle.array_geom.proofs.Fronts.{all_first, all_rest, room_left, shorter, within}
use Rattle.array_geom.proofs.cores.+push_numbers.Goals as goal

pub returns-in-len1-up-at : goal.returns-in-len1-up-at
returns-in-len1-up-at t c =
    pairs_pushed (λ (d : Dimension) (x : ℤ). unsigned_abs (x -ℤ d.lo) / d.chunk) c.args.dims.now c.args.at.now c.d-item.result (pos 0) _ _ _ _
    c.in-len1-up.len_at_least c.in-len1-up-at.len_at_least c.d-item.is c.push.ensures.items c.push_numbers.ensures
    (search rules)

pub returns-in-empty-at : goal.returns-in-empty-at
returns-in-empty-at t c =
    sym (ap (λ (l : List ℕ). c.args.out.now.items ++ l) (by_pairs_none (λ (d : Dimension) (x : ℤ). unsigned_abs (x -ℤ d.lo) / d.chunk) c.args.dims.now
    c.args.at.now c.in-empty-at.len_below) ∙ append-nil c.args.out.now.items)

pub push_numbers-requires : goal.push_numbers-requires
push_numbers-requires t c =
    let less = shorter c.args.dims.now c.in-len1-up.len_at_least in
    let inside = (within c.d-item.result c.args.dims.now c.args.at.now c.in-len1-up.len_at_least c.in-len1-up-at.len_at_least c.d-item.is
    c.requires.inside).more in
    let room = room_left c.args.out.now.items c.push.new.self.items _ c.args.dims.now c.in-len1-up.len_at_least c.push.ensures.items c.requires.room in
    let near = all_rest IsNear c.args.dims.now c.in-len1-up.len_at_least c.requires.near in
    (search rules, (room, (near, inside)))

pub number_of-requires-clause-high : goal.number_of-requires-clause-high
number_of-requires-clause-high t c =
    let high = (within c.d-item.result c.args.dims.now c.args.at.now c.in-len1-up.len_at_least c.in-len1-up-at.len_at_least c.d-item.is
    c.requires.inside).high in search rules

pub number_of-requires-clause-low : goal.number_of-requires-clause-low
number_of-requires-clause-low t c =
    let low = (within c.d-item.result c.args.dims.now c.args.at.now c.in-len1-up.len_at_least c.in-len1-up-at.len_at_least c.d-item.is
    c.requires.inside).low in search rules

pub number_of-requires-clause-near : goal.number_of-requires-clause-near
number_of-requires-clause-near t c = all_first IsNear c.args.dims.now c.d-item.result c.in-len1-up.len_at_least c.d-item.is c.requires.near

pub returns-in-empty : goal.returns-in-empty
returns-in-empty t c =
    no_pairs (λ (d : Dimension) (x : ℤ). unsigned_abs (x -ℤ d.lo) / d.chunk) c.args.dims.now c.args.at.now c.args.out.now.items c.in-empty.len_below

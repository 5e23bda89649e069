use Rattle.std.proofs.Common.{◌++◌, ℤ, pos, List, sym, ◌∙◌, ap, append-nil, rules}
use Rattle.array_geom.specs.Inner.Ranges.{IsNear}
use Rattle.array_geom.proofs.Pairs.{pairs_pushed, by_pairs_none, no_pairs}
use Rattle.array_geom.proofs.Fronts.{all_first, all_rest, room_left, shorter, within}
use Rattle.logical_plan.specs.Shapes.{opposite}
use Rattle.shape_exec.proofs.reversal.+push_opposite.Goals as goal

pub returns-in-len1-up-at : goal.returns-in-len1-up-at
returns-in-len1-up-at t c =
    pairs_pushed opposite c.args.dims.now c.args.at.now c.d-item.result (pos 0) _ _ _ _
    c.in-len1-up.len_at_least c.in-len1-up-at.len_at_least c.d-item.is c.push.ensures.items c.push_opposite.ensures
    (search rules)

pub returns-in-empty-at : goal.returns-in-empty-at
returns-in-empty-at t c =
    sym (ap (λ (l : List ℤ). c.args.out.now.items ++ l) (by_pairs_none opposite c.args.dims.now c.args.at.now c.in-empty-at.len_below) ∙ append-nil c.args.out.now.items)

pub push_opposite-requires : goal.push_opposite-requires
push_opposite-requires t c =
    let less = shorter c.args.dims.now c.in-len1-up.len_at_least in
    let inside = (within c.d-item.result c.args.dims.now c.args.at.now c.in-len1-up.len_at_least c.in-len1-up-at.len_at_least c.d-item.is
    c.requires.inside).more in
    let room = room_left c.args.out.now.items c.push.new.self.items _ c.args.dims.now c.in-len1-up.len_at_least c.push.ensures.items c.requires.room in
    let near = all_rest IsNear c.args.dims.now c.in-len1-up.len_at_least c.requires.near in
    (search rules, (room, (near, inside)))

pub opposite-requires-clause-high : goal.opposite-requires-clause-high
opposite-requires-clause-high t c =
    let high = (within c.d-item.result c.args.dims.now c.args.at.now c.in-len1-up.len_at_least c.in-len1-up-at.len_at_least c.d-item.is
    c.requires.inside).high in search rules

pub opposite-requires-clause-low : goal.opposite-requires-clause-low
opposite-requires-clause-low t c =
    let low = (within c.d-item.result c.args.dims.now c.args.at.now c.in-len1-up.len_at_least c.in-len1-up-at.len_at_least c.d-item.is
    c.requires.inside).low in search rules

pub opposite-requires-clause-near : goal.opposite-requires-clause-near
opposite-requires-clause-near t c = all_first IsNear c.args.dims.now c.d-item.result c.in-len1-up.len_at_least c.d-item.is c.requires.near

pub returns-in-empty : goal.returns-in-empty
returns-in-empty t c = no_pairs opposite c.args.dims.now c.args.at.now c.args.out.now.items c.in-empty.len_below

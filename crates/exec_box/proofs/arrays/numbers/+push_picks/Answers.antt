use Rattle.std.proofs.Common.{refl, rules}
use Rattle.array_geom.proofs.Fronts.{room_left, shorter}
use Rattle.chunk_cells.proofs.MergeLaws.{on_ok}
use Rattle.exec_box.proofs.PickLaws.{picks_both, picks_end, picks_none, picks_once}
use Rattle.exec_box.proofs.arrays.numbers.+push_picks.Goals as goal

pub push_picks-requires : goal.push_picks-requires
push_picks-requires t c =
    let less = shorter c.args.low.now c.in-len1-up.len_at_least in
    let room = room_left c.args.front.now.items c.longer.result.items _ c.args.low.now c.in-len1-up.len_at_least c.longer.ensures c.requires in
    (search rules, room)

pub push_picks-requires-in-len1-up-high : goal.push_picks-requires-in-len1-up-high
push_picks-requires-in-len1-up-high t c =
    let less = shorter c.args.low.now c.in-len1-up.len_at_least in
    let room = room_left c.args.front.now.items c.longer-in-len1-up-high.result.items _ c.args.low.now c.in-len1-up.len_at_least
    c.longer-in-len1-up-high.ensures c.requires in
    (search rules, room)

pub returns-then-h-l : goal.returns-then-h-l
returns-then-h-l t c =
    picks_once c.args.schema.now.dimensions c.args.front.now.items c.args.low.now c.args.high.now c.longer.result.items _ _ c.args.found.now
    c.push_picks.new.found c.in-len1-up.len_at_least c.in-len1-up-high.len_at_least c.longer.ensures c.if-h-l.true refl refl
    c.in_ok-push_picks-in-len1-up-high.ensures

pub returns-else-h-l : goal.returns-else-h-l
returns-else-h-l t c =
    on_ok c.push_picks-in-len1-up-high.result c.push_picks-in-len1-up-high.ensures
    (λ adds. picks_both c.args.schema.now.dimensions c.args.front.now.items c.args.low.now c.args.high.now c.longer.result.items
    c.longer-in-len1-up-high.result.items _ _ c.args.found.now c.push_picks.new.found c.push_picks-in-len1-up-high.new.found c.in-len1-up.len_at_least
    c.in-len1-up-high.len_at_least c.longer.ensures c.longer-in-len1-up-high.ensures refl refl
    c.in_ok-push_picks-in-len1-up-high.ensures adds)

pub returns-in-empty-high : goal.returns-in-empty-high
returns-in-empty-high t c =
    picks_none c.args.schema.now.dimensions c.args.front.now.items c.args.low.now c.args.high.now c.args.found.now c.in-len1-up.len_at_least
    c.in-empty-high.len_below

pub returns-in-empty : goal.returns-in-empty
returns-in-empty t c =
    on_ok c.push_core.result c.push_core.ensures
    (λ adds. picks_end c.args.schema.now.dimensions c.args.front.now.items c.args.low.now c.args.high.now c.args.found.now c.push_core.new.found
    c.in-empty.len_below adds)

use Rattle.std.proofs.Common.{◌∙◌, sym, arith, rules}
use Rattle.array_geom.proofs.Fronts.{room_left, shorter}
use Rattle.exec_box.proofs.FrontLaws.{none_spread, spread_ends, spread_fixed, spread_free}
use Rattle.exec_box.proofs.arrays.slice_pieces.+push_spread.Goals as goal

pub push_spread-requires : goal.push_spread-requires
push_spread-requires t c =
    let less = shorter c.args.dims.now c.in-len1-up.len_at_least in
    let room = room_left c.args.out.now.items c.push.new.self.items _ c.args.dims.now c.in-len1-up.len_at_least c.push.ensures.items c.requires.room in
    (search rules, (room, omega (arith, less, c.requires.place)))

pub push_spread-requires-in-len1-up-at : goal.push_spread-requires-in-len1-up-at
push_spread-requires-in-len1-up-at t c =
    let less = shorter c.args.dims.now c.in-len1-up.len_at_least in
    let room = room_left c.args.out.now.items c.push-in-len1-up-at.new.self.items _ c.args.dims.now c.in-len1-up.len_at_least
    c.push-in-len1-up-at.ensures.items c.requires.room in
    (search rules, (room, omega (arith, less, c.requires.place)))

pub returns-in-Some : goal.returns-in-Some
returns-in-Some t c =
    spread_fixed c.args.fixed.now c.args.place c.args.dims.now c.args.at.now c.args.out.now.items _ _ _ _ c.in-len1-up.len_at_least
    (sym c.fixed_number.ensures ∙ c.in-Some.is) c.push.ensures.items c.push_spread.ensures (search rules)

pub returns-in-len1-up-at : goal.returns-in-len1-up-at
returns-in-len1-up-at t c =
    spread_free c.args.fixed.now c.args.place c.args.dims.now c.args.at.now c.args.out.now.items _ _ _ c.in-len1-up.len_at_least c.in-len1-up-at.len_at_least
    (sym c.fixed_number.ensures ∙ c.in-None.is) c.push-in-len1-up-at.ensures.items c.push_spread-in-len1-up-at.ensures (search rules)

pub returns-in-empty-at : goal.returns-in-empty-at
returns-in-empty-at t c =
    spread_ends c.args.fixed.now c.args.place c.args.dims.now c.args.at.now c.args.out.now.items (sym c.fixed_number.ensures ∙ c.in-None.is)
    c.in-empty-at.len_below

pub returns-in-empty : goal.returns-in-empty
returns-in-empty t c = none_spread c.args.fixed.now c.args.place c.args.dims.now c.args.at.now c.args.out.now.items c.in-empty.len_below

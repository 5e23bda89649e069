use Rattle.std.proofs.Common.{◌∙◌, sym, arith, rules}
use Rattle.array_geom.proofs.Fronts.{room_left, shorter}
use Rattle.exec_join.proofs.FrontLaws.{aside_alone, aside_ends, aside_paired, no_aside}
use Rattle.exec_join.proofs.arrays.cross_pieces.+push_aside.Goals as goal

pub push_aside-requires : goal.push_aside-requires
push_aside-requires t c =
    let less = shorter c.args.dims.now c.in-len1-up.len_at_least in
    let room = room_left c.args.out.now.items c.push.new.self.items _ c.args.dims.now c.in-len1-up.len_at_least c.push.ensures.items c.requires.room in
    (search rules, (room, omega (arith, less, c.requires.place)))

pub push_aside-requires-in-len1-up-at : goal.push_aside-requires-in-len1-up-at
push_aside-requires-in-len1-up-at t c =
    let less = shorter c.args.dims.now c.in-len1-up.len_at_least in
    let room = room_left c.args.out.now.items c.push-in-len1-up-at.new.self.items _ c.args.dims.now c.in-len1-up.len_at_least
    c.push-in-len1-up-at.ensures.items c.requires.room in
    (search rules, (room, omega (arith, less, c.requires.place)))

pub returns-in-Some : goal.returns-in-Some
returns-in-Some t c =
    aside_paired c.args.pairs.now c.args.corner.now.items c.args.place c.args.dims.now c.args.at.now c.args.out.now.items _ _ c.in-Some.left _
    c.in-len1-up.len_at_least (sym c.paired_place.ensures ∙ c.in-Some.is) c.push.ensures.items c.push_aside.ensures (search rules)

pub returns-in-len1-up-at : goal.returns-in-len1-up-at
returns-in-len1-up-at t c =
    aside_alone c.args.pairs.now c.args.corner.now.items c.args.place c.args.dims.now c.args.at.now c.args.out.now.items _ _ _ c.in-len1-up.len_at_least
    c.in-len1-up-at.len_at_least (sym c.paired_place.ensures ∙ c.in-None.is) c.push-in-len1-up-at.ensures.items c.push_aside-in-len1-up-at.ensures (search rules)

pub returns-in-empty-at : goal.returns-in-empty-at
returns-in-empty-at t c =
    aside_ends c.args.pairs.now c.args.corner.now.items c.args.place c.args.dims.now c.args.at.now c.args.out.now.items c.in-len1-up.len_at_least
    c.in-empty-at.len_below (sym c.paired_place.ensures ∙ c.in-None.is)

pub returns-in-empty : goal.returns-in-empty
returns-in-empty t c =
    no_aside c.args.pairs.now c.args.corner.now.items c.args.place c.args.dims.now c.args.at.now c.args.out.now.items c.in-empty.len_below

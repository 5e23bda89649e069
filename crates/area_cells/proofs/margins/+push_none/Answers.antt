use Rattle.std.proofs.Common.{◌-◌, ℕ, List, length, take, drop, get_or, refl, rules}
use Rattle.array_geom.proofs.Fronts.{room_left, shorter}
use Rattle.area_cells.proofs.margins.+push_none.Goals as goal

pub push_none-requires : goal.push_none-requires
push_none-requires t c =
    let less = shorter c.args.dims.now c.in-len1-up.len_at_least in
    let room = room_left c.args.margins.now.items c.push.new.self.items _ c.args.dims.now c.in-len1-up.len_at_least c.push.ensures.items c.requires in
    (search rules, room)

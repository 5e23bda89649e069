use Rattle.std.proofs.Common.{arith, rules}
use Rattle.array_geom.proofs.Fronts.{shorter}
use Rattle.exec_box.proofs.FreeLaws.{free_next}
use Rattle.exec_box.proofs.arrays.slice_pieces.+push_others.Goals as goal

pub push_others-requires : goal.push_others-requires
push_others-requires t c =
    let less = shorter c.args.number.now c.in-len1-up.len_at_least in
    (search rules, (omega (arith, less, c.push_unless.ensures.room, c.requires.room), omega (arith, less, c.requires.place)))

pub returns-in-len1-up : goal.returns-in-len1-up
returns-in-len1-up t c =
    rw (c.push_others.ensures, c.push_unless.ensures.value, c.is_fixed.ensures)
    (free_next 0 c.args.fixed.now c.args.place c.args.out.now.items c.args.number.now c.in-len1-up.len_at_least)

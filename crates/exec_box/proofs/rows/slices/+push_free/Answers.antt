use Rattle.std.proofs.Common.{pos, arith, rules}
use Rattle.array_geom.proofs.Fronts.{shorter}
use Rattle.exec_box.proofs.FreeLaws.{free_next}
use Rattle.exec_box.proofs.rows.slices.+push_free.Goals as goal

pub push_free-requires : goal.push_free-requires
push_free-requires t c =
    let less = shorter c.args.at.now c.in-len1-up.len_at_least in
    (search rules, (omega (arith, less, c.push_unless.ensures.room, c.requires.room), omega (arith, less, c.requires.place)))

pub returns-in-len1-up : goal.returns-in-len1-up
returns-in-len1-up t c =
    rw (c.push_free.ensures, c.push_unless.ensures.value, c.is_fixed.ensures)
    (free_next (pos 0) c.args.fixed.now c.args.place c.args.out.now.items c.args.at.now c.in-len1-up.len_at_least)

use Rattle.std.proofs.Common.{arith, refl, rules, slice_index_or}
use Rattle.array_geom.proofs.Fronts.{shorter}
use Rattle.exec_join.proofs.FrontLaws.{no_unpaired, unpaired_pushed}
use Rattle.exec_join.proofs.arrays.cross_numbers.+push_unpaired.Goals as goal

pub push_unpaired-requires : goal.push_unpaired-requires
push_unpaired-requires t c =
    let less = shorter c.args.number.now c.in-len1-up.len_at_least in
    (search rules, (omega (arith, less, c.push_unless.ensures.room, c.requires.room), omega (arith, less, c.requires.place)))

pub returns-in-len1-up : goal.returns-in-len1-up
returns-in-len1-up t c =
    unpaired_pushed c.args.places.now c.args.place c.args.number.now c.args.out.now.items _ _ c.is_among.result (slice_index_or c.args.number.now 0 0)
    c.in-len1-up.len_at_least refl c.is_among.ensures c.push_unless.ensures.value c.push_unpaired.ensures

pub returns-in-empty : goal.returns-in-empty
returns-in-empty t c = no_unpaired c.args.places.now c.args.place c.args.number.now c.args.out.now.items c.in-empty.len_below

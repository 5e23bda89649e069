use Rattle.std.proofs.Common.{rules}
use Rattle.exec_box.proofs.FrontLaws.{none_raised, raised_alone, raised_pushed}
use Rattle.exec_box.proofs.arrays.part_pieces.+push_raised.Goals as goal

pub returns-in-empty-low : goal.returns-in-empty-low
returns-in-empty-low t c =
    raised_alone c.args.at.now c.args.low.now c.args.out.now.items _ _ _ c.in-len1-up.len_at_least c.in-empty-low.len_below c.push.ensures.items
    c.push_raised.ensures (search rules)

pub returns-in-len1-up-low : goal.returns-in-len1-up-low
returns-in-len1-up-low t c =
    raised_pushed c.args.at.now c.args.low.now c.args.out.now.items _ _ _ c.in-len1-up.len_at_least c.in-len1-up-low.len_at_least
    c.push-in-len1-up-low.ensures.items c.push_raised-in-len1-up-low.ensures (search rules)

pub returns-in-empty : goal.returns-in-empty
returns-in-empty t c = none_raised c.args.at.now c.args.low.now c.args.out.now.items c.in-empty.len_below

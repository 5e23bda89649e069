use Rattle.std.proofs.Common.{map, rules}
use Rattle.redimension_exec.specs.Inner.Places.{origin}
use Rattle.redimension_exec.proofs.CountFronts.{kept_alone}
use Rattle.redimension_exec.proofs.CountLaws.{none_left}
use Rattle.redimension_exec.proofs.places.counting.+push_uncounted.Goals as goal

pub returns-in-empty : goal.returns-in-empty
returns-in-empty t c = none_left c.args.out.now.items (map origin c.args.places.now) c.args.at.now c.in-empty.len_below

pub returns-in-empty-places : goal.returns-in-empty-places
returns-in-empty-places t c =
    kept_alone c.args.places.now c.args.at.now c.args.out.now.items _ _ _ c.in-len1-up.len_at_least c.in-empty-places.len_below c.push.ensures.items
    c.push_uncounted.ensures (search rules)

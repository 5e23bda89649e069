use Rattle.std.proofs.lemmas.Result.{on_ok_weaker}
use Rattle.plan_rewrite.proofs.KeptSteps.{kept_more, kept_none, relocated_more, relocated_none}
use Rattle.plan_rewrite.proofs.places.+push_kept.Goals as goal

pub returns-in_ok-next-in-len1-up-clause-items : goal.returns-in_ok-next-in-len1-up-clause-items
returns-in_ok-next-in-len1-up-clause-items g t c =
    let one = c.in_ok-next-in-len1-up.ensures in
    on_ok_weaker c.push_kept.result
    (kept_more c.args.first c.in_ok-next-in-len1-up.next c.item-item.result c.args.items.now c.args.out.now c.push_named.new.out c.push_kept.new.out
    c.args.places.now c.push_named.new.places c.in-len1-up.len_at_least c.item-item.is one.items one.places one.next)
    c.push_kept.ensures.items

pub returns-in_ok-next-in-len1-up-clause-places : goal.returns-in_ok-next-in-len1-up-clause-places
returns-in_ok-next-in-len1-up-clause-places g t c =
    let one = c.in_ok-next-in-len1-up.ensures in
    on_ok_weaker c.push_kept.result
    (relocated_more c.args.first c.in_ok-next-in-len1-up.next c.item-item.result c.args.items.now c.args.places.now c.push_named.new.places
    c.push_kept.new.places c.in-len1-up.len_at_least one.places one.next)
    c.push_kept.ensures.places

pub returns-in-empty-clause-places : goal.returns-in-empty-clause-places
returns-in-empty-clause-places g t c = relocated_none c.args.first c.args.items.now c.args.places.now c.in-empty.len_below

pub returns-in-empty-clause-items : goal.returns-in-empty-clause-items
returns-in-empty-clause-items g t c = kept_none c.args.first c.args.items.now c.args.out.now c.args.places.now c.in-empty.len_below

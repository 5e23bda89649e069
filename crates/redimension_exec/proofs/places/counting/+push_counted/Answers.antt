use Rattle.std.proofs.Common.{◌∙◌, pos, get_or, ap, sym}
use Rattle.redimension_exec.specs.declared.places.places.Place.{Place}
use Rattle.redimension_exec.proofs.CountFronts.{all_between, first_between, low_ends, none_high, plain, raised, up_pushed}
use Rattle.redimension_exec.proofs.CountLaws.{none_between}
use Rattle.redimension_exec.proofs.places.counting.+push_counted.Goals as goal

pub returns-in-len1-up-low-clause-inside : goal.returns-in-len1-up-low-clause-inside
returns-in-len1-up-low-clause-inside t c =
    none_between c.args.low.now c.args.high.now c.args.places.now c.args.count c.args.at.now c.in-empty.len_below c.requires.each c.in-len1-up-low.len_at_least

pub returns-in-empty-low-clause-inside : goal.returns-in-empty-low-clause-inside
returns-in-empty-low-clause-inside t c =
    all_between c.args.places.now c.args.count c.args.at.now c.args.low.now c.args.high.now c.is_empty.result c.in-empty.len_below c.requires.each
    c.in-empty-low.len_below (c.is_empty.ensures ∙ none_high c.args.high.now)

pub returns-in-empty-low-2-clause-inside : goal.returns-in-empty-low-2-clause-inside
returns-in-empty-low-2-clause-inside t c =
    low_ends c.args.places.now c.args.count c.args.at.now c.args.low.now c.args.high.now c.in-len1-up.len_at_least c.in-len1-up-at.len_at_least
    c.in-empty-low-2.len_below

pub returns-then-push_raised-clause-inside : goal.returns-then-push_raised-clause-inside
returns-then-push_raised-clause-inside t c =
    first_between c.args.places.now _ c.args.count c.args.at.now c.args.low.now c.args.high.now _ c.push_raised.result _ c.in-len1-up.len_at_least
    c.in-len1-up-at.len_at_least c.in-len1-up-low-2.len_at_least c.in-len1-up-high.len_at_least (sym (ap (λ (p : Place). raised p c.args.count (get_or c.args.at.now 0 (pos 0))) c.in-Counted.is))
    c.push_raised.ensures.inside c.if-push_raised.true c.push_counted.ensures.inside

pub returns-then-push_raised-clause-numbers : goal.returns-then-push_raised-clause-numbers
returns-then-push_raised-clause-numbers t c = λ whole.
    up_pushed c.args.places.now _ c.args.count c.args.at.now c.args.out.now.items _ _ _ c.in-len1-up.len_at_least c.in-len1-up-at.len_at_least
    (sym (ap (λ (p : Place). raised p c.args.count (get_or c.args.at.now 0 (pos 0))) c.in-Counted.is)) (c.push_raised.ensures.numbers c.if-push_raised.true) (c.push_counted.ensures.numbers whole)

pub returns-then-push_number-clause-inside : goal.returns-then-push_number-clause-inside
returns-then-push_number-clause-inside t c =
    first_between c.args.places.now _ c.args.count c.args.at.now c.args.low.now c.args.high.now _ c.push_number.result _ c.in-len1-up.len_at_least
    c.in-len1-up-at.len_at_least c.in-len1-up-low-2.len_at_least c.in-len1-up-high.len_at_least (plain _ c.args.count (get_or c.args.at.now 0 (pos 0)) c.in-OfDimension.is)
    c.push_number.ensures.inside c.if-push_number.true c.push_counted-then-push_number.ensures.inside

pub returns-then-push_number-clause-numbers : goal.returns-then-push_number-clause-numbers
returns-then-push_number-clause-numbers t c = λ whole.
    up_pushed c.args.places.now _ c.args.count c.args.at.now c.args.out.now.items _ _ _ c.in-len1-up.len_at_least c.in-len1-up-at.len_at_least
    (plain _ c.args.count (get_or c.args.at.now 0 (pos 0)) c.in-OfDimension.is) c.push_number.ensures.numbers (c.push_counted-then-push_number.ensures.numbers whole)

use Rattle.std.proofs.Common.{List, take, sym, ap, ◌∙◌, subst}
use Rattle.std.proofs.lemmas.List.{take_rest}
use Rattle.std.specs.Ordering.{is_le}
use Rattle.exec_join.specs.declared.partners.Partner.{Partner}
use Rattle.exec_join.proofs.PartnerLaws.{IsPointOf, Rise, piece, rising_keys, rising_rest}
use Rattle.exec_join.proofs.partners.partners_at.Goals as goal

pub count_below-requires : goal.count_below-requires
count_below-requires c = rising_keys c.args.key.now.items c.args.partners.now c.requires

pub count_through-requires : goal.count_through-requires
count_through-requires c =
    subst (Rise c.args.key.now.items) (sym (take_rest c.args.partners.now c.count_below.result)) (rising_rest c.args.key.now.items c.args.partners.now c.count_below.result c.requires)

pub returns : goal.returns
returns c =
    let rest = take_rest c.args.partners.now c.count_below.result in
    ap (λ (ps : List Partner). take c.count_through.result ps) rest
    ∙ piece c.args.key.now.items c.args.partners.now c.count_below.result c.count_through.result c.count_below.ensures.bound c.count_below.ensures.point
    (subst (λ (ps : List Partner). IsPointOf is_le c.args.key.now.items ps c.count_through.result) rest c.count_through.ensures.point)

use Rattle.std.proofs.Common.{rules, ◌∙◌, ap, not, nat_eq}
use Rattle.std.specs.List.{filter}
use Rattle.std.proofs.lemmas.Fn.{filter_same}
use Rattle.event_core.proofs.advance.without_session.Goals as goal

pub returns : goal.returns
returns c =
    c.from_vec.ensures
    ∙ filter_same _ (λ pin. not (nat_eq pin.session c.args.session)) _ (λ x b f' k. search rules) _ _ c.retain.ensures.filtered
    ∙ ap (filter (λ pin. not (nat_eq pin.session c.args.session))) c.into_vec-items.ensures

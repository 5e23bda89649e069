use Rattle.std.proofs.Common.{rules, ◌∙◌, ap, not, nat_lt, ◌&&◌}
use Rattle.std.specs.List.{filter}
use Rattle.std.proofs.lemmas.Fn.{filter_same}
use Rattle.event_core.specs.History.{is_pages_of}
use Rattle.event_core.proofs.commit.without_below.Goals as goal

pub returns : goal.returns
returns c =
    c.from_vec.ensures
    ∙ filter_same _ (λ v. not (is_pages_of c.args.name.now v && nat_lt v.version c.args.below)) _ (λ x b f' k. search rules) _ _ c.retain.ensures.filtered
    ∙ ap (filter (λ v. not (is_pages_of c.args.name.now v && nat_lt v.version c.args.below))) c.into_vec-items.ensures

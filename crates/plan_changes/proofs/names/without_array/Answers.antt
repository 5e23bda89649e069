use Rattle.std.proofs.Common.{rules, ◌∙◌, ap, not}
use Rattle.std.specs.List.{filter}
use Rattle.std.proofs.lemmas.Fn.{filter_same}
use Rattle.plan_changes.specs.Changes.{is_named}
use Rattle.plan_changes.proofs.names.without_array.Goals as goal

pub returns : goal.returns
returns c =
    c.from_vec.ensures
    ∙ filter_same _ (λ entry. not (is_named c.args.name.now entry)) _ (λ x b f' k. search rules) _ _ c.retain.ensures.filtered
    ∙ ap (filter (λ entry. not (is_named c.args.name.now entry))) c.into_vec-items.ensures

use Rattle.std.proofs.Common.{rules, ◌∙◌, ap, not}
use Rattle.std.specs.List.{filter}
use Rattle.std.proofs.lemmas.Fn.{filter_same}
use Rattle.version_reaper.specs.PageSets.{holds}
use Rattle.event_core.proofs.commit.without_pages.Goals as goal

pub returns : goal.returns
returns c =
    c.from_vec.ensures
    ∙ filter_same _ (λ page. not (holds c.args.taken.now page)) _ (λ x b f' k. search rules) _ _ c.retain.ensures.filtered
    ∙ ap (filter (λ page. not (holds c.args.taken.now page))) c.into_vec-items.ensures

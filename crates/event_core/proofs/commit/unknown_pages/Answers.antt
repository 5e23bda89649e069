use Rattle.std.proofs.Common.{◌∙◌, ℕ, ◌++◌, not, ap, sym}
use Rattle.std.specs.List.{filter}
use Rattle.std.proofs.lemmas.List.Elements.{filter-append}
use Rattle.version_reaper.specs.PageSets.{holds}
use Rattle.event_core.proofs.commit.unknown_pages.Goals as goal

pub returns : goal.returns
returns c =
    let is_fresh = λ (page : ℕ). not (holds c.args.known.now page) in
    let used = c.args.used.now in
    c.in_ok-push_fresh-2.ensures
    ∙ ap (λ pages. pages ++ filter is_fresh used.catalogue) (c.in_ok-push_fresh.ensures ∙ ap (λ pages. pages ++ filter is_fresh used.version) c.another-fresh.ensures)
    ∙ sym (filter-append is_fresh used.version used.catalogue)

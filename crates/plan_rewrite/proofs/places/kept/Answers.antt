use Rattle.std.proofs.Common.{◌∙◌, ◌++◌, ap}
use Rattle.plan_rewrite.specs.Inner.Trimmed.{kept, relocated}
use Rattle.plan_rewrite.proofs.places.kept.Goals as goal

pub returns-clause-items : goal.returns-clause-items
returns-clause-items g c =
    let items = c.as_slice.result.now in
    c.in_ok-push_kept.ensures.items
    ∙ ap (λ l. l ++ kept c.args.first items c.in_ok-rest.rest) c.new-items_kept.ensures
    ∙ ap (λ l. kept c.args.first l c.in_ok-rest.rest) c.as_slice.ensures
    ∙ ap (λ l. kept c.args.first c.args.items.now l) c.in_ok-rest.ensures

pub returns-clause-places : goal.returns-clause-places
returns-clause-places g c =
    c.in_ok-push_kept.ensures.places
    ∙ ap (λ l. relocated c.args.first l c.in_ok-rest.rest) c.as_slice.ensures
    ∙ ap (λ l. relocated c.args.first c.args.items.now l) c.in_ok-rest.ensures

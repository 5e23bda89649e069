use Rattle.std.proofs.Common.{◌∙◌, ap}
use Rattle.store_versions.specs.States.{LeanState}
use Rattle.store_versions.proofs.lean.lean.state.LeanCore.part_of.Goals as goal

pub returns-in-Ok : goal.returns-in-Ok
returns-in-Ok c =
    let names = c.in-Ok.ensures ∙ ap (λ (s : LeanState). s.core.names) c.self.view_is in
    let limit = ap (λ (s : LeanState). s.core.limit) c.self.view_is in
    let lists = c.in_ok-pages.ensures in
    λ i. record {
      names = names i;
      pages = lists.pages i;
      catalogue = lists.catalogue i;
      pins = c.another.ensures i;
      free = c.another-in-Ok.ensures i;
      limit = limit i;
      entries = 0;
    }

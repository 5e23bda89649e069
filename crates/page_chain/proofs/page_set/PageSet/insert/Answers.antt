use Rattle.std.proofs.Common.{ap, ◌∙◌}
use Rattle.std.specs.FinSet.{insert}
use Rattle.page_chain.proofs.SetLemmas.{inserted}
use Rattle.page_chain.proofs.page_set.PageSet.insert.Goals as goal

pub returns : goal.returns
returns c = inserted c.self.inside.pages.keys _ c.args.page c.in_ok-insert.ensures.updates.0 ∙ ap (λ s. insert s c.args.page) c.self.view_is

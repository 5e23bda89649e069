use Rattle.std.proofs.Common.{sym, ap, ◌∙◌}
use Rattle.std.specs.Cmp.{nat_cmp_total}
use Rattle.std.specs.FinSet.{contains, contains-from_list}
use Rattle.page_chain.proofs.page_set.PageSet.has.Goals as goal

pub returns : goal.returns
returns c = c.contains.ensures ∙ sym (contains-from_list nat_cmp_total c.self.inside.pages.keys c.args.page) ∙ ap (λ s. contains s c.args.page) c.self.view_is

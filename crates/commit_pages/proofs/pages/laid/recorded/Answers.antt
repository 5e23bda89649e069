use Rattle.std.proofs.Common.{ℕ, List, ◌++◌, ap, ◌∙◌}
use Rattle.page_file.specs.declared.commits.placed.Placed.{Placed}
use Rattle.commit_pages.proofs.pages.laid.recorded.Goals as goal

pub returns-in-Ok-clause-pages : goal.returns-in-Ok-clause-pages
returns-in-Ok-clause-pages c = c.in-Ok.ensures ∙ ap (λ (pages : List ℕ). c.args.catalogue.now ++ pages) (c.as_slice.ensures ∙ ap (λ (chain : Placed). chain.pages) c.in_ok-chain.ensures)

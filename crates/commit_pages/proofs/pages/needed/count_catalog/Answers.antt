use Rattle.std.proofs.Common.{ap, ◌∙◌}
use Rattle.page_chain.specs.Chains.{content_size}
use Rattle.page_chain.specs.Pages.{page_size, pages_for}
use Rattle.commit_pages.specs.Commits.{chain_count}
use Rattle.commit_pages.proofs.pages.needed.count_catalog.Goals as goal

pub returns : goal.returns
returns c = c.chain_pages.ensures ∙ ap (pages_for (content_size page_size)) c.len.ensures ∙ ap chain_count c.in_ok-bytes.ensures

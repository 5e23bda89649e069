use Rattle.std.proofs.Common.{ap, ◌∙◌}
use Rattle.page_chain.specs.Pages.{page_size, pages_for}
use Rattle.commit_pages.proofs.pages.written.blob_count.Goals as goal

pub returns-clause-count : goal.returns-clause-count
returns-clause-count c = c.blob_pages.ensures ∙ ap (pages_for page_size) c.len.ensures

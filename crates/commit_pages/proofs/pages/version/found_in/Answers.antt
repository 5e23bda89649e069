use Rattle.std.proofs.Common.{ap, ◌∙◌}
use Rattle.file_meaning.specs.BlobAt.{BlobAt}
use Rattle.file_meaning.specs.Opening.{version_pages}
use Rattle.commit_pages.proofs.pages.version.found_in.Goals as goal

pub returns-clause-pages : goal.returns-clause-pages
returns-clause-pages c = c.in_ok-pages.ensures ∙ ap (λ (at : BlobAt). version_pages at c.args.directory.now) c.in_ok-at.ensures

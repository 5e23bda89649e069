use Rattle.std.proofs.Common.{ap, ◌∙◌}
use Rattle.page_file.specs.declared.commits.placed.Placed.{Placed}
use Rattle.file_meaning.specs.Opening.{version_pages}
use Rattle.commit_pages.specs.Versions.{blob_at}
use Rattle.commit_pages.proofs.pages.version.own_of.Goals as goal

pub returns-in-Ok-clause-at : goal.returns-in-Ok-clause-at
returns-in-Ok-clause-at c = c.in-Ok.ensures.at ∙ ap blob_at c.in_ok-blob.ensures

pub returns-in-Ok-clause-pages : goal.returns-in-Ok-clause-pages
returns-in-Ok-clause-pages c = c.in-Ok.ensures.pages ∙ ap (λ (blob : Placed). version_pages (blob_at blob) c.args.directory.now) c.in_ok-blob.ensures

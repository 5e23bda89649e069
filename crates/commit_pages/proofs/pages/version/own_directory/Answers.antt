use Rattle.std.proofs.Common.{ap, ◌∙◌}
use Rattle.chunk_map.specs.declared.directory.Directory.{Directory}
use Rattle.chunk_map.specs.Spelling.{spelling}
use Rattle.file_meaning.specs.Opening.{version_pages}
use Rattle.commit_pages.specs.Versions.{placed, blob_at}
use Rattle.commit_pages.proofs.pages.version.own_directory.Goals as goal

pub returns-in-Ok-clause-blob : goal.returns-in-Ok-clause-blob
returns-in-Ok-clause-blob c = c.in-Ok.ensures.blob ∙ ap (λ (directory : Directory). placed c.args.pages.now (spelling directory)) c.in_ok-directory.ensures

pub returns-in-Ok-clause-at : goal.returns-in-Ok-clause-at
returns-in-Ok-clause-at c = c.in-Ok.ensures.at ∙ ap (λ (directory : Directory). blob_at (placed c.args.pages.now (spelling directory))) c.in_ok-directory.ensures

pub returns-in-Ok-clause-pages : goal.returns-in-Ok-clause-pages
returns-in-Ok-clause-pages c =
    c.in-Ok.ensures.pages ∙ ap (λ (directory : Directory). version_pages (blob_at (placed c.args.pages.now (spelling directory))) directory) c.in_ok-directory.ensures

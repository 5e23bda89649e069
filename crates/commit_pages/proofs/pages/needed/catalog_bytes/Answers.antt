use Rattle.std.proofs.Common.{ap, ◌∙◌}
use Rattle.file_meaning.specs.Spelling.{spelling}
use Rattle.commit_pages.proofs.pages.needed.catalog_bytes.Goals as goal

pub returns-in-Ok : goal.returns-in-Ok
returns-in-Ok c = c.in-Ok.ensures ∙ ap spelling c.in_ok-next.ensures

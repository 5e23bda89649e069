use Rattle.std.proofs.Common.{Option, ap}
use Rattle.file_meaning.specs.BlobAt.{BlobAt}
use Rattle.file_meaning.specs.Changed.{after_change}
use Rattle.commit_pages.proofs.Results.{handed}
use Rattle.commit_pages.proofs.pages.laid.next_catalog.Goals as goal

pub returns : goal.returns
returns c = handed c.with_change.result _ _ (ap (λ (at : Option BlobAt). after_change c.args.catalog.now c.args.change.now at) c.in_ok-copy_at.ensures) c.with_change.ensures

pub with_change-requires-clause-names : goal.with_change-requires-clause-names
with_change-requires-clause-names c = c.requires.names

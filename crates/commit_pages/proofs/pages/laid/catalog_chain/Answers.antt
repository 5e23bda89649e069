use Rattle.std.proofs.Common.{IsTrue, Option, sym, subst, ap, ◌∙◌}
use Rattle.file_meaning.specs.Changed.{has_its_directory}
use Rattle.file_meaning.specs.BlobAt.{BlobAt}
use Rattle.commit_pages.specs.Commits.{chain_in, catalog_bytes}
use Rattle.commit_pages.proofs.Results.{handed}
use Rattle.commit_pages.proofs.pages.laid.catalog_chain.Goals as goal

pub catalog_bytes-requires-clause-names : goal.catalog_bytes-requires-clause-names
catalog_bytes-requires-clause-names c = c.requires.names

pub catalog_bytes-requires-clause-directory : goal.catalog_bytes-requires-clause-directory
catalog_bytes-requires-clause-directory c = subst (λ (at : Option BlobAt). IsTrue (has_its_directory c.args.change.now at)) (sym c.in_ok-copy_at.ensures) c.requires.directory

pub returns : goal.returns
returns c =
    handed c.chain_in.result _ _
    (ap (chain_in c.args.pages.now) (c.in_ok-bytes.ensures ∙ ap (λ (at : Option BlobAt). catalog_bytes c.args.catalog.now c.args.change.now at) c.in_ok-copy_at.ensures)) c.chain_in.ensures

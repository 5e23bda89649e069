use Rattle.std.proofs.Common.{IsTrue, Option, sym, subst, ap, ◌∙◌}
use Rattle.file_meaning.specs.Changed.{has_its_directory}
use Rattle.file_meaning.specs.BlobAt.{BlobAt}
use Rattle.commit_pages.specs.Commits.{chain_in, record_bytes}
use Rattle.commit_pages.proofs.Results.{handed}
use Rattle.commit_pages.proofs.pages.laid.record_chain.Goals as goal

pub record_bytes-requires-clause-names : goal.record_bytes-requires-clause-names
record_bytes-requires-clause-names c = c.requires.names

pub record_bytes-requires-clause-directory : goal.record_bytes-requires-clause-directory
record_bytes-requires-clause-directory c = subst (λ (at : Option BlobAt). IsTrue (has_its_directory c.args.change.now at)) (sym c.in_ok-copy_at.ensures) c.requires.directory

pub returns : goal.returns
returns c =
    handed c.chain_in.result _ _
    (ap (chain_in c.args.pages.now) (c.in_ok-bytes.ensures ∙ ap (λ (at : Option BlobAt). record_bytes c.args.catalog.now c.args.change.now at) c.in_ok-copy_at.ensures)) c.chain_in.ensures

use Rattle.std.proofs.Common.{◌≡◌, true, ℕ, ◌+◌, Option, sym, subst, ap, ◌∙◌}
use Rattle.file_meaning.specs.Changed.{has_its_directory}
use Rattle.file_meaning.specs.BlobAt.{BlobAt}
use Rattle.commit_pages.specs.Versions.{version_needs}
use Rattle.commit_pages.specs.Commits.{chain_count, catalog_bytes, base_needs}
use Rattle.commit_pages.proofs.Chains.{draft_has_its}
use Rattle.commit_pages.proofs.Results.{handed}
use Rattle.commit_pages.proofs.pages.needed.needed_for_base.Goals as goal

pub count_catalog-requires-clause-names : goal.count_catalog-requires-clause-names
count_catalog-requires-clause-names c = c.requires.names

pub count_catalog-requires-clause-directory : goal.count_catalog-requires-clause-directory
count_catalog-requires-clause-directory c =
    subst (λ (at : Option BlobAt). has_its_directory c.args.change.now at ≡ true) (sym c.in_ok-at.ensures) (draft_has_its c.args.change.now c.args.written.now c.args.newest.now c.requires.comes)

pub returns-in_ok-count_catalog-in-Ok : goal.returns-in_ok-count_catalog-in-Ok
unfolding base_needs
returns-in_ok-count_catalog-in-Ok c =
    let its = c.in_ok-count_catalog-in-Ok.field-0 in
    handed c.sum.result (c.in-Ok.count + its) _
    (ap (λ (n : ℕ). n + its) c.in-Ok.ensures
    ∙ ap (λ (n : ℕ). version_needs c.args.written.now c.args.newest.now + n)
    (c.in_ok-count_catalog-in-Ok.ensures ∙ ap (λ (at : Option BlobAt). chain_count (catalog_bytes c.args.catalog.now c.args.change.now at)) c.in_ok-at.ensures)) c.sum.ensures

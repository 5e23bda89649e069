use Rattle.std.proofs.Common.{◌≡◌, true, ℕ, ◌+◌, Option, sym, subst, ap, ◌∙◌}
use Rattle.file_meaning.specs.Changed.{has_its_directory}
use Rattle.file_meaning.specs.BlobAt.{BlobAt}
use Rattle.commit_pages.specs.Versions.{version_needs}
use Rattle.commit_pages.specs.Commits.{chain_count, record_bytes, record_needs}
use Rattle.commit_pages.proofs.Chains.{draft_has_its}
use Rattle.commit_pages.proofs.Results.{handed}
use Rattle.commit_pages.proofs.pages.needed.needed_for_record.Goals as goal

pub count_record-requires-clause-names : goal.count_record-requires-clause-names
count_record-requires-clause-names c = c.requires.names

pub count_record-requires-clause-directory : goal.count_record-requires-clause-directory
count_record-requires-clause-directory c =
    subst (λ (at : Option BlobAt). has_its_directory c.args.change.now at ≡ true) (sym c.in_ok-at.ensures) (draft_has_its c.args.change.now c.args.written.now c.args.newest.now c.requires.comes)

pub returns-in_ok-count_record-in-Ok : goal.returns-in_ok-count_record-in-Ok
unfolding record_needs
returns-in_ok-count_record-in-Ok c =
    let its = c.in_ok-count_record-in-Ok.field-0 in
    handed c.sum.result (c.in-Ok.count + its) _
    (ap (λ (n : ℕ). n + its) c.in-Ok.ensures
    ∙ ap (λ (n : ℕ). version_needs c.args.written.now c.args.newest.now + n)
    (c.in_ok-count_record-in-Ok.ensures ∙ ap (λ (at : Option BlobAt). chain_count (record_bytes c.args.catalog.now c.args.change.now at)) c.in_ok-at.ensures)) c.sum.ensures

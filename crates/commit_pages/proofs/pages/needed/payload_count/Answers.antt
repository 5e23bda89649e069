use Rattle.std.proofs.Common.{List, length, sym, ap, ◌∙◌}
use Rattle.page_file.specs.Commits.{pages_of}
use Rattle.page_file.specs.declared.commits.placed.Placed.{Placed}
use Rattle.commit_pages.specs.Versions.{payload_count}
use Rattle.commit_pages.proofs.Results.{handed}
use Rattle.commit_pages.proofs.pages.needed.payload_count.Goals as goal

pub returns-in-Some : goal.returns-in-Some
returns-in-Some c =
    handed c.count_pages.result _ _ (ap (λ (blobs : List Placed). length (pages_of blobs)) c.as_slice.ensures ∙ sym (ap payload_count c.in-Some.is)) c.count_pages.ensures

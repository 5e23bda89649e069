use Rattle.std.proofs.Common.{ℕ, List, length, ap, ◌∙◌}
use Rattle.file_meaning.specs.BlobAt.{BlobAt}
use Rattle.commit_pages.specs.Versions.{blob_at, drafted}
use Rattle.commit_pages.proofs.pages.needed.drafted_directory.Goals as goal

pub returns : goal.returns
returns c =
    let at : ℕ → List ℕ → BlobAt = λ length pages. record { length = length; pages = pages } in
    let bytes = c.in_ok-bytes.bytes in
    ap (λ (n : ℕ). at n c.in_ok-drafted_pages.field-0) c.len.ensures ∙ ap (at (length bytes)) c.in_ok-drafted_pages.ensures.pages
    ∙ ap (λ (bytes : List ℕ). blob_at (drafted bytes)) c.in_ok-bytes.ensures

use Rattle.std.proofs.Common.{ℕ, List, take, ap, ◌∙◌}
use Rattle.commit_pages.specs.Versions.{placed}
use Rattle.commit_pages.proofs.Results.{blob_of}
use Rattle.commit_pages.proofs.pages.version.placed_directory.Goals as goal

pub returns : goal.returns
returns c =
    ap (λ (pages : List ℕ). blob_of pages c.in_ok-bytes.bytes) (c.in_ok-pages.ensures ∙ ap (λ (n : ℕ). take n c.args.pages.now) c.blob_count.ensures.count)
    ∙ ap (placed c.args.pages.now) c.in_ok-bytes.ensures

use Rattle.std.proofs.Common.{ℕ, List, take, ap, ◌∙◌}
use Rattle.commit_pages.proofs.Results.{blob_of}
use Rattle.commit_pages.proofs.pages.laid.chain_in.Goals as goal

pub returns : goal.returns
returns c = ap (λ (pages : List ℕ). blob_of pages c.args.bytes) (c.in_ok-pages.ensures ∙ ap (λ (n : ℕ). take n c.args.pages.now) c.chain_count.ensures)

use Rattle.std.proofs.Common.{ap, sym, ◌∙◌, ℕ}
use Rattle.std.specs.Int.{div_ceil}
use Rattle.page_chain.proofs.Kept.{size_is}
use Rattle.page_chain.proofs.blob.blob_pages.Goals as goal

pub returns : goal.returns
returns c = c.div_ceil.ensures ∙ ap (λ (size : ℕ). div_ceil c.args.count size) (sym size_is)

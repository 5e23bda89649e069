use Rattle.std.proofs.Common.{ℕ, List, take, drop, ap, ◌∙◌}
use Rattle.commit_pages.proofs.Results.{blob_of}
use Rattle.commit_pages.proofs.pages.written.settle.Goals as goal

pub returns-clause-own : goal.returns-clause-own
returns-clause-own c =
    ap (λ (pages : List ℕ). blob_of pages c.args.one.now.bytes) (c.in_ok-one.ensures ∙ ap (λ (n : ℕ). take n c.args.pages.now) c.blob_count-count.ensures.count)

pub returns-clause-rest : goal.returns-clause-rest
returns-clause-rest c = c.pages_behind.ensures ∙ ap (λ (n : ℕ). drop n c.args.pages.now) c.blob_count-count.ensures.count

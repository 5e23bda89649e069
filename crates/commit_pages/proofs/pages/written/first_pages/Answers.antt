use Rattle.std.proofs.Common.{ℕ, take, ap, ◌∙◌}
use Rattle.commit_pages.proofs.Firsts.{first_ones}
use Rattle.commit_pages.proofs.Results.{handed}
use Rattle.commit_pages.proofs.pages.written.first_pages.Goals as goal

pub returns : goal.returns
returns c = handed c.from_slice.result _ _ (ap (λ (n : ℕ). take n c.args.pages.now) c.min.ensures ∙ first_ones c.args.pages.now c.args.count) c.from_slice.ensures

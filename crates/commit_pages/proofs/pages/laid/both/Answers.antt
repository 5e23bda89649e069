use Rattle.std.proofs.Common.{ℕ, List, ◌++◌, ap, ◌∙◌}
use Rattle.commit_pages.proofs.pages.laid.both.Goals as goal

pub returns : goal.returns
returns c = c.in_ok-extend.ensures.ok ∙ ap (λ (all : List ℕ). all ++ c.args.more.now) c.in_ok-all.ensures

use Rattle.std.proofs.Common.{List, ℕ, ◌∙◌, ap, rules, arith}
use Rattle.page_chain.specs.Roots.{root_at}
use Rattle.page_chain.proofs.SlotsKept.{root_spelled}
use Rattle.page_chain.proofs.slots.layout.roots.root_body.Goals as goal

pub returns-clause-reads : goal.returns-clause-reads
returns-clause-reads c = ap (λ (xs : List ℕ). root_at 0 xs) c.root_bytes.ensures ∙ root_spelled c.args.root (search rules) (search rules) (search rules) (search rules)

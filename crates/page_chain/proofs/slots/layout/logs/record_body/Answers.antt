use Rattle.std.proofs.Common.{List, ℕ, ◌∙◌, ap, rules, arith}
use Rattle.page_chain.specs.Logs.{record_at}
use Rattle.page_chain.proofs.SlotsKept.{record_spelled}
use Rattle.page_chain.proofs.slots.layout.logs.record_body.Goals as goal

pub returns-clause-reads : goal.returns-clause-reads
returns-clause-reads c = ap (λ (xs : List ℕ). record_at 0 xs) c.record_bytes.ensures ∙ record_spelled c.args.at (search rules) (search rules)

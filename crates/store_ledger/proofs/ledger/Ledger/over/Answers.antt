use Rattle.store_ledger.proofs.Versions.{first_of}
use Rattle.store_ledger.proofs.ledger.Ledger.over.Goals as goal

pub invariant_of-result : goal.invariant_of-result
invariant_of-result c =
    first_of c.args.base c.of-start.result.value c.args.limit c.in-Ok.core.core c.new-in-Ok.result.items c.new-in-Ok-2.result.items _ _ _ _ c.requires.base c.requires.pages
    c.of-start.ensures c.in-Ok.ensures c.new-in-Ok.ensures.items c.new-in-Ok-2.ensures.items

pub returns-in-Ok : goal.returns-in-Ok
returns-in-Ok c =
    λ i. record { base = c.of-start.ensures i; limit = c.args.limit; entries = c.new-in-Ok.ensures.items i; notes = c.new-in-Ok-2.ensures.items i }

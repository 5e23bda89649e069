use Rattle.std.proofs.Common.{false}
use Rattle.changed_chunks.proofs.OverCores.{over_cores}
use Rattle.changed_chunks.proofs.chunks.alone.put_over_cores.Goals as goal

pub returns : goal.returns
returns c = over_cores c.args.put.now c.requires.put c.args.old.now c.requires.old c.requires.none c.in_ok-chunks.chunks (record { schema = c.in_ok-copy.field-0; whole = false; chunks = c.in_ok-chunks.chunks })
    c.in_ok-chunks.ensures.numbers c.in_ok-chunks.ensures.parts (λ i. record { schema = c.in_ok-copy.ensures i; whole = false; chunks = c.in_ok-chunks.chunks })

use Rattle.std.proofs.Common.{false}
use Rattle.changed_chunks.proofs.Unchanged.{over_none}
use Rattle.changed_chunks.proofs.chunks.versions.put_over_none.Goals as goal

pub returns : goal.returns
returns c = over_none c.args.put.now (record { schema = c.in_ok-copy.field-0; whole = false; chunks = c.in_ok-chunks.chunks }) c.requires
    (λ i. record { schema = c.in_ok-copy.ensures i; whole = false; chunks = c.in_ok-chunks.ensures i })

use Rattle.std.proofs.Common.{ℕ, List, subst}
use Rattle.afl_outside.specs.Disk.{ReadsAt}
use Rattle.afl_outside.proofs.Memory.{reads_from}
use Rattle.afl_outside.proofs.in_memory.overlay.Overlay.read.Goals as goal

pub returns : goal.returns
returns c =
    subst (λ (seen : List ℕ). ReadsAt seen c.args.at c.copy_front.result c.copy_front.new.into) c.content-content.ensures
    (reads_from c.content-content.result.now c.split_at.result.1.now c.args.into.now c.copy_front.new.into c.args.at c.min-at.result c.copy_front.result
    c.min-at.ensures c.split_at.ensures.back c.copy_front.ensures.count c.copy_front.ensures.bytes)

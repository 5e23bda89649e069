use Rattle.std.proofs.Common.{arith, sym, ◌∙◌}
use Rattle.changed_chunks.proofs.Unchanged.{no_fault_more}
use Rattle.changed_chunks.proofs.chunks.unchanged.has_no_fault.Goals as goal

pub loop-k-preserved : goal.loop-k-preserved
loop-k-preserved c = no_fault_more c.loop-k.k c.args.cells.now (sym c.fault.ensures ∙ c.in-None.is) c.loop-k.invariant

pub loop-k-init : goal.loop-k-init
loop-k-init c = λ i low. absurd (omega (arith, low))

pub returns : goal.returns
returns c = λ _ i low. c.loop-k.invariant i (omega (arith, low, c.loop-k-test.false))

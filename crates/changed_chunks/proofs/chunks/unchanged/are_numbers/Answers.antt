use Rattle.std.proofs.Common.{arith}
use Rattle.changed_chunks.proofs.Unchanged.{numbers_more}
use Rattle.changed_chunks.proofs.chunks.unchanged.are_numbers.Goals as goal

pub loop-place-preserved : goal.loop-place-preserved
loop-place-preserved c = numbers_more c.loop-place.place c.args.cells.now (c.is_number.ensures c.if-not-is_number.false) c.loop-place.invariant

pub loop-place-init : goal.loop-place-init
loop-place-init c = λ k low. absurd (omega (arith, low))

pub returns : goal.returns
returns c = λ _ k low. c.loop-place.invariant k (omega (arith, low, c.loop-place-test.false))

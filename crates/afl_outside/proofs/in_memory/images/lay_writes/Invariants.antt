use Rattle.std.proofs.Common.{◌≡◌, drop}
use Rattle.afl_outside.specs.Images.{with_writes}
use Rattle.afl_outside.proofs.in_memory.images.lay_writes.Given as goal

abbrev pub invariant-loop-call : goal.invariant-loop-call
invariant-loop-call l = with_writes l.places l.fill l.image.items (drop l.call-index l.calls) ≡ with_writes l.kept l.fill l.initial.image.items l.calls

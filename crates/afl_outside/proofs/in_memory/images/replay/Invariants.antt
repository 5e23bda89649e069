use Rattle.std.proofs.Common.{◌≡◌, drop}
use Rattle.afl_outside.specs.Images.{content_after}
use Rattle.afl_outside.proofs.in_memory.images.replay.Given as goal

abbrev pub invariant-loop-call : goal.invariant-loop-call
invariant-loop-call l = content_after l.content.items (drop l.call-index l.calls) ≡ content_after l.initial.content.items l.calls

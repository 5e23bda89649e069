use Rattle.std.proofs.Common.{◌+◌, Ok, drop, ◌∙◌, ap, subst}
use Rattle.afl_outside.specs.InMemory.{Reading, SureReads}
use Rattle.afl_outside.proofs.Memory.{reading, read_behind, reads_piece}
use Rattle.afl_outside.proofs.in_memory.sure_source.SureSourceSource.read.Goals as goal

pub returns-clause-exact : goal.returns-clause-exact
returns-clause-exact c =
    let inside = c.self.inside in
    let read = c.copy_front-count in
    subst (λ (r : Reading). SureReads read.new.into r (reading inside.content (inside.at + read.result)) (Ok read.result)) c.self.view_is (
      reads_piece (reading inside.content inside.at) c.split_at.result.1.now c.args.into.now read.new.into read.result
          (c.split_at.ensures.back ∙ ap (drop inside.at) c.as_slice.ensures) read.ensures.count read.ensures.bytes,
      read_behind inside.content inside.at read.result,
    )

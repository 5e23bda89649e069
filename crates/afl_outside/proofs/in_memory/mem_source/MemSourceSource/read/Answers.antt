use Rattle.std.proofs.Common.{◌+◌, Ok, drop, ◌∙◌, ap, subst}
use Rattle.std.proofs.lemmas.Bool.{false≢true}
use Rattle.afl_outside.specs.InMemory.{MemorySource, MemoryReads}
use Rattle.afl_outside.proofs.Memory.{reading, read_behind, reads_piece}
use Rattle.afl_outside.proofs.in_memory.mem_source.MemSourceSource.read.Goals as goal

pub returns-clause-exact : goal.returns-clause-exact
returns-clause-exact c =
    let inside = c.self.inside in
    let read = c.copy_front-count in
    let now : MemorySource = record { name = inside.name; bytes = reading inside.content (inside.at + read.result); turns = c.fails_next.new.self } in
    subst (λ (s : MemorySource). MemoryReads read.new.into s now (Ok read.result)) c.self.view_is (
      λ listed. absurd (false≢true (c.if-fails_next.ensures.listed.1 listed)),
      reads_piece (reading inside.content inside.at) c.split_at.result.1.now c.args.into.now read.new.into read.result
          (c.split_at.ensures.back ∙ ap (drop inside.at) c.as_slice.ensures) read.ensures.count read.ensures.bytes,
      λ i. record { name = inside.name; bytes = read_behind inside.content inside.at read.result i; turns = c.if-fails_next.ensures.passed i },
    )

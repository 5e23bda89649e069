use Rattle.std.proofs.Common.{Ok, length, length-append, refl, ap, subst, arith}
use Rattle.std.proofs.lemmas.Bool.{false≢true}
use Rattle.afl_outside.specs.InMemory.{MemorySink, MemoryWrites}
use Rattle.afl_outside.proofs.Memory.{holding, written_behind}
use Rattle.afl_outside.proofs.in_memory.mem_sink.MemSinkSink.write.Goals as goal

pub invariant_of-self-in-Ok : goal.invariant_of-self-in-Ok
invariant_of-self-in-Ok c = omega (arith, c.self.invariant, ap length c.in-Ok.ensures.ok, length-append c.self.inside.held c.args.bytes.now)

pub returns-in-Ok-clause-exact : goal.returns-in-Ok-clause-exact
returns-in-Ok-clause-exact c =
    let inside = c.self.inside in
    let bytes = c.args.bytes.now in
    let now : MemorySink = record { name = inside.name; bytes = holding inside.begun c.extend.new.self inside.wants; turns = c.fails_next.new.self } in
    subst (λ (s : MemorySink). MemoryWrites bytes s now (Ok (length bytes))) c.self.view_is (
      λ listed. absurd (false≢true (c.if-fails_next.ensures.listed.1 listed)),
      refl,
      λ i. record {
        name = inside.name;
        bytes = written_behind inside.held bytes c.extend.new.self inside.begun inside.wants c.self.invariant c.in-Ok.ensures.ok i;
        turns = c.if-fails_next.ensures.passed i;
      },
    )

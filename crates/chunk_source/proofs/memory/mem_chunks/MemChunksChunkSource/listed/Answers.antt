use Rattle.std.proofs.Common.{IfOk, subst}
use Rattle.logical_plan.specs.Meaning.{Database}
use Rattle.chunk_source.specs.InMemory.{MemoryChunks, memory_state}
use Rattle.chunk_source.specs.Source.{AreNumbersIn, Keeps}
use Rattle.chunk_source.proofs.ReadLemmas.{keeps_turned}
use Rattle.chunk_source.proofs.memory.mem_chunks.MemChunksChunkSource.listed.Goals as goal

pub returns-clause-kept : goal.returns-clause-kept
returns-clause-kept c =
    let old : MemoryChunks = record { sure = c.self.inside.sure; turns = c.self.inside.turns } in
    let new : MemoryChunks = record { sure = c.listed.new.self; turns = c.fails_next.new.self } in
    subst (λ (z : MemoryChunks). Keeps (memory_state z) (memory_state new)) c.self.view_is (keeps_turned old new c.listed.ensures.kept c.fails_next.ensures.later)

pub returns-clause-told : goal.returns-clause-told
returns-clause-told c =
    subst (λ (z : MemoryChunks). IfOk c.listed.result (λ chunks. (db : Database) → (memory_state z).tells db → AreNumbersIn db c.args.leaf.now chunks))
    c.self.view_is c.listed.ensures.told

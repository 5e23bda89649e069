use Rattle.std.proofs.Common.{IfOk, subst}
use Rattle.logical_plan.specs.Meaning.{Database}
use Rattle.chunk_source.specs.InMemory.{MemoryChunks, memory_state}
use Rattle.chunk_source.specs.Source.{IsChunkIn, Keeps}
use Rattle.chunk_source.proofs.ReadLemmas.{keeps_turned}
use Rattle.chunk_source.proofs.memory.mem_chunks.MemChunksChunkSource.chunk.Goals as goal

pub returns-clause-kept : goal.returns-clause-kept
returns-clause-kept c =
    let old : MemoryChunks = record { sure = c.self.inside.sure; turns = c.self.inside.turns } in
    let new : MemoryChunks = record { sure = c.chunk.new.self; turns = c.fails_next.new.self } in
    subst (λ (z : MemoryChunks). Keeps (memory_state z) (memory_state new)) c.self.view_is (keeps_turned old new c.chunk.ensures.kept c.fails_next.ensures.later)

pub returns-clause-told : goal.returns-clause-told
returns-clause-told c =
    subst (λ (z : MemoryChunks). IfOk c.chunk.result (λ chunk. (db : Database) → (memory_state z).tells db → IsChunkIn db c.args.leaf.now chunk))
    c.self.view_is c.chunk.ensures.told

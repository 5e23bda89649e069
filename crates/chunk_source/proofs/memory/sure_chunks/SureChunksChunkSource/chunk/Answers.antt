use Rattle.std.proofs.Common.{◌≡◌, subst}
use Rattle.logical_plan.specs.Meaning.{Database}
use Rattle.chunk_source.specs.Found.{database_of}
use Rattle.chunk_source.specs.InMemory.{StoredArrays, sure_state}
use Rattle.chunk_source.specs.Source.{IsChunkIn, Keeps}
use Rattle.chunk_source.proofs.ReadLemmas.{keeps_asked}
use Rattle.chunk_source.proofs.memory.sure_chunks.SureChunksChunkSource.chunk.Goals as goal

pub returns-clause-kept : goal.returns-clause-kept
returns-clause-kept c =
    subst (λ (z : StoredArrays). Keeps (sure_state z) (sure_state (record { arrays = c.self.inside.arrays; asked = c.push.new.self }))) c.self.view_is
    (keeps_asked c.self.inside.arrays c.self.inside.asked c.push.new.self)

pub returns-clause-told : goal.returns-clause-told
returns-clause-told c =
    subst (λ (z : StoredArrays). (db : Database) → db ≡ database_of z.arrays → IsChunkIn db c.args.leaf.now c.in_ok-chunk.chunk) c.self.view_is
    c.in_ok-chunk.ensures.told

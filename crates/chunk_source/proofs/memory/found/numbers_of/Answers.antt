use Rattle.std.proofs.Common.{◌∙◌, List, ap}
use Rattle.std.proofs.lemmas.List.{take_all}
use Rattle.array_geom.specs.declared.chunk.Chunk.{Chunk}
use Rattle.chunk_source.specs.Found.{numbers_in}
use Rattle.chunk_source.proofs.ChunkRows.{number_more}
use Rattle.chunk_source.proofs.memory.found.numbers_of.Goals as goal

pub loop-chunk-preserved : goal.loop-chunk-preserved
loop-chunk-preserved c =
    number_more c.args.chunks.now c.loop-chunk.chunk-index c.chunk-item.result c.copy_numbers.result c.loop-chunk.numbers c.push.new.self
    c.loop-chunk-test.true c.chunk-item.is c.loop-chunk.invariant c.copy_numbers.ensures c.in_ok-push.ensures.ok

pub returns : goal.returns
returns c = c.loop-chunk.invariant ∙ ap (λ (z : List Chunk). numbers_in z) (take_all c.loop-chunk.chunk-index c.args.chunks.now c.loop-chunk-test.false)

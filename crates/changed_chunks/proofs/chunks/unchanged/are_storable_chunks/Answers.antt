use Rattle.changed_chunks.specs.Inner.Unchanged.{IsStorableChunk}
use Rattle.changed_chunks.proofs.Unchanged.{all_tested, one_more}
use Rattle.changed_chunks.proofs.chunks.unchanged.are_storable_chunks.Goals as goal

pub loop-chunk-preserved : goal.loop-chunk-preserved
loop-chunk-preserved c = one_more (IsStorableChunk c.args.schema.now c.args.margins.now.items) c.args.chunks.now c.loop-chunk.chunk-index c.chunk-item.result c.loop-chunk-test.true c.chunk-item.is (c.is_storable_chunk.ensures c.if-not-is_storable_chunk.false) c.loop-chunk.invariant

pub returns : goal.returns
returns c = λ _. all_tested (IsStorableChunk c.args.schema.now c.args.margins.now.items) c.args.chunks.now c.loop-chunk.chunk-index c.loop-chunk-test.false c.loop-chunk.invariant

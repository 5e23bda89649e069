use Rattle.std.proofs.Common.{◌∙◌, map, ap}
use Rattle.std.proofs.lemmas.List.{take_all}
use Rattle.array_geom.specs.declared.chunk.Chunk.{Chunk}
use Rattle.commit_pages.proofs.Loops.{map_more}
use Rattle.commit_pages.proofs.pages.written.numbers_of.Goals as goal

pub loop-chunk-preserved : goal.loop-chunk-preserved
loop-chunk-preserved c =
    let l = c.loop-chunk in
    map_more c.args.chunks.now l.chunk-index c.chunk-item.result c.loop-chunk-test.true c.chunk-item.is (λ (chunk : Chunk). chunk.at) l.numbers c.push.new.self _
    l.invariant c.copy_numbers.ensures c.in_ok-push.ensures.ok

pub returns : goal.returns
returns c =
    let l = c.loop-chunk in
    l.invariant ∙ ap (map (λ (chunk : Chunk). chunk.at)) (take_all l.chunk-index c.args.chunks.now c.loop-chunk-test.false)

use Rattle.std.proofs.Common.{[], ◌∷◌, ◌++◌, map, take, ap, sym, ◌∙◌}
use Rattle.std.proofs.lemmas.List.{map_more}
use Rattle.array_geom.specs.declared.chunk.Chunk.{Chunk}
use Rattle.area_cells.proofs.numbering.numbers_of.Goals as goal

pub loop-chunk-preserved : goal.loop-chunk-preserved
loop-chunk-preserved c =
    let items = c.as_slice-chunk-items.result.now in
    let i = c.loop-chunk.chunk-index in
    c.in_ok-push.ensures.ok
    ∙ ap (λ l. l ++ c.copy_numbers.result ∷ []) c.loop-chunk.invariant
    ∙ ap (λ x. map (λ (chunk : Chunk). chunk.at) (take i items) ++ x ∷ []) (c.copy_numbers.ensures ∙ ap (λ (chunk : Chunk). chunk.at) c.chunk-item.is)
    ∙ sym (map_more (λ (chunk : Chunk). chunk.at) items i c.chunk-item.result c.loop-chunk-test.true)

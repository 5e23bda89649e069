use Rattle.std.proofs.Common.{[], ◌∷◌, ◌++◌, take, ap, sym, ◌∙◌}
use Rattle.std.proofs.lemmas.List.{take_more}
use Rattle.area_cells.proofs.bands.copies.Goals as goal

pub loop-chunk-preserved : goal.loop-chunk-preserved
loop-chunk-preserved c =
    let chunks = c.args.chunks.now in
    let before = take c.loop-chunk.chunk-index chunks in
    c.in_ok-push.ensures.ok
    ∙ ap (λ l. l ++ c.in_ok-copy.field-0 ∷ []) c.loop-chunk.invariant
    ∙ ap (λ x. before ++ x ∷ []) (c.in_ok-copy.ensures ∙ c.chunk-item.is)
    ∙ sym (take_more chunks c.loop-chunk.chunk-index c.chunk-item.result c.loop-chunk-test.true)

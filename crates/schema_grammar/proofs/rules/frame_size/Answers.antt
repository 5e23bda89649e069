use Rattle.std.proofs.Common.{◌-◌, ◌*◌, ◌^◌, min, take, ap, ◌∙◌}
use Rattle.afl_lexer.specs.Schemas.{frame_length, frame_size}
use Rattle.schema_grammar.proofs.RuleLemmas.{frame_more}
use Rattle.schema_grammar.proofs.rules.frame_size.Goals as goal

pub loop-dimension-preserved : goal.loop-dimension-preserved
loop-dimension-preserved c =
    let before = frame_size (take c.loop-dimension.dimension-index c.args.dimensions.now) in
    c.saturating_mul-size.ensures
    ∙ ap (λ n. min (n * c.frame_length.result) (2 ^ 64 - 1)) c.loop-dimension.invariant
    ∙ ap (λ n. min (min before (2 ^ 64 - 1) * n) (2 ^ 64 - 1)) (c.frame_length.ensures ∙ ap (λ d. min (frame_length d) (2 ^ 64 - 1)) c.dimension-item.is)
    ∙ frame_more c.args.dimensions.now c.loop-dimension.dimension-index c.dimension-item.result c.loop-dimension-test.true

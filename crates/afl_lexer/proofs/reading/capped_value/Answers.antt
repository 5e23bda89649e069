use Rattle.std.proofs.Common.{ℕ, ◌+◌, ◌*◌, min, ap, ◌∙◌}
use Rattle.afl_lexer.proofs.reading.capped_value.Goals as goal
use Rattle.afl_lexer.proofs.Numbers.{capped_more}

pub loop-digit-preserved : goal.loop-digit-preserved
loop-digit-preserved c =
    let most : ℕ = 18446744073709551615 in
    c.saturating_add-value.ensures
    ∙ ap (λ m. min (m + c.from.result) most) c.saturating_mul.ensures
    ∙ ap (λ d. min (min (c.loop-digit.value * 10) most + d) most) c.from.ensures
    ∙ capped_more c.args.digits.now c.loop-digit.digit-index c.loop-digit.value most c.loop-digit-test.true c.requires c.loop-digit.invariant

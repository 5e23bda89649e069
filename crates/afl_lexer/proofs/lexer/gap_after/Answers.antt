use Rattle.std.proofs.Common.{◌≡◌, ℕ, ◌+◌, drop, ap, subst, sym, ◌∙◌}
use Rattle.std.proofs.lemmas.List.{take_rest}
use Rattle.afl_lexer.specs.Scan.{gap_len}
use Rattle.afl_lexer.specs.Tokens.{IsGap, IsLongest}
use Rattle.afl_lexer.proofs.Places.{gap_at}
use Rattle.afl_lexer.proofs.lexer.gap_after.Goals as goal

pub returns : goal.returns
returns c =
    let text = c.args.text.now in
    let from = c.args.from in
    let is : c.gap_end.result ≡ gap_len (drop from text) = c.gap_end.ensures.len ∙ ap gap_len (take_rest text from) in
    subst (λ (n : ℕ). IsLongest IsGap text from (from + n)) (sym is) (gap_at text from c.requires)

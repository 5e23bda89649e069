use Rattle.std.proofs.Common.{◌≡◌, drop, ap, ◌∙◌, sym, arith}
use Rattle.std.proofs.lemmas.List.{drop_all, take_rest}
use Rattle.afl_lexer.specs.Scan.{blank_len, gap_len}
use Rattle.afl_lexer.proofs.gap.gap_end.Goals as goal
use Rattle.afl_lexer.proofs.Steps.{gap_more, gap_found, step_within}

pub loop-at-preserved : goal.loop-at-preserved
loop-at-preserved c =
    let bytes = c.args.bytes.now in (
      step_within bytes c.loop-at.at c.front_len-blank.result c.loop-at.invariant.0 c.front_len-blank.ensures.within,
      gap_more bytes c.loop-at.at c.front_len-blank.result (c.front_len-blank.ensures.len ∙ ap blank_len (take_rest bytes c.loop-at.at)) c.loop-at.invariant.1,
    )

pub returns-then-blank-eq0-clause-len : goal.returns-then-blank-eq0-clause-len
returns-then-blank-eq0-clause-len c =
    let bytes = c.args.bytes.now in
    gap_found bytes c.loop-at.at (sym (c.front_len-blank.ensures.len ∙ ap blank_len (take_rest bytes c.loop-at.at)) ∙ c.if-blank-eq0.true) c.loop-at.invariant.1

pub returns-after-loop-at-clause-len : goal.returns-after-loop-at-clause-len
returns-after-loop-at-clause-len c =
    let none : gap_len (drop c.loop-at.at c.args.bytes.now) ≡ 0 = ap gap_len (drop_all c.loop-at.at c.args.bytes.now c.loop-at-test.false) in
    omega (arith, none, c.loop-at.invariant.1)

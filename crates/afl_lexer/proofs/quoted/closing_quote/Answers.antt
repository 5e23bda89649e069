use Rattle.std.proofs.Common.{◌≡◌, ℕ, ◌+◌, drop, ap, subst, ◌∙◌, sym, arith}
use Rattle.std.proofs.lemmas.List.{drop_all, take_rest}
use Rattle.afl_lexer.specs.Scan.{item_len, quote_at, further}
use Rattle.afl_lexer.proofs.quoted.closing_quote.Goals as goal
use Rattle.afl_lexer.proofs.Steps.{further_none, quote_more, quote_found, step_within}

pub loop-at-init : goal.loop-at-init
loop-at-init c = (omega arith, further_none (quote_at c.args.bytes.now))

pub returns-then-bytes-at-eq39-clause-place : goal.returns-then-bytes-at-eq39-clause-place
returns-then-bytes-at-eq39-clause-place c = quote_found c.args.bytes.now c.loop-at.at c.loop-at-test.true c.if-bytes-at-eq39.true c.loop-at.invariant.1

pub loop-at-preserved : goal.loop-at-preserved
loop-at-preserved c =
    let bytes = c.args.bytes.now in
    let at = c.loop-at.at in
    let is : c.front_len-at.result ≡ item_len (drop at bytes) = c.front_len-at.ensures.len ∙ ap item_len (take_rest bytes at) in (
      step_within bytes at c.front_len-at.result c.loop-at.invariant.0 c.front_len-at.ensures.within,
      subst (λ (k : ℕ). quote_at bytes ≡ further (at + k) (quote_at (drop (at + k) bytes))) (sym is) (quote_more bytes at c.if-bytes-at-eq39.false c.loop-at.invariant.1),
    )

pub returns-clause-place : goal.returns-clause-place
returns-clause-place c =
    let at = c.loop-at.at in
    sym (c.loop-at.invariant.1 ∙ ap (λ l. further at (quote_at l)) (drop_all at c.args.bytes.now c.loop-at-test.false))

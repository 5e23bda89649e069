use Rattle.std.proofs.Common.{◌≡◌, ℕ, ◌<◌, ◌+◌, length, drop, ap, subst, ◌∙◌, sym, arith}
use Rattle.std.proofs.lemmas.List.{drop_all, take_rest}
use Rattle.afl_lexer.specs.Quoted.{items}
use Rattle.afl_lexer.specs.Scan.{item_len}
use Rattle.afl_lexer.proofs.quoted.content_len.Goals as goal
use Rattle.afl_lexer.proofs.Steps.{count_more, step_within, some_left}

pub loop-at-preserved : goal.loop-at-preserved
loop-at-preserved c =
    let bytes = c.args.bytes.now in
    let at = c.loop-at.at in
    let k = c.front_len-at.result in
    let is : k ≡ item_len (drop at bytes) = c.front_len-at.ensures.len ∙ ap item_len (take_rest bytes at) in
    let pos : 0 < k = c.front_len-at.ensures.some (some_left bytes at c.loop-at-test.true) in (
      step_within bytes at k c.loop-at.invariant.0 c.front_len-at.ensures.within,
      omega (arith, pos, c.loop-at.invariant.1),
      subst (λ (n : ℕ). length (items bytes) ≡ c.loop-at.count + 1 + length (items (drop (at + n) bytes))) (sym is) (count_more bytes at c.loop-at.count c.loop-at-test.true c.loop-at.invariant.2),
    )

pub returns : goal.returns
returns c =
    let none : length (items (drop c.loop-at.at c.args.bytes.now)) ≡ 0 = ap (λ l. length (items l)) (drop_all c.loop-at.at c.args.bytes.now c.loop-at-test.false) in
    omega (arith, none, c.loop-at.invariant.2)

use Rattle.std.proofs.Common.{◌≡◌, ℕ, ◌+◌, drop, true, false, ap, subst, ◌∙◌, sym, arith}
use Rattle.std.proofs.lemmas.List.{drop_all, take_rest}
use Rattle.afl_lexer.specs.Scan.{item_len, begins_badly, escape_at, further}
use Rattle.afl_lexer.proofs.quoted.bad_escape.Goals as goal
use Rattle.afl_lexer.proofs.Steps.{further_none, escape_more, escape_found, step_within}

pub loop-at-init : goal.loop-at-init
loop-at-init c = (omega arith, further_none (escape_at c.args.bytes.now))

pub returns-then-is_bad_escape-clause-place : goal.returns-then-is_bad_escape-clause-place
returns-then-is_bad_escape-clause-place c =
    let bytes = c.args.bytes.now in
    let at = c.loop-at.at in
    let is : begins_badly (drop at bytes) ≡ true = ap begins_badly (sym (take_rest bytes at)) ∙ sym c.is_bad_escape.ensures ∙ c.if-is_bad_escape.true in
    escape_found bytes at is c.loop-at.invariant.1

pub loop-at-preserved : goal.loop-at-preserved
loop-at-preserved c =
    let bytes = c.args.bytes.now in
    let at = c.loop-at.at in
    let is : c.front_len-at.result ≡ item_len (drop at bytes) = c.front_len-at.ensures.len ∙ ap item_len (take_rest bytes at) in
    let good : begins_badly (drop at bytes) ≡ false = ap begins_badly (sym (take_rest bytes at)) ∙ sym c.is_bad_escape.ensures ∙ c.if-is_bad_escape.false in (
      step_within bytes at c.front_len-at.result c.loop-at.invariant.0 c.front_len-at.ensures.within,
      subst (λ (k : ℕ). escape_at bytes ≡ further (at + k) (escape_at (drop (at + k) bytes))) (sym is) (escape_more bytes at good c.loop-at.invariant.1),
    )

pub returns-clause-place : goal.returns-clause-place
returns-clause-place c =
    let at = c.loop-at.at in
    sym (c.loop-at.invariant.1 ∙ ap (λ l. further at (escape_at l)) (drop_all at c.args.bytes.now c.loop-at-test.false))

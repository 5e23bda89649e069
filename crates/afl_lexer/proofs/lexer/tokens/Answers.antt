use Rattle.std.proofs.Common.{◌≡◌, ℕ, ◌≤◌, length, Result, Ok, Err, List, sym, subst, ap, arith}
use Rattle.std.specs.Result.{IsErrAnd}
use Rattle.afl_lexer.specs.declared.token.Token.{Token}
use Rattle.afl_lexer.specs.declared.token.LexKind.{LexKind}
use Rattle.afl_lexer.specs.declared.token.LexFault.{LexFault}
use Rattle.afl_lexer.specs.declared.token.LexFault.TheVariants.{At}
use Rattle.afl_lexer.specs.Outcome.{AnswersTokens, AnswersStop}
use Rattle.afl_lexer.specs.Tokens.{AreTokens, LexStops}
use Rattle.afl_lexer.proofs.Walks.{IsReached, reached_more, reached_fault, reached_end, reached_within, reaches_each, reaches_rising, not_both, one_list, one_stop}
use Rattle.afl_lexer.proofs.lexer.tokens.Goals as goal

err_is : (r : Result (List Token) LexFault) (at : ℕ) (kind : LexKind) → IsErrAnd r (λ e. e ≡ At at kind) → Err (At at kind) ≡ r
err_is (Ok tokens) at kind h = absurd h
err_is (Err fault) at kind h = ap Err (sym h)

stops : (c : goal.After-drop-tokens) → LexStops c.args.text.now c.in_err-token.field-0.0.at c.in_err-token.field-0.0.kind
stops c = reached_fault c.args.text.now c.loop-at.tokens c.loop-at.at c.in_err-token.field-0.0.at c.in_err-token.field-0.0.kind c.loop-at.invariant c.in_err-token.ensures.fault

pub returns-in_err-token-clause-only_tokens : goal.returns-in_err-token-clause-only_tokens
returns-in_err-token-clause-only_tokens c tokens are =
    let stop = c.in_err-token.field-0.0 in
    subst (λ (r : Result (List Token) LexFault). AnswersTokens r tokens) (err_is c.from_residual.result stop.at stop.kind c.from_residual.ensures.1)
    (not_both c.args.text.now tokens stop.at stop.kind are (stops c))

pub returns-in_err-token-clause-only_stop : goal.returns-in_err-token-clause-only_stop
returns-in_err-token-clause-only_stop c at kind s =
    let stop = c.in_err-token.field-0.0 in
    subst (λ (r : Result (List Token) LexFault). AnswersStop r at kind) (err_is c.from_residual.result stop.at stop.kind c.from_residual.ensures.1)
    (one_stop c.args.text.now stop.at at stop.kind kind (stops c) s)

pub loop-at-preserved : goal.loop-at-preserved
loop-at-preserved c =
    let text = c.args.text.now in
    subst (λ (ts : List Token). IsReached text ts c.gap_after-at-in-loop-at.result) (sym c.in_ok-push.ensures.ok)
    (reached_more text c.loop-at.tokens c.loop-at.at c.in_ok-token.token c.gap_after-at-in-loop-at.result c.loop-at.invariant c.in_ok-token.ensures.token c.gap_after-at-in-loop-at.ensures)

are : (c : goal.After-loop-at) → AreTokens c.args.text.now c.loop-at.tokens
are c =
    let low : length c.args.text.now ≤ c.loop-at.at = c.loop-at-test.false in
    let high : c.loop-at.at ≤ length c.args.text.now = reached_within c.args.text.now c.loop-at.tokens c.loop-at.at c.loop-at.invariant in
    reached_end c.args.text.now c.loop-at.tokens c.loop-at.at c.loop-at.invariant (omega arith)

pub returns-clause-each : goal.returns-clause-each
returns-clause-each c = reaches_each c.args.text.now 0 c.loop-at.tokens c.loop-at.invariant.end c.loop-at.invariant.reached

pub returns-clause-rising : goal.returns-clause-rising
returns-clause-rising c = reaches_rising c.args.text.now 0 c.loop-at.tokens c.loop-at.invariant.end c.loop-at.invariant.reached

pub returns-clause-only_tokens : goal.returns-clause-only_tokens
returns-clause-only_tokens c tokens a = one_list c.args.text.now c.loop-at.tokens tokens (are c) a

pub returns-clause-only_stop : goal.returns-clause-only_stop
returns-clause-only_stop c at kind s = not_both c.args.text.now c.loop-at.tokens at kind (are c) s

pub returns-clause-tokens : goal.returns-clause-tokens
returns-clause-tokens c = are c

use Rattle.std.proofs.Common.{Some, None}
use Rattle.check_rules.proofs.ReadLemmas.{read_on}
use Rattle.check_rules.proofs.literals.literal.read_tokens.Goals as goal

pub returns-in-None : goal.returns-in-None
returns-in-None c =
    read_on c.args.is_bare c.args.text.now c.args.tokens.now c.loop-token.token-index _ c.loop-token.begun c.in_ok-mark.mark c.in_ok-next.field-0 None
    c.loop-token-test.true c.in_ok-mark.ensures c.in_ok-next.ensures c.in-None.is c.loop-token.invariant

pub loop-token-preserved : goal.loop-token-preserved
loop-token-preserved c =
    read_on c.args.is_bare c.args.text.now c.args.tokens.now c.loop-token.token-index _ c.loop-token.begun c.in_ok-mark.mark c.in_ok-next.field-0
    (Some c.in-Some.next) c.loop-token-test.true c.in_ok-mark.ensures c.in_ok-next.ensures c.in-Some.is c.loop-token.invariant

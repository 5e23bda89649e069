use Rattle.std.proofs.Common.{◌≡◌, drop}
use Rattle.check_rules.specs.Literals.{whats}
use Rattle.check_rules.specs.Inner.Reader.{spelled}
use Rattle.check_rules.proofs.ReadLemmas.{read_tokens}
use Rattle.check_rules.proofs.literals.literal.read_tokens.Given as goal

abbrev pub invariant-loop-token : goal.invariant-loop-token
invariant-loop-token l = read_tokens l.is_bare l.text (drop l.token-index l.tokens) l.begun ≡ spelled l.is_bare (whats l.text l.tokens)

use Rattle.std.proofs.Common.{List, ℕ, Contains, subst}
use Rattle.std.proofs.lemmas.Bool.{eqb-true}
use Rattle.afl_outside.specs.Turns.{Turns}
use Rattle.chunk_source.proofs.memory.turns.FailingCalls.fails_next.Goals as goal

pub returns-then-is_listed-clause-listed : goal.returns-then-is_listed-clause-listed
returns-then-is_listed-clause-listed c =
    let found = c.if-is_listed.ensures.cases in
    let calls = c.self.inside.calls in
    let there = subst (λ (fails : List ℕ). Contains fails calls) c.as_slice.ensures (found.0, found.1, eqb-true _ _ (found.2 calls)) in
    (λ _. subst (λ (turns : Turns). Contains turns.fails turns.calls) c.self.view_is there, λ _. c.if-is_listed.true)

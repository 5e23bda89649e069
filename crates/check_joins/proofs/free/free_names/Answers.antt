use Rattle.std.proofs.Common.{◌≡◌, ◌∙◌, ℕ, List, Ok, subst}
use Rattle.check_joins.specs.JoinSchemas.{next_name}
use Rattle.check_rules.proofs.Turns.{turn_on}
use Rattle.check_joins.proofs.free.free_names.Goals as goal

pub loop-name-preserved : goal.loop-name-preserved
loop-name-preserved c =
    let step = next_name c.args.span in
    let one : step c.loop-name.given c.name-item.result ≡ Ok c.in_ok-free.free =
    subst (λ (given : List (List ℕ)). step given c.name-item.result ≡ Ok c.in_ok-free.free) c.as_slice.ensures c.in_ok-free.ensures in
    rw c.in_ok-push.ensures.ok (turn_on step c.loop-name.given c.args.names.now c.loop-name.name-index c.name-item.result c.in_ok-free.free
    c.loop-name-test.true c.name-item.is one ∙ c.loop-name.invariant)

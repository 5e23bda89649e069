use Rattle.std.proofs.Common.{IfOk, subst}
use Rattle.logical_plan.specs.declared.names.Names.{Names}
use Rattle.test_quiet.specs.Offers.{IsOffer}
use Rattle.test_disks.proofs.stores.commits.offer_under.Goals as goal

pub returns-then-fresh : goal.returns-then-fresh
returns-then-fresh g c = subst (λ (names : Names). IfOk c.offer_over.result (IsOffer names)) c.names.ensures.names c.offer_over.ensures

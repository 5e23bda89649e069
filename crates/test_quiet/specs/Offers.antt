-- A change that is offered for a commit, with the chunks that come with it.
use Rattle.std.specs.Prelude.{IfSome}
use Rattle.logical_plan.specs.declared.names.Names.{Names}
use Rattle.plan_changes.specs.Typed.{IsTypedFor}
use Rattle.commit_pages.specs.Changes.{AreValid, ComesWith}
use Rattle.test_quiet.specs.declared.changes.Offer.{Offer}

pub record IsOffer (names : Names) (offer : Offer) : Type 0 where
  pub typed : IsTypedFor names offer.change
  pub comes : ComesWith offer.change offer.changed
  pub valid : IfSome offer.changed AreValid

use Rattle.std.proofs.Common.{◌∙◌, ap, subst, sym}
use Rattle.array_store.specs.Kept.{IsStore}
use Rattle.array_store.proofs.store.store.Store.free_pages.Goals as goal

pub invariant_of-self : goal.invariant_of-self
invariant_of-self g c = subst (λ ledger. IsStore g.D.Disk.moment (record c.self.inside.parts { ledger = ledger })) (sym c.free_pages.ensures.same) c.self.invariant

pub returns-clause-same : goal.returns-clause-same
returns-clause-same g c = ap (λ ledger. record c.self.inside.parts { ledger = ledger }) c.free_pages.ensures.same ∙ c.self.view_is

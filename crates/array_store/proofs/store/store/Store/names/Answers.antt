use Rattle.std.proofs.Common.{sym, subst}
use Rattle.plan_changes.specs.Stored.{AreStored}
use Rattle.store_versions.proofs.Legal.{ordered_names_are_stored}
use Rattle.store_ledger.specs.Ledger.{history}
use Rattle.array_store.proofs.store.store.Store.names.Goals as goal

pub returns-clause-stored : goal.returns-clause-stored
returns-clause-stored g c =
    let ledger = c.self.inside.parts.ledger in
    subst AreStored (sym c.names.ensures) (ordered_names_are_stored ledger.base (history ledger) c.self.invariant.at.kept.in_order.ordered)

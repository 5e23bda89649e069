use Rattle.std.proofs.Common.{◌∙◌, ap}
use Rattle.store_versions.specs.Core.{Core}
use Rattle.store_versions.specs.History.{names_at}
use Rattle.store_ledger.specs.Ledger.{LedgerState, history}
use Rattle.store_ledger.proofs.ledger.Ledger.names.Goals as goal

pub returns : goal.returns
returns c = c.names.ensures ∙ ap (λ (k : Core). k.names) c.self.invariant.0.made ∙ ap (λ (l : LedgerState). names_at l.base (history l)) c.self.view_is

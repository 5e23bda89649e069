use Rattle.std.proofs.Common.{◌∙◌, ap, false, length}
use Rattle.std.proofs.lemmas.List.{length-replicate}
use Rattle.store_ledger.proofs.ledger.Ledger.new.Goals as goal

pub over-requires-clause-pages : goal.over-requires-clause-pages
over-requires-clause-pages c = ap length c.in-Ok.ensures ∙ length-replicate c.args.base.limit false

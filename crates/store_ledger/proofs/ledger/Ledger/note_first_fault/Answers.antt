use Rattle.std.proofs.Common.{◌∙◌, sym}
use Rattle.store_versions.specs.History.{pin_before}
use Rattle.store_ledger.specs.Ledger.{history, is_fault}
use Rattle.store_ledger.proofs.Parts.{none_yet}
use Rattle.store_ledger.proofs.ledger.Ledger.note_first_fault.Goals as goal

pub note_fault-requires-clause-first : goal.note_fault-requires-clause-first
note_fault-requires-clause-first c =
    let ledger = c.args.self.now in
    none_yet is_fault ledger.notes c.args.session (pin_before c.args.session (history ledger)) (sym c.has_fault.ensures ∙ c.if-not-has_fault.true)

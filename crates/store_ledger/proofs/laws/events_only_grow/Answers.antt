use Rattle.store_ledger.proofs.Events.{events_grow_by_entries, events_grow_by_notes}
use Rattle.store_ledger.proofs.laws.events_only_grow.Goals as goal

pub returns : goal.returns
returns c = record { entries = events_grow_by_entries; notes = events_grow_by_notes }

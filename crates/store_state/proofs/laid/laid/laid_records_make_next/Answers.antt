use Rattle.store_state.proofs.Records.{laid_records}
use Rattle.store_state.proofs.laid.laid.laid_records_make_next.Goals as goal

pub returns : goal.returns
returns c =
    let seen = c.entries_are_seen.ensures in
    laid_records c.records_make_next.ensures (record { had = seen.had; later = seen.later; replacing = seen.replacing }) c.free_pages_turn.ensures

use Rattle.store_state.proofs.Bases.{laid_bases}
use Rattle.store_state.proofs.laid.laid.laid_bases_make_next.Goals as goal

pub returns : goal.returns
returns c =
    let seen = c.entries_are_seen.ensures in
    laid_bases c.bases_make_next.ensures (record { had = seen.had; later = seen.later; replacing = seen.replacing }) c.free_pages_turn.ensures

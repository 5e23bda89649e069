use Rattle.store_state.proofs.Opened.{opened_files, opened_roots}
use Rattle.store_state.proofs.laid.laid.opened_files_stand.Goals as goal

pub returns : goal.returns
returns c = record {
  slots = opened_files c.files_stand_by_their_slots.ensures.stands;
  roots = opened_roots c.files_stand_by_their_slots.ensures.stands c.torn_bases_stand_alike.ensures;
}

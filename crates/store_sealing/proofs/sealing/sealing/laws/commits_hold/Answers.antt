use Rattle.store_sealing.proofs.sealing.sealing.laws.commits_hold.Goals as goal

pub returns : goal.returns
returns g c = record {
  kept = c.sealed_stores_are_kept.ensures;
  stopped_kept = c.stopped_stores_are_kept.ensures;
  had = c.payloads_are_held.ensures.is_sealed;
  stopped_had = c.payloads_are_held.ensures.has_stopped;
  held = c.sealed_cells_are_held.ensures.cells;
  stopped_held = c.stopped_cells_are_held.ensures;
  stands = c.sealed_cells_are_held.ensures.images;
  passes = c.commits_pass_by.ensures;
}

use Rattle.redimension_exec.proofs.dense.chunks.targets_in.Goals as goal

pub grid_of-grid-requires : goal.grid_of-grid-requires
grid_of-grid-requires c = c.requires.bands.places.all.0.framed

pub core_box-core-requires-clause-valid : goal.core_box-core-requires-clause-valid
core_box-core-requires-clause-valid c = c.requires.bands.places.all.0.framed.valid

pub core_box-core-requires-clause-core : goal.core_box-core-requires-clause-core
core_box-core-requires-clause-core c = c.requires.bands.places.all.0.framed.core

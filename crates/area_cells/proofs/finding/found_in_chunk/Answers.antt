use Rattle.std.proofs.Common.{arith}
use Rattle.array_rows.specs.Inner.CellsIn.{cells_in}
use Rattle.area_cells.proofs.TakingLaws.{all_taken, chunk_places, taken_begins}
use Rattle.area_cells.proofs.finding.found_in_chunk.Goals as goal

pub take_stretch-requires-clause-rising : goal.take_stretch-requires-clause-rising
take_stretch-requires-clause-rising c =
    (chunk_places c.args.schema.now.dimensions c.args.margins.now.items c.args.chunk.now c.grid_of-source.result c.as_slice-places.result.now c.grid_of-source.ensures.grid c.grid_of-source.ensures.low c.grid_of-source.ensures.lengths c.as_slice-places.ensures
    c.requires.places.placed c.requires.rising).rising

pub take_stretch-requires-clause-places : goal.take_stretch-requires-clause-places
take_stretch-requires-clause-places c =
    (chunk_places c.args.schema.now.dimensions c.args.margins.now.items c.args.chunk.now c.grid_of-source.result c.as_slice-places.result.now c.grid_of-source.ensures.grid c.grid_of-source.ensures.low c.grid_of-source.ensures.lengths c.as_slice-places.ensures
    c.requires.places.placed c.requires.rising).inside

pub returns : goal.returns
returns c =
    all_taken c.args.schema.now.dimensions c.args.margins.now.items c.args.chunk.now c.grid_of-source.result c.args.target.now c.core_box-core.result c.args.area.now c.as_slice-places.result.now (cells_in c.form-form.result.now) c.taking.found c.taking.at
    c.grid_of-source.ensures.low c.grid_of-source.ensures.lengths c.core_box-core.ensures c.as_slice-places.ensures c.form-form.ensures (omega arith) c.requires.rising c.taking.invariant.taken

use Rattle.exec_box.specs.Parts.{slice_meant}
use Rattle.exec_box.proofs.ArraysMadeLaws.{copy_has_cells, of_copy}
use Rattle.exec_box.proofs.arrays.slices.slice.Goals as goal

pub slice_owned-requires-clause-cells : goal.slice_owned-requires-clause-cells
slice_owned-requires-clause-cells c = copy_has_cells c.args.array.now c.in_ok-copy.field-0 c.in_ok-copy.ensures c.requires.array

pub returns-clause-array : goal.returns-clause-array
returns-clause-array c = λ meant is. of_copy (slice_meant c.args.fixed.now) c.args.array.now c.in_ok-copy.field-0 meant c.slice_owned.result c.in_ok-copy.ensures is c.slice_owned.ensures.array

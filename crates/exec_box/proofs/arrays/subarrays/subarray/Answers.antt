use Rattle.exec_box.specs.Parts.{part_meant}
use Rattle.exec_box.proofs.ArraysMadeLaws.{copy_has_cells, of_copy}
use Rattle.exec_box.proofs.arrays.subarrays.subarray.Goals as goal

pub subarray_owned-requires-clause-cells : goal.subarray_owned-requires-clause-cells
subarray_owned-requires-clause-cells c = copy_has_cells c.args.array.now c.in_ok-copy.field-0 c.in_ok-copy.ensures c.requires.array

pub returns-clause-array : goal.returns-clause-array
returns-clause-array c = λ meant is. of_copy (part_meant c.args.area.now) c.args.array.now c.in_ok-copy.field-0 meant c.subarray_owned.result c.in_ok-copy.ensures is c.subarray_owned.ensures.array

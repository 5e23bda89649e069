use Rattle.redimension_exec.proofs.MeantLaws.{can_tell, landed_breaks, landed_in_order, means_breaking, means_whole, stands_for}
use Rattle.array_rows.specs.Rows.{in_order}
use Rattle.redimension_exec.proofs.arrays.cells.redimension_cells.Goals as goal

pub told_array-requires-clause-rows : goal.told_array-requires-clause-rows
told_array-requires-clause-rows c = can_tell c.args.array c.args.target.now c.in-Ok.chunks (c.requires.cells c.requires.whole) c.requires.valid c.requires.typed (rw c.in-Ok.is at c.in_ok-chunks.ensures)

pub returns-in-Ok-clause-array : goal.returns-in-Ok-clause-array
returns-in-Ok-clause-array c =
    let held = rw c.in-Ok.is at c.in_ok-chunks.ensures in
    stands_for c.told_array.result _ _ (means_whole c.args.array c.args.target.now (in_order held.0) c.requires.whole (landed_in_order c.args.array c.args.target.now held.0 held.1))
    (c.told_array.ensures.array (can_tell c.args.array c.args.target.now c.in-Ok.chunks (c.requires.cells c.requires.whole) c.requires.valid c.requires.typed held))

pub returns-in-Err-clause-array : goal.returns-in-Err-clause-array
returns-in-Err-clause-array c =
    stands_for c.broken_target.result _ _ (means_breaking c.args.array c.args.target.now c.in-Err.broken c.requires.whole (landed_breaks c.args.array c.args.target.now c.in-Err.broken (rw c.in-Err.is at c.in_ok-chunks.ensures))) c.broken_target.ensures.array

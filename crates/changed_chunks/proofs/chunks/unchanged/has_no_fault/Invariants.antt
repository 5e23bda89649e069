use Rattle.std.proofs.Common.{◌≡◌, ◌<◌, ℕ, [], None, slice_index_or}
use Rattle.array_rows.specs.CellFaults.{fault_of_cell}
use Rattle.cell_values.specs.declared.datum.Cell.TheVariants.{Full}
use Rattle.changed_chunks.proofs.chunks.unchanged.has_no_fault.Given as goal

abbrev pub invariant-loop-k : goal.invariant-loop-k
invariant-loop-k l = (i : ℕ) → i < l.k → fault_of_cell (slice_index_or l.cells i (Full [])) ≡ None

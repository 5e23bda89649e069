use Rattle.std.proofs.Common.{◌≡◌, map, take, slice_index_or}
use Rattle.cell_values.specs.declared.datum.Datum.TheVariants.{Null}
use Rattle.exec_cellwise.proofs.chunks.projecting.pick.Given as goal

abbrev pub invariant-loop-place : goal.invariant-loop-place
invariant-loop-place l = l.found ≡ map (λ place. slice_index_or l.values place Null) (take l.place-index l.places)

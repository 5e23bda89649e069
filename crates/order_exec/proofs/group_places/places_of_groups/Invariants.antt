use Rattle.std.proofs.Common.{take}
use Rattle.order_exec.specs.Inner.GroupPlaces.{HaveGroups}
use Rattle.order_exec.proofs.group_places.places_of_groups.Given as goal

abbrev pub invariant-loop-k : goal.invariant-loop-k
invariant-loop-k l = HaveGroups l.to.dims.now l.to.grid.now l.grid (take l.k l.positions) l.places

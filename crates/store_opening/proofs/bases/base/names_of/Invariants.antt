use Rattle.std.proofs.Common.{◌≡◌, map, take}
use Rattle.store_opening.proofs.bases.base.names_of.Given as goal

abbrev pub invariant-loop-array : goal.invariant-loop-array
invariant-loop-array l = l.arrays ≡ map (λ array. array.entry) (take l.array-index l.catalog.arrays)

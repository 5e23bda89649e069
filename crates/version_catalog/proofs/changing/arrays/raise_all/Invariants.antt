use Rattle.std.proofs.Common.{◌≡◌, ◌++◌, map, take, drop}
use Rattle.version_catalog.specs.Records.{with_directory}
use Rattle.version_catalog.proofs.changing.arrays.raise_all.Given as goal

abbrev pub invariant-loop-array : goal.invariant-loop-array
invariant-loop-array l = l.arrays ≡ map (with_directory l.fn.name l.fn.directory) (take l.array-index l.initial.arrays) ++ drop l.array-index l.initial.arrays

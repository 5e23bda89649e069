use Rattle.std.proofs.Common.{◌≡◌, ◌++◌, map, take, drop}
use Rattle.version_catalog.specs.Records.{from_version}
use Rattle.version_catalog.proofs.changing.arrays.cut_all.Given as goal

abbrev pub invariant-loop-array : goal.invariant-loop-array
invariant-loop-array l = l.arrays ≡ map (from_version l.fn.name l.fn.below) (take l.array-index l.initial.arrays) ++ drop l.array-index l.initial.arrays

use Rattle.std.proofs.Common.{◌≡◌, ◌++◌, length, take}
use Rattle.std.specs.List.{flat_map}
use Rattle.std.specs.Int.{w32, to_le_bytes}
use Rattle.version_catalog.specs.Spelling.{spell_array}
use Rattle.version_catalog.proofs.catalogs.encoding.put_arrays.Given as goal

abbrev pub invariant-loop-array : goal.invariant-loop-array
invariant-loop-array l = l.out ≡ l.fn.out ++ (to_le_bytes w32 (length l.arrays) ++ flat_map spell_array (take l.array-index l.arrays))

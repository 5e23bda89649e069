use Rattle.std.proofs.Common.{◌≡◌, ◌++◌, length, take}
use Rattle.std.specs.List.{flat_map}
use Rattle.std.specs.Int.{w8, to_le_bytes}
use Rattle.file_items.specs.Spelling.{spell_dimension}
use Rattle.file_items.proofs.schemas.writing.put_dimensions.Given as goal

abbrev pub invariant-loop-dimension : goal.invariant-loop-dimension
invariant-loop-dimension l = l.out ≡ l.fn.out ++ (to_le_bytes w8 (length l.dimensions) ++ flat_map spell_dimension (take l.dimension-index l.dimensions))

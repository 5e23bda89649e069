use Rattle.std.proofs.Common.{◌≡◌, ◌++◌, length, take}
use Rattle.std.specs.List.{flat_map}
use Rattle.std.specs.Int.{w8, to_le_bytes}
use Rattle.file_items.specs.Spelling.{spell_attribute}
use Rattle.file_items.proofs.schemas.writing.put_attributes.Given as goal

abbrev pub invariant-loop-attribute : goal.invariant-loop-attribute
invariant-loop-attribute l = l.out ≡ l.fn.out ++ (to_le_bytes w8 (length l.attributes) ++ flat_map spell_attribute (take l.attribute-index l.attributes))

use Rattle.std.proofs.Common.{◌≡◌, ◌++◌, length, take}
use Rattle.std.specs.List.{flat_map}
use Rattle.std.specs.Int.{w32, to_le_bytes}
use Rattle.version_catalog.specs.Spelling.{spell_version, versions_at}
use Rattle.version_catalog.proofs.catalogs.encoding.put_versions.Given as goal

abbrev pub invariant-loop-index : goal.invariant-loop-index
invariant-loop-index l = l.out ≡ l.fn.out ++ (to_le_bytes w32 (length (versions_at l.numbers l.directories)) ++ flat_map spell_version (take l.index (versions_at l.numbers l.directories)))

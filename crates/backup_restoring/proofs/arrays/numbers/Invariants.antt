use Rattle.std.proofs.Common.{◌≡◌, map, take}
use Rattle.backup_format.specs.declared.versions.VersionPiecesAt.{VersionPiecesAt}
use Rattle.backup_restoring.proofs.arrays.numbers.Given as goal

abbrev pub invariant-loop-version : goal.invariant-loop-version
invariant-loop-version l = l.numbers ≡ map (λ (v : VersionPiecesAt). v.number) (take l.version-index l.versions)

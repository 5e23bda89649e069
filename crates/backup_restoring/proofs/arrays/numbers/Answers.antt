use Rattle.std.proofs.Common.{◌∙◌}
use Rattle.backup_format.specs.declared.versions.VersionPiecesAt.{VersionPiecesAt}
use Rattle.backup_restoring.proofs.Sums.{map_whole}
use Rattle.backup_restoring.proofs.arrays.numbers.Goals as goal

pub returns : goal.returns
returns c = c.loop-version.invariant ∙ map_whole (λ (v : VersionPiecesAt). v.number) c.args.versions.now c.loop-version.version-index c.loop-version-test.false

use Rattle.std.proofs.Common.{◌≡◌, map, take}
use Rattle.std.specs.Prelude.{sum_by}
use Rattle.backup_format.specs.PiecePlaces.{version_in}
use Rattle.backup_restoring.specs.Restores.{version_pages, version_length}
use Rattle.backup_restoring.proofs.counting.versions_extent.Given as goal

abbrev pub invariant-loop-version : goal.invariant-loop-version
invariant-loop-version l = record {
  pages : l.extent.pages ≡ sum_by version_pages (map (version_in l.whole) (take l.version-index l.versions));
  bytes : l.extent.bytes ≡ sum_by version_length (map (version_in l.whole) (take l.version-index l.versions));
}

use Rattle.std.proofs.Common.{◌≡◌, ◌++◌, drop}
use Rattle.array_rows.specs.Boxes.{by_pairs}
use Rattle.file_meaning.specs.Opening.{all_of}
use Rattle.store_opening.specs.Bases.{array_pages, versions_pages}
use Rattle.store_opening.proofs.bases.base.versions_pages.Given as goal

abbrev pub invariant-loop-array : goal.invariant-loop-array
invariant-loop-array l = l.versions ++ all_of (by_pairs array_pages (drop l.array-index l.found.catalog.arrays) l.left) ≡ versions_pages l.found

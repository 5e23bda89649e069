use Rattle.std.proofs.Common.{◌≡◌, ◌++◌, drop}
use Rattle.array_rows.specs.Boxes.{by_pairs}
use Rattle.file_meaning.specs.Opening.{version_pages}
use Rattle.store_opening.proofs.bases.base.row_pages.Given as goal

abbrev pub invariant-loop-at : goal.invariant-loop-at
invariant-loop-at l = l.pages ++ by_pairs version_pages (drop l.at-index l.blobs) l.left ≡ by_pairs version_pages l.blobs l.row

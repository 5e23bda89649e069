use Rattle.std.proofs.Common.{◌≡◌, length, take}
use Rattle.page_file.specs.Commits.{pages_of}
use Rattle.commit_pages.proofs.pages.needed.count_pages.Given as goal

abbrev pub invariant-loop-blob : goal.invariant-loop-blob
invariant-loop-blob l = l.count ≡ length (pages_of (take l.blob-index l.blobs))

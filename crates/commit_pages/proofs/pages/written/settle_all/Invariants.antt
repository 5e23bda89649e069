use Rattle.std.proofs.Common.{◌≡◌, ◌++◌, length, take, drop}
use Rattle.commit_pages.specs.Versions.{all_placed}
use Rattle.commit_pages.proofs.pages.written.settle_all.Given as goal

-- the first blobs have their pages, and the others will have those that are left
abbrev pub invariant-loop-blob : goal.invariant-loop-blob
invariant-loop-blob l = record {
  told : take l.blob-index l.blobs ++ all_placed l.rest (drop l.blob-index l.blobs) ≡ all_placed l.pages l.initial.blobs;
  long : length l.blobs ≡ length l.initial.blobs;
}

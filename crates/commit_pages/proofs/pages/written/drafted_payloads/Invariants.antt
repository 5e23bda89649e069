use Rattle.std.proofs.Common.{◌≡◌, ◌<◌, ◌^◌, length, map, take}
use Rattle.std.specs.List.{AllByRecursion}
use Rattle.chunk_rle.specs.Chunks.{spelling}
use Rattle.commit_pages.specs.Versions.{drafted}
use Rattle.commit_pages.proofs.pages.written.drafted_payloads.Given as goal

abbrev pub invariant-loop-chunk : goal.invariant-loop-chunk
invariant-loop-chunk l = record {
  made : l.payloads ≡ map (λ chunk. drafted (spelling l.schema.attributes chunk)) (take l.chunk-index l.chunks);
  short : AllByRecursion (λ one. length one.bytes < 2 ^ 64) l.payloads;
}

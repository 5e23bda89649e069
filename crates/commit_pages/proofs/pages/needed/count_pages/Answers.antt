use Rattle.commit_pages.proofs.Loops.{count_step}
use Rattle.std.proofs.Common.{List, length, ap, ◌∙◌}
use Rattle.std.proofs.lemmas.List.{take_all}
use Rattle.page_file.specs.Commits.{pages_of}
use Rattle.page_file.specs.declared.commits.placed.Placed.{Placed}
use Rattle.commit_pages.proofs.pages.needed.count_pages.Goals as goal

pub loop-blob-preserved : goal.loop-blob-preserved
loop-blob-preserved c =
    count_step c.args.blobs.now c.loop-blob.blob-index c.blob-item.result c.loop-blob.count c.len.result c.in_ok-count.count c.loop-blob-test.true c.blob-item.is c.len.ensures c.loop-blob.invariant
    c.in_ok-count.ensures

pub returns : goal.returns
returns c = c.loop-blob.invariant ∙ ap (λ (blobs : List Placed). length (pages_of blobs)) (take_all c.loop-blob.blob-index c.args.blobs.now c.loop-blob-test.false)

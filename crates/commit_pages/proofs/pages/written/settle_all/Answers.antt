use Rattle.std.proofs.Common.{◌<◌, length, refl, ◌∙◌, arith}
use Rattle.std.proofs.lemmas.List.{length-set}
use Rattle.commit_pages.specs.Versions.{all_placed}
use Rattle.commit_pages.proofs.Loops.{settled_more}
use Rattle.commit_pages.proofs.pages.written.settle_all.Goals as goal

pub loop-blob-preserved : goal.loop-blob-preserved
loop-blob-preserved c =
    let l = c.loop-blob in
    let low : l.blob-index < length l.blobs = omega (arith, c.loop-blob-test.true, l.invariant.long) in
    record {
      told = settled_more (all_placed c.args.pages.now c.args.blobs.now) l.blobs _ l.blob-index c.blob-item.result c.settle.new.one l.rest.now c.in_ok-rest.rest.now low
          refl c.in_ok-rest.ensures.own c.in_ok-rest.ensures.rest l.invariant.told;
      long = length-set l.blobs l.blob-index c.settle.new.one ∙ l.invariant.long;
    }

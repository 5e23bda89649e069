use Rattle.std.proofs.Common.{◌∙◌}
use Rattle.backup_format.specs.PiecePlaces.{version_in}
use Rattle.backup_restoring.specs.Restores.{version_pages, version_length}
use Rattle.backup_restoring.proofs.Sums.{sum_taken, sum_whole}
use Rattle.backup_restoring.proofs.counting.versions_extent.Goals as goal

pub loop-version-preserved : goal.loop-version-preserved
loop-version-preserved c =
    let whole = c.args.whole.now in
    let xs = c.args.versions.now in
    let i = c.loop-version.version-index in
    let x = c.version-item.result in
    let low = c.loop-version-test.true in
    record {
      pages = sum_taken version_pages (version_in whole) xs i x _ _ _ low c.version-item.is c.loop-version.invariant.pages c.in_ok-one.ensures.pages c.in_ok-extent.ensures.0;
      bytes = sum_taken version_length (version_in whole) xs i x _ _ _ low c.version-item.is c.loop-version.invariant.bytes c.in_ok-one.ensures.bytes c.in_ok-extent.ensures.1;
    }

pub returns : goal.returns
returns c =
    let whole = c.args.whole.now in
    record {
      pages = c.loop-version.invariant.pages ∙ sum_whole version_pages (version_in whole) c.args.versions.now c.loop-version.version-index c.loop-version-test.false;
      bytes = c.loop-version.invariant.bytes ∙ sum_whole version_length (version_in whole) c.args.versions.now c.loop-version.version-index c.loop-version-test.false;
    }

use Rattle.array_rows.specs.Boxes.{by_pairs}
use Rattle.file_meaning.specs.Opening.{version_pages}
use Rattle.store_opening.proofs.PairLaws.{goes_over, pairs_end}
use Rattle.store_opening.proofs.bases.base.row_pages.Goals as goal

pub loop-at-preserved : goal.loop-at-preserved
loop-at-preserved c =
    let blobs = c.args.blobs.now in
    goes_over version_pages blobs c.loop-at.at-index c.at-item.result c.loop-at.left.now c.in-Ok.rest.now c.loop-at.pages c.push_first.new.pages (by_pairs version_pages blobs c.args.row.now) c.loop-at-test.true c.at-item.is c.in-Ok.ensures c.loop-at.invariant

pub returns : goal.returns
returns c =
    let blobs = c.args.blobs.now in
    pairs_end version_pages blobs c.loop-at.at-index c.loop-at.left.now c.loop-at.pages (by_pairs version_pages blobs c.args.row.now) c.loop-at-test.false c.loop-at.invariant

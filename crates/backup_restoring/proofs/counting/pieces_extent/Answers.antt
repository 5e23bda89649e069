use Rattle.std.proofs.Common.{◌∙◌}
use Rattle.backup_format.specs.PiecePlaces.{piece_in}
use Rattle.backup_restoring.specs.Restores.{payload_pages, entry_length}
use Rattle.backup_restoring.proofs.Sums.{sum_taken, sum_whole}
use Rattle.backup_restoring.proofs.counting.pieces_extent.Goals as goal

pub loop-piece-preserved : goal.loop-piece-preserved
loop-piece-preserved c =
    let whole = c.args.whole.now in
    let xs = c.args.pieces.now in
    let i = c.loop-piece.piece-index in
    let x = c.piece-item.result in
    let low = c.loop-piece-test.true in
    record {
      pages = sum_taken payload_pages (piece_in whole) xs i x _ _ _ low c.piece-item.is c.loop-piece.invariant.pages c.in_ok-one.ensures.pages c.in_ok-extent.ensures.0;
      bytes = sum_taken entry_length (piece_in whole) xs i x _ _ _ low c.piece-item.is c.loop-piece.invariant.bytes c.in_ok-one.ensures.bytes c.in_ok-extent.ensures.1;
    }

pub returns : goal.returns
returns c =
    let whole = c.args.whole.now in
    record {
      pages = c.loop-piece.invariant.pages ∙ sum_whole payload_pages (piece_in whole) c.args.pieces.now c.loop-piece.piece-index c.loop-piece-test.false;
      bytes = c.loop-piece.invariant.bytes ∙ sum_whole entry_length (piece_in whole) c.args.pieces.now c.loop-piece.piece-index c.loop-piece-test.false;
    }

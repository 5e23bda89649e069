use Rattle.backup_format.proofs.PieceLaws.{unfit_here, fits_more}
use Rattle.backup_format.proofs.overlaps.fit_together.Goals as goal

pub returns-then-not-branch : goal.returns-then-not-branch
returns-then-not-branch c = λ behind left.
    unfit_here c.args.schema.now c.args.whole.now c.args.pieces.now c.args.chunks.now c.loop-piece.piece-index c.piece-item.result c.in_ok-is_its_payload.field-0 behind c.loop-piece-test.true c.piece-item.is
    c.requires.chunks c.in_ok-is_its_payload.ensures c.if-not-branch.true c.loop-piece.invariant left

pub loop-piece-preserved : goal.loop-piece-preserved
loop-piece-preserved c =
    fits_more c.args.schema.now c.args.whole.now c.args.pieces.now c.args.chunks.now c.loop-piece.piece-index c.piece-item.result c.in_ok-is_its_payload.field-0 c.loop-piece-test.true c.piece-item.is
    c.requires.chunks c.in_ok-is_its_payload.ensures c.if-not-branch.false c.loop-piece.invariant

use Rattle.std.proofs.Common.{◌∙◌, arith}
use Rattle.backup_writing.proofs.Outs.{each_wrote, each_broke, less_wrote, less_broke, kept_then}
use Rattle.backup_writing.proofs.Texts.{spell_at}
use Rattle.backup_writing.proofs.pieces.write_pieces.Goals as goal

pub returns-in-Err-clause-written : goal.returns-in-Err-clause-written
returns-in-Err-clause-written g c =
    let source = g.S.ChunkSource.state c.args.source.now in
    let leaf = c.args.leaf.now in
    each_broke g.K.Sink.state source.tells (spell_at leaf) c.args.numbers.now c.loop-at.at-index c.at-item.result c.args.out.now c.loop-at.out c.write_piece.new.out (omega (arith, c.loop-at-test.true)) c.at-item.is c.loop-at.invariant.wrote
    (less_broke g.K.Sink.state source (g.S.ChunkSource.state c.loop-at.source) (λ db. spell_at leaf db c.at-item.result) c.loop-at.out c.write_piece.new.out c.loop-at.invariant.kept c.in-Err.ensures.written)

pub loop-at-preserved : goal.loop-at-preserved
loop-at-preserved g c =
    let source = g.S.ChunkSource.state c.args.source.now in
    let leaf = c.args.leaf.now in
    record {
      kept = kept_then source (g.S.ChunkSource.state c.loop-at.source) (g.S.ChunkSource.state c.write_piece.new.source) c.loop-at.invariant.kept c.write_piece.ensures.kept;
      start = c.write_piece.ensures.start ∙ c.loop-at.invariant.start;
      wrote = each_wrote g.K.Sink.state source.tells (spell_at leaf) c.args.numbers.now c.loop-at.at-index c.at-item.result c.args.out.now c.loop-at.out c.write_piece.new.out (omega (arith, c.loop-at-test.true)) c.at-item.is c.loop-at.invariant.wrote
          (less_wrote g.K.Sink.state source (g.S.ChunkSource.state c.loop-at.source) (λ db. spell_at leaf db c.at-item.result) c.loop-at.out c.write_piece.new.out c.loop-at.invariant.kept c.in-Ok.ensures.written);
    }

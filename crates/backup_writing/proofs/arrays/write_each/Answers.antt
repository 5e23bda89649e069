use Rattle.std.proofs.Common.{◌∙◌, arith}
use Rattle.logical_plan.specs.declared.names.NameEntry.{NameEntry}
use Rattle.logical_plan.specs.Meaning.{Database}
use Rattle.backup_format.specs.Spelling.{spell_array}
use Rattle.backup_writing.specs.Writing.{array_pieces}
use Rattle.backup_writing.proofs.Outs.{each_wrote, each_broke, less_wrote, less_broke, kept_then}
use Rattle.backup_writing.proofs.arrays.write_each.Goals as goal

pub returns-in-Err-clause-written : goal.returns-in-Err-clause-written
returns-in-Err-clause-written g c =
    let source = g.S.ChunkSource.state c.args.source.now in
    each_broke g.K.Sink.state source.tells (λ (db : Database) (entry : NameEntry). spell_array (array_pieces db entry)) c.args.entries.now c.loop-entry.entry-index c.entry-item.result c.args.out.now c.loop-entry.out c.write_array.new.out
    (omega (arith, c.loop-entry-test.true)) c.entry-item.is c.loop-entry.invariant.wrote
    (less_broke g.K.Sink.state source (g.S.ChunkSource.state c.loop-entry.source) (λ db. spell_array (array_pieces db c.entry-item.result)) c.loop-entry.out c.write_array.new.out c.loop-entry.invariant.kept c.in-Err.ensures.written)

pub loop-entry-preserved : goal.loop-entry-preserved
loop-entry-preserved g c =
    let source = g.S.ChunkSource.state c.args.source.now in
    record {
      kept = kept_then source (g.S.ChunkSource.state c.loop-entry.source) (g.S.ChunkSource.state c.write_array.new.source) c.loop-entry.invariant.kept c.write_array.ensures.kept;
      start = c.write_array.ensures.start ∙ c.loop-entry.invariant.start;
      wrote = each_wrote g.K.Sink.state source.tells (λ (db : Database) (entry : NameEntry). spell_array (array_pieces db entry)) c.args.entries.now c.loop-entry.entry-index c.entry-item.result c.args.out.now c.loop-entry.out c.write_array.new.out
          (omega (arith, c.loop-entry-test.true)) c.entry-item.is c.loop-entry.invariant.wrote
          (less_wrote g.K.Sink.state source (g.S.ChunkSource.state c.loop-entry.source) (λ db. spell_array (array_pieces db c.entry-item.result)) c.loop-entry.out c.write_array.new.out c.loop-entry.invariant.kept c.in-Ok.ensures.written);
    }

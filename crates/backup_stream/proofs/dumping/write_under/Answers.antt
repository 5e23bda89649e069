use Rattle.backup_stream.proofs.Written.{all_read, was_written}
use Rattle.backup_stream.proofs.dumping.write_under.Goals as goal

pub write_backup-answer-requires : goal.write_backup-answer-requires
write_backup-answer-requires g c = record {
  reads = all_read g.D.Disk.moment c.args.shared.now c.args.pinned.now c.args.seat c.new-source.result c.new-source.ensures c.requires.under.stored;
}

pub returns : goal.returns
returns g c =
    let s = c.into_seat-seat.ensures in
    let e = c.write_backup-answer.ensures in
    was_written g.D.Disk.moment c.args.shared.now c.args.pinned.now c.args.seat c.new-source.result c.new-source.ensures c.into_seat-seat.result c.write_backup-answer.new.source
    s.seat e.start (g.K.Sink.state c.args.sink) (g.K.Sink.state c.write_backup-answer.result.1) c.write_backup-answer.result.0 s.read e.written e.cause

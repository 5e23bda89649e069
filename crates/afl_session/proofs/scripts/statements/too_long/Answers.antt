use Rattle.std.proofs.Common.{◌∙◌, ◌-◌, ap}
use Rattle.snapshot_manager.specs.Seats.{last_place, seen, session_of}
use Rattle.session_answers.proofs.Kept.{still_none, still_seat}
use Rattle.afl_session.proofs.TooLong.{too_long_is}
use Rattle.afl_session.proofs.scripts.statements.too_long.Goals as goal

pub returns : goal.returns
returns g c =
    let moment = g.D.Disk.moment in
    let k = c.keep_last.ensures in
    let reply = c.refusal_or_want-reply.result in
    let kept = c.keep_last.new.self in record {
      seat = still_seat moment c.args.shared.now reply.place c.args.seat kept k c.requires.seat;
      session = ap session_of k;
      none = still_none moment c.args.shared.now reply.place c.args.seat kept k c.requires.none;
      last = ap last_place k;
      answered = too_long_is (seen c.args.seat) (seen kept) (last_place c.args.seat) c.last-last.result c.seen-count.result c.length_between-bytes.result (c.args.to - c.args.from) reply (ap seen k)
          c.last-last.ensures (c.seen-count.ensures ∙ c.requires.seat.0.counts) c.length_between-bytes.ensures c.refusal_or_want-reply.ensures;
    }

use Rattle.std.proofs.Common.{◌∙◌, ap}
use Rattle.array_store.specs.At.{standing}
use Rattle.array_store.specs.Starts.{start_of}
use Rattle.array_store.proofs.InTurn.{adds_now, extends_now, reap_is}
use Rattle.array_store.proofs.Turning.{reap_adds, reap_err, reap_ok, reap_only, reaped}
use Rattle.snapshot_manager.specs.Seats.{seen, session_of, start}
use Rattle.snapshot_manager.proofs.shared.Shared.reap.Goals as goal

pub end-requires : goal.end-requires
end-requires g c =
    let b = c.begin-turn.ensures in
    let moment = g.D.Disk.moment in
    let adds = reap_adds c.reap-answer.result (standing moment c.value.result.now) (standing moment c.reap-answer.new.self) c.reap-answer.ensures.adds c.reap-answer.ensures.err in record {
      seat = b.seat;
      start = adds.start ∙ ap (λ p. start_of (standing moment p)) c.value.ensures.value ∙ b.start;
      events = extends_now g.D.Disk.moment (start g.D.Disk.moment c.args.self.now) (session_of c.args.seat.now) (seen c.args.seat.now) (seen c.begin-turn.new.seat)
          c.value.result.now c.begin-turn.result.value b.found c.value.ensures.value b.told b.events c.reap-answer.new.self
          (reaped c.reap-answer.result) (session_of c.begin-turn.new.seat) b.same.session (reap_only c.reap-answer.result (session_of c.args.seat.now)) adds;
    }

pub returns : goal.returns
returns g c =
    let b = c.begin-turn.ensures in
    let moment = g.D.Disk.moment in
    let adds = adds_now g.D.Disk.moment (start g.D.Disk.moment c.args.self.now) (session_of c.args.seat.now) (seen c.args.seat.now) (seen c.begin-turn.new.seat)
    c.value.result.now c.begin-turn.result.value b.found c.value.ensures.value b.told b.events c.reap-answer.new.self
    (reaped c.reap-answer.result) (seen c.end.new.seat) c.end.ensures.seen
    (reap_adds c.reap-answer.result (standing moment c.value.result.now) (standing moment c.reap-answer.new.self) c.reap-answer.ensures.adds c.reap-answer.ensures.err) in record {
      seat = c.end.ensures.seat;
      same = record { session = c.end.ensures.same.session ∙ b.same.session; last = c.end.ensures.same.last ∙ b.same.last };
      reads = c.end.ensures.reads ∙ b.reads;
      comes = reap_is g.D.Disk.moment (start g.D.Disk.moment c.args.self.now) (session_of c.args.seat.now) (seen c.args.seat.now) (seen c.begin-turn.new.seat)
          c.value.result.now c.begin-turn.result.value b.found c.value.ensures.value b.told b.events c.reap-answer.new.self
          c.reap-answer.result (seen c.end.new.seat) c.end.ensures.seen c.reap-answer.ensures.comes c.reap-answer.ensures.adds;
      adds = reap_ok c.reap-answer.result (session_of c.args.seat.now) (seen c.args.seat.now) (seen c.end.new.seat) adds;
      err = reap_err c.reap-answer.result (session_of c.args.seat.now) (seen c.args.seat.now) (seen c.end.new.seat) adds;
    }

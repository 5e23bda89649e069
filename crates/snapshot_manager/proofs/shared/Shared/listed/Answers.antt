use Rattle.std.proofs.Common.{◌∙◌, [], ap, append-nil, refl, sym}
use Rattle.chunk_source.specs.Source.{AreNumbersIn}
use Rattle.plan_changes.specs.Databases.{rows_of}
use Rattle.array_store.specs.At.{standing}
use Rattle.array_store.specs.Events.{events}
use Rattle.array_store.specs.Starts.{start_of}
use Rattle.array_store.proofs.InTurn.{adds_none, listed_ok, open_left, open_pin_now, over_ok}
use Rattle.snapshot_manager.specs.Seats.{seen, session_of, start}
use Rattle.snapshot_manager.proofs.shared.Shared.listed.Goals as goal

pub listed-answer-requires-clause-open : goal.listed-answer-requires-clause-open
listed-answer-requires-clause-open g c =
    let b = c.begin-turn.ensures in
    let p = c.requires.pin in
    open_pin_now g.D.Disk.moment (start g.D.Disk.moment c.args.self.now) (session_of c.args.seat.now) (seen c.args.seat.now) (seen c.begin-turn.new.seat)
    c.value.result.now c.begin-turn.result.value b.found c.value.ensures.value b.told c.args.pinned.now p.own p.open_pin

pub listed-answer-requires-clause-leaf : goal.listed-answer-requires-clause-leaf
listed-answer-requires-clause-leaf g c = c.requires.leaf

pub end-requires : goal.end-requires
end-requires g c =
    let b = c.begin-turn.ensures in
    let moment = g.D.Disk.moment in record {
      seat = b.seat;
      start = ap (λ p. start_of (standing moment p)) c.value.ensures.value ∙ b.start;
      events = ([], ap (λ p. events (standing moment p)) c.value.ensures.value ∙ b.events ∙ sym (append-nil (seen c.begin-turn.new.seat)), refl);
    }

pub returns : goal.returns
returns g c =
    let b = c.begin-turn.ensures in
    let p = c.requires.pin in record {
      seat = c.end.ensures.seat;
      same = record { session = c.end.ensures.same.session ∙ b.same.session; last = c.end.ensures.same.last ∙ b.same.last };
      reads = c.end.ensures.reads ∙ b.reads;
      adds = adds_none g.D.Disk.moment (start g.D.Disk.moment c.args.self.now) (session_of c.args.seat.now) (seen c.args.seat.now) (seen c.begin-turn.new.seat)
          c.value.result.now c.begin-turn.result.value b.found c.value.ensures.value b.told b.events c.value.result.now (seen c.end.new.seat) c.end.ensures.seen;
      pin = record {
        own = p.own ∙ sym b.same.session ∙ sym c.end.ensures.same.session;
        open_pin = open_left g.D.Disk.moment (start g.D.Disk.moment c.args.self.now) (session_of c.args.seat.now) (seen c.args.seat.now) (seen c.begin-turn.new.seat)
            c.value.result.now c.begin-turn.result.value b.found c.value.ensures.value b.told c.args.pinned.now p.own p.open_pin b.events (seen c.end.new.seat) c.end.ensures.seen;
      };
      listed = listed_ok g.D.Disk.moment (start g.D.Disk.moment c.args.self.now) (session_of c.args.seat.now) (seen c.args.seat.now) (seen c.begin-turn.new.seat)
          c.value.result.now c.begin-turn.result.value b.found c.value.ensures.value b.told c.args.pinned.now p.own p.open_pin c.requires.seat.0.sealed c.args.leaf.now
          c.listed-answer.result c.listed-answer.ensures.listed;
      rising = c.listed-answer.ensures.rising;
      told = over_ok g.D.Disk.moment (start g.D.Disk.moment c.args.self.now) (session_of c.args.seat.now) (seen c.args.seat.now) (seen c.begin-turn.new.seat)
          c.value.result.now c.begin-turn.result.value b.found c.value.ensures.value b.told c.args.pinned.now p.own p.open_pin c.requires.seat.0.sealed
          (λ chunks db. AreNumbersIn (rows_of db) c.args.leaf.now chunks) c.listed-answer.result c.listed-answer.ensures.told;
    }

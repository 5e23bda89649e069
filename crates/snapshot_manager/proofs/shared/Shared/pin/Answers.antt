use Rattle.std.proofs.Common.{◌≡◌, ◌∙◌, [], ◌∷◌, ap, length, sym}
use Rattle.event_core.specs.declared.entry.Entry.TheVariants.{Pin}
use Rattle.event_core.specs.History.{names_at}
use Rattle.store_ledger.specs.Ledger.{IsOpenPin, history}
use Rattle.array_store.specs.Event.TheVariants.{Entered}
use Rattle.array_store.specs.At.{standing}
use Rattle.array_store.specs.Starts.{start_of}
use Rattle.array_store.proofs.Databases.{pin_database, pin_stored}
use Rattle.array_store.proofs.InTurn.{extends_now, pin_cause, pin_done, pin_err, pin_is, pin_none, pin_ok, pin_only, pin_open, pin_room, pin_untried, unpinned_now}
use Rattle.array_store.proofs.Turning.{done_events, if_both}
use Rattle.snapshot_manager.specs.Seats.{HoldsPin, ledger_seen, seen, session_of, start}
use Rattle.snapshot_manager.proofs.shared.Shared.pin.Goals as goal

pub pin-answer-requires : goal.pin-answer-requires
pin-answer-requires g c =
    let b = c.begin-turn.ensures in record {
      unpinned = unpinned_now g.D.Disk.moment (start g.D.Disk.moment c.args.self.now) (session_of c.args.seat.now) (seen c.args.seat.now) (seen c.begin-turn.new.seat)
          c.value.result.now c.begin-turn.result.value b.found c.value.ensures.value b.told c.session.result (c.session.ensures ∙ b.same.session) c.requires.none;
    }

pub end-requires : goal.end-requires
end-requires g c =
    let b = c.begin-turn.ensures in
    let moment = g.D.Disk.moment in
    let adds = pin_done moment c.value.result.now c.pin-answer.new.self c.session.result c.pin-answer.result c.pin-answer.ensures.adds c.pin-answer.ensures.err in record {
      seat = b.seat;
      start = adds.start ∙ ap (λ p. start_of (standing moment p)) c.value.ensures.value ∙ b.start;
      events = extends_now g.D.Disk.moment (start g.D.Disk.moment c.args.self.now) (session_of c.args.seat.now) (seen c.args.seat.now) (seen c.begin-turn.new.seat)
          c.value.result.now c.begin-turn.result.value b.found c.value.ensures.value b.told b.events c.pin-answer.new.self
          (done_events c.pin-answer.result (Entered (Pin c.session.result) ∷ [])) (session_of c.begin-turn.new.seat) b.same.session
          (pin_only c.session.result (session_of c.args.seat.now) c.pin-answer.result (c.session.ensures ∙ b.same.session)) adds;
    }

pub returns : goal.returns
returns g c =
    let b = c.begin-turn.ensures in
    let moment = g.D.Disk.moment in
    let shared = c.args.self.now in record {
      seat = c.end.ensures.seat;
      same = record { session = c.end.ensures.same.session ∙ b.same.session; last = c.end.ensures.same.last ∙ b.same.last };
      reads = c.end.ensures.reads ∙ b.reads;
      ok = pin_ok g.D.Disk.moment (start g.D.Disk.moment c.args.self.now) (session_of c.args.seat.now) (seen c.args.seat.now) (seen c.begin-turn.new.seat)
          c.value.result.now c.begin-turn.result.value b.found c.value.ensures.value b.told b.events c.pin-answer.new.self
          c.session.result (c.session.ensures ∙ b.same.session) c.pin-answer.result (seen c.end.new.seat) c.end.ensures.seen c.pin-answer.ensures.adds;
      pinned = pin_is g.D.Disk.moment (start g.D.Disk.moment c.args.self.now) (session_of c.args.seat.now) (seen c.args.seat.now) (seen c.begin-turn.new.seat)
          c.value.result.now c.begin-turn.result.value b.found c.value.ensures.value b.told b.events c.pin-answer.new.self
          c.session.result (c.session.ensures ∙ b.same.session) c.pin-answer.result (seen c.end.new.seat) c.end.ensures.seen c.pin-answer.ensures.adds c.pin-answer.ensures.pinned;
      room = pin_room g.D.Disk.moment (start g.D.Disk.moment c.args.self.now) (session_of c.args.seat.now) (seen c.args.seat.now) (seen c.begin-turn.new.seat)
          c.value.result.now c.begin-turn.result.value b.found c.value.ensures.value b.told b.events c.pin-answer.new.self
          c.session.result (c.session.ensures ∙ b.same.session) c.pin-answer.result (seen c.end.new.seat) c.end.ensures.seen c.pin-answer.ensures.adds c.pin-answer.ensures.room;
      «open» = if_both c.pin-answer.result
          (λ pinned. pinned ≡ record {
            session = c.session.result;
            place = length c.value.result.now.ledger.entries;
            names = names_at c.value.result.now.ledger.base (history c.value.result.now.ledger);
          })
          (λ pinned. IsOpenPin (ledger_seen moment shared c.end.new.seat) pinned) (λ pinned. HoldsPin moment shared c.end.new.seat pinned)
          (λ pinned p o. record { own = ap (λ q. q.session) p ∙ c.session.ensures ∙ sym c.end.ensures.same.session; open_pin = o })
          c.pin-answer.ensures.pinned
          (pin_open moment (start moment shared) (seen c.end.new.seat) c.pin-answer.new.self c.end.ensures.told c.pin-answer.result c.pin-answer.ensures.open);
      stored = pin_stored moment (start moment shared) (seen c.end.new.seat) c.pin-answer.new.self c.end.ensures.told c.end.ensures.at c.pin-answer.result c.pin-answer.ensures.open;
      database = pin_database moment (start moment shared) (seen c.end.new.seat) c.pin-answer.new.self c.end.ensures.told c.end.ensures.at c.pin-answer.result c.pin-answer.ensures.open;
      untried = pin_untried moment (start moment shared) (seen c.end.new.seat) c.pin-answer.new.self c.end.ensures.told
          c.session.result (session_of c.args.seat.now) (c.session.ensures ∙ b.same.session) c.pin-answer.result c.pin-answer.ensures.untried;
      err = pin_err g.D.Disk.moment (start g.D.Disk.moment c.args.self.now) (session_of c.args.seat.now) (seen c.args.seat.now) (seen c.begin-turn.new.seat)
          c.value.result.now c.begin-turn.result.value b.found c.value.ensures.value b.told b.events c.pin-answer.new.self
          c.session.result (c.session.ensures ∙ b.same.session) c.pin-answer.result (seen c.end.new.seat) c.end.ensures.seen c.pin-answer.ensures.adds c.pin-answer.ensures.err;
      none = pin_none g.D.Disk.moment (start g.D.Disk.moment c.args.self.now) (session_of c.args.seat.now) (seen c.args.seat.now) (seen c.begin-turn.new.seat)
          c.value.result.now c.begin-turn.result.value b.found c.value.ensures.value b.told b.events c.pin-answer.new.self
          c.session.result (c.session.ensures ∙ b.same.session) c.pin-answer.result (seen c.end.new.seat) c.end.ensures.seen c.pin-answer.ensures.adds
          (session_of c.end.new.seat) (c.end.ensures.same.session ∙ b.same.session) c.pin-answer.ensures.err c.requires.none;
      cause = pin_cause moment (start moment shared) (seen c.end.new.seat) c.pin-answer.new.self c.end.ensures.told
          c.pin-answer.result c.value.result.now c.pin-answer.ensures.cause c.pin-answer.ensures.err;
    }

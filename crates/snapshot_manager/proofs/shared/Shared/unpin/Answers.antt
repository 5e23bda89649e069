use Rattle.std.proofs.Common.{◌∙◌, [], ◌∷◌, ap, sym}
use Rattle.event_core.specs.declared.entry.Entry.TheVariants.{Unpin}
use Rattle.array_store.specs.Event.TheVariants.{Entered}
use Rattle.array_store.specs.At.{standing}
use Rattle.array_store.specs.Starts.{start_of}
use Rattle.array_store.proofs.InTurn.{extends_now, open_pin_now, unpin_adds, unpin_none, unpin_only}
use Rattle.snapshot_manager.specs.Seats.{seen, session_of, start}
use Rattle.snapshot_manager.proofs.shared.Shared.unpin.Goals as goal

pub unpin-requires : goal.unpin-requires
unpin-requires g c =
    let b = c.begin-turn.ensures in
    let p = c.requires.pin in record {
      «open» = open_pin_now g.D.Disk.moment (start g.D.Disk.moment c.args.self.now) (session_of c.args.seat.now) (seen c.args.seat.now) (seen c.begin-turn.new.seat)
          c.value.result.now c.begin-turn.result.value b.found c.value.ensures.value b.told c.args.pinned p.own p.open_pin;
    }

pub end-requires : goal.end-requires
end-requires g c =
    let b = c.begin-turn.ensures in record {
      seat = b.seat;
      start = c.unpin.ensures.adds.start ∙ ap (λ p. start_of (standing g.D.Disk.moment p)) c.value.ensures.value ∙ b.start;
      events = extends_now g.D.Disk.moment (start g.D.Disk.moment c.args.self.now) (session_of c.args.seat.now) (seen c.args.seat.now) (seen c.begin-turn.new.seat)
          c.value.result.now c.begin-turn.result.value b.found c.value.ensures.value b.told b.events c.unpin.new.self
          (Entered (Unpin c.args.pinned.session) ∷ []) (session_of c.begin-turn.new.seat) b.same.session
          (unpin_only c.args.pinned.session (session_of c.args.seat.now) c.requires.pin.own) c.unpin.ensures.adds;
    }

pub returns : goal.returns
returns g c =
    let b = c.begin-turn.ensures in record {
      seat = c.end.ensures.seat;
      same = record { session = c.end.ensures.same.session ∙ b.same.session; last = c.end.ensures.same.last ∙ b.same.last };
      reads = c.end.ensures.reads ∙ b.reads;
      adds = unpin_adds g.D.Disk.moment (start g.D.Disk.moment c.args.self.now) (session_of c.args.seat.now) (seen c.args.seat.now) (seen c.begin-turn.new.seat)
          c.value.result.now c.begin-turn.result.value b.found c.value.ensures.value b.told b.events c.unpin.new.self
          c.args.pinned.session c.requires.pin.own (seen c.end.new.seat) c.end.ensures.seen c.unpin.ensures.adds;
      none = unpin_none g.D.Disk.moment (start g.D.Disk.moment c.args.self.now) (session_of c.args.seat.now) (seen c.args.seat.now) (seen c.begin-turn.new.seat)
          c.value.result.now c.begin-turn.result.value b.found c.value.ensures.value b.told b.events c.unpin.new.self
          (session_of c.end.new.seat) c.args.pinned.session (c.end.ensures.same.session ∙ b.same.session ∙ sym c.requires.pin.own) (seen c.end.new.seat) c.end.ensures.seen c.unpin.ensures.adds;
    }

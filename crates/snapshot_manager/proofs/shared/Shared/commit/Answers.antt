use Rattle.std.proofs.Common.{◌∙◌, ap, sym}
use Rattle.array_store.specs.At.{standing}
use Rattle.array_store.specs.Events.{events}
use Rattle.array_store.specs.Starts.{start_of}
use Rattle.array_store.specs.Tries.{is_fresh_since}
use Rattle.array_store.proofs.Fresh.{changes_are_typed}
use Rattle.array_store.proofs.InTurn.{is_now, ledger_is, open_left, open_pin_now, pinned_now}
use Rattle.array_store.proofs.Made.{may_be_made}
use Rattle.array_store.proofs.TriedTurns.{asked_in_turn, open_made, open_tried, turn_makes, turn_tries, untried_in_turn}
use Rattle.snapshot_manager.specs.Seats.{seen, session_of, start}
use Rattle.snapshot_manager.proofs.shared.Shared.commit.Goals as goal

pub fresh-is_fresh-requires : goal.fresh-is_fresh-requires
fresh-is_fresh-requires g c =
    let b = c.begin-turn.ensures in
    let p = c.requires.pin in
    open_pin_now g.D.Disk.moment (start g.D.Disk.moment c.args.self.now) (session_of c.args.seat.now) (seen c.args.seat.now) (seen c.begin-turn.new.seat)
    c.value.result.now c.begin-turn.result.value b.found c.value.ensures.value b.told c.args.pinned.now p.own p.open_pin

pub commit_fresh-requires : goal.commit_fresh-requires
commit_fresh-requires g c =
    let b = c.begin-turn.ensures in
    let p = c.requires.pin in
    let moment = g.D.Disk.moment in record {
      here = b.seat.0;
      has_turn = b.seat.1;
      session = p.own ∙ sym b.same.session;
      begun = ap (λ q. start_of (standing moment q)) c.value.ensures.value ∙ b.start;
      found = ap (λ q. events (standing moment q)) c.value.ensures.value ∙ b.events;
      told = is_now g.D.Disk.moment (start g.D.Disk.moment c.args.self.now) (session_of c.args.seat.now) (seen c.args.seat.now) (seen c.begin-turn.new.seat)
          c.value.result.now c.begin-turn.result.value b.found c.value.ensures.value b.told;
      open_pin = pinned_now g.D.Disk.moment (start g.D.Disk.moment c.args.self.now) (session_of c.args.seat.now) (seen c.args.seat.now) (seen c.begin-turn.new.seat)
          c.value.result.now c.begin-turn.result.value b.found c.value.ensures.value b.told c.args.pinned.now p.own p.open_pin;
      untried = untried_in_turn g.D.Disk.moment (start g.D.Disk.moment c.args.self.now) (session_of c.args.seat.now) (seen c.args.seat.now) (seen c.begin-turn.new.seat)
          c.value.result.now c.begin-turn.result.value b.found c.value.ensures.value b.told c.args.pinned.now p.own p.open_pin c.requires.tried;
      asked = asked_in_turn g.D.Disk.moment (start g.D.Disk.moment c.args.self.now) (session_of c.args.seat.now) (seen c.args.seat.now) (seen c.begin-turn.new.seat)
          c.value.result.now c.begin-turn.result.value b.found c.value.ensures.value b.told c.args.pinned.now p.own p.open_pin
          changes_are_typed may_be_made c.args.change c.args.changed
          c.requires.named c.requires.typed c.requires.comes c.requires.valid c.requires.told (c.fresh-is_fresh.ensures.same c.if-is_fresh.true);
    }

pub returns-in-Ok : goal.returns-in-Ok
returns-in-Ok g c =
    let b = c.begin-turn.ensures in
    let p = c.requires.pin in
    let f = c.commit_fresh.ensures in
    let e = c.in-Ok.ensures in record {
      seat = f.seat.0;
      same = record { session = f.same.session ∙ b.same.session; last = f.same.last ∙ b.same.last };
      reads = f.reads ∙ b.reads;
      idle = f.seat.1;
      pin = record {
        own = p.own ∙ sym b.same.session ∙ sym f.same.session;
        open_pin = open_made g.D.Disk.moment (start g.D.Disk.moment c.args.self.now) (session_of c.args.seat.now) (seen c.args.seat.now) (seen c.begin-turn.new.seat)
            c.value.result.now c.begin-turn.result.value b.found c.value.ensures.value b.told c.args.pinned.now p.own p.open_pin c.args.change (seen c.commit_fresh.new.seat) e.done;
      };
      done = turn_makes g.D.Disk.moment (start g.D.Disk.moment c.args.self.now) (session_of c.args.seat.now) (seen c.args.seat.now) (seen c.begin-turn.new.seat)
          c.value.result.now c.begin-turn.result.value b.found c.value.ensures.value b.told c.args.pinned.now p.own c.args.change c.fresh-is_fresh.result c.fresh-is_fresh.ensures.result c.if-is_fresh.true
          (seen c.commit_fresh.new.seat) e.done;
      place = e.place;
      typed = e.typed;
      may = e.may;
      next = e.next;
      fits = e.fits;
      stale = tt;
      found = tt;
      turn = tt;
      began = tt;
      events = tt;
      held = tt;
      err = tt;
      cause = tt;
    }

pub returns-in-Err : goal.returns-in-Err
returns-in-Err g c =
    let b = c.begin-turn.ensures in
    let p = c.requires.pin in
    let f = c.commit_fresh.ensures in
    let e = c.in-Err.ensures in record {
      seat = f.seat.0;
      same = record { session = f.same.session ∙ b.same.session; last = f.same.last ∙ b.same.last };
      reads = f.reads ∙ b.reads;
      idle = f.seat.1;
      pin = record {
        own = p.own ∙ sym b.same.session ∙ sym f.same.session;
        open_pin = open_tried g.D.Disk.moment (start g.D.Disk.moment c.args.self.now) (session_of c.args.seat.now) (seen c.args.seat.now) (seen c.begin-turn.new.seat)
            c.value.result.now c.begin-turn.result.value b.found c.value.ensures.value b.told c.args.pinned.now p.own p.open_pin c.args.change (seen c.commit_fresh.new.seat) e.err;
      };
      done = tt;
      place = tt;
      typed = tt;
      may = tt;
      next = tt;
      fits = tt;
      stale = tt;
      found = tt;
      turn = tt;
      began = tt;
      events = tt;
      held = tt;
      err = turn_tries g.D.Disk.moment (start g.D.Disk.moment c.args.self.now) (session_of c.args.seat.now) (seen c.args.seat.now) (seen c.begin-turn.new.seat)
          c.value.result.now c.begin-turn.result.value b.found c.value.ensures.value b.told c.args.pinned.now p.own c.args.change c.fresh-is_fresh.result c.fresh-is_fresh.ensures.result c.if-is_fresh.true
          (seen c.commit_fresh.new.seat) e.err;
      cause = e.cause;
    }

pub returns-else-is_fresh : goal.returns-else-is_fresh
returns-else-is_fresh g c =
    let b = c.begin-turn.ensures in
    let p = c.requires.pin in
    let moment = g.D.Disk.moment in
    let events_are = ap (λ q. events (standing moment q)) c.value.ensures.value ∙ b.events in record {
      seat = b.seat.0;
      same = b.same;
      reads = b.reads;
      idle = tt;
      pin = record {
        own = p.own ∙ sym b.same.session;
        open_pin = open_left g.D.Disk.moment (start g.D.Disk.moment c.args.self.now) (session_of c.args.seat.now) (seen c.args.seat.now) (seen c.begin-turn.new.seat)
            c.value.result.now c.begin-turn.result.value b.found c.value.ensures.value b.told c.args.pinned.now p.own p.open_pin b.events (seen c.begin-turn.new.seat) (sym events_are);
      };
      done = tt;
      place = tt;
      typed = tt;
      may = tt;
      next = tt;
      fits = tt;
      stale = ap (is_fresh_since c.args.pinned.now c.args.change) (sym (ledger_is g.D.Disk.moment (start g.D.Disk.moment c.args.self.now) (session_of c.args.seat.now) (seen c.args.seat.now) (seen c.begin-turn.new.seat)
          c.value.result.now c.begin-turn.result.value b.found c.value.ensures.value b.told)) ∙ sym c.fresh-is_fresh.ensures.result ∙ c.if-is_fresh.false;
      found = b.found;
      turn = b.seat.1;
      began = ap (λ q. start_of (standing moment q)) c.value.ensures.value ∙ b.start;
      events = events_are;
      held = is_now g.D.Disk.moment (start g.D.Disk.moment c.args.self.now) (session_of c.args.seat.now) (seen c.args.seat.now) (seen c.begin-turn.new.seat)
          c.value.result.now c.begin-turn.result.value b.found c.value.ensures.value b.told;
      err = tt;
      cause = tt;
    }

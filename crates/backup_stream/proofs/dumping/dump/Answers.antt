use Rattle.std.proofs.Common.{◌∙◌, ◌+◌, ◌∷◌, [], length, ap, refl, arith, subst}
use Rattle.event_core.specs.declared.entry.Entry.TheVariants.{Unpin}
use Rattle.event_core.specs.History.{names_at}
use Rattle.store_ledger.specs.Ledger.{history}
use Rattle.store_state.specs.declared.state.event.Event.TheVariants.{Entered}
use Rattle.snapshot_manager.specs.Turns.{pin_event, Adds}
use Rattle.snapshot_manager.specs.Seats.{ledger_found, seen, session_of, start}
use Rattle.session_answers.proofs.Trees.{pin_parts}
use Rattle.session_answers.proofs.Under.{pin_within}
use Rattle.backup_stream.proofs.Dumped.{pinned_is_dumped, unpinned_is_dumped}
use Rattle.backup_stream.proofs.dumping.dump.Goals as goal

pub overflow_add-place : goal.overflow_add-place
overflow_add-place g c =
    let e = c.in-Ok.ensures in
    let le = pin_within (start g.D.Disk.moment c.args.shared.now) (seen c.pin.new.seat) c.in-Ok.pinned e.open.open_pin in
    omega (arith, le, e.seat.0.counts, c.seen-seen.ensures)

pub pin-requires-clause-seat : goal.pin-requires-clause-seat
pin-requires-clause-seat g c = c.requires.seat

pub pin-requires-clause-none : goal.pin-requires-clause-none
pin-requires-clause-none g c = c.requires.none

pub write_under-answer-requires : goal.write_under-answer-requires
write_under-answer-requires g c =
    let e = c.in-Ok.ensures in record { under = record { seat = e.seat; pin = e.open; stored = e.stored } }

pub unpin-requires-clause-seat : goal.unpin-requires-clause-seat
unpin-requires-clause-seat g c = c.write_under-answer.ensures.read.seat

pub unpin-requires-clause-pin : goal.unpin-requires-clause-pin
unpin-requires-clause-pin g c = c.write_under-answer.ensures.read.pin

pub returns-in-Ok : goal.returns-in-Ok
returns-in-Ok g c =
    let moment = g.D.Disk.moment in
    let shared = c.args.shared.now in
    let e = c.in-Ok.ensures in
    let w = c.write_under-answer.ensures in
    let u = c.unpin.ensures in
    let last = c.write_under-answer.result.2 in
    let found = ledger_found moment shared (pin_event (session_of c.args.seat) ∷ []) c.pin.new.seat in
    let parts = pin_parts c.in-Ok.pinned (session_of c.args.seat) (length found.entries) (names_at found.base (history found)) e.pinned in
    let session = w.read.same.session ∙ e.same.session in record {
      seat = u.seat;
      same = record { session = u.same.session ∙ session; last = u.same.last ∙ w.read.same.last ∙ e.same.last };
      none = u.none;
      dumped = pinned_is_dumped moment shared (seen c.args.seat) c.pin.new.seat last (seen c.unpin.new.seat) c.in-Ok.pinned (session_of c.args.seat) (g.K.Sink.state c.args.sink) (g.K.Sink.state c.write_under-answer.result.1)
          c.write_under-answer.result.0 e.ok parts.0 e.same.session parts.1 e.database e.untried
          (subst (λ s. Adds s (Entered (Unpin s) ∷ []) (seen last) (seen c.unpin.new.seat)) session u.adds) w
          c.end_of-end.result (c.in-Ok.pinned.place + 1) c.end_of-end.ensures refl;
    }

pub returns-in-Err : goal.returns-in-Err
returns-in-Err g c =
    let e = c.in-Err.ensures in
    let r = c.unpinned.ensures in record {
      seat = e.seat;
      same = e.same;
      none = e.none;
      dumped = unpinned_is_dumped g.D.Disk.moment (start g.D.Disk.moment c.args.shared.now) (session_of c.args.seat) (seen c.args.seat) (seen c.pin.new.seat) (g.K.Sink.state c.args.sink) (g.K.Sink.state c.unpinned.result.sink)
          e.err (ap g.K.Sink.state r.sink) c.in-Err.fault c.unpinned.result.place c.unpinned.result.end r.end e.cause;
    }

use Rattle.std.proofs.Common.{◌∙◌, [], ◌∷◌, length, ap, subst}
use Rattle.event_core.specs.declared.entry.Entry.TheVariants.{Unpin}
use Rattle.event_core.specs.History.{names_at}
use Rattle.store_ledger.specs.Ledger.{history, is_noted}
use Rattle.store_state.specs.declared.state.event.Event.TheVariants.{Entered}
use Rattle.snapshot_manager.specs.Turns.{pin_event, Adds}
use Rattle.snapshot_manager.specs.Seats.{ledger_found, ledger_seen, read_count, seen, session_of, start}
use Rattle.session_answers.proofs.Trees.{fault_is_answered, fault_reads, is_read_once, pin_parts, pinned_is_answered}
use Rattle.session_answers.proofs.answers.answering.answer_tree.Goals as goal

pub returns-in-Ok : goal.returns-in-Ok
returns-in-Ok g c =
    let style = c.args.options.now.style in
    let moment = g.D.Disk.moment in
    let began = start moment c.args.shared.now in
    let e = c.in-Ok.ensures in
    let a = c.answer_pinned-reply.ensures in
    let u = c.unpin.ensures in
    let reply = c.answer_pinned-reply.result.0 in
    let mid = c.answer_pinned-reply.result.1 in
    let found = ledger_found moment c.args.shared.now (pin_event (session_of c.args.seat) ∷ []) c.pin.new.seat in
    let parts = pin_parts c.in-Ok.pinned (session_of c.args.seat) (length found.entries) (names_at found.base (history found)) e.pinned in
    let session = a.same.session ∙ e.same.session in record {
      seat = u.seat;
      same = record { session = u.same.session ∙ session; last = u.same.last ∙ a.same.last ∙ e.same.last };
      none = u.none;
      answered = pinned_is_answered style moment began (session_of c.args.seat) (seen c.args.seat) (seen c.pin.new.seat) (seen mid) (seen c.unpin.new.seat) c.in-Ok.pinned c.args.text.now c.args.tree.now reply
          e.ok parts.0 parts.1 e.open.open_pin a.seat.0.sealed
          (subst (λ s. Adds s (Entered (Unpin s) ∷ []) (seen mid) (seen c.unpin.new.seat)) session u.adds) a.answered;
      reads = λ accepted. is_read_once style moment began (session_of c.args.seat) (seen c.args.seat) (seen c.pin.new.seat) (seen mid) (seen c.unpin.new.seat) c.in-Ok.pinned c.args.text.now c.args.tree.now reply
          e.ok parts.0 parts.1 e.open.open_pin a.seat.0.sealed
          (subst (λ s. Adds s (Entered (Unpin s) ∷ []) (seen mid) (seen c.unpin.new.seat)) session u.adds) a.answered e.seat.0.sealed
          (read_count c.args.seat) (read_count c.pin.new.seat) (read_count mid) (read_count c.unpin.new.seat) e.reads (a.reads accepted) u.reads;
    }

pub returns-in-Err : goal.returns-in-Err
returns-in-Err g c =
    let began = start g.D.Disk.moment c.args.shared.now in
    let e = c.in-Err.ensures in
    let told = c.unpinned.ensures in record {
      seat = e.seat;
      same = e.same;
      none = e.none;
      answered = fault_is_answered c.args.options.now.style g.D.Disk.moment began (session_of c.args.seat) (seen c.args.seat) (seen c.pin.new.seat) c.args.text.now c.args.tree.now
          c.unpinned.result e.err c.in-Err.fault c.seen.result told (c.seen.ensures ∙ e.seat.0.counts) e.cause;
      reads = fault_reads c.args.options.now.style g.D.Disk.moment began (session_of c.args.seat) (seen c.args.seat) (seen c.pin.new.seat) c.args.text.now c.args.tree.now
          c.unpinned.result e.err c.in-Err.fault c.seen.result told (read_count c.args.seat) (read_count c.pin.new.seat);
    }

pub pin-requires-clause-seat : goal.pin-requires-clause-seat
pin-requires-clause-seat g c = c.requires.ready.seat

pub pin-requires-clause-none : goal.pin-requires-clause-none
pin-requires-clause-none g c = c.requires.ready.none

pub unpin-requires-clause-seat : goal.unpin-requires-clause-seat
unpin-requires-clause-seat g c = c.answer_pinned-reply.ensures.seat

pub unpin-requires-clause-pin : goal.unpin-requires-clause-pin
unpin-requires-clause-pin g c = c.answer_pinned-reply.ensures.pin

pub answer_pinned-reply-requires-clause-under : goal.answer_pinned-reply-requires-clause-under
answer_pinned-reply-requires-clause-under g c κs within =
    let e = c.in-Ok.ensures in record {
      seat = e.seat;
      pin = e.open;
      untried = λ kinds. ap (λ session. is_noted kinds (ledger_seen g.D.Disk.moment c.args.shared.now c.pin.new.seat) session) e.same.session ∙ e.untried kinds;
      stored = e.stored;
      database = e.database;
      fit = c.requires.ready.fit;
      workers = c.requires.ready.workers;
    }

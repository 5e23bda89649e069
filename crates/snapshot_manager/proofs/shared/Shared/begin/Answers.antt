use Rattle.std.proofs.Common.{◌∙◌, ap, length, refl, subst, sym}
use Rattle.array_store.specs.At.{standing}
use Rattle.array_store.specs.Events.{events}
use Rattle.array_store.specs.Starts.{start_of}
use Rattle.turn_lock.specs.Inner.Lent.{value_of}
use Rattle.turn_lock.specs.Seats.{seen_by}
use Rattle.array_store.specs.Told.{IsTold}
use Rattle.array_store.proofs.InTurn.{tells}
use Rattle.array_store.proofs.Turning.{begun}
use Rattle.snapshot_manager.specs.Seats.{seen, session_of}
use Rattle.snapshot_manager.proofs.shared.Shared.begin.Goals as goal

pub returns : goal.returns
returns g c =
    let moment = g.D.Disk.moment in
    let parts = c.value-store.result.now in
    let seen_is = c.enter-turn.ensures.seen ∙ ap (λ p. events (standing moment p)) (sym c.value-store.ensures.value) in
    let start_is = ap (λ p. start_of (standing moment p)) c.value-store.ensures.value ∙ c.enter-turn.ensures.origin in
    let now = tells moment parts (seen_by c.enter-turn.new.seat) seen_is c.is_at.ensures.ledger c.is_at.ensures.counted in record {
      seat = (
        record { here = c.enter-turn.ensures.lock; counts = ap length (c.history.ensures ∙ now.entries); sealed = now.sealed },
        c.enter-turn.ensures.turn,
      );
      same = record { session = c.enter-turn.ensures.number; last = refl };
      reads = refl;
      found = begun (session_of c.args.seat.now) (seen c.args.seat.now) (seen_by c.enter-turn.new.seat) (events (standing moment (value_of c.enter-turn.result)))
          c.enter-turn.ensures.entries c.enter-turn.ensures.seen;
      start = start_is;
      events = sym seen_is;
      told = subst (λ start. IsTold start (seen_by c.enter-turn.new.seat) (standing moment parts)) start_is now.told;
    }

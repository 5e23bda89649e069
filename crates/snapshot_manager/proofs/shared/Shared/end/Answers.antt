use Rattle.std.proofs.Common.{◌≡◌, ◌∙◌, ap, length, refl, subst, sym}
use Rattle.array_store.specs.At.{AreParts, standing}
use Rattle.array_store.specs.Events.{events, owner_of}
use Rattle.array_store.specs.Starts.{start_of}
use Rattle.turn_lock.specs.Owners.{ExtendsByOwn}
use Rattle.turn_lock.specs.Seats.{seen_by}
use Rattle.array_store.specs.Told.{IsTold}
use Rattle.array_store.proofs.InTurn.{tells}
use Rattle.snapshot_manager.specs.Seats.{seen, session_of, start}
use Rattle.snapshot_manager.proofs.shared.Shared.end.Goals as goal

pub leave-requires : goal.leave-requires
leave-requires g c =
    let moment = g.D.Disk.moment in record {
      seat = (c.requires.seat.0.here, c.requires.seat.1);
      origin = ap (λ p. start_of (standing moment p)) c.value-store.ensures.value ∙ c.requires.start;
      entries = subst (λ p. ExtendsByOwn owner_of (session_of c.args.seat.now) (seen c.args.seat.now) (events (standing moment p))) (sym c.value-store.ensures.value) c.requires.events;
    }

pub returns : goal.returns
returns g c =
    let moment = g.D.Disk.moment in
    let parts = c.value-store.result.now in
    let now = tells moment parts (seen_by c.leave.new.seat) c.leave.ensures.seen c.is_at.ensures.ledger c.is_at.ensures.counted in
    let at : start_of (standing moment parts) ≡ start moment c.args.self.now = ap (λ p. start_of (standing moment p)) c.value-store.ensures.value ∙ c.requires.start in record {
      seat = (
        record { here = c.leave.ensures.lock; counts = ap length (c.history.ensures ∙ now.entries); sealed = now.sealed },
        c.leave.ensures.idle,
      );
      same = record { session = c.leave.ensures.number; last = refl };
      reads = refl;
      seen = c.leave.ensures.seen ∙ ap (λ p. events (standing moment p)) c.value-store.ensures.value;
      told = subst (λ p. IsTold (start moment c.args.self.now) (seen_by c.leave.new.seat) (standing moment p)) c.value-store.ensures.value
          (subst (λ begun. IsTold begun (seen_by c.leave.new.seat) (standing moment parts)) at now.told);
      at = subst (AreParts moment) c.value-store.ensures.value c.is_at.ensures.at;
    }

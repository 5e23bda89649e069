use Rattle.std.proofs.Common.{◌≤◌, ◌∙◌, refl, subst, sym, vec_capacity}
use Rattle.snapshot_manager.proofs.Seating.{no_event}
use Rattle.snapshot_manager.proofs.shared.Shared.new.Goals as goal

pub new-requires-clause-empty : goal.new-requires-clause-empty
new-requires-clause-empty g c = no_event g.D.Disk.moment c.args.store c.requires.entries c.requires.notes

pub seated-seats-requires : goal.seated-seats-requires
seated-seats-requires g c =
    let made = c.in-Ok-new.ensures in
    let room = c.in-Ok.ensures in record {
      seats = made.seats;
      room = (room.items, subst (λ n. n ≤ vec_capacity c.in-Ok.room) (sym made.count.1) room.capacity);
    }

pub returns-in-Ok-new : goal.returns-in-Ok-new
returns-in-Ok-new g c =
    let made = c.in-Ok-new.ensures in
    let seated = c.seated-seats.ensures in record {
      store = made.value;
      count = (made.count.0, seated.count ∙ made.count.1);
      seats = seated.seats;
      err = tt;
    }

pub returns-in-Err : goal.returns-in-Err
returns-in-Err g c = record { store = tt; count = tt; seats = tt; err = c.in-Err.ensures.err }

pub returns-in_default : goal.returns-in_default
returns-in_default g c = record { store = tt; count = tt; seats = tt; err = refl }

use Rattle.std.proofs.Common.{◌∙◌, ◌+◌, ap, length, subst, sym}
use Rattle.snapshot_manager.specs.Seats.{AreIdleSeats}
use Rattle.test_stores.proofs.Seeing.{none_are_idle}
use Rattle.test_stores.proofs.runs.push_finished.Goals as goal

pub with_seat-one-requires-clause-seats : goal.with_seat-one-requires-clause-seats
with_seat-one-requires-clause-seats c = none_are_idle c.args.run.shared c.args.run.room.items c.requires.room.0

pub finish-requires-clause-count : goal.finish-requires-clause-count
finish-requires-clause-count c =
    let none = c.args.run.room.ok.0 ∙ ap length c.requires.room.0 in
    let one = c.with_seat-one.ensures.count ∙ ap (λ n. n + 1) none in
    let two = c.with_seat-two.ensures.count ∙ ap (λ n. n + 1) one in
    let three = c.with_seat-three.ensures.count ∙ ap (λ n. n + 1) two in
    ap length c.from_vec.ensures ∙ sym c.with_seat-all.result.ok.0 ∙ c.with_seat-all.ensures.count ∙ ap (λ n. n + 1) three ∙ sym c.requires.seats

pub finish-requires-clause-seats : goal.finish-requires-clause-seats
finish-requires-clause-seats c = subst (AreIdleSeats c.args.run.shared) (sym c.from_vec.ensures) c.with_seat-all.ensures.seats

use Rattle.std.proofs.Common.{◌∙◌, All, ap, length, subst, sym}
use Rattle.snapshot_manager.specs.Seats.{AreIdleSeats}
use Rattle.test_stores.specs.Visits.{IsFree}
use Rattle.test_threads.proofs.threads.stored_by.Goals as goal

pub worked-back-requires-clause-free : goal.worked-back-requires-clause-free
worked-back-requires-clause-free g c κs within = subst (All (IsFree g.D.Disk.moment c.args.shared)) (sym c.into_vec.ensures) c.requires.free

pub finish-requires-clause-count : goal.finish-requires-clause-count
finish-requires-clause-count g c =
    let lent = c.into_vec.result.ok.0 ∙ ap length c.into_vec.ensures ∙ c.requires.count in
    ap length c.from_vec.ensures ∙ sym c.worked-back.result.ok.0 ∙ c.worked-back.ensures.count ∙ lent

pub finish-requires-clause-seats : goal.finish-requires-clause-seats
finish-requires-clause-seats g c = subst (AreIdleSeats c.args.shared) (sym c.from_vec.ensures) c.worked-back.ensures.seats

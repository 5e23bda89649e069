use Rattle.std.proofs.Common.{arith, ◌≡◌, ◌∙◌, ap, drop, length, subst, sym, take_at}
use Rattle.turn_lock.specs.Seats.{AreIdleSeats}
use Rattle.test_commits.proofs.turns.worked.Goals as goal

pub close-requires-clause-seats : goal.close-requires-clause-seats
close-requires-clause-seats g c =
    let back = c.take_all.new.seats in
    let lent = c.into_vec-seats.result in
    subst (AreIdleSeats c.args.lock) (sym (c.from_vec.ensures ∙ take_at back (drop (length back) lent.items) lent.len (omega arith))) c.take_all.ensures

pub close-requires-clause-count : goal.close-requires-clause-count
close-requires-clause-count g c =
    let back = c.take_all.new.seats in
    let lent = c.into_vec-seats.result in
    let count : length back ≡ length c.args.seats = omega (arith, ap length c.into_vec-seats.ensures) in
    ap length (c.from_vec.ensures ∙ take_at back (drop (length back) lent.items) lent.len (omega arith)) ∙ count ∙ c.requires.count

use Rattle.std.proofs.Common.{rules, ◌∙◌, ap, sym, subst, length}
use Rattle.turn_lock.specs.Seats.{IsNewSeat, AreNewSeats}
use Rattle.turn_lock.specs.Inner.Views.{new_claims, first_number, first_seen, first_of, later_of}
use Rattle.turn_lock.proofs.Ends.{splits}
use Rattle.turn_lock.proofs.Gathering.{one_less, next_claims, longer_by_one, places_more}
use Rattle.turn_lock.proofs.turns.lock.TurnLock.deal.Goals as goal

pub split_seat-seat-requires : goal.split_seat-seat-requires
split_seat-seat-requires g c = let i = c.loop-number.invariant in let are = i.claims ∙ ap (new_claims c.loop-number.number) (one_less c.loop-number.number c.args.seats c.loop-number-test.true) in
    (search rules, search rules, splits g.V.History.origin g.V.History.entries g.V.History.owner _ _ _ c.loop-number.later.me.0 c.loop-number.number _ i.stage are)

pub invariant_of-push_reserved : goal.invariant_of-push_reserved
invariant_of-push_reserved g c = let i = c.loop-number.invariant in let are = i.claims ∙ ap (new_claims c.loop-number.number) (one_less c.loop-number.number c.args.seats c.loop-number-test.true) in
    let cut = c.split_seat-seat.ensures in record {
      one = ap (λ m. length m.0.claims) cut.4 ∙ ap (λ cs. length (first_of cs)) are;
      numbered = ap (λ m. first_number m.0.claims) cut.4 ∙ ap (λ cs. first_number (first_of cs)) are;
    }

pub loop-number-preserved : goal.loop-number-preserved
loop-number-preserved g c = let i = c.loop-number.invariant in let are = i.claims ∙ ap (new_claims c.loop-number.number) (one_less c.loop-number.number c.args.seats c.loop-number-test.true) in
    let cut = c.split_seat-seat.ensures in record {
      table = cut.0 ∙ i.table;
      stage = ap (λ m. m.0.stage) cut.2;
      slot = ap (λ m. m.1) cut.2 ∙ i.slot;
      source = ap (λ m. m.0.first) cut.2 ∙ i.source;
      claims = ap (λ m. m.0.claims) cut.2 ∙ ap later_of are ∙ next_claims _ c.loop-number.number _;
      count = longer_by_one _ _ _ _ c.push_reserved.ensures.items i.count;
      room = search rules;
      dealt = subst (AreNewSeats c.args.self.now) (sym c.push_reserved.ensures.items)
          (places_more (IsNewSeat c.args.self.now) _ _ i.dealt (
            (cut.3 ∙ i.table, ap (λ m. m.0.first) cut.4 ∙ i.source),
            (ap (λ m. m.0.stage) cut.4, ap (λ m. m.1) cut.4),
            ap (λ m. first_number m.0.claims) cut.4 ∙ ap (λ cs. first_number (first_of cs)) are ∙ sym i.count,
            ap (λ m. first_seen m.0.claims) cut.4 ∙ ap (λ cs. first_seen (first_of cs)) are,
          ));
    }

pub returns-clause-seats : goal.returns-clause-seats
returns-clause-seats g c = subst (AreNewSeats c.args.self.now) (sym c.from_vec.ensures) c.loop-number.invariant.dealt

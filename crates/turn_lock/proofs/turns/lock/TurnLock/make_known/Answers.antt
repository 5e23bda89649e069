use Rattle.std.proofs.Common.{rules, ◌∙◌, ap, sym, subst, length, ◌<◌, ◌^◌}
use Rattle.turn_lock.specs.Inner.Views.{first_number, first_seen}
use Rattle.turn_lock.proofs.OneClaim.{one_claim, grown, renewed_length, renewed_number, renewed_seen}
use Rattle.turn_lock.proofs.Steps.{counts}
use Rattle.turn_lock.proofs.turns.lock.TurnLock.make_known.Goals as goal

pub fetch_add-requires : goal.fetch_add-requires
fetch_add-requires g c = let h = g.V.History in let turn = c.requires.seat.1 in let count = c.count.ensures ∙ ap length (sym c.requires.hand) in (
  search rules,
  search rules,
  counts h.origin h.entries h.owner _ _ _ _ c.args.seat.now.seat.me g.H.InHand.entries _ _ _ turn.0.0 (one_claim c.args.seat.now.seat.me.0.claims c.args.seat.now.one) c.requires.entries
      (grown h.owner _ _ _ _ _ c.requires.entries turn.1 count) (subst (λ n. n < 2 ^ 64) count (search rules)),
)

pub invariant_of-seat : goal.invariant_of-seat
invariant_of-seat g c = let old = c.args.seat.now.seat.me.0.claims in let claims = c.fetch_add.ensures.2.3 in record {
  one = ap length claims ∙ renewed_length g.H.InHand.entries old ∙ c.args.seat.now.one;
  numbered = ap first_number claims ∙ renewed_number g.H.InHand.entries old ∙ c.args.seat.now.numbered;
}

pub returns-clause-seen : goal.returns-clause-seen
returns-clause-seen g c =
    ap first_seen c.fetch_add.ensures.2.3 ∙ renewed_seen g.H.InHand.entries c.args.seat.now.seat.me.0.claims c.args.seat.now.one

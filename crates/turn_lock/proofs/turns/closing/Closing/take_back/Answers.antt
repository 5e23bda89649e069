use Rattle.std.proofs.Common.{rules, arith, ap, ◌≡◌, ℕ, ◌∙◌, ◌++◌, length}
use Rattle.turn_lock.proofs.Ends.{joins}
use Rattle.turn_lock.proofs.OneClaim.{one_claim}
use Rattle.turn_lock.proofs.turns.closing.Closing.take_back.Goals as goal

pub join_seat-requires : goal.join_seat-requires
join_seat-requires g c = let h = g.V.History in let is = c.into_seat-seat.ensures in let n : ℕ = length c.into_seat-seat.result.me.0.claims in let one : n ≡ 1 = ap (λ s. length s.me.0.claims) is ∙ c.args.seat.one in (
  c.args.self.now.ours,
  ap (λ s. s.table_id) is ∙ c.requires.0.0,
  ap (λ s. s.me.1) is ∙ c.requires.1.1,
  search rules,
  joins h.origin h.entries h.owner _ _ _ c.args.self.now.all.me.0 _ c.into_seat-seat.result.me.0 c.args.self.now.idle (ap (λ s. s.me.0.stage) is ∙ c.requires.1.0) (omega arith),
)

pub returns-clause-claims : goal.returns-clause-claims
returns-clause-claims g c = let old = c.args.self.now.all.me.0.claims in
    ap (λ m. m.0.claims) c.join_seat.ensures.2 ∙ ap (λ s. s.me.0.claims ++ old) c.into_seat-seat.ensures ∙ ap (λ cs. cs ++ old) (one_claim c.args.seat.seat.me.0.claims c.args.seat.one)

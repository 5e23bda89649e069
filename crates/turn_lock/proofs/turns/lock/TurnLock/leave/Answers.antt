use Rattle.std.proofs.Common.{rules, ◌∙◌, ◌∷◌, ap, sym, length, None}
use Rattle.atomic_table.specs.Table.{rest}
use Rattle.turn_lock.specs.Inner.Views.{first_number, first_seen}
use Rattle.turn_lock.proofs.OneClaim.{put_in}
use Rattle.turn_lock.proofs.Steps.{serves}
use Rattle.turn_lock.proofs.turns.lock.TurnLock.leave.Goals as goal

pub fetch_add-requires : goal.fetch_add-requires
fetch_add-requires g c = let h = g.V.History in let known = c.make_known.ensures in
    let back = put_in h.origin h.entries h.owner c.make_known.new.seat.seat.me c.exchange.new.seat.me c.args.turn.value c.make_known.new.seat.one known.slot.0 known.slot.1 known.seen c.exchange.ensures.3 in (
      search rules,
      search rules,
      serves h.origin h.entries h.owner _ _ _ _ c.exchange.new.seat.me c.args.turn.value _ _ back.stage back.slot back.claims (back.source ∙ known.lock.1) c.requires.origin,
    )

pub exchange-requires : goal.exchange-requires
exchange-requires g c = let slot = c.make_known.ensures.slot.1 in (search rules, (None, slot ∙ ap (λ l. (0, None) ∷ l) (sym (ap rest slot))))

pub invariant_of-seat : goal.invariant_of-seat
invariant_of-seat g c = let claims = c.fetch_add.ensures.2.3 ∙ ap (λ m. m.0.claims) c.exchange.ensures.3 in record {
  one = ap length claims ∙ c.make_known.new.seat.one;
  numbered = ap first_number claims ∙ c.make_known.new.seat.numbered;
}

pub returns-clause-lock : goal.returns-clause-lock
returns-clause-lock g c = let lock = c.make_known.ensures.lock in (
  c.fetch_add.ensures.0 ∙ c.exchange.ensures.0 ∙ lock.0,
  c.fetch_add.ensures.2.2 ∙ ap (λ m. m.0.first) c.exchange.ensures.3 ∙ lock.1,
)

pub returns-clause-idle : goal.returns-clause-idle
returns-clause-idle g c =
    (c.fetch_add.ensures.2.1, c.fetch_add.ensures.2.0 ∙ ap (λ m. rest m.1) c.exchange.ensures.3 ∙ ap rest c.make_known.ensures.slot.1)

pub returns-clause-seen : goal.returns-clause-seen
returns-clause-seen g c = ap first_seen (c.fetch_add.ensures.2.3 ∙ ap (λ m. m.0.claims) c.exchange.ensures.3) ∙ c.make_known.ensures.seen

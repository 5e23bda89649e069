use Rattle.std.proofs.Common.{rules, arith, ◌≡◌, ℕ, ◌∷◌, ◌∙◌, ap, sym, length, Some}
use mathlib.Core.Option.{none}
use Rattle.atomic_table.specs.Table.{rest, step}
use Rattle.turn_lock.specs.Inner.Views.{claims_seeing, first_number}
use Rattle.turn_lock.proofs.OneClaim.{entered, renewed_length, renewed_number}
use Rattle.turn_lock.proofs.Steps.{draws}
use Rattle.turn_lock.proofs.turns.lock.TurnLock.enter.Goals as goal

pub fetch_add-ticket-requires : goal.fetch_add-ticket-requires
fetch_add-ticket-requires g c = let h = g.V.History in let n : ℕ = length c.args.seat.now.seat.me.0.claims in let one : n ≡ 1 = c.args.seat.now.one in (
  search rules,
  search rules,
  draws h.origin h.entries h.owner _ _ _ _ c.args.seat.now.seat.me c.requires.seat.1.0 (omega arith),
)

pub exchange-requires : goal.exchange-requires
exchange-requires g c = let turn = c.wait.ensures.turn in
    (search rules, (Some turn.0, turn.1 ∙ ap (λ l. (0, Some turn.0) ∷ l) (sym (ap rest turn.1))))

pub returns : goal.returns
returns g c = let h = g.V.History in
    let e = entered h.origin h.entries h.owner (step 0 1 1 0 none) c.args.seat.now.seat.me c.fetch_add-ticket.new.seat.me c.wait.new.seat.me c.exchange.new.seat.me c.fetch_add-ticket.result _ c.in-Some.value
    c.args.seat.now.one c.requires.seat.1.1 c.fetch_add-ticket.ensures.2 c.wait.ensures.seat.1 c.wait.ensures.turn c.exchange.ensures.2 c.exchange.ensures.3 c.in-Some.is in record {
      lock = (c.exchange.ensures.0 ∙ c.wait.ensures.seat.0 ∙ c.fetch_add-ticket.ensures.0 ∙ c.requires.seat.0.0, (e.from _ c.requires.seat.0.1).0);
      number = e.number;
      turn = ((e.stage, e.slot), c.count-before.ensures ∙ ap length (sym e.seen));
      origin = (e.from _ c.requires.seat.0.1).1;
      entries = e.extends;
      seen = e.seen;
    }

pub invariant_of-seat : goal.invariant_of-seat
invariant_of-seat g c = let old = c.args.seat.now.seat.me.0.claims in let turn = c.wait.ensures.turn in let xs = g.V.History.entries turn.0 in
    let claims = ap (λ m. m.0.claims) c.exchange.ensures.3 ∙ turn.3 ∙ ap (claims_seeing xs) c.fetch_add-ticket.ensures.2.3 in record {
      one = ap length claims ∙ renewed_length xs old ∙ c.args.seat.now.one;
      numbered = ap first_number claims ∙ renewed_number xs old ∙ c.args.seat.now.numbered;
    }

use Rattle.std.proofs.Common.{rules, ◌%◌, ◌^◌, ◌∙◌, ap, sym, subst}
use Rattle.turn_lock.specs.Inner.Steps.{Begins}
use Rattle.turn_lock.proofs.Steps.{looks}
use Rattle.turn_lock.proofs.turns.lock.TurnLock.wait.Goals as goal

pub load-served-requires : goal.load-served-requires
load-served-requires g c = (
  search rules,
  search rules,
  looks g.V.History.origin g.V.History.entries g.V.History.owner _ _ _ _ c.loop.seat.me (ap (λ m. m.0.stage) c.loop.invariant.1 ∙ c.requires.seat.1),
)

pub loop-preserved : goal.loop-preserved
loop-preserved g c = let same = c.loop.invariant.1 in (
  c.load-served.ensures.0 ∙ c.loop.invariant.0,
  c.load-served.ensures.2.2 (λ e. c.if-served-ticket.false (e ∙ ap (λ m. m.0.ticket % 2 ^ 64) same ∙ sym c.requires.ticket)) ∙ same,
)

pub returns-then-served-ticket-clause-seat : goal.returns-then-served-ticket-clause-seat
returns-then-served-ticket-clause-seat g c =
    (c.load-served.ensures.0 ∙ c.loop.invariant.0, c.load-served.ensures.2.0 ∙ ap (λ m. m.0.first) c.loop.invariant.1)

pub returns-then-served-ticket-clause-turn : goal.returns-then-served-ticket-clause-turn
returns-then-served-ticket-clause-turn g c = let h = g.V.History in let same = c.loop.invariant.1 in
    subst (λ m. Begins h.origin h.entries h.owner m c.load-served.new.seat.me) same
    (c.load-served.ensures.2.1 (c.if-served-ticket.true ∙ c.requires.ticket ∙ ap (λ m. m.0.ticket % 2 ^ 64) (sym same)))

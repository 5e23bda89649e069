use Rattle.std.proofs.Common.{◌∙◌, ◌∷◌, ◌++◌, [], ap, sym, subst, Some}
use Rattle.atomic_table.specs.Table.{opening}
use Rattle.turn_lock.specs.Inner.Views.{first_view}
use Rattle.turn_lock.specs.Rule.{IsOneHistory}
use Rattle.turn_lock.proofs.Ends.{begins}
use Rattle.turn_lock.proofs.turns.lock.TurnLock.with_first.Goals as goal

pub new-requires : goal.new-requires
new-requires g c = let h = g.V.History in
    subst (λ xs. IsOneHistory h.origin h.entries h.owner c.of.result.value c.args.seats (opening (0 ∷ 0 ∷ 0 ∷ []) xs (first_view c.of.result.value c.args.seats)))
    (sym (c.push_reserved.ensures.items ∙ ap (λ l. l ++ Some c.args.value ∷ []) c.requires.slots.0))
    (begins h.origin h.entries h.owner _ _ c.args.value (ap h.origin (sym c.of.ensures)) c.requires.empty c.requires.seats)

pub returns-in-Ok-clause-value : goal.returns-in-Ok-clause-value
returns-in-Ok-clause-value g c = ap (λ k. k.first.value) c.in-Ok.ensures.ok.5 ∙ c.of.ensures

pub returns-in-Ok-clause-count : goal.returns-in-Ok-clause-count
returns-in-Ok-clause-count g c = ap (λ k. k.seats) c.in-Ok.ensures.ok.5

pub returns-in-Ok-clause-first : goal.returns-in-Ok-clause-first
returns-in-Ok-clause-first g c = let made = c.in-Ok.ensures.ok in (made.2, ap (λ m. m.0.stage) made.4, ap (λ m. m.1) made.4)

pub returns-in-Ok-clause-claims : goal.returns-in-Ok-clause-claims
returns-in-Ok-clause-claims g c = let made = c.in-Ok.ensures.ok in
    (ap (λ m. m.0.first) made.4 ∙ ap (λ k. Some k.first.value) (sym made.5), ap (λ m. m.0.claims) made.4)

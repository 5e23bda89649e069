use Rattle.std.proofs.Common.{◌∙◌, ◌++◌, map, ap, append-nil, sym, subst, length, All}
use Rattle.std.proofs.lemmas.List.{length-map}
use Rattle.turn_lock.specs.Owners.{AreOwnedBelow, ExtendsByOthers}
use Rattle.turn_lock.specs.Seats.{first_value, seat_count}
use Rattle.turn_lock.specs.declared.turns.view.Claim.{Claim}
use Rattle.turn_lock.proofs.Gathering.{all_unmapped}
use Rattle.array_store.specs.Event.{Event}
use Rattle.array_store.specs.At.{standing}
use Rattle.array_store.specs.Events.{events, owner_of}
use Rattle.array_store.specs.Starts.{start_of}
use Rattle.snapshot_manager.specs.Seats.{claim_in, IsIdleAt}
use Rattle.snapshot_manager.proofs.Seating.{idle_at}
use Rattle.snapshot_manager.proofs.shared.Shared.finish.Goals as goal

pub take_all-requires : goal.take_all-requires
take_all-requires g c = subst (λ lock. All (IsIdleAt lock) c.args.seats) (sym c.closing-closing.ensures.lock) (idle_at c.args.self c.args.seats c.requires.seats)

pub end-requires : goal.end-requires
end-requires g c =
    let all = c.take_all.ensures.claims ∙ ap (λ claims. map claim_in c.args.seats ++ claims) c.closing-closing.ensures.none ∙ append-nil (map claim_in c.args.seats) in
    ap length all ∙ length-map c.args.seats claim_in ∙ c.requires.count ∙ ap seat_count (sym (c.take_all.ensures.lock ∙ c.closing-closing.ensures.lock))

pub returns-clause-start : goal.returns-clause-start
returns-clause-start g c =
    c.end.ensures.origin ∙ ap (λ lock. start_of (standing g.D.Disk.moment (first_value lock))) (c.take_all.ensures.lock ∙ c.closing-closing.ensures.lock)

pub returns-clause-events : goal.returns-clause-events
returns-clause-events g c =
    let all = c.take_all.ensures.claims ∙ ap (λ claims. map claim_in c.args.seats ++ claims) c.closing-closing.ensures.none ∙ append-nil (map claim_in c.args.seats) in
    let P : Claim Event → Type 0 = λ claim. ExtendsByOthers owner_of claim.number claim.seen (events (standing g.D.Disk.moment c.end.result)) in
    all_unmapped P claim_in c.args.seats (subst (All P) all c.end.ensures.entries)

pub returns-clause-owned : goal.returns-clause-owned
returns-clause-owned g c =
    subst (λ lock. AreOwnedBelow owner_of (seat_count lock) (events (standing g.D.Disk.moment c.end.result))) (c.take_all.ensures.lock ∙ c.closing-closing.ensures.lock) c.end.ensures.owned

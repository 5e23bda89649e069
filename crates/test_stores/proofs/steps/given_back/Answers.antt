use Rattle.std.proofs.Common.{◌≡◌, ◌∙◌, [], ap, refl, subst, sym, append-nil}
use Rattle.store_state.specs.At.{standing}
use Rattle.store_state.specs.Events.{events}
use Rattle.snapshot_manager.specs.Commits.{OnEnd}
use Rattle.snapshot_manager.specs.Seats.{seen, start, store_of, IsIdle}
use Rattle.snapshot_manager.specs.Starts.{start_of}
use Rattle.test_stores.proofs.Seeing.{at_stale}
use Rattle.test_stores.proofs.steps.given_back.Goals as goal

pub end_turn-requires-clause-start : goal.end_turn-requires-clause-start
end_turn-requires-clause-start g c =
    let moment = g.D.Disk.moment in
    let was = at_stale (λ turn. start_of (standing moment (store_of turn)) ≡ start moment c.args.shared.now) c.args.found c.in-Ok-Stale.field-0 c.in-Ok-Stale.turn c.in-Ok-Stale.is c.in-Ok-Stale.field-0-is c.requires.began in
    ap (λ store. start_of (standing moment store)) c.value.ensures.value ∙ was

pub end_turn-requires-clause-events : goal.end_turn-requires-clause-events
end_turn-requires-clause-events g c =
    let moment = g.D.Disk.moment in
    let was = at_stale (λ turn. events (standing moment (store_of turn)) ≡ seen c.args.seat.now) c.args.found c.in-Ok-Stale.field-0 c.in-Ok-Stale.turn c.in-Ok-Stale.is c.in-Ok-Stale.field-0-is c.requires.events in
    ([], ap (λ store. events (standing moment store)) c.value.ensures.value ∙ was ∙ sym (append-nil (seen c.args.seat.now)), refl)

pub returns-in-Ok-Stale-clause-seen : goal.returns-in-Ok-Stale-clause-seen
returns-in-Ok-Stale-clause-seen g c =
    let moment = g.D.Disk.moment in
    let was = at_stale (λ turn. events (standing moment (store_of turn)) ≡ seen c.args.seat.now) c.args.found c.in-Ok-Stale.field-0 c.in-Ok-Stale.turn c.in-Ok-Stale.is c.in-Ok-Stale.field-0-is c.requires.events in
    c.end_turn.ensures.seen ∙ ap (λ store. events (standing moment store)) c.value.ensures.value ∙ was

pub returns-in-Err-clause-seat : goal.returns-in-Err-clause-seat
returns-in-Err-clause-seat g c = (c.requires.seat, subst (OnEnd (IsIdle c.args.seat.now)) c.in-Err.is c.requires.idle)

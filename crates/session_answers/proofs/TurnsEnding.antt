-- A turn that ends: what its seat has seen then.
use Rattle.std.proofs.Common.{◌≡◌, ◌∙◌, ℕ, ◌+◌, ◌≤◌, true, false, List, length, Ok, refl, ap, sym, subst}
use Rattle.afl_outside.specs.Disk.{Moment}
use Rattle.afl_trees.specs.Term.{Term}
use Rattle.logical_plan.specs.declared.names.Names.{Names}
use Rattle.plan_changes.specs.declared.change.Change.{Change}
use Rattle.afl_types.specs.Checking.{check_of}
use Rattle.afl_types.specs.declared.types.statements.checking.Typed.TheVariants.{Change as AChange}
use Rattle.event_core.specs.Allowed.{is_pinned}
use Rattle.statement_replies.specs.Forms.{a_change, form_said}
use Rattle.statement_replies.proofs.Saying.{forms_said}
use Rattle.snapshot_manager.specs.Owners.{ExtendsByOwn}
use Rattle.snapshot_manager.specs.Lent.{turn_with}
use Rattle.snapshot_manager.specs.Turn.{Turn}
use Rattle.store_ledger.specs.declared.pinned.Pinned.{Pinned}
use Rattle.store_ledger.specs.Ledger.{LedgerState, IsLedger, IsOpenPin, history, is_noted, is_tried}
use Rattle.store_ledger.proofs.Keeping.{pinned_of}
use Rattle.store_state.specs.declared.state.event.Event.{Event}
use Rattle.store_state.specs.declared.state.parts.StoreParts.{StoreParts}
use Rattle.store_state.specs.At.{standing, AreParts}
use Rattle.store_state.specs.Events.{events, owner_of}
use Rattle.store_state.specs.Standings.{Standing}
use Rattle.statement_replies.specs.declared.replies.style.Style.{Style}
use Rattle.snapshot_manager.specs.Growth.{IsCounted}
use Rattle.snapshot_manager.specs.Starts.{start_of}
use Rattle.snapshot_manager.proofs.Databases.{stores_have_databases}
use Rattle.snapshot_manager.proofs.Telling.{stores_are_told}
use Rattle.snapshot_manager.specs.declared.seat.Seat.{Seat}
use Rattle.snapshot_manager.specs.declared.shared.Shared.{Shared}
use Rattle.snapshot_manager.specs.Databases.{HasDatabase}
use Rattle.session_sources.specs.Held.{names_now}
use Rattle.snapshot_manager.specs.Seats.{ledger_seen, seen, session_of, start, store_of, HasTurn, HoldsPin}
use Rattle.snapshot_manager.specs.Start.{Start}
use Rattle.snapshot_manager.specs.Told.{ledger_of, IsTold}
use Rattle.session_answers.specs.Replies.{IsChangeAt}
use Rattle.session_answers.specs.declared.replies.reply.Reply.{Reply}
use Rattle.session_answers.proofs.Behind.{names_behind}
use Rattle.session_answers.proofs.Under.{pin_within}
use Rattle.session_answers.specs.Inner.Turns.{Goes, KeepsTurn}
use Rattle.session_answers.specs.AnsweredUnder.{IsAnsweredInTurn}
use Rattle.session_answers.proofs.Answered.{goes_answered, goes_open}

-- a tree that is a change over some names is said to be one
pub change_said : (change : Change) (text : List ℕ) (tree : Term) (pinned : Pinned) → check_of tree text pinned.names ≡ Ok (AChange change) → form_said tree ≡ a_change
change_said change text tree pinned e = sym (forms_said pinned.names text tree (AChange change) e)

-- the store in hand is the turn's
module _ {D : Type 0} (moment : D → Moment) (shared : Shared D) (seat : Seat D) (turn : Turn (StoreParts D)) (parts : StoreParts D) (same : parts ≡ store_of turn) (pinned : Pinned)
    (held : IsTold (start moment shared) (seen seat) (standing moment (store_of turn))) (pin : HoldsPin moment shared seat pinned) where
  abbrev old : Turn (StoreParts D)
  old = turn_with turn parts

  ledger_here : parts.ledger ≡ ledger_seen moment shared seat
  ledger_here = ap (λ (p : StoreParts D). p.ledger) same ∙ ap (λ (x : Standing D). x.ledger) held

  pub pinned_here : is_pinned pinned.session (history parts.ledger) ≡ true
  pinned_here =
      subst (λ (l : LedgerState). is_pinned pinned.session (history l) ≡ true) (sym ledger_here)
      (pinned_of pinned.session (history (ledger_seen moment shared seat)) pin.open_pin.before pin.open_pin.begun)

  pub tried_here : is_noted is_tried (ledger_seen moment shared seat) pinned.session ≡ false → is_noted is_tried parts.ledger pinned.session ≡ false
  tried_here = subst (λ (l : LedgerState). is_noted is_tried l pinned.session ≡ false) (sym ledger_here)

  within_here : pinned.place + 1 ≤ length parts.ledger.entries
  within_here =
      subst (λ (l : LedgerState). pinned.place + 1 ≤ length l.entries) (sym ledger_here)
      (pin_within (start moment shared) (seen seat) pinned pin.open_pin)

  module _ (at : AreParts moment parts) where
    pub database_here : HasDatabase moment (standing moment parts) (length parts.ledger.entries) (names_now parts.ledger)
    database_here = (stores_have_databases moment parts at).now

    module _ (start_is : start_of (standing moment (store_of turn)) ≡ start moment shared) (events_are : events (standing moment (store_of turn)) ≡ seen seat)
        (new : Turn (StoreParts D)) (next : StoreParts D) (hand : next ≡ store_of new) (keeps : KeepsTurn moment pinned.session old new) where
      start_here : start_of (standing moment parts) ≡ start moment shared
      start_here = ap (λ (p : StoreParts D). start_of (standing moment p)) same ∙ start_is

      events_here : events (standing moment parts) ≡ seen seat
      events_here = ap (λ (p : StoreParts D). events (standing moment p)) same ∙ events_are

      abbrev last : Turn (StoreParts D)
      last = turn_with new next

      last_is : last ≡ new
      last_is = ap (turn_with new) hand

      keeps_last : KeepsTurn moment pinned.session old last
      keeps_last = subst (λ (t : Turn (StoreParts D)). KeepsTurn moment pinned.session old t) (sym last_is) keeps

      pub turn_last : HasTurn seat turn → HasTurn seat last
      turn_last has = keeps_last.turn seat has

      pub start_last : start_of (standing moment next) ≡ start moment shared
      start_last = keeps_last.start ∙ start_here

      pub extends_last : ExtendsByOwn owner_of (session_of seat) (seen seat) (events (standing moment next))
      extends_last =
          subst (λ (k : ℕ). ExtendsByOwn owner_of k (seen seat) (events (standing moment next))) pin.own
          (subst (λ (es : List Event). ExtendsByOwn owner_of pinned.session es (events (standing moment next))) events_here keeps_last.extends)

      -- what the seat has then seen
      module _ (style : Style) (text : List ℕ) (tree : Term) (reply : Reply) (goes : Goes style moment pinned.session old new text tree reply)
          (ledger : IsLedger next.ledger) (counted : IsCounted (standing moment next)) (after : Seat D) (seen_is : seen after ≡ events (standing moment next)) where
        goes_last : Goes style moment pinned.session old last text tree reply
        goes_last = subst (λ (t : Turn (StoreParts D)). Goes style moment pinned.session old t text tree reply) (sym last_is) goes

        told_last : IsTold (start_of (standing moment next)) (events (standing moment next)) (standing moment next)
        told_last = (stores_are_told D (standing moment next) ledger counted).told

        abbrev began : Start D
        began = start_of (standing moment parts)

        abbrev last_events : List Event
        last_events = events (standing moment next)

        open_there : IsOpenPin (ledger_of began last_events) pinned
        open_there =
            goes_open style moment pinned.session old last text tree reply keeps_last database_here told_last pinned.place within_here pinned refl goes_last
            (subst (λ (es : List Event). IsOpenPin (ledger_of began es) pinned) (sym events_here)
            (subst (λ (start : Start D). IsOpenPin (ledger_of start (seen seat)) pinned) (sym start_here) pin.open_pin))

        -- right behind the pin the statement was a change
        change_there : (change : Change) → check_of tree text pinned.names ≡ Ok (AChange change) → IsChangeAt began last_events text tree (pinned.place + 1)
        change_there change e = (change, ap (λ (names : Names). check_of tree text names) (names_behind began last_events pinned open_there) ∙ e)

        pub answered_last : (change : Change) → check_of tree text pinned.names ≡ Ok (AChange change) →
            IsAnsweredInTurn style moment (start moment shared) pinned.session pinned.place (seen seat) (seen after) text tree reply
        answered_last change e =
            subst (λ (es : List Event). IsAnsweredInTurn style moment (start moment shared) pinned.session pinned.place (seen seat) es text tree reply) (sym seen_is)
            (subst (λ (es : List Event). IsAnsweredInTurn style moment (start moment shared) pinned.session pinned.place es last_events text tree reply) events_here
            (subst (λ (start : Start D). IsAnsweredInTurn style moment start pinned.session pinned.place (events (standing moment parts)) last_events text tree reply) start_here
            (goes_answered style moment pinned.session old last text tree reply keeps_last database_here told_last pinned.place within_here
            (change_said change text tree pinned e) (change_there change e) goes_last)))

        open_last : IsOpenPin (ledger_of (start moment shared) (seen after)) pinned
        open_last =
            subst (λ (es : List Event). IsOpenPin (ledger_of (start moment shared) es) pinned) (sym seen_is)
            (subst (λ (start : Start D). IsOpenPin (ledger_of start last_events) pinned) start_here open_there)

        pub pin_last : session_of after ≡ session_of seat → HoldsPin moment shared after pinned
        pin_last mine = record { own = pin.own ∙ sym mine; open_pin = open_last }

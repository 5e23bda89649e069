-- A seat that keeps the place of a reply.
use Rattle.std.proofs.Common.{◌≡◌, ℕ, List, sym, subst}
use Rattle.afl_outside.specs.Disk.{Moment}
use Rattle.afl_trees.specs.Term.{Term}
use Rattle.statement_replies.specs.declared.replies.style.Style.{Style}
use Rattle.store_state.specs.declared.state.event.Event.{Event}
use Rattle.snapshot_manager.specs.declared.seat.Seat.{Seat}
use Rattle.snapshot_manager.specs.declared.shared.Shared.{Shared}
use Rattle.session_answers.specs.declared.replies.reply.Reply.{Reply}
use Rattle.snapshot_manager.specs.Seats.{read_count, seen, start, with_last, HoldsNone, IsIdle, IsSeatOf}
use Rattle.session_answers.specs.Answered.{IsAnswered}
use Rattle.session_answers.specs.Reads.{ReadsOnce}

seat_kept : {D : Type 0} (shared : Shared D) (place : ℕ) (seat : Seat D) → IsSeatOf shared seat → IsSeatOf shared (with_last place seat)
seat_kept shared place seat s = record { here = s.here; counts = s.counts; sealed = s.sealed }

module _ {D : Type 0} (moment : D → Moment) (shared : Shared D) (place : ℕ) (seat kept : Seat D) (e : kept ≡ with_last place seat) where
  pub still_seat : IsSeatOf shared seat × IsIdle seat → IsSeatOf shared kept × IsIdle kept
  still_seat s = subst (λ (x : Seat D). IsSeatOf shared x × IsIdle x) (sym e) (seat_kept shared place seat s.0, s.1)

  pub still_none : HoldsNone moment shared seat → HoldsNone moment shared kept
  still_none none = subst (λ (x : Seat D). HoldsNone moment shared x) (sym e) none

  pub still_answered : (style : Style) (session last : ℕ) (old : List Event) (text : List ℕ) (reply : Reply) → IsAnswered style moment (start moment shared) session last old (seen seat) text reply →
      IsAnswered style moment (start moment shared) session last old (seen kept) text reply
  still_answered style session last old text reply a =
      subst (λ (x : Seat D). IsAnswered style moment (start moment shared) session last old (seen x) text reply) (sym e) a

  pub still_read : (session : ℕ) (old : List Event) (text : List ℕ) (tree : Term) (before : ℕ) →
      ReadsOnce moment (start moment shared) session old (seen seat) text tree before (read_count seat) → ReadsOnce moment (start moment shared) session old (seen kept) text tree before (read_count kept)
  still_read session old text tree before r =
      subst (λ (x : Seat D). ReadsOnce moment (start moment shared) session old (seen x) text tree before (read_count x)) (sym e) r

-- What a reply in a turn tells, by its refusal.
use Rattle.std.proofs.Common.{◌≡◌, ◌∙◌, inl, inr, ℕ, ◌+◌, ◌<◌, ◌≤◌, List, [], ◌∷◌, ◌++◌, length, Option, Some, IsTrue, refl, ap, sym, subst}
use Rattle.afl_outside.specs.Disk.{Moment}
use Rattle.afl_trees.specs.Term.{Term}
use Rattle.result_print.specs.declared.refusal.Refusal.{Refusal}
use Rattle.result_print.specs.declared.refusal.Refusal.TheVariants.{TooLong, Parse, HistoryFull, Typing, Cell, Disk, Damaged, SequenceEnd, Full, Memory}
use Rattle.statement_replies.specs.declared.replies.replies.Reply.{Reply as Told}
use Rattle.statement_replies.specs.Reply.{refused}
use Rattle.statement_replies.specs.declared.replies.style.Style.{Style}
use Rattle.snapshot_manager.specs.Owners.{ExtendsByOwn}
use Rattle.store_ledger.specs.Ledger.{is_fault, is_noted}
use Rattle.store_state.specs.declared.state.event.Event.{Event}
use Rattle.store_state.specs.Events.{owner_of}
use Rattle.snapshot_manager.specs.Start.{Start}
use Rattle.snapshot_manager.specs.Told.{entries_in, ledger_of}
use Rattle.session_answers.specs.Refusals.{Refuses}
use Rattle.session_answers.specs.Acts.{Act, acts_for, acts_in, begins, ends, Course, looking}
use Rattle.session_answers.specs.Replies.{HasFault, HasLine, HoldsWhereRefused, IsChangeAt, IsToldFor}
use Rattle.session_answers.specs.declared.replies.reply.Reply.{Reply}
use Rattle.snapshot_manager.specs.Turns.{own_events}
use Rattle.session_answers.specs.AnsweredUnder.{IsAnsweredInTurn}
use Rattle.session_answers.proofs.Adding.{only_acts}

module _ {D : Type 0} (style : Style) (moment : D → Moment) (start : Start D) (session pin : ℕ) (old new : List Event) (text : List ℕ) (tree : Term) (reply : Reply)
    (more : ExtendsByOwn owner_of session old new) (since : pin < reply.place) (until : reply.place ≤ length (entries_in new)) where
  abbrev pub Answered : Type 0
  Answered = IsAnsweredInTurn style moment start session pin old new text tree reply

  -- what is told for a refusal, whatever came before the turn
  abbrev pub Tells : Option Refusal → Course → Type 0
  Tells refusal course = (own : List Event) → (IsTrue (is_noted is_fault (ledger_of start new) session) → HasFault session own)
      → IsToldFor moment start session pin new own text tree reply style refusal course

  module _ (course : Course) (acts : List Act) (is : acts_in more.0 ≡ acts) (for_course : begins ∷ (acts ++ ends ∷ []) ≡ acts_for course) where
    pub answered : (refusal : Option Refusal) → reply.refusal ≡ refusal → HasLine reply refusal → Tells refusal course → Answered
    answered refusal e line told = record {
      own = own_events session more.0;
      course = course;
      adds = record { more = more.0; grown = more.1; mine = refl };
      acts = ap (λ (all : List Act). begins ∷ (all ++ ends ∷ [])) (only_acts session more.0 more.2 ∙ is) ∙ for_course;
      line = subst (λ (r : Option Refusal). HasLine reply r) (sym e) line;
      since = since;
      until = until;
      told = λ before fault. subst (λ (r : Option Refusal). IsToldFor moment start session pin new (before ++ own_events session more.0) text tree reply style r course) (sym e)
          (told (before ++ own_events session more.0) fault);
    }

    -- by the refusal's line, or for want of memory
    pub refuses : (refusal : Refusal) → (reply.text ≡ (refused refusal).text → HasLine reply (Some refusal)) → Refuses refusal reply → Tells (Some refusal) course →
        Tells (Some Memory) course → Answered
    refuses refusal line (inl e) told short =
        answered (Some refusal) (ap (λ (words : Told). words.refusal) e) (line (ap (λ (words : Told). words.text) e)) told
    refuses refusal line (inr w) told short = answered (Some Memory) w.1 w.0 short

  -- what a refusal of a change tells behind a later pin it tells behind this one
  module _ (was : IsChangeAt start new text tree (pin + 1)) where
    pub later_refused : (own : List Event) → HoldsWhereRefused moment start session pin new own text tree reply
    later_refused own = inr ((since, until), was)

    pub earlier_pin : (later : ℕ) (own : List Event) (refusal : Refusal) → IsToldFor moment start session later new own text tree reply style (Some refusal) looking →
        IsToldFor moment start session pin new own text tree reply style (Some refusal) looking
    earlier_pin later own (TooLong bytes) t = absurd t
    earlier_pin later own (Parse at kind) t = absurd t
    earlier_pin later own HistoryFull t = absurd t
    earlier_pin later own (Typing span kind) t = (later_refused own, t.1)
    earlier_pin later own Disk t = (later_refused own, t.1, t.2)
    earlier_pin later own (Damaged page) t = (later_refused own, t.1, t.2, t.3)
    earlier_pin later own (Cell at kind) t = (later_refused own, t.1)
    earlier_pin later own SequenceEnd t = absurd t
    earlier_pin later own (Full needed free) t = absurd t
    earlier_pin later own Memory t = tt

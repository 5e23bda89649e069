-- What is told of a statement that was read under a pin.
use Rattle.std.proofs.Common.{◌≡◌, ◌+◌, ◌<◌, ◌∙◌, ◌≤◌, inl, ℕ, true, List, [], length, slice_index, Option, Some, IfSome, IsSomeAnd, ap, sym, subst, arith}
use Rattle.std.specs.List.{list_all}
use Rattle.std.proofs.lemmas.Option.{none-some, slice_get_within}
use Rattle.afl_outside.specs.Disk.{Moment}
use Rattle.afl_trees.specs.Term.{Term}
use Rattle.logical_plan.specs.declared.names.Names.{Names}
use Rattle.chunk_map.specs.declared.directory.DirEntry.{DirEntry}
use Rattle.chunk_source.specs.declared.reading.fault.ExecFault.{ExecFault}
use Rattle.chunk_source.specs.declared.reading.fault.ExecFault.TheVariants.{Source, Damaged, Memory}
use Rattle.event_core.specs.declared.entry.Entry.TheVariants.{Pin}
use Rattle.afl_types.specs.Checking.{check_of}
use Rattle.statement_replies.specs.declared.answers.outcome.Outcome.TheVariants.{Replied}
use Rattle.statement_replies.specs.Outcomes.{MayFail}
use Rattle.statement_replies.specs.declared.replies.style.Style.{Style}
use Rattle.store_ledger.specs.declared.pinned.Pinned.{Pinned}
use Rattle.store_ledger.specs.Ledger.{IsOpenPin}
use Rattle.store_state.specs.declared.state.event.Event.{Event}
use Rattle.store_state.specs.Calls.{IsLeafOf}
use Rattle.snapshot_manager.specs.Start.{Start}
use Rattle.snapshot_manager.specs.Told.{entries_in, is_sealed, ledger_of, told}
use Rattle.snapshot_manager.specs.Seats.{seen, session_of, start}
use Rattle.session_answers.specs.Acts.{looking}
use Rattle.session_answers.specs.Refusals.{IsUnreadReply}
use Rattle.session_answers.specs.Replies.{names_before, words_of, BeganAsNone, HasFault, IsDamagedPage, IsToldFor}
use Rattle.session_answers.specs.declared.replies.reply.Reply.{Reply}
use Rattle.session_answers.proofs.PinPlaces.{open_pins_are_entered}
use Rattle.session_answers.proofs.Staying.{page_later, replies_stay}
use Rattle.session_sources.specs.declared.reading.Reading.{Reading}
use Rattle.session_sources.specs.Courses.{AddsAtMostFault, AddsOwn}
use Rattle.session_sources.specs.Pinned.{unread, HasRead}
use Rattle.session_sources.specs.Stored.{BeginsDamage}
use Rattle.session_answers.specs.Said.{IsSaid}
use Rattle.session_answers.specs.ToldReplies.{IsCause, IsLookedReply}
use Rattle.session_answers.specs.Under.{FailedRepliesAreTold, HasOutcomesWords, ReadRepliesAreTold, SaysWhy, WasPinned}
use Rattle.session_answers.proofs.Behind.{names_behind, open_pin_behind, pinned_outcomes_are_said}
use Rattle.session_answers.proofs.Noted.{failures_are_noted}
use Rattle.session_answers.proofs.OutcomesTold.{said_replies_are_told, unread_replies_are_told}

-- ---- over plain variables

pub pin_within : {D : Type 0} (began : Start D) (events : List Event) (pinned : Pinned) → IsOpenPin (ledger_of began events) pinned → pinned.place + 1 ≤ length (entries_in events)
pin_within {D} began events pinned o =
    let lt : pinned.place < length (entries_in events) = slice_get_within (entries_in events) pinned.place (Pin pinned.session) (open_pins_are_entered D began events pinned o).0 in
    omega (arith, lt)

module _ {D : Type 0} (moment : D → Moment) (began : Start D) (session pin other : ℕ) (old new own : List Event) (text : List ℕ) (tree : Term) (reply : Reply)
    (adds : AddsOwn other own old new) (sealed : list_all is_sealed old ≡ true) (within : reply.place ≤ length (entries_in old)) where
  later_told : (style : Style) → IsLookedReply moment began session pin old [] text tree reply style → IsLookedReply moment began session pin new own text tree reply style
  later_told style t = record {
    line = t.line;
    told = subst (λ (es : List Event). IsToldFor moment began session pin es own text tree reply style reply.refusal looking) (sym adds.grown)
        (replies_stay moment style began session pin old adds.more [] own text tree reply reply.refusal looking sealed within t.told);
  }

  later_page : (page : ℕ) → IsDamagedPage moment began old reply.place page → IsDamagedPage moment began new reply.place page
  later_page page p = subst (λ (es : List Event). IsDamagedPage moment began es reply.place page) (sym adds.grown)
      (page_later moment began old adds.more text tree reply.place within page sealed p)

-- a payload that the pin sees is seen right behind it
page_behind : {D : Type 0} (moment : D → Moment) (began : Start D) (events : List Event) (pinned : Pinned) (page : ℕ) → IsOpenPin (ledger_of began events) pinned →
    BeginsDamage moment pinned.names (told began events) pinned.place page → IsDamagedPage moment began events (pinned.place + 1) page
page_behind moment began events pinned page o b = record {
  leaf = b.leaf;
  at = b.number;
  named = subst (λ (names : Names). IsLeafOf names b.leaf) (sym (names_behind began events pinned o)) b.of;
  begins = subst (λ (found : Option DirEntry). IsSomeAnd found (λ entry. page ≡ slice_index entry.pages 0))
      (sym ((open_pin_behind began events pinned o).payloads b.leaf b.number)) b.begins;
  was = b.was;
}

-- ---- readings

module _ {D : Type 0} (moment : D → Moment) (r : Reading D) (text : List ℕ) (tree : Term) (reply : Reply) (read : HasRead moment r) (was : WasPinned moment r)
    (at : reply.place ≡ r.lent.pinned.place + 1)
    (adds : AddsAtMostFault (start moment r.lent.shared) (session_of r.lent.seat) (seen r.lent.seat) (seen r.seat)) where
  abbrev began : Start D
  began = start moment r.lent.shared

  within_seen : reply.place ≤ length (entries_in (seen r.lent.seat))
  within_seen = let le = pin_within began (seen r.lent.seat) r.lent.pinned read.lent_pin.open_pin in omega (arith, at, le)

  words_told : (style : Style) → HasOutcomesWords moment r text tree reply style →
      IsLookedReply moment began r.lent.pinned.session r.lent.pinned.place (seen r.seat) adds.own text tree reply style
  words_told style comes = later_told moment began r.lent.pinned.session r.lent.pinned.place (session_of r.lent.seat) (seen r.lent.seat) (seen r.seat) adds.own text tree reply
      adds.adds read.lent.sealed within_seen style
      (said_replies_are_told moment style began r.lent.pinned.session r.lent.pinned.place (seen r.lent.seat) [] text tree reply (record {
        behind = at;
        said = subst (λ (place : ℕ). IsSaid moment began (seen r.lent.seat) text tree place style (Replied (words_of reply))) (sym at)
            (pinned_outcomes_are_said moment style (unread r.lent.shared r.lent.pinned r.lent.seat) text tree (Replied (words_of reply)) read.lent_pin.open_pin was.database comes);
      }))

  damaged_page : (page : ℕ) → r.marks.damaged ≡ Some page → IsDamagedPage moment began (seen r.seat) reply.place page
  damaged_page page e = later_page moment began r.lent.pinned.session r.lent.pinned.place (session_of r.lent.seat) (seen r.lent.seat) (seen r.seat) adds.own text tree reply
      adds.adds read.lent.sealed within_seen page
      (subst (λ (place : ℕ). IsDamagedPage moment began (seen r.lent.seat) place page) (sym at)
      (page_behind moment began (seen r.lent.seat) r.lent.pinned page read.lent_pin.open_pin
      (subst (λ (found : Option ℕ). IfSome found (BeginsDamage moment r.lent.pinned.names (told began (seen r.lent.seat)) r.lent.pinned.place)) e read.damaged)))

  -- a database that the file began as has no damage
  none_began : (page : ℕ) → r.marks.damaged ≡ Some page → BeganAsNone moment began
  none_began page e db is = none-some page (sym (read.whole db is) ∙ e)

  cause : (fault : ExecFault) → SaysWhy moment r fault →
      IsCause moment began r.lent.pinned.session r.lent.pinned.place (seen r.seat) adds.own text tree reply fault
  cause Source failed = subst (λ (session : ℕ). HasFault session adds.own) (sym read.lent_pin.own) (failures_are_noted moment r read failed was.untried adds)
  cause (Damaged page) e = (damaged_page page e, none_began page e)
  cause Memory e = tt

  names_there : names_before began (seen r.seat) reply.place ≡ r.lent.pinned.names
  names_there = ap (names_before began (seen r.seat)) at ∙ names_behind began (seen r.seat) r.lent.pinned read.pin.open_pin

  fault_told : (style : Style) (fault : ExecFault) → SaysWhy moment r fault → MayFail fault (check_of tree text r.lent.pinned.names) → IsUnreadReply fault reply →
      IsLookedReply moment began r.lent.pinned.session r.lent.pinned.place (seen r.seat) adds.own text tree reply style
  fault_told style fault why may u = unread_replies_are_told moment style began r.lent.pinned.session r.lent.pinned.place (seen r.seat) adds.own text tree reply fault (record {
    holds = inl at;
    cause = cause fault why;
    allowed = subst (λ (names : Names). MayFail fault (check_of tree text names)) (sym names_there) may;
    unread = u;
  })

pub read_replies_are_told : {D : Type 0} (moment : D → Moment) → ReadRepliesAreTold moment
read_replies_are_told moment style r text tree reply read was comes at adds = words_told moment r text tree reply read was at adds style comes

pub failed_replies_are_told : {D : Type 0} (moment : D → Moment) → FailedRepliesAreTold moment
failed_replies_are_told moment style r text tree reply fault read was why may u at adds =
    fault_told moment r text tree reply read was at adds style fault why may u

-- The answer to a tree, about its pin and its unpin.
use Rattle.std.proofs.Common.{◌≡◌, ◌∙◌, ◌≤◌, ℕ, Bool, true, false, List, [], ◌∷◌, ◌++◌, length, slice_get, inl, inr, Option, None, Some, refl, ap, sym, subst, arith, append-nil}
use Rattle.std.specs.List.{list_all}
use Rattle.std.proofs.lemmas.Bool.{eq-eqb, true≢false}
use Rattle.afl_outside.specs.Disk.{Moment}
use Rattle.afl_trees.specs.Term.{Term}
use Rattle.event_core.specs.declared.entry.Entry.{Entry}
use Rattle.event_core.specs.declared.entry.Entry.TheVariants.{Pin, Unpin}
use Rattle.logical_plan.specs.declared.names.Names.{Names}
use Rattle.result_print.specs.declared.refusal.Refusal.{Refusal}
use Rattle.result_print.specs.declared.refusal.Refusal.TheVariants as refusals
use Rattle.statement_replies.specs.declared.replies.replies.Reply.{Reply as Told}
use Rattle.statement_replies.specs.declared.replies.style.Style.{Style}
use Rattle.store_ledger.specs.declared.pinned.PinFault.{PinFault}
use Rattle.store_ledger.specs.declared.pinned.PinFault.TheVariants.{HistoryFull, Memory}
use Rattle.store_ledger.specs.declared.pinned.Pinned.{Pinned}
use Rattle.store_ledger.specs.Ledger.{IsOpenPin, IsRefused}
use Rattle.store_state.specs.declared.state.event.Event.{Event}
use Rattle.store_state.specs.declared.state.event.Event.TheVariants.{Entered}
use Rattle.snapshot_manager.specs.Turns.{found_before, own_events, pin_event, Adds}
use Rattle.snapshot_manager.proofs.Turning.{turns_find}
use Rattle.array_store.proofs.Telling.{entries_in-append}
use Rattle.session_answers.specs.Acts.{Act, Course, acts_for, acts_in, begins, ends, nothing, looking, trying, making}
use Rattle.session_answers.specs.Refusals.{IsWant, Refuses}
use Rattle.session_answers.specs.Replies.{names_before, EnteredAt, HadNoRoom, HasLine, IsToldFor, WasAt}
use Rattle.session_answers.specs.declared.replies.reply.Reply.{Reply}
use Rattle.session_answers.proofs.ActsJoined.{acts_join}
use Rattle.session_answers.proofs.Beginnings.{reached}
use Rattle.session_answers.proofs.PinPlaces.{get_seam, open_pins_are_entered}
use Rattle.session_answers.proofs.Staying.{entered_later, replies_stay}
use Rattle.session_sources.specs.Courses.{AddsOwn}
use Rattle.snapshot_manager.specs.Start.{Start}
use Rattle.snapshot_manager.specs.Told.{entries_in, is_sealed, ledger_of}
use Rattle.session_sources.proofs.CourseLaws.{courses_join, turns_are_courses}
use Rattle.session_answers.specs.AnsweredUnder.{IsAnsweredUnder}
use Rattle.session_answers.specs.Answered.{BeganAt, EndedAt}
use Rattle.session_answers.specs.Inner.Tree.{IsAnsweredTree, TellsUnpinned}
use Rattle.session_answers.specs.Reads.{CountsAt, ReadsOnce}
use Rattle.session_answers.proofs.Counting.{counts_then, refusal_refuses, want_refuses}
use Rattle.session_answers.proofs.Prefixed.{told_before}
use Rattle.session_answers.proofs.Tried.{own_first}

-- what is told of a pin as one record is told of its parts
pub pin_parts : (pinned : Pinned) (session place : ℕ) (names : Names) → pinned ≡ record { session = session; place = place; names = names } →
    (pinned.session ≡ session) × (pinned.place ≡ place)
pin_parts pinned session place names e = (ap (λ (p : Pinned). p.session) e, ap (λ (p : Pinned). p.place) e)

-- a turn in which a session entered one entry of its own
one_adds : (session : ℕ) (event : Event) (old new : List Event) → own_events session (event ∷ []) ≡ event ∷ [] → Adds session (event ∷ []) old new →
    AddsOwn session (event ∷ []) old new
one_adds session event old new own turn = subst (λ (es : List Event). AddsOwn session es old new) own (turns_are_courses session (event ∷ []) old new turn)

began_at : (session pin : ℕ) (old new : List Event) (course : Course) → EnteredAt (length (entries_in old)) (Pin session) pin new → BeganAt session pin old new course
began_at session pin old new nothing e = tt
began_at session pin old new looking e = e
began_at session pin old new (trying change) e = e
began_at session pin old new (making change) e = e

ended_at : (session place unpin : ℕ) (new : List Event) (course : Course) → EnteredAt place (Unpin session) unpin new → EndedAt session place unpin new course
ended_at session place unpin new nothing e = tt
ended_at session place unpin new looking e = e
ended_at session place unpin new (trying change) e = e
ended_at session place unpin new (making change) e = e

-- the last of some events is entered behind all before it
entered_last : (session least : ℕ) (front new : List Event) → new ≡ front ++ Entered (Unpin session) ∷ [] → least ≤ length (entries_in front)
    → EnteredAt least (Unpin session) (length (entries_in front)) new
entered_last session least front new grown le = record {
  is = ap (λ (es : List Event). slice_get (entries_in es) (length (entries_in front))) grown
      ∙ ap (λ (es : List Entry). slice_get es (length (entries_in front))) (entries_in-append front (Entered (Unpin session) ∷ []))
      ∙ get_seam (entries_in front) [] (Unpin session);
  later = le;
}

abbrev has_acts : List Act → Bool
has_acts [] = false
has_acts (act ∷ acts) = true

-- under a pin nobody is told that the history is full
never_full : {D : Type 0} (style : Style) (moment : D → Moment) (start : Start D) (session pin : ℕ) (new own : List Event) (text : List ℕ) (tree : Term) (reply : Reply) (acts : List Act)
    (course : Course) → begins ∷ acts ≡ acts_for course → IsToldFor moment start session pin new own text tree reply style (Some refusals.HistoryFull) course → ⊥
never_full style moment start session pin new own text tree reply acts nothing e t = true≢false (ap has_acts e)
never_full style moment start session pin new own text tree reply acts looking e t = t
never_full style moment start session pin new own text tree reply acts (trying change) e t = t
never_full style moment start session pin new own text tree reply acts (making change) e t = t

module _ {D : Type 0} (style : Style) (moment : D → Moment) (start : Start D) (session : ℕ) (old mid end new : List Event) (pinned : Pinned) (text : List ℕ) (tree : Term) (reply : Reply)
    (turn : Adds session (pin_event session ∷ []) old mid) (mine : pinned.session ≡ session)
    (place : pinned.place ≡ length (entries_in (found_before (pin_event session ∷ []) mid)))
    (o : IsOpenPin (ledger_of start mid) pinned) (sealed : list_all is_sealed end ≡ true)
    (last : Adds session (Entered (Unpin session) ∷ []) end new)
    (under : IsAnsweredUnder style moment start pinned.session pinned.place mid end text tree reply) where
  pin_adds : AddsOwn session (pin_event session ∷ []) old mid
  pin_adds = one_adds session (pin_event session) old mid (own_first session session (pin_event session) [] refl (eq-eqb session session refl)) turn

  unpin_adds : AddsOwn session (Entered (Unpin session) ∷ []) end new
  unpin_adds = one_adds session (Entered (Unpin session)) end new (own_first session session (Entered (Unpin session)) [] refl (eq-eqb session session refl)) last

  under_adds : AddsOwn session under.own mid end
  under_adds = subst (λ (s : ℕ). AddsOwn s under.own mid end) mine under.adds

  rest_adds : AddsOwn session (under.own ++ Entered (Unpin session) ∷ []) mid new
  rest_adds = courses_join session under.own (Entered (Unpin session) ∷ []) mid end new under_adds unpin_adds

  behind_old : length (entries_in old) ≤ pinned.place
  behind_old =
      let le : length (entries_in old) ≤ length (entries_in (old ++ turn.others)) = reached start old turn.others (length (entries_in old)) (omega arith) in
      subst (λ (n : ℕ). length (entries_in old) ≤ n)
      (sym (place ∙ ap (λ (es : List Event). length (entries_in es)) (turns_find session (pin_event session ∷ []) old mid turn))) le

  entered : EnteredAt (length (entries_in old)) (Pin session) pinned.place new
  entered = subst (λ (es : List Event). EnteredAt (length (entries_in old)) (Pin session) pinned.place es) (sym rest_adds.grown)
      (entered_later (length (entries_in old)) (Pin session) pinned.place mid rest_adds.more (record {
        is = (open_pins_are_entered D start mid pinned o).0 ∙ ap (λ (s : ℕ). Some (Pin s)) mine;
        later = behind_old;
      }))

  told : IsToldFor moment start session pinned.place new (pin_event session ∷ (under.own ++ Entered (Unpin session) ∷ [])) text tree reply style reply.refusal under.course
  told = subst (λ (es : List Event). IsToldFor moment start session pinned.place es (pin_event session ∷ (under.own ++ Entered (Unpin session) ∷ [])) text tree reply style reply.refusal under.course)
      (sym unpin_adds.grown)
      (replies_stay moment style start session pinned.place end unpin_adds.more (pin_event session ∷ under.own) (Entered (Unpin session) ∷ []) text tree reply reply.refusal under.course
      sealed under.until
      (told_before style moment start session pinned.place end (pin_event session ∷ []) under.own text tree reply reply.refusal under.course
      (subst (λ (s : ℕ). IsToldFor moment start s pinned.place end under.own text tree reply style reply.refusal under.course) mine under.told)))

  full : reply.refusal ≡ Some refusals.HistoryFull → HadNoRoom start old new reply.place
  full is =
      let own : List Event = pin_event session ∷ (under.own ++ Entered (Unpin session) ∷ []) in
      absurd (never_full style moment start session pinned.place new own text tree reply (acts_in under.own ++ ends ∷ []) under.course under.acts
      (subst (λ (r : Option Refusal). IsToldFor moment start session pinned.place new own text tree reply style r under.course) is told))

  pub pinned_is_answered : IsAnsweredTree style moment start session old new text tree reply
  pinned_is_answered = record {
    own = pin_event session ∷ (under.own ++ Entered (Unpin session) ∷ []);
    course = under.course;
    pin = pinned.place;
    adds = courses_join session (pin_event session ∷ []) (under.own ++ Entered (Unpin session) ∷ []) old mid new pin_adds rest_adds;
    acts = ap (λ (acts : List Act). begins ∷ acts) (acts_join under.own (Entered (Unpin session) ∷ [])) ∙ under.acts;
    began = began_at session pinned.place old new under.course entered;
    unpin = length (entries_in (end ++ last.others));
    ended = ended_at session reply.place (length (entries_in (end ++ last.others))) new under.course
        (entered_last session reply.place (end ++ last.others) new last.grown (reached start end last.others reply.place under.until));
    line = under.line;
    later = (let le = behind_old in omega (arith, le, under.since));
    until = subst (λ (es : List Event). reply.place ≤ length (entries_in es)) (sym unpin_adds.grown) (reached start end unpin_adds.more reply.place under.until);
    full = full;
    told = told;
  }

  -- and so many chunks were counted, as the history then tells it
  pub is_read_once : list_all is_sealed mid ≡ true → (before first last after : ℕ) → first ≡ before →
      CountsAt moment start mid pinned.place pinned.names text tree first last → after ≡ last → ReadsOnce moment start session old new text tree before after
  is_read_once whole before first last after pins reads unpins = record {
    pin = pinned.place;
    began = entered;
    reads = subst (λ (n : ℕ). CountsAt moment start new pinned.place (names_before start new pinned.place) text tree before n) (sym unpins)
        (subst (λ (n : ℕ). CountsAt moment start new pinned.place (names_before start new pinned.place) text tree n last) pins
        (counts_then moment start session first last mid new pinned text tree o whole (under.own ++ Entered (Unpin session) ∷ []) rest_adds reads));
  }

-- ---- without a pin

module _ {D : Type 0} (style : Style) (moment : D → Moment) (start : Start D) (session : ℕ) (old new : List Event) (text : List ℕ) (tree : Term) (reply : Reply) (turn : Adds session [] old new) where
  found : AddsOwn session [] old new
  found = turns_are_courses session [] old new turn

  grown : length (entries_in old) ≤ length (entries_in new)
  grown = subst (λ (es : List Event). length (entries_in old) ≤ length (entries_in es)) (sym found.grown) (reached start old found.more (length (entries_in old)) (omega arith))

  unpinned : (refusal : Option Refusal) → reply.refusal ≡ refusal → HasLine reply refusal → reply.place ≡ length (entries_in new) →
      (reply.refusal ≡ Some refusals.HistoryFull → HadNoRoom start old new reply.place) →
      IsToldFor moment start session 0 new [] text tree reply style refusal nothing → IsAnsweredTree style moment start session old new text tree reply
  unpinned refusal e line at full told = record {
    own = [];
    course = nothing;
    pin = 0;
    adds = found;
    acts = refl;
    began = tt;
    unpin = 0;
    ended = tt;
    line = subst (λ (r : Option Refusal). HasLine reply r) (sym e) line;
    later = subst (λ (n : ℕ). length (entries_in old) ≤ n) (sym at) grown;
    until = omega (arith, at);
    full = full;
    told = subst (λ (r : Option Refusal). IsToldFor moment start session 0 new [] text tree reply style r nothing) (sym e) told;
  }

  want_is_answered : IsWant reply → reply.place ≡ length (entries_in new) → IsAnsweredTree style moment start session old new text tree reply
  want_is_answered w at = unpinned (Some refusals.Memory) w.1 w.0 at (λ is. absurd (cc (w.1, is))) tt

  here : {place : ℕ} → place ≡ length (entries_in new) → WasAt place new new
  here count = record { later = []; grown = sym (append-nil new); count = count }

  full_is_answered : (entries : ℕ) → Refuses refusals.HistoryFull reply → reply.place ≡ entries → IsRefused (ledger_of start new) (HistoryFull entries) →
      IsAnsweredTree style moment start session old new text tree reply
  full_is_answered entries (inl e) at why =
      let count : reply.place ≡ length (entries_in new) = at ∙ why.1 in
      unpinned (Some refusals.HistoryFull) (ap (λ (words : Told). words.refusal) e) (ap (λ (words : Told). words.text) e) count
      (λ is. record { then = new; others = found.more; behind = found.grown; at = here count; full = why.0 })
      (new, here count, why.0)
  full_is_answered entries (inr w) at why = want_is_answered w (at ∙ why.1)

  -- a statement that is refused tells nothing of what it reads
  want_reads : IsWant reply → (before after : ℕ) → reply.refusal ≡ None → ReadsOnce moment start session old new text tree before after
  want_reads w before after accepts = absurd (want_refuses reply w accepts)

  full_reads : Refuses refusals.HistoryFull reply → (before after : ℕ) → reply.refusal ≡ None → ReadsOnce moment start session old new text tree before after
  full_reads r before after accepts = absurd (refusal_refuses refusals.HistoryFull reply r accepts)

  -- whatever kept it from a pin
  pub fault_is_answered : (fault : PinFault) (seen : ℕ) → TellsUnpinned seen fault reply → seen ≡ length (entries_in new) → IsRefused (ledger_of start new) fault →
      IsAnsweredTree style moment start session old new text tree reply
  fault_is_answered (HistoryFull entries) seen r all why = full_is_answered entries r.0 r.1 why
  fault_is_answered Memory seen w all why = want_is_answered w.0 (w.1 ∙ all)

  pub fault_reads : (fault : PinFault) (seen : ℕ) → TellsUnpinned seen fault reply → (before after : ℕ) → reply.refusal ≡ None →
      ReadsOnce moment start session old new text tree before after
  fault_reads (HistoryFull entries) seen r = full_reads r.0
  fault_reads Memory seen w = want_reads w.0

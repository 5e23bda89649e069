-- A commit that was tried under a pin: what its statement says where the commit came, or would have come.
use Rattle.std.proofs.Common.{◌≡◌, ◌∙◌, ◌+◌, ◌≤◌, ℕ, Bool, true, false, cond, if◌then◌else◌, nat_eq, List, [], ◌∷◌, ◌++◌, length, reverse, inl, inr, Option, Some, refl, ap, sym, subst, arith, append-nil, append_assoc}
use Rattle.std.proofs.lemmas.Bool.{eq-eqb}
use Rattle.std.proofs.lemmas.List.{length-reverse}
use Rattle.afl_outside.specs.Disk.{Moment}
use Rattle.afl_trees.specs.Term.{Term}
use Rattle.plan_changes.specs.declared.change.Change.{Change}
use Rattle.plan_changes.specs.Changes.{names_after}
use Rattle.plan_changes.specs.Databases.{Database, names_of}
use Rattle.plan_changes.proofs.NamesOf.{names_depend_on_no_row}
use Rattle.logical_plan.specs.declared.names.Names.{Names}
use Rattle.event_core.specs.declared.entry.Entry.TheVariants.{Pin, Unpin, Commit, Reap}
use Rattle.event_core.specs.declared.state.Core.{Core}
use Rattle.event_core.specs.Cells.{at}
use Rattle.event_core.specs.History.{History, names_at, up_to}
use Rattle.store_versions.proofs.Pins.{all_entries_are_the_history}
use Rattle.array_store.specs.FreshLaws.{AreLeft, SameRoom}
use Rattle.statement_replies.specs.declared.replies.replies.Reply.{Reply as Told}
use Rattle.statement_replies.specs.Statements.{Accepted}
use Rattle.statement_replies.specs.declared.replies.style.Style.{Style}
use Rattle.store_ledger.specs.declared.note.NoteKind.TheVariants.{Fault}
use Rattle.snapshot_manager.specs.Owners.{is_owned_by}
use Rattle.store_ledger.specs.declared.pinned.Pinned.{Pinned}
use Rattle.store_ledger.specs.Ledger.{IsOpenPin, LedgerState, attempt, note_now}
use Rattle.store_state.specs.declared.state.event.Event.{Event}
use Rattle.store_state.specs.declared.state.event.Event.TheVariants.{Entered, Noted}
use Rattle.store_state.specs.Calls.{history_at}
use Rattle.store_state.specs.Events.{owner_of}
use Rattle.snapshot_manager.specs.Tried.{IsFaultOrNone}
use Rattle.snapshot_manager.specs.Growth.{tried_events}
use Rattle.snapshot_manager.specs.Tries.{is_fresh_since, AreOfTry, TriesCommit}
use Rattle.snapshot_manager.specs.Turns.{found_before, own_events}
use Rattle.snapshot_manager.proofs.Sights.{more_history, others_leave_pins, pins_outlast}
use Rattle.snapshot_manager.proofs.Turning.{turns_find}
use Rattle.session_answers.specs.Acts.{Act, acts_in, tries}
use Rattle.session_answers.specs.Fresh.{AreLeftSince, IsNamedAt}
use Rattle.session_answers.specs.Replies.{Says, SaysChange}
use Rattle.session_answers.proofs.ActsJoined.{acts_join}
use Rattle.session_answers.proofs.Beginnings.{history_stays, reached}
use Rattle.session_answers.proofs.FreshReplies.{fresh_changes_are_said}
use Rattle.session_answers.proofs.Staying.{change_later, says_later}
use Rattle.snapshot_manager.specs.Start.{Start}
use Rattle.snapshot_manager.specs.Told.{entries_in, ledger_of, told}
use Rattle.session_sources.proofs.CourseLaws.{own_more}
use Rattle.session_answers.proofs.Freshly.{fresh_changes_are_left_since}

-- ---- what the session itself added

-- an event that is the session's own comes first among its own
pub own_first : (session : ℕ) (owner : ℕ) (event : Event) (events : List Event) → owner_of event ≡ Some owner → nat_eq owner session ≡ true →
    own_events session (event ∷ events) ≡ event ∷ own_events session events
own_first session owner event events of same =
    ap (λ (b : Bool). cond b (event ∷ own_events session events) (own_events session events))
    (ap (λ (found : Option ℕ). is_owned_by found session) of ∙ same)

own_tried : (comes : Bool) (ledger : LedgerState) (session : ℕ) (change : Change) →
    own_events session (tried_events comes ledger session change) ≡ Noted (note_now (attempt change) ledger session) ∷ []
own_tried true ledger session change =
    own_first session session (Noted (note_now (attempt change) ledger session)) (Entered Reap ∷ []) refl (eq-eqb session session refl)
own_tried false ledger session change =
    own_first session session (Noted (note_now (attempt change) ledger session)) [] refl (eq-eqb session session refl)

fault_acts : (ledger : LedgerState) (session : ℕ) (faults : List Event) → IsFaultOrNone ledger session faults → acts_in (own_events session faults) ≡ []
fault_acts ledger session faults (inl e) = ap (λ (es : List Event). acts_in (own_events session es)) e
fault_acts ledger session faults (inr e) =
    ap (λ (es : List Event). acts_in (own_events session es)) e
    ∙ ap acts_in (own_first session session (Noted (note_now Fault ledger session)) [] refl (eq-eqb session session refl))

pub fault_entries : (ledger : LedgerState) (session : ℕ) (faults : List Event) → IsFaultOrNone ledger session faults → entries_in faults ≡ []
fault_entries ledger session faults (inl e) = ap entries_in e
fault_entries ledger session faults (inr e) = ap entries_in e

module _ {D : Type 0} (start : Start D) (session : ℕ) (change : Change) (commit found own new : List Event) (t : AreOfTry start session change commit found own new) where
  abbrev tried : List Event
  tried = tried_events t.comes (ledger_of start found) session change

  commit_acts : (made : List Act) → acts_in (own_events session commit) ≡ made → acts_in (own_events session (commit ++ t.faults)) ≡ made
  commit_acts made e =
      ap acts_in (own_more session commit t.faults)
      ∙ acts_join (own_events session commit) (own_events session t.faults)
      ∙ ap (λ (acts : List Act). acts ++ acts_in (own_events session t.faults)) e
      ∙ ap (λ (acts : List Act). made ++ acts) (fault_acts (ledger_of start new) session t.faults t.fault)
      ∙ append-nil made

  pub try_acts : (made : List Act) → acts_in (own_events session commit) ≡ made → acts_in (own_events session own) ≡ tries change ∷ made
  try_acts made e =
      ap (λ (es : List Event). acts_in (own_events session es)) t.is
      ∙ ap acts_in (own_more session tried (commit ++ t.faults))
      ∙ acts_join (own_events session tried) (own_events session (commit ++ t.faults))
      ∙ ap (λ (es : List Event). acts_in es ++ acts_in (own_events session (commit ++ t.faults))) (own_tried t.comes (ledger_of start found) session change)
      ∙ ap (λ (acts : List Act). tries change ∷ acts) (commit_acts made e)

-- ---- the names of a database follow its commits

names_later : (db : Database) (base : Core) (later h : History) → names_of (at db h) ≡ names_at base h → names_of (at db (later ++ h)) ≡ names_at base (later ++ h)
names_later db base [] h e = e
names_later db base (Pin session ∷ later) h e = names_later db base later h e
names_later db base (Unpin session ∷ later) h e = names_later db base later h e
names_later db base (Commit session change used ∷ later) h e =
    names_depend_on_no_row (at db (later ++ h)) change ∙ ap (λ (names : Names). names_after names change) (names_later db base later h e)
names_later db base (Reap ∷ later) h e = names_later db base later h e

module _ {D : Type 0} (moment : D → Moment) (start : Start D) where
  -- they are the names at a later place too, and of more events
  pub named_since : (events : List Event) (place other : ℕ) (change : Change) → AreLeftSince start events place other change → IsNamedAt moment start events place →
      IsNamedAt moment start events other
  named_since events place other change since named db began =
      ap (λ (h : History). names_of (at db h)) since.grown
      ∙ names_later db start.base since.later (history_at (told start events) place) (named db began)
      ∙ sym (ap (names_at start.base) since.grown)

  pub named_later : (old more : List Event) (place : ℕ) → place ≤ length (entries_in old) → IsNamedAt moment start old place → IsNamedAt moment start (old ++ more) place
  named_later old more place within named db began =
      ap (λ (h : History). names_of (at db h)) (history_stays start old more place within)
      ∙ named db began
      ∙ sym (ap (names_at start.base) (history_stays start old more place within))

-- ---- a reap that may come behind what was found

all_there : {D : Type 0} (start : Start D) (events : List Event) → history_at (told start events) (length (entries_in events)) ≡ reverse (entries_in events)
all_there start events =
    let h : History = reverse (entries_in events) in
    ap (λ (n : ℕ). up_to n h) (sym (length-reverse (entries_in events))) ∙ all_entries_are_the_history h

same_le : (n : ℕ) → n ≤ n
same_le n = omega arith

left_reaped : (comes : Bool) (later : History) (change : Change) → AreLeft later change → AreLeft (reverse (entries_in (if comes then Entered Reap ∷ [] else [])) ++ later) change
left_reaped true later change left = left
left_reaped false later change left = left

room_reaped : (comes : Bool) (base : Core) (later before : History) → SameRoom base later before →
    SameRoom base (reverse (entries_in (if comes then Entered Reap ∷ [] else [])) ++ later) before
room_reaped true base later before room = room
room_reaped false base later before room = room

-- ---- where the commit comes

module _ {D : Type 0} (moment : D → Moment) (start : Start D) (pinned : Pinned) (change : Change) (commit old new : List Event) (t : TriesCommit start pinned change commit old new)
    (o : IsOpenPin (ledger_of start old) pinned) where
  abbrev found : List Event
  found = old ++ t.adds.others

  abbrev trying : List Event
  trying = tried_events t.tried.comes (ledger_of start (found_before t.own new)) pinned.session change

  -- all that came before it, and from it on
  abbrev pub before_commit : List Event
  before_commit = found ++ trying

  abbrev pub from_commit : List Event
  from_commit = commit ++ t.tried.faults

  pub new_is : new ≡ before_commit ++ from_commit
  new_is = t.adds.grown ∙ ap (λ (es : List Event). found ++ es) t.tried.is ∙ sym (append_assoc found trying from_commit)

  -- where it comes
  abbrev pub commit_place : ℕ
  commit_place = length (entries_in before_commit)

  found_is : found_before t.own new ≡ found
  found_is = turns_find pinned.session t.own old new t.adds

  open_found : IsOpenPin (ledger_of start found) pinned
  open_found = pins_outlast D start old t.adds.others pinned (others_leave_pins pinned.session t.adds.others t.adds.theirs) o

  left_found : AreLeftSince start found (pinned.place + 1) (length (entries_in found)) change
  left_found = fresh_changes_are_left_since D start found pinned change open_found
      (subst (λ (es : List Event). is_fresh_since pinned change (ledger_of start es) ≡ true) found_is t.fresh)

  module _ (within : pinned.place + 1 ≤ length (entries_in old)) where
    within_found : pinned.place + 1 ≤ length (entries_in found)
    within_found = reached start old t.adds.others (pinned.place + 1) within

    pub within_commit : pinned.place + 1 ≤ commit_place
    within_commit = reached start found trying (pinned.place + 1) within_found

    left_commit : AreLeftSince start before_commit (pinned.place + 1) commit_place change
    left_commit =
        let f : AreLeftSince start found (pinned.place + 1) (length (entries_in found)) change = left_found in
        let reap : History = reverse (entries_in (if t.tried.comes then Entered Reap ∷ [] else [])) in
        let same : history_at (told start before_commit) (pinned.place + 1) ≡ history_at (told start found) (pinned.place + 1) =
        history_stays start found trying (pinned.place + 1) within_found in
        record {
          later = reap ++ f.later;
          grown = all_there start before_commit
              ∙ more_history found trying
              ∙ ap (λ (h : History). reap ++ h) (sym (all_there start found) ∙ f.grown)
              ∙ sym (append_assoc reap f.later (history_at (told start found) (pinned.place + 1)))
              ∙ ap (λ (h : History). (reap ++ f.later) ++ h) (sym same);
          left = left_reaped t.tried.comes f.later change f.left;
          room = room_reaped t.tried.comes start.base f.later (history_at (told start before_commit) (pinned.place + 1))
              (subst (λ (h : History). SameRoom start.base f.later h) (sym same) f.room);
        }

    module _ (style : Style) (named : IsNamedAt moment start old (pinned.place + 1)) (text : List ℕ) (tree : Term) (says : SaysChange style moment start old text tree (pinned.place + 1) change) where
      named_here : IsNamedAt moment start before_commit (pinned.place + 1)
      named_here = named_later moment start found trying (pinned.place + 1) within_found
          (named_later moment start old t.adds.others (pinned.place + 1) within named)

      named_there : IsNamedAt moment start before_commit commit_place
      named_there = named_since moment start before_commit (pinned.place + 1) commit_place change left_commit named_here

      change_here : SaysChange style moment start before_commit text tree (pinned.place + 1) change
      change_here = change_later moment start found trying text tree (pinned.place + 1) within_found style change
          (change_later moment start old t.adds.others text tree (pinned.place + 1) within style change says)

      change_there : SaysChange style moment start before_commit text tree commit_place change
      change_there = (fresh_changes_are_said moment style start before_commit text tree (pinned.place + 1) commit_place change left_commit named_here named_there).0 change_here

      -- the statement is still this change there
      pub change_at_commit : SaysChange style moment start new text tree commit_place change
      change_at_commit = subst (λ (es : List Event). SaysChange style moment start es text tree commit_place change) (sym new_is)
          (change_later moment start before_commit from_commit text tree commit_place (same_le commit_place) style change change_there)

      -- and has the same reply
      pub says_at_commit : (words : Told) → Says style moment start old text tree (pinned.place + 1) (record { reply = words; change = Some change }) →
          Says style moment start new text tree commit_place (record { reply = words; change = Some change })
      says_at_commit words said =
          let answer : Accepted = record { reply = words; change = Some change } in
          let here : Says style moment start before_commit text tree (pinned.place + 1) answer =
          says_later moment start found trying text tree (pinned.place + 1) within_found style answer
          (says_later moment start old t.adds.others text tree (pinned.place + 1) within style answer said) in
          let there : Says style moment start before_commit text tree commit_place answer =
          (fresh_changes_are_said moment style start before_commit text tree (pinned.place + 1) commit_place change left_commit named_here named_there).1 words change_here here in
          subst (λ (es : List Event). Says style moment start es text tree commit_place answer) (sym new_is)
          (says_later moment start before_commit from_commit text tree commit_place (same_le commit_place) style answer there)

-- The answers of a commit, by what came of it.
use Rattle.std.proofs.Common.{◌≡◌, ◌∙◌, ◌+◌, ◌-◌, ◌^◌, ◌<◌, ◌≤◌, ℕ, false, List, [], ◌∷◌, ◌++◌, length, slice_get, inl, inr, Option, None, Some, Result, Ok, Err, IfErr, OnErr, refl, ap, sym, subst, arith, append-nil, length-append}
use Rattle.std.proofs.lemmas.Bool.{eq-eqb}
use Rattle.std.proofs.lemmas.Option.{none-some}
use Rattle.afl_outside.specs.Disk.{Moment}
use Rattle.afl_trees.specs.Term.{Term}
use Rattle.afl_types.specs.Checking.{check_of}
use Rattle.afl_types.specs.declared.types.statements.checking.Typed.TheVariants.{Change as AChange}
use Rattle.plan_changes.specs.declared.change.Change.{Change}
use Rattle.plan_changes.specs.declared.change.Change.TheVariants.{Create, Store, Insert, Remove, RemoveVersions}
use Rattle.logical_plan.specs.declared.names.Names.{Names}
use Rattle.event_core.specs.Bases.{sequence_at}
use Rattle.event_core.specs.declared.entry.Entry.{Entry}
use Rattle.event_core.specs.declared.entry.Entry.TheVariants.{Commit}
use Rattle.result_print.specs.declared.refusal.Refusal.{Refusal}
use Rattle.result_print.specs.declared.refusal.Refusal.TheVariants.{Disk, SequenceEnd, Full, Memory}
use Rattle.statement_replies.specs.declared.replies.replies.Reply.{Reply as Told}
use Rattle.statement_replies.specs.Reply.{refused}
use Rattle.statement_replies.specs.StatementKinds.{HasChangeKind, HasStatementKind, IsAccepted, MayBreak}
use Rattle.statement_replies.specs.Statements.{Accepted}
use Rattle.statement_replies.specs.declared.replies.style.Style.{Style}
use Rattle.store_ledger.specs.declared.pinned.Pinned.{Pinned}
use Rattle.store_ledger.specs.Ledger.{IsOpenPin, is_noted, is_tried}
use Rattle.store_state.specs.declared.state.event.Event.{Event}
use Rattle.store_state.specs.declared.state.event.Event.TheVariants.{Acknowledged}
use Rattle.store_state.specs.declared.state.parts.StoreParts.{StoreParts}
use Rattle.store_state.specs.Calls.{history_at}
use Rattle.store_state.specs.Standings.{base_of}
use Rattle.snapshot_manager.specs.Causes.{FitsAfter, IsUncommitted}
use Rattle.snapshot_manager.specs.CommitFault.{CommitFault}
use Rattle.snapshot_manager.specs.CommitFault.TheVariants as faults
use Rattle.snapshot_manager.specs.Commits.{IfDone, IfStale, OnEnd}
use Rattle.snapshot_manager.specs.Turn.{Turn}
use Rattle.snapshot_manager.specs.declared.committing.Commit.{Commit as Made}
use Rattle.snapshot_manager.specs.declared.committing.Commit.TheVariants.{Done, Stale}
use Rattle.snapshot_manager.specs.Tries.{MakesCommit, TriesCommit}
use Rattle.snapshot_manager.specs.Turns.{own_events, Adds}
use Rattle.snapshot_manager.proofs.Telling.{entries_in-append}
use Rattle.session_answers.specs.Acts.{Act, acts_for, acts_in, begins, ends, makes, trying, making}
use Rattle.session_answers.specs.Fresh.{IsNamedAt}
use Rattle.session_answers.specs.Refusals.{IsUncommittedReply, IsWant, Refuses}
use Rattle.session_answers.specs.Replies.{names_before, words_of, HadRoomFor, HasLine, HoldsSincePin, IsToldFor, Says, SaysChange, WasAt}
use Rattle.session_answers.specs.declared.replies.reply.Reply.{Reply}
use Rattle.session_sources.specs.Courses.{AddsOwn}
use Rattle.snapshot_manager.specs.Start.{Start}
use Rattle.snapshot_manager.specs.Told.{entries_in, ledger_of, told}
use Rattle.session_sources.proofs.CourseLaws.{courses_join, courses_keep_notes, turns_are_courses}
use Rattle.session_answers.proofs.Behind.{names_behind}
use Rattle.session_answers.specs.AnsweredUnder.{IsAnsweredInTurn, IsAnsweredUnder}
use Rattle.session_answers.specs.Inner.Steps.{AddsNoAct, Tells}
use Rattle.session_answers.proofs.Acts.{acts_behind, fault_is_own}
use Rattle.session_answers.proofs.PinPlaces.{get_seam}
use Rattle.session_answers.proofs.Tried.{change_at_commit, commit_place, fault_entries, before_commit, new_is, own_first, says_at_commit, try_acts, within_commit}

-- ---- a change that is accepted refuses nothing

refuses_nothing : (style : Style) (names : Names) (change : Change) (words : Told) → IsAccepted style names change (record { reply = words; change = Some change }) → words.refusal ≡ None
refuses_nothing style names change words ((lines, are, e), some) = ap (λ (reply : Told). reply.refusal) e

may_refuse : (style : Style) (names : Names) (change : Change) (words : Told) → MayBreak style names change (record { reply = words; change = Some change }) → words.refusal ≡ None
may_refuse style names change words (inl is) = refuses_nothing style names change words is
may_refuse style names change words (inr (broken, e)) = absurd (none-some change (sym (ap (λ (answer : Accepted). answer.change) e)))

accepts : (style : Style) (names : Names) (change : Change) (words : Told) → HasChangeKind style names change (record { reply = words; change = Some change }) → words.refusal ≡ None
accepts style names (Create name schema) words is = refuses_nothing style names (Create name schema) words is
accepts style names (Store name schema plan) words is = may_refuse style names (Store name schema plan) words is
accepts style names (Insert name schema plan) words is = may_refuse style names (Insert name schema plan) words is
accepts style names (Remove name) words is = refuses_nothing style names (Remove name) words is
accepts style names (RemoveVersions name below) words is = refuses_nothing style names (RemoveVersions name below) words is

said_accepts : {D : Type 0} (style : Style) (moment : D → Moment) (start : Start D) (events : List Event) (text : List ℕ) (tree : Term) (place : ℕ) (change : Change) (words : Told) →
    SaysChange style moment start events text tree place change → Says style moment start events text tree place (record { reply = words; change = Some change }) → words.refusal ≡ None
said_accepts style moment start events text tree place change words says said =
    accepts style (names_before start events place) change words
    (subst (λ c. HasStatementKind style (names_before start events place) c (record { reply = words; change = Some change })) says.typed said.kind)

-- under the pin the statement was the change
pub change_under : {D : Type 0} (style : Style) (moment : D → Moment) (start : Start D) (events : List Event) (pinned : Pinned) (text : List ℕ) (tree : Term) (change : Change) →
    IsOpenPin (ledger_of start events) pinned → SaysChange style moment start events text tree (pinned.place + 1) change → check_of tree text pinned.names ≡ Ok (AChange change)
change_under style moment start events pinned text tree change o says =
    ap (λ (names : Names). check_of tree text names) (sym (names_behind start events pinned o)) ∙ says.typed

-- there was room for it at a place
pub had_room : {D : Type 0} (moment : D → Moment) (start : Start D) (events : List Event) (change : Change) (place other : ℕ) → other ≡ place →
    sequence_at (base_of (told start events)) (history_at (told start events) place) < 2 ^ 64 - 1 → FitsAfter moment (told start events) (history_at (told start events) place) change →
    HadRoomFor moment start events other change
had_room moment start events change place other same next fits =
    let room : HadRoomFor moment start events place change = record { next = next; fits = fits } in
    subst (λ (k : ℕ). HadRoomFor moment start events k change) (sym same) room

-- no commit was tried under it in a turn that added nothing
pub still_untried : {D : Type 0} (start : Start D) (pinned : Pinned) (session : ℕ) (old new : List Event) → pinned.session ≡ session → Adds session [] old new →
    is_noted is_tried (ledger_of start old) pinned.session ≡ false → is_noted is_tried (ledger_of start new) pinned.session ≡ false
still_untried {D} start pinned session old new mine turn untried =
    courses_keep_notes D start is_tried pinned.session [] old new
    (subst (λ (s : ℕ). AddsOwn s [] old new) (sym mine) (turns_are_courses session [] old new turn)) refl ∙ untried

-- ---- behind what the session did before

module _ {D : Type 0} (start : Start D) (session : ℕ) (first before old : List Event) (a : AddsNoAct start session first before old) where
  pub turn_behind : (own new : List Event) → Adds session own old new → AddsOwn session (before ++ own_events session own) first new
  turn_behind own new turn = courses_join session before (own_events session own) first old new a.adds (turns_are_courses session own old new turn)

  -- a turn in which the session held, behind what others had added
  pub held_behind : {style : Style} {moment : D → Moment} {text : List ℕ} {tree : Term} {reply : Reply} (pin : ℕ) (seen new : List Event) → Adds session [] old seen →
      IsAnsweredInTurn style moment start session pin seen new text tree reply → IsAnsweredUnder style moment start session pin first new text tree reply
  held_behind pin seen new turn h =
      let later : AddsOwn session h.own old new = courses_join session [] h.own old seen new (turns_are_courses session [] old seen turn) h.adds in
      let whole : AddsOwn session (before ++ h.own) first new = courses_join session before h.own first old new a.adds later in
      let acts : begins ∷ (acts_in (before ++ h.own) ++ ends ∷ []) ≡ acts_for h.course = acts_behind before h.own h.course a.acts h.acts in
      record {
        own = before ++ h.own;
        course = h.course;
        adds = whole;
        acts = acts;
        line = h.line;
        since = h.since;
        until = h.until;
        told = h.told before (λ noted. fault_is_own start session (before ++ h.own) first new whole a.untried noted h.course acts);
      }

-- ---- commits

module _ {D : Type 0} (style : Style) (moment : D → Moment) (start : Start D) (pinned : Pinned) (change : Change) (first before old new : List Event) (text : List ℕ) (tree : Term) (reply : Reply)
    (a : AddsNoAct start pinned.session first before old) (o : IsOpenPin (ledger_of start old) pinned) (within : pinned.place + 1 ≤ length (entries_in old))
    (named : IsNamedAt moment start old (pinned.place + 1)) (says : SaysChange style moment start old text tree (pinned.place + 1) change) where
  abbrev Answered : Type 0
  Answered = IsAnsweredUnder style moment start pinned.session pinned.place first new text tree reply

  -- ---- one that was refused

  module _ (t : TriesCommit start pinned change [] old new) where
    abbrev own : List Event
    own = before ++ own_events pinned.session t.own

    abbrev here : ℕ
    here = commit_place moment start pinned change [] old new t o

    adds : AddsOwn pinned.session own first new
    adds = turn_behind start pinned.session first before old a t.own new t.adds

    acts : begins ∷ (acts_in own ++ ends ∷ []) ≡ acts_for (trying change)
    acts = acts_behind before (own_events pinned.session t.own) (trying change) a.acts
        (ap (λ (all : List Act). begins ∷ (all ++ ends ∷ [])) (try_acts start pinned.session change [] _ t.own new t.tried [] refl))

    count : length (entries_in new) ≡ here
    count =
        ap (λ (es : List Event). length (entries_in es)) (new_is moment start pinned change [] old new t o)
        ∙ ap (λ (es : List Entry). length es) (entries_in-append (before_commit moment start pinned change [] old new t o) t.tried.faults
        ∙ ap (λ (es : List Entry). entries_in (before_commit moment start pinned change [] old new t o) ++ es) (fault_entries (ledger_of start new) pinned.session t.tried.faults t.tried.fault)
        ∙ append-nil (entries_in (before_commit moment start pinned change [] old new t o)))

    since : pinned.place < here
    since = let le : pinned.place + 1 ≤ here = within_commit moment start pinned change [] old new t o within in omega (arith, le)

    change_here : SaysChange style moment start new text tree here change
    change_here = change_at_commit moment start pinned change [] old new t o within style named text tree says

    -- what is told for the reply's refusal is told of it
    by_refusal : (refusal : Option Refusal) → reply.refusal ≡ refusal → HasLine reply refusal → reply.place ≡ here →
        IsToldFor moment start pinned.session pinned.place new own text tree reply style refusal (trying change) → Answered
    by_refusal refusal e line at told = record {
      own = own;
      course = trying change;
      adds = adds;
      acts = acts;
      line = subst (λ (r : Option Refusal). HasLine reply r) (sym e) line;
      since = subst (λ (place : ℕ). pinned.place < place) (sym at) since;
      until = let same = count in omega (arith, at, same);
      told = subst (λ (r : Option Refusal). IsToldFor moment start pinned.session pinned.place new own text tree reply style r (trying change)) (sym e) told;
    }

    wanting : IsWant reply → reply.place ≡ here → Answered
    wanting w at = by_refusal (Some Memory) w.1 w.0 at (here, since, (let same = count in omega (arith, same)), change_here)

    refusing : (refusal : Refusal) → Refuses refusal reply → reply.place ≡ here → (reply.text ≡ (refused refusal).text → HasLine reply (Some refusal)) →
        IsToldFor moment start pinned.session pinned.place new own text tree reply style (Some refusal) (trying change) → Answered
    refusing refusal (inl e) at line told =
        by_refusal (Some refusal) (ap (λ (words : Told). words.refusal) e) (line (ap (λ (words : Told). words.text) e)) at told
    refusing refusal (inr w) at line told = wanting w at

    holds : reply.place ≡ here → HoldsSincePin moment start pinned.session pinned.place new own text tree reply
    holds at = (
      subst (λ (place : ℕ). pinned.place < place) (sym at) since,
      (let same = count in omega (arith, at, same)),
    )

    said : reply.place ≡ here → SaysChange style moment start new text tree reply.place change
    said at = subst (λ (place : ℕ). SaysChange style moment start new text tree place change) (sym at) change_here

    was : reply.place ≡ here → WasAt reply.place new new
    was at = record { later = []; grown = sym (append-nil new); count = at ∙ sym count }

    pub refused_is_answered : (fault : CommitFault) → IsUncommittedReply (length (entries_in new)) fault reply →
        IsUncommitted moment pinned.session change (told start new) fault → Answered
    refused_is_answered (faults.SequenceEnd place) u why =
        let at : reply.place ≡ here = u.1 ∙ why.0 ∙ count in
        refusing SequenceEnd u.0 at (λ line. line)
        (holds at, (said at, (new, was at, subst (λ (p : ℕ). IsUncommitted moment pinned.session change (told start new) (faults.SequenceEnd p)) (sym u.1) why)))
    refused_is_answered (faults.Full needed free place) u why =
        let at : reply.place ≡ here = u.1 ∙ why.0 ∙ count in
        refusing (Full needed free) u.0 at (λ line. line)
        (holds at, (said at, (new, was at, subst (λ (p : ℕ). IsUncommitted moment pinned.session change (told start new) (faults.Full needed free p)) (sym u.1) why)))
    refused_is_answered (faults.Disk place) u why =
        let at : reply.place ≡ here = u.1 ∙ why.0 ∙ count in
        refusing Disk u.0 at (λ line. line) (
          holds at,
          fault_is_own start pinned.session own first new adds a.untried why.1 (trying change) acts,
          (said at, (new, was at, subst (λ (p : ℕ). IsUncommitted moment pinned.session change (told start new) (faults.Disk p)) (sym u.1) why)),
        )
    refused_is_answered faults.Memory u why = wanting u.0 (u.1 ∙ count)

  -- ---- one that was made

  module _ (m : MakesCommit start pinned change old new) where
    abbrev commit : List Event
    commit = Acknowledged (Commit pinned.session change m.used) m.moment m.directory ∷ []

    abbrev made_at : ℕ
    made_at = commit_place moment start pinned change commit old new m.tries o

    abbrev front : List Event
    front = before_commit moment start pinned change commit old new m.tries o

    abbrev made_own : List Event
    made_own = before ++ own_events pinned.session m.tries.own

    made_entries : entries_in new ≡ entries_in front ++ (Commit pinned.session change m.used ∷ [])
    made_entries =
        ap entries_in (new_is moment start pinned change commit old new m.tries o)
        ∙ entries_in-append front (commit ++ m.tries.tried.faults)
        ∙ ap (λ (es : List Entry). entries_in front ++ (Commit pinned.session change m.used ∷ es))
        (fault_entries (ledger_of start new) pinned.session m.tries.tried.faults m.tries.tried.fault)

    made_acts : begins ∷ (acts_in made_own ++ ends ∷ []) ≡ acts_for (making change)
    made_acts = acts_behind before (own_events pinned.session m.tries.own) (making change) a.acts
        (ap (λ (all : List Act). begins ∷ (all ++ ends ∷ []))
        (try_acts start pinned.session change commit _ m.tries.own new m.tries.tried (makes change ∷ [])
        (ap acts_in (own_first pinned.session pinned.session (Acknowledged (Commit pinned.session change m.used) m.moment m.directory) [] refl
        (eq-eqb pinned.session pinned.session refl)))))

    -- there was room for it where it came
    pub made_is_answered : (words : Told) → HadRoomFor moment start new reply.place change → Says style moment start old text tree (pinned.place + 1) (record { reply = words; change = Some change }) →
        words_of reply ≡ words → reply.place + 1 ≡ length (entries_in new) → Answered
    made_is_answered words room says_words same last =
        let accepted : reply.refusal ≡ None = ap (λ (w : Told). w.refusal) same ∙ said_accepts style moment start old text tree (pinned.place + 1) change words says says_words in
        let count : length (entries_in new) ≡ made_at + 1 =
        ap (λ (es : List Entry). length es) made_entries ∙ length-append (entries_in front) (Commit pinned.session change m.used ∷ []) in
        let at : reply.place ≡ made_at = omega (arith, count, last) in
        let le : pinned.place + 1 ≤ made_at = within_commit moment start pinned change commit old new m.tries o within in
        let says_here : Says style moment start new text tree made_at (record { reply = words; change = Some change }) =
        says_at_commit moment start pinned change commit old new m.tries o within style named text tree says words says_words in
        let is : slice_get (entries_in new) made_at ≡ Some (Commit pinned.session change m.used) =
        ap (λ (es : List Entry). slice_get es made_at) made_entries ∙ get_seam (entries_in front) [] (Commit pinned.session change m.used) in
        record {
          own = made_own;
          course = making change;
          adds = turn_behind start pinned.session first before old a m.tries.own new m.tries.adds;
          acts = made_acts;
          line = subst (λ (r : Option Refusal). HasLine reply r) (sym accepted) tt;
          since = omega (arith, at, le);
          until = omega (arith, at, count);
          told = subst (λ (r : Option Refusal). IsToldFor moment start pinned.session pinned.place new made_own text tree reply style r (making change)) (sym accepted) (
            (
              m.used,
              record {
                is = subst (λ (place : ℕ). slice_get (entries_in new) place ≡ Some (Commit pinned.session change m.used)) (sym at) is;
                later = omega (arith, at, le);
              },
            ),
            subst (λ (w : Told). Says style moment start new text tree reply.place (record { reply = w; change = Some change })) (sym same)
                (subst (λ (place : ℕ). Says style moment start new text tree place (record { reply = words; change = Some change })) (sym at) says_here),
            room,
          );
        }

  -- ---- what a reply tells of its commit

  pub told_is_answered : {E : Type 0} (words : Told) (count : ℕ) (answer : Result (Made E) CommitFault) → Tells count words answer (Ok reply) → count ≡ length (entries_in new) →
      IfDone (λ _. MakesCommit start pinned change old new) answer →
      IfDone (λ place. place + 1 ≡ length (entries_in new)) answer →
      IfDone (λ place. sequence_at (base_of (told start new)) (history_at (told start new) place) < 2 ^ 64 - 1) answer →
      IfDone (λ place. FitsAfter moment (told start new) (history_at (told start new) place) change) answer →
      OnErr answer (TriesCommit start pinned change [] old new) → IfErr answer (IsUncommitted moment pinned.session change (told start new)) →
      Says style moment start old text tree (pinned.place + 1) (record { reply = words; change = Some change }) → Answered
  told_is_answered words _ (Ok (Done place)) (same, at) counted done last next fits err cause speaks =
      made_is_answered done words (had_room moment start new change place reply.place at next fits) speaks same (ap (λ (p : ℕ). p + 1) at ∙ last)
  told_is_answered words _ (Ok (Stale turn)) tells counted done last next fits err cause speaks = elim tells [ ]
  told_is_answered words _ (Err fault) tells counted done last next fits err cause speaks =
      refused_is_answered err fault (subst (λ (n : ℕ). IsUncommittedReply n fault reply) counted tells) cause

-- ---- what is left of a commit that was tried

pub ended : {D : Type 0} {P : Type 0} (count : ℕ) (words : Told) (answer : Result (Made D) CommitFault) (reply : Reply) → Tells count words answer (Ok reply) → OnEnd P answer → P
ended _ words (Ok (Done place)) reply tells end = end
ended _ words (Ok (Stale turn)) reply tells end = elim tells [ ]
ended _ words (Err fault) reply tells end = end

pub left_stale : {D : Type 0} (P : Turn (StoreParts D) → Type 0) (count : ℕ) (words : Told) (answer : Result (Made D) CommitFault) (turn : Turn (StoreParts D)) →
    Tells count words answer (Err turn) → IfStale P answer → P turn
left_stale P _ words (Ok (Done place)) left tells stale = elim tells [ ]
left_stale P _ words (Ok (Stale turn)) left tells stale = subst P (sym tells) stale
left_stale P _ words (Err fault) left tells stale = elim tells [ ]

-- How a statement was answered in a turn, by how it went.
use Rattle.std.proofs.Common.{◌≡◌, ◌∙◌, ℕ, ◌+◌, ◌-◌, ◌^◌, ◌<◌, ◌≤◌, Bool, true, false, if◌then◌else◌, List, [], ◌∷◌, ◌++◌, length, reverse, slice_get, slice_index, Option, None, Some, IfSome, IsSomeAnd, Result, Ok, Err, IfOk, IfErr, OnOk, OnErr, refl, ap, sym, subst, arith, append-nil, append_assoc, length-append}
use Rattle.std.specs.List.{list_all}
use Rattle.std.proofs.lemmas.List.{append_cancel_left}
use Rattle.std.proofs.lemmas.Option.{none-some}
use Rattle.afl_outside.specs.Disk.{Moment}
use Rattle.afl_trees.specs.Term.{Term}
use Rattle.array_geom.specs.declared.chunk.Changed.{Changed}
use Rattle.afl_types.specs.Checking.{check_of}
use Rattle.chunk_source.specs.declared.reading.fault.ExecFault.{ExecFault}
use Rattle.chunk_source.specs.declared.reading.fault.ExecFault.TheVariants.{Source, Damaged as Spoiled, Memory as Wanting}
use Rattle.logical_plan.specs.declared.names.Names.{Names}
use Rattle.plan_changes.specs.declared.change.Change.{Change}
use Rattle.event_core.specs.Bases.{sequence_at}
use Rattle.event_core.specs.declared.entry.Entry.{Entry}
use Rattle.event_core.specs.declared.entry.Entry.TheVariants.{Commit, Reap}
use Rattle.result_print.specs.declared.refusal.Refusal.{Refusal}
use Rattle.result_print.specs.declared.refusal.Refusal.TheVariants.{Disk, Damaged, SequenceEnd, Full, Memory}
use Rattle.statement_replies.specs.declared.answers.outcome.Outcome.{Outcome}
use Rattle.statement_replies.specs.declared.answers.outcome.Outcome.TheVariants.{Replied, Changes}
use Rattle.statement_replies.specs.Forms.{a_change, form_said}
use Rattle.statement_replies.specs.Outcomes.{IsAllowed, MayFail}
use Rattle.statement_replies.proofs.Saying.{changes_refused}
use Rattle.statement_replies.specs.declared.replies.replies.Reply.{Reply as Told}
use Rattle.statement_replies.specs.Reply.{refused}
use Rattle.statement_replies.specs.declared.replies.style.Style.{Style}
use Rattle.snapshot_manager.specs.Turn.{Turn}
use Rattle.store_ledger.specs.declared.pinned.Pinned.{Pinned}
use Rattle.store_ledger.specs.Ledger.{LedgerState, IsOpenPin, is_fault, is_noted}
use Rattle.store_state.specs.declared.state.event.Event.{Event}
use Rattle.store_state.specs.declared.state.event.Event.TheVariants.{Acknowledged}
use Rattle.store_state.specs.declared.state.parts.StoreParts.{StoreParts}
use Rattle.store_state.specs.Calls.{history_at, payload_at, IsLeafOf}
use Rattle.store_state.specs.Events.{events}
use Rattle.store_state.specs.Payloads.{HasTold, WasDamagedAt}
use Rattle.store_state.specs.Standings.{base_of, Standing}
use Rattle.snapshot_manager.specs.Growth.{tried_events}
use Rattle.snapshot_manager.specs.Tried.{AddsSealed, AddsTried}
use Rattle.snapshot_manager.specs.Causes.{FitsAfter, IsUncommitted}
use Rattle.snapshot_manager.specs.CommitFault.{CommitFault}
use Rattle.snapshot_manager.specs.CommitFault.TheVariants as faults
use Rattle.snapshot_manager.specs.Starts.{start_of}
use Rattle.snapshot_manager.specs.Turns.{leaves_pin_of}
use Rattle.snapshot_manager.proofs.Sights.{pins_outlast}
use Rattle.snapshot_manager.proofs.Telling.{entries_are, entries_in-append}
use Rattle.snapshot_manager.proofs.TriedTurns.{cause_told, fits_told, next_told}
use Rattle.snapshot_manager.specs.Databases.{HasDatabase}
use Rattle.session_sources.specs.Held.{names_now}
use Rattle.snapshot_manager.specs.Seats.{store_of}
use Rattle.snapshot_manager.specs.Start.{Start}
use Rattle.session_sources.specs.Stored.{BeginsDamage}
use Rattle.snapshot_manager.specs.Told.{entries_in, ledger_of, told, IsTold}
use Rattle.session_answers.specs.Refusals.{IsUncommittedReply, IsUnreadReply, IsWant, Refuses}
use Rattle.session_answers.proofs.PinPlaces.{get_seam}
use Rattle.session_answers.proofs.Staying.{says_later}
use Rattle.session_answers.specs.Acts.{acts_in, looking, making, makes, tries, trying}
use Rattle.session_answers.specs.Replies.{names_before, words_of, BeganAsNone, EnteredAt, HadRoomFor, HasLine, HoldsWhereRefused, IsAllowedAt, IsChangeAt, IsDamagedPage, IsToldFor, Says, SaysChange, WasUncommitted}
use Rattle.session_answers.specs.declared.replies.reply.Reply.{Reply}
use Rattle.session_answers.specs.Said.{IsSaid}
use Rattle.session_answers.specs.ToldReplies.{IsLookedReply}
use Rattle.session_answers.proofs.OutcomesTold.{said_replies_are_told}
use Rattle.session_answers.specs.Inner.Turns.{store_in, Goes, IsRead, IsWhy, KeepsTurn, TellsCommit, goes_short, goes_told, goes_unread, goes_tried}
use Rattle.session_answers.specs.AnsweredUnder.{IsAnsweredInTurn}
use Rattle.session_answers.proofs.Adding.{all_acts, all_leave, entries_before, fault_acts, fault_leaves, last_entries}
use Rattle.session_answers.proofs.Present.{names_there, reap_if, said_there, turned_reap}
use Rattle.session_answers.proofs.TurnsTold.{answered, earlier_pin, later_refused, refuses, Tells}

enough_by : (comes : Bool) (xs ys : List Entry) → ys ≡ xs ++ (if comes then Reap ∷ [] else []) → length xs ≤ length ys
enough_by true xs ys e = let count : length ys ≡ length (xs ++ Reap ∷ []) = ap (λ (es : List Entry). length es) e in omega (arith, count, length-append xs (Reap ∷ []))
enough_by false xs ys e = let count : length ys ≡ length (xs ++ []) = ap (λ (es : List Entry). length es) e in omega (arith, count, length-append xs [])

module _ {D : Type 0} (style : Style) (moment : D → Moment) (session : ℕ) (old new : Turn (StoreParts D)) (text : List ℕ) (tree : Term) (reply : Reply)
    (keeps : KeepsTurn moment session old new)
    (has : HasDatabase moment (store_in moment old) (length (store_of old).ledger.entries) (names_now (store_of old).ledger))
    (told_now : IsTold (start_of (store_in moment new)) (events (store_in moment new)) (store_in moment new))
    (pin : ℕ) (within : pin + 1 ≤ length (store_of old).ledger.entries) where
  abbrev s : Standing D
  s = store_in moment old

  abbrev n : Standing D
  n = store_in moment new

  abbrev began : Start D
  began = start_of s

  abbrev Answer : Type 0
  Answer = IsAnsweredInTurn style moment began session pin (events s) (events n) text tree reply

  after : IsTold began (events n) n
  after = subst (λ (start : Start D). IsTold start (events n) n) keeps.start told_now

  ledger_after : n.ledger ≡ ledger_of began (events n)
  ledger_after = ap (λ (x : Standing D). x.ledger) after

  noted_after : is_noted is_fault n.ledger session ≡ true → is_noted is_fault (ledger_of began (events n)) session ≡ true
  noted_after = subst (λ (l : LedgerState). is_noted is_fault l session ≡ true) ledger_after

  -- ---- it has a place behind all entries

  module _ (least : length s.ledger.entries ≤ length n.ledger.entries) (at : reply.place ≡ length n.ledger.entries) where
    at_end : reply.place ≡ length (entries_in (events n))
    at_end = at ∙ ap (λ (es : List Entry). length es) (sym (entries_are n))

    since_pin : pin < reply.place
    since_pin = omega (arith, within, least, at)

    until_now : reply.place ≤ length (entries_in (events n))
    until_now = let e = at_end in omega (arith, e)

  -- ---- no memory was found for the names

  module _ (same : n ≡ s) (w : IsWant reply) (at : reply.place ≡ length n.ledger.entries) where
    none_more : keeps.extends.0 ≡ []
    none_more = append_cancel_left (events s) keeps.extends.0 [] (sym keeps.extends.1 ∙ ap events same ∙ sym (append-nil (events s)))

    no_fewer : length s.ledger.entries ≤ length n.ledger.entries
    no_fewer = let e : length n.ledger.entries ≡ length s.ledger.entries = ap (λ (x : Standing D). length x.ledger.entries) same in omega (arith, e)

    short_answer : Answer
    short_answer = answered style moment began session pin (events s) (events n) text tree reply keeps.extends (since_pin no_fewer at) (until_now no_fewer at)
        looking [] (ap acts_in none_more) refl (Some Memory) w.1 w.0 (λ own fault. tt)

  -- ---- the store was read

  module _ (outcome : Result Outcome ExecFault) (read : IsRead style moment session old new text tree outcome) where
    same_entries : n.ledger.entries ≡ s.ledger.entries
    same_entries = ap (λ (x : Standing D). x.ledger.entries) read.held.same

    few_more : length s.ledger.entries ≤ length n.ledger.entries
    few_more = let e : length n.ledger.entries ≡ length s.ledger.entries = ap (λ (es : List Entry). length es) same_entries in omega (arith, e)

    read_more : keeps.extends.0 ≡ read.held.adds.own
    read_more = append_cancel_left (events s) keeps.extends.0 read.held.adds.own (sym keeps.extends.1 ∙ read.held.adds.grown)

    read_acts : acts_in keeps.extends.0 ≡ []
    read_acts = ap acts_in read_more ∙ fault_acts n.ledger session read.held.adds.own read.held.adds.note

    read_leaves : list_all (leaves_pin_of session) keeps.extends.0 ≡ true
    read_leaves = ap (list_all (leaves_pin_of session)) read_more ∙ fault_leaves n.ledger session read.held.adds.own read.held.adds.note

    read_history : reverse (entries_in (events n)) ≡ reap_if false (reverse s.ledger.entries)
    read_history = ap (λ (es : List Entry). reverse es) (entries_are n ∙ same_entries)

    -- the names at its place are those over which it was read
    names_told : reply.place ≡ length n.ledger.entries → names_before began (events n) reply.place ≡ names_now s.ledger
    names_told at = ap (names_before began (events n)) (at_end few_more at) ∙ names_there moment session old has (events n) false read_history

    allowed_told : reply.place ≡ length n.ledger.entries → IsAllowed (check_of tree text (names_now s.ledger)) → IsAllowedAt began (events n) text tree reply.place
    allowed_told at a = (a.0, ap (λ (names : Names). check_of tree text names) (names_told at) ∙ a.1)

    -- a damaged page is told of an array that can be named
    page_told : (page : ℕ) → reply.place ≡ length n.ledger.entries → read.marks.damaged ≡ Some page → IsDamagedPage moment began (events n) reply.place page
    page_told page at e =
        let b : BeginsDamage moment (names_now s.ledger) s (length s.ledger.entries) page =
        subst (λ (found : Option ℕ). IfSome found (BeginsDamage moment (names_now s.ledger) s (length s.ledger.entries))) e read.held.damaged in
        let there : length s.ledger.entries ≡ reply.place = sym (at ∙ ap (λ (es : List Entry). length es) same_entries) in
        let seen : payload_at s (length s.ledger.entries) b.leaf b.number ≡ payload_at (told began (events n)) reply.place b.leaf b.number =
        ap (λ (place : ℕ). payload_at s place b.leaf b.number) there
        ∙ sym (ap (λ (x : Standing D). payload_at x reply.place b.leaf b.number) read.held.same)
        ∙ ap (λ (x : Standing D). payload_at x reply.place b.leaf b.number) after in
        record {
          leaf = b.leaf;
          at = b.number;
          named = subst (λ (names : Names). IsLeafOf names b.leaf) (sym (names_told at)) b.of;
          begins = subst (λ found. IsSomeAnd found (λ entry. page ≡ slice_index entry.pages 0)) seen b.begins;
          was = λ file tells. subst (λ (x : Standing D). WasDamagedAt page x.first file b.leaf.schema) (sym read.held.same ∙ after)
              (b.was file (subst (λ (x : Standing D). HasTold (moment x.opened.disk).state file) (sym after ∙ read.held.same) tells));
        }

    -- a database that the store began as has no damage
    none_began : (page : ℕ) → read.marks.damaged ≡ Some page → BeganAsNone moment began
    none_began page e db is = none-some page (sym (read.held.whole db is) ∙ e)

  -- it has a reply alone, which refuses it
  module _ (form : form_said tree ≡ a_change) (was : IsChangeAt began (events n) text tree (pin + 1))
      (read : IsRead style moment session old new text tree (Ok (Replied (words_of reply)))) (at : reply.place ≡ length n.ledger.entries) where
    refusal_told : (refusal : Refusal) × (words_of reply ≡ refused refusal)
    refusal_told = changes_refused style (names_now s.ledger) text tree (words_of reply) form read.comes.kind

    before_told : pin < reply.place
    before_told = since_pin (few_more (Ok (Replied (words_of reply))) read) at

    within_told : reply.place ≤ length (entries_in (events n))
    within_told = until_now (few_more (Ok (Replied (words_of reply))) read) at

    said_now : IsSaid moment began (events n) text tree reply.place style (Replied (words_of reply))
    said_now = subst (λ (place : ℕ). IsSaid moment began (events n) text tree place style (Replied (words_of reply)))
        (sym (at_end (few_more (Ok (Replied (words_of reply))) read) at))
        (said_there moment session old has (events n) false (read_history (Ok (Replied (words_of reply))) read) style text tree (Replied (words_of reply)) read.comes)

    -- as if the pin had come right before it
    looked : (own : List Event) → IsLookedReply moment began session (reply.place - 1) (events n) own text tree reply style
    looked own =
        let lt = before_told in
        said_replies_are_told moment style began session (reply.place - 1) (events n) own text tree reply (record {
          behind = omega (arith, lt);
          said = said_now;
        })

    told_answer : Answer
    told_answer =
        let refusal : Refusal = refusal_told.0 in
        let is : reply.refusal ≡ Some refusal = ap (λ (words : Told). words.refusal) refusal_told.1 in
        answered style moment began session pin (events s) (events n) text tree reply keeps.extends before_told within_told
        looking [] (read_acts (Ok (Replied (words_of reply))) read) refl (Some refusal) is
        (subst (λ (r : Option Refusal). HasLine reply r) is (looked []).line)
        (λ own fault. earlier_pin style moment began session pin (events s) (events n) text tree reply keeps.extends before_told within_told was (reply.place - 1) own refusal
        (subst (λ (r : Option Refusal). IsToldFor moment began session (reply.place - 1) (events n) own text tree reply style r looking) is (looked own).told))

  -- its source gave no answer
  module _ (was : IsChangeAt began (events n) text tree (pin + 1)) (fault : ExecFault) (read : IsRead style moment session old new text tree (Err fault)) (at : reply.place ≡ length n.ledger.entries) where
    before_unread : pin < reply.place
    before_unread = since_pin (few_more (Err fault) read) at

    within_unread : reply.place ≤ length (entries_in (events n))
    within_unread = until_now (few_more (Err fault) read) at

    refused_later : (own : List Event) → HoldsWhereRefused moment began session pin (events n) own text tree reply
    refused_later own = later_refused style moment began session pin (events s) (events n) text tree reply keeps.extends before_unread within_unread was own

    refuses_unread : (refusal : Refusal) → (reply.text ≡ (refused refusal).text → HasLine reply (Some refusal)) → Refuses refusal reply →
        Tells style moment began session pin (events s) (events n) text tree reply keeps.extends before_unread within_unread (Some refusal) looking → Answer
    refuses_unread refusal line r says =
        refuses style moment began session pin (events s) (events n) text tree reply keeps.extends before_unread within_unread
        looking [] (read_acts (Err fault) read) refl refusal line r says (λ own noted. tt)

    unread_by : (why : ExecFault) → IsWhy read.marks why → MayFail why (check_of tree text (names_now s.ledger)) → IsUnreadReply why reply → Answer
    unread_by Source why may r = refuses_unread Disk (λ e. e) r
        (λ own noted. (refused_later own, noted (noted_after (read.held.faults why)), allowed_told (Err fault) read at may))
    unread_by (Spoiled page) why may r = refuses_unread (Damaged page) (λ e. e) r
        (λ own noted. (refused_later own, page_told (Err fault) read page at why, none_began (Err fault) read page why, allowed_told (Err fault) read at may))
    unread_by Wanting why may w =
        answered style moment began session pin (events s) (events n) text tree reply keeps.extends before_unread within_unread
        looking [] (read_acts (Err fault) read) refl (Some Memory) w.1 w.0 (λ own noted. tt)

    unread_answer : IsUnreadReply fault reply → Answer
    unread_answer r = unread_by fault read.why read.allowed r

  -- ---- its change was tried

  module _ (between : Turn (StoreParts D)) (change : Change) (changed : Option Changed) (words : Told)
      (read : IsRead style moment session old between text tree (Ok (Changes change changed words))) where
    abbrev t : Standing D
    t = store_in moment between

    abbrev first : List Event
    first = read.held.adds.own

    -- where it was tried, whether it was made or not
    module _ (commit : List Event) (a : AddsTried session change commit t n) where
      -- the events before the commit
      abbrev middle : List Event
      middle = (events s ++ first) ++ tried_events a.comes t.ledger session change

      grown : events n ≡ (events s ++ first) ++ (tried_events a.comes t.ledger session change ++ (commit ++ a.faults))
      grown = a.adds.grown ∙ ap (λ (es : List Event). es ++ (tried_events a.comes t.ledger session change ++ (commit ++ a.faults))) read.held.adds.grown

      whole : events n ≡ middle ++ (commit ++ a.faults)
      whole = grown ∙ sym (append_assoc (events s ++ first) (tried_events a.comes t.ledger session change) (commit ++ a.faults))

      tried_more : keeps.extends.0 ≡ first ++ (tried_events a.comes t.ledger session change ++ (commit ++ a.faults))
      tried_more = append_cancel_left (events s) keeps.extends.0 (first ++ (tried_events a.comes t.ledger session change ++ (commit ++ a.faults)))
          (sym keeps.extends.1 ∙ grown ∙ append_assoc (events s) first (tried_events a.comes t.ledger session change ++ (commit ++ a.faults)))

      tried_acts : acts_in keeps.extends.0 ≡ tries change ∷ acts_in commit
      tried_acts = ap acts_in tried_more ∙ all_acts session change t.ledger t.ledger n.ledger first a.faults commit a.comes read.held.adds.note a.fault

      tried_leaves : list_all (leaves_pin_of session) commit ≡ true → list_all (leaves_pin_of session) keeps.extends.0 ≡ true
      tried_leaves leaves = ap (list_all (leaves_pin_of session)) tried_more
          ∙ all_leave session change t.ledger t.ledger n.ledger first a.faults commit a.comes read.held.adds.note a.fault leaves

      middle_history : reverse (entries_in middle) ≡ reap_if a.comes (reverse s.ledger.entries)
      middle_history =
          ap (λ (es : List Entry). reverse es)
          (entries_before session change t.ledger t.ledger n.ledger first a.faults commit a.comes read.held.adds.note a.fault (events s))
          ∙ turned_reap a.comes (entries_in (events s))
          ∙ ap (λ (es : List Entry). reap_if a.comes (reverse es)) (entries_are s)

      -- all entries
      all_entries : entries_in (events n) ≡ entries_in middle ++ entries_in commit
      all_entries =
          ap entries_in whole ∙ entries_in-append middle (commit ++ a.faults)
          ∙ ap (λ (es : List Entry). entries_in middle ++ es)
          (entries_in-append commit a.faults ∙ ap (λ (es : List Entry). entries_in commit ++ es) (last_entries n.ledger session a.faults a.fault) ∙ append-nil (entries_in commit))

      -- there are as many before the commit as there were, or one more
      enough : length s.ledger.entries ≤ length (entries_in middle)
      enough = enough_by a.comes s.ledger.entries (entries_in middle) (
          entries_before session change t.ledger t.ledger n.ledger first a.faults commit a.comes read.held.adds.note a.fault (events s)
          ∙ ap (λ (es : List Entry). es ++ (if a.comes then Reap ∷ [] else [])) (entries_are s))

      said_before : IsSaid moment began middle text tree (length (entries_in middle)) style (Changes change changed words)
      said_before = said_there moment session old has middle a.comes middle_history style text tree (Changes change changed words) read.comes

    -- it was made
    module _ (made : AddsSealed session change t n) (place : ℕ) (placed : place + 1 ≡ length n.ledger.entries)
        (next : sequence_at (base_of n) (history_at n place) < 2 ^ 64 - 1) (fits : FitsAfter moment n (history_at n place) change)
        (tells : (words_of reply ≡ words) × (reply.place ≡ place)) where
      abbrev entry : Entry
      entry = Commit session change made.used

      abbrev commit_event : Event
      commit_event = Acknowledged entry made.moment made.directory

      abbrev front : List Event
      front = middle (commit_event ∷ []) made.tried

      entries_made : entries_in (events n) ≡ entries_in front ++ entry ∷ []
      entries_made = all_entries (commit_event ∷ []) made.tried

      here : length (entries_in front) ≡ reply.place
      here =
          let count : length n.ledger.entries ≡ length (entries_in front) + 1 =
          ap (λ (es : List Entry). length es) (sym (entries_are n) ∙ entries_made) ∙ length-append (entries_in front) (entry ∷ []) in
          omega (arith, count, placed, tells.1)

      since_made : pin < reply.place
      since_made =
          let more = enough (commit_event ∷ []) made.tried in
          let e = here in omega (arith, more, e, within)

      until_made : reply.place ≤ length (entries_in (events n))
      until_made =
          let count : length (entries_in (events n)) ≡ length n.ledger.entries = ap (λ (es : List Entry). length es) (entries_are n) in
          omega (arith, count, placed, tells.1)

      entered : EnteredAt pin entry reply.place (events n)
      entered = record {
        is = ap (λ (es : List Entry). slice_get es reply.place) entries_made
            ∙ subst (λ (k : ℕ). slice_get (entries_in front ++ entry ∷ []) k ≡ Some entry) here (get_seam (entries_in front) [] entry);
        later = let lt = since_made in omega (arith, lt);
      }

      says_made : Says style moment began (events n) text tree reply.place (record { reply = words_of reply; change = Some change })
      says_made =
          subst (λ (w : Told). Says style moment began (events n) text tree reply.place (record { reply = w; change = Some change })) (sym tells.0)
          (subst (λ (k : ℕ). Says style moment began (events n) text tree k (record { reply = words; change = Some change })) here
          (subst (λ (es : List Event). Says style moment began es text tree (length (entries_in front)) (record { reply = words; change = Some change }))
          (sym (whole (commit_event ∷ []) made.tried))
          (says_later moment began front (commit_event ∷ made.tried.faults) text tree (length (entries_in front)) (omega arith) style (record { reply = words; change = Some change })
          (said_before (commit_event ∷ []) made.tried).0)))

      room_made : HadRoomFor moment began (events n) reply.place change
      room_made = subst (λ (k : ℕ). HadRoomFor moment began (events n) k change) (sym tells.1) (record {
        next = next_told moment began change (events n) n after place next;
        fits = fits_told moment began change (events n) n after place fits;
      })

      made_answer : Answer
      made_answer =
          answered style moment began session pin (events s) (events n) text tree reply keeps.extends since_made until_made
          (making change) (tries change ∷ makes change ∷ []) (tried_acts (commit_event ∷ []) made.tried) refl
          None (ap (λ (w : Told). w.refusal) tells.0 ∙ ap (λ (w : Told). w.refusal) read.comes.kind.2.2) tt
          (λ own noted. ((made.used, entered), says_made, room_made))

    -- it was not
    module _ (left : AddsTried session change [] t n) where
      entries_left : entries_in (events n) ≡ entries_in (middle [] left)
      entries_left = all_entries [] left ∙ append-nil (entries_in (middle [] left))

      left_history : reverse (entries_in (events n)) ≡ reap_if left.comes (reverse s.ledger.entries)
      left_history = ap (λ (es : List Entry). reverse es) entries_left ∙ middle_history [] left

      more_left : length s.ledger.entries ≤ length n.ledger.entries
      more_left =
          let more = enough [] left in
          let e : length n.ledger.entries ≡ length (entries_in (middle [] left)) = ap (λ (es : List Entry). length es) (sym (entries_are n) ∙ entries_left) in
          omega (arith, more, e)

      says_left : SaysChange style moment began (events n) text tree (length (entries_in (events n))) change
      says_left = (said_there moment session old has (events n) left.comes left_history style text tree (Changes change changed words) read.comes).1

      module _ (at : reply.place ≡ length n.ledger.entries) where
        since_left : pin < reply.place
        since_left = since_pin more_left at

        until_left : reply.place ≤ length (entries_in (events n))
        until_left = until_now more_left at

        change_left : SaysChange style moment began (events n) text tree reply.place change
        change_left = subst (λ (place : ℕ). SaysChange style moment began (events n) text tree place change) (sym (at_end more_left at)) says_left

        short_left : Tells style moment began session pin (events s) (events n) text tree reply keeps.extends since_left until_left (Some Memory) (trying change)
        short_left own noted = (reply.place, since_left, until_left, change_left)

        refuses_left : (refusal : Refusal) → (reply.text ≡ (refused refusal).text → HasLine reply (Some refusal)) → Refuses refusal reply →
            Tells style moment began session pin (events s) (events n) text tree reply keeps.extends since_left until_left (Some refusal) (trying change) → Answer
        refuses_left refusal line r says =
            refuses style moment began session pin (events s) (events n) text tree reply keeps.extends since_left until_left
            (trying change) (tries change ∷ []) (tried_acts [] left) refl refusal line r says short_left

        uncommitted_now : (fault : CommitFault) → IsUncommitted moment session change n fault →
            WasUncommitted moment began session pin (events n) [] text tree reply style change fault
        uncommitted_now fault why = (
          change_left,
          (events n, record { later = []; grown = sym (append-nil (events n)); count = at_end more_left at }, cause_told moment began change (events n) n after session fault why),
        )

      -- where there is no memory for it, its place is that behind all entries too
      short_answer_left : IsWant reply → reply.place ≡ length n.ledger.entries → Answer
      short_answer_left w at =
          answered style moment began session pin (events s) (events n) text tree reply keeps.extends (since_left at) (until_left at)
          (trying change) (tries change ∷ []) (tried_acts [] left) refl (Some Memory) w.1 w.0 (short_left at)

      left_answer : (fault : CommitFault) → IsUncommitted moment session change n fault → IsUncommittedReply (length n.ledger.entries) fault reply → Answer
      left_answer (faults.SequenceEnd place) why r =
          let at : reply.place ≡ length n.ledger.entries = r.1 ∙ why.0 in
          refuses_left at SequenceEnd (λ e. e) r.0
          (λ own noted. (
            (since_left at, until_left at),
            uncommitted_now at (faults.SequenceEnd reply.place) (subst (λ (k : ℕ). IsUncommitted moment session change n (faults.SequenceEnd k)) (sym r.1) why),
          ))
      left_answer (faults.Full needed free place) why r =
          let at : reply.place ≡ length n.ledger.entries = r.1 ∙ why.0 in
          refuses_left at (Full needed free) (λ e. e) r.0
          (λ own noted. (
            (since_left at, until_left at),
            uncommitted_now at (faults.Full needed free reply.place) (subst (λ (k : ℕ). IsUncommitted moment session change n (faults.Full needed free k)) (sym r.1) why),
          ))
      left_answer (faults.Disk place) why r =
          let at : reply.place ≡ length n.ledger.entries = r.1 ∙ why.0 in
          refuses_left at Disk (λ e. e) r.0
          (λ own noted. (
            (since_left at, until_left at),
            noted (noted_after why.1),
            uncommitted_now at (faults.Disk reply.place) (subst (λ (k : ℕ). IsUncommitted moment session change n (faults.Disk k)) (sym r.1) why),
          ))
      left_answer faults.Memory why r = short_answer_left r.0 r.1

    tried_by : (answer : Result ℕ CommitFault) → OnOk answer (AddsSealed session change t n) → IfOk answer (λ place. place + 1 ≡ length n.ledger.entries) →
        IfOk answer (λ place. sequence_at (base_of n) (history_at n place) < 2 ^ 64 - 1) → IfOk answer (λ place. FitsAfter moment n (history_at n place) change) →
        OnErr answer (AddsTried session change [] t n) → IfErr answer (IsUncommitted moment session change n) →
        TellsCommit (length n.ledger.entries) words answer reply → Answer
    tried_by (Ok place) done placed next fits err cause tells = made_answer done place placed next fits tells
    tried_by (Err fault) done placed next fits err cause tells = left_answer err fault cause tells

    leaves_by : (answer : Result ℕ CommitFault) → OnOk answer (AddsSealed session change t n) → OnErr answer (AddsTried session change [] t n) →
        list_all (leaves_pin_of session) keeps.extends.0 ≡ true
    leaves_by (Ok place) done err = tried_leaves (Acknowledged (Commit session change done.used) done.moment done.directory ∷ []) done.tried refl
    leaves_by (Err fault) done err = tried_leaves [] err refl

  -- ---- however it went

  pub goes_answered : form_said tree ≡ a_change → IsChangeAt began (events n) text tree (pin + 1) → Goes style moment session old new text tree reply → IsAnsweredInTurn style moment began session pin (events s) (events n) text tree reply
  goes_answered form was (goes_short same w at) = short_answer same w at
  goes_answered form was (goes_told read at) = told_answer form was read at
  goes_answered form was (goes_unread fault read r at) = unread_answer was fault read at r
  goes_answered form was (goes_tried between change changed words read tried) =
      tried_by between change changed words read tried.answer tried.done tried.place tried.next tried.fits tried.err tried.cause tried.tells

  leaves_pins : Goes style moment session old new text tree reply → list_all (leaves_pin_of session) keeps.extends.0 ≡ true
  leaves_pins (goes_short same w at) = ap (list_all (leaves_pin_of session)) (none_more same w at)
  leaves_pins (goes_told read at) = read_leaves (Ok (Replied (words_of reply))) read
  leaves_pins (goes_unread fault read r at) = read_leaves (Err fault) read
  leaves_pins (goes_tried between change changed words read tried) = leaves_by between change changed words read tried.answer tried.done tried.err

  -- the session's pin is still open
  pub goes_open : (pinned : Pinned) → pinned.session ≡ session → Goes style moment session old new text tree reply → IsOpenPin (ledger_of began (events s)) pinned →
      IsOpenPin (ledger_of began (events n)) pinned
  goes_open pinned mine goes o =
      subst (λ (es : List Event). IsOpenPin (ledger_of began es) pinned) (sym keeps.extends.1)
      (pins_outlast D began (events s) keeps.extends.0 pinned
      (subst (λ (k : ℕ). list_all (leaves_pin_of k) keeps.extends.0 ≡ true) (sym mine) (leaves_pins goes)) o)

-- What a reply tells, as more events come.
use Rattle.std.proofs.Common.{◌≡◌, ◌∙◌, inl, inr, ℕ, zero, suc, ◌+◌, ◌-◌, ◌^◌, ◌<◌, ◌≤◌, true, List, [], ◌∷◌, ◌++◌, length, Option, None, Some, IsSomeAnd, slice_get, slice_index, ap, sym, subst, arith, append_assoc}
use Rattle.std.specs.List.{list_all}
use Rattle.std.proofs.lemmas.Option.{none-some}
use Rattle.std.proofs.lemmas.List.Elements.{Contains-append_left}
use Rattle.afl_outside.specs.Disk.{Moment}
use Rattle.afl_trees.specs.Term.{Term}
use Rattle.afl_types.specs.Checking.{check_of}
use Rattle.chunk_map.specs.declared.directory.DirEntry.{DirEntry}
use Rattle.logical_plan.specs.declared.names.Names.{Names}
use Rattle.plan_changes.specs.declared.change.Change.{Change}
use Rattle.plan_changes.specs.Databases.{Database}
use Rattle.event_core.specs.Cells.{at}
use Rattle.event_core.specs.declared.entry.Entry.{Entry}
use Rattle.event_core.specs.declared.entry.Entry.TheVariants.{Commit}
use Rattle.event_core.specs.Bases.{sequence_at}
use Rattle.event_core.specs.History.{History, names_at}
use Rattle.result_print.specs.declared.refusal.Refusal.{Refusal}
use Rattle.result_print.specs.declared.refusal.Refusal.TheVariants.{TooLong, Parse, HistoryFull, Typing, Cell, Disk, Damaged, SequenceEnd, Full, Memory}
use Rattle.statement_replies.specs.Statements.{Accepted, reply_to}
use Rattle.statement_replies.specs.StatementKinds.{HasStatementKind}
use Rattle.statement_replies.specs.declared.replies.style.Style.{Style}
use Rattle.store_ledger.specs.declared.note.NoteKind.TheVariants.{Fault}
use Rattle.store_state.specs.declared.state.event.Event.{Event}
use Rattle.store_state.specs.declared.state.event.Event.TheVariants.{Noted}
use Rattle.store_state.specs.Calls.{history_at, IsLeafOf}
use Rattle.store_state.specs.Standings.{base_of}
use Rattle.array_store.specs.Causes.{FitsAfter}
use Rattle.array_store.specs.declared.store.start.Start.{Start}
use Rattle.array_store.specs.declared.told.commits.fault.CommitFault.{CommitFault}
use Rattle.array_store.specs.declared.told.commits.fault.CommitFault.TheVariants as faults
use Rattle.array_store.specs.Told.{entries_in, is_sealed, told}
use Rattle.array_store.proofs.Telling.{entries_in-append}
use Rattle.session_answers.specs.Acts.{Course, nothing, looking, trying, making}
use Rattle.session_answers.specs.RepliesLaws.{RepliesStay}
use Rattle.session_answers.specs.Replies.{names_before, EnteredAt, HadNoRoom, HadRoomFor, HasFault, HoldsSincePin, HoldsWhereRefused, IsAllowedAt, IsChangeAt, IsDamagedPage, IsToldFor, Says, SaysChange, WasAt, WasUncommitted}
use Rattle.session_answers.specs.declared.replies.reply.Reply.{Reply}
use Rattle.session_answers.proofs.Beginnings.{history_stays, places_see_the_same, reached}

-- an element keeps its place
get_stays : {A : Type 0} → (xs ys : List A) (i : ℕ) (x : A) → slice_get xs i ≡ Some x → slice_get (xs ++ ys) i ≡ Some x
get_stays [] ys i x e = absurd (none-some x e)
get_stays (y ∷ xs) ys zero x e = e
get_stays (y ∷ xs) ys (suc i) x e = get_stays xs ys i x e

pub was_later : {place : ℕ} → (then old more : List Event) → WasAt place then old → WasAt place then (old ++ more)
was_later then old more w = record {
  later = w.later ++ more;
  grown = ap (λ (all : List Event). all ++ more) w.grown ∙ append_assoc then w.later more;
  count = w.count;
}

pub entered_later : (least : ℕ) (entry : Entry) (place : ℕ) (old more : List Event) → EnteredAt least entry place old → EnteredAt least entry place (old ++ more)
entered_later least entry place old more e = record {
  is = ap (λ (es : List Entry). slice_get es place) (entries_in-append old more) ∙ get_stays (entries_in old) (entries_in more) place entry e.is;
  later = e.later;
}

pub no_room_later : {D : Type 0} → (start : Start D) (first old more : List Event) (place : ℕ) → HadNoRoom start first old place → HadNoRoom start first (old ++ more) place
no_room_later start first old more place n =
    record { then = n.then; others = n.others; behind = n.behind; at = was_later n.then old more n.at; full = n.full }

-- ---- what is said at a place that the history has reached

module _ {D : Type 0} (moment : D → Moment) (start : Start D) (old more : List Event) (text : List ℕ) (tree : Term) (place : ℕ) (within : place ≤ length (entries_in old)) where
  pub names_stay : names_before start (old ++ more) place ≡ names_before start old place
  names_stay = ap (names_at start.base) (history_stays start old more place within)

  pub page_later : (page : ℕ) → list_all is_sealed old ≡ true → IsDamagedPage moment start old place page → IsDamagedPage moment start (old ++ more) place page
  page_later page sealed p = record {
    leaf = p.leaf;
    at = p.at;
    named = subst (λ (names : Names). IsLeafOf names p.leaf) (sym names_stay) p.named;
    begins = subst (λ (found : Option DirEntry). IsSomeAnd found (λ entry. page ≡ slice_index entry.pages 0))
        (sym ((places_see_the_same start old more place within sealed).payloads p.leaf p.at)) p.begins;
    was = p.was;
  }

  allowed_later : IsAllowedAt start old text tree place → IsAllowedAt start (old ++ more) text tree place
  allowed_later a = (a.0, ap (λ (names : Names). check_of tree text names) names_stay ∙ a.1)

  -- what is needed at a history is needed there whatever comes later
  fits_later : (h : History) (change : Change) → FitsAfter moment (told start old) h change → FitsAfter moment (told start (old ++ more)) h change
  fits_later h change f = record { count = f.count; needed = f.needed; fits = f.fits }

  pub room_later : (change : Change) → HadRoomFor moment start old place change → HadRoomFor moment start (old ++ more) place change
  room_later change r = record {
    next = subst (λ (h : History). sequence_at (base_of (told start (old ++ more))) h < 2 ^ 64 - 1) (sym (history_stays start old more place within)) r.next;
    fits = subst (λ (h : History). FitsAfter moment (told start (old ++ more)) h change) (sym (history_stays start old more place within))
        (fits_later (history_at (told start old) place) change r.fits);
  }

  module _ (style : Style) where
    same_reply : (db : Database) → reply_to style (at db (history_at (told start (old ++ more)) place)) text tree ≡ reply_to style (at db (history_at (told start old) place)) text tree
    same_reply db = ap (λ (h : History). reply_to style (at db h) text tree) (history_stays start old more place within)

    pub says_later : (answer : Accepted) → Says style moment start old text tree place answer → Says style moment start (old ++ more) text tree place answer
    says_later answer s = record {
      kind = subst (λ (names : Names). HasStatementKind style names (check_of tree text names) answer) (sym names_stay) s.kind;
      told = λ db began. same_reply db ∙ s.told db began;
    }

    pub change_later : (change : Change) → SaysChange style moment start old text tree place change → SaysChange style moment start (old ++ more) text tree place change
    change_later change s = record {
      typed = ap (λ (names : Names). check_of tree text names) names_stay ∙ s.typed;
      told = λ db began. ap (λ (answer : Accepted). answer.change) (same_reply db) ∙ s.told db began;
    }

-- ---- the reply

module _ {D : Type 0} (moment : D → Moment) (start : Start D) (session pin : ℕ) (old more own later : List Event) (text : List ℕ) (tree : Term) (reply : Reply)
    (sealed : list_all is_sealed old ≡ true) (within : reply.place ≤ length (entries_in old)) where
  since_stays : HoldsSincePin moment start session pin old own text tree reply → HoldsSincePin moment start session pin (old ++ more) (own ++ later) text tree reply
  since_stays t = (t.0, reached start old more reply.place within)

  change_stays : pin < reply.place → IsChangeAt start old text tree (pin + 1) → IsChangeAt start (old ++ more) text tree (pin + 1)
  change_stays after w =
      let here : pin + 1 ≤ length (entries_in old) = omega (arith, after, within) in
      (w.0, ap (λ (names : Names). check_of tree text names) (names_stay moment start old more text tree (pin + 1) here) ∙ w.1)

  where_stays : HoldsWhereRefused moment start session pin old own text tree reply →
      HoldsWhereRefused moment start session pin (old ++ more) (own ++ later) text tree reply
  where_stays (inl behind) = inl behind
  where_stays (inr (since, was)) = inr (since_stays since, change_stays since.0 was)

  fault_stays : HasFault session own → HasFault session (own ++ later)
  fault_stays f = (f.0, Contains-append_left own later (Noted (record { session = session; kind = Fault; after = f.0 })) f.1)

  module _ (style : Style) where
    uncommitted_stays : (change : Change) (fault : CommitFault) → WasUncommitted moment start session pin old own text tree reply style change fault →
        WasUncommitted moment start session pin (old ++ more) (own ++ later) text tree reply style change fault
    uncommitted_stays change fault u =
        (change_later moment start old more text tree reply.place within style change u.0, (u.1.0, was_later u.1.0 old more u.1.1, u.1.2))

    told_stays : (refusal : Option Refusal) (course : Course) → IsToldFor moment start session pin old own text tree reply style refusal course →
        IsToldFor moment start session pin (old ++ more) (own ++ later) text tree reply style refusal course
    told_stays None nothing t = absurd t
    told_stays None looking t = (t.0, says_later moment start old more text tree reply.place within style _ t.1)
    told_stays None (trying change) t = absurd t
    told_stays None (making change) t = (
      (t.0.0, entered_later pin (Commit session change t.0.0) reply.place old more t.0.1),
      says_later moment start old more text tree reply.place within style _ t.1,
      room_later moment start old more text tree reply.place within change t.2,
    )
    told_stays (Some (TooLong bytes)) nothing t = absurd t
    told_stays (Some (TooLong bytes)) looking t = absurd t
    told_stays (Some (TooLong bytes)) (trying change) t = absurd t
    told_stays (Some (TooLong bytes)) (making change) t = absurd t
    told_stays (Some (Parse at kind)) nothing t = absurd t
    told_stays (Some (Parse at kind)) looking t = absurd t
    told_stays (Some (Parse at kind)) (trying change) t = absurd t
    told_stays (Some (Parse at kind)) (making change) t = absurd t
    told_stays (Some HistoryFull) nothing t = (t.0, was_later t.0 old more t.1, t.2)
    told_stays (Some HistoryFull) looking t = absurd t
    told_stays (Some HistoryFull) (trying change) t = absurd t
    told_stays (Some HistoryFull) (making change) t = absurd t
    told_stays (Some (Typing span kind)) nothing t = absurd t
    told_stays (Some (Typing span kind)) looking t = (where_stays t.0, says_later moment start old more text tree reply.place within style _ t.1)
    told_stays (Some (Typing span kind)) (trying change) t = absurd t
    told_stays (Some (Typing span kind)) (making change) t = absurd t
    told_stays (Some Disk) nothing t = absurd t
    told_stays (Some Disk) looking t = (where_stays t.0, fault_stays t.1, allowed_later moment start old more text tree reply.place within t.2)
    told_stays (Some Disk) (trying change) t = (since_stays t.0, fault_stays t.1, uncommitted_stays change (faults.Disk reply.place) t.2)
    told_stays (Some Disk) (making change) t = absurd t
    told_stays (Some (Damaged page)) nothing t = absurd t
    told_stays (Some (Damaged page)) looking t = (
      where_stays t.0,
      page_later moment start old more text tree reply.place within page sealed t.1,
      t.2,
      allowed_later moment start old more text tree reply.place within t.3,
    )
    told_stays (Some (Damaged page)) (trying change) t = absurd t
    told_stays (Some (Damaged page)) (making change) t = absurd t
    told_stays (Some (Cell at kind)) nothing t = absurd t
    told_stays (Some (Cell at kind)) looking t = (where_stays t.0, says_later moment start old more text tree reply.place within style _ t.1)
    told_stays (Some (Cell at kind)) (trying change) t = absurd t
    told_stays (Some (Cell at kind)) (making change) t = absurd t
    told_stays (Some SequenceEnd) nothing t = absurd t
    told_stays (Some SequenceEnd) looking t = absurd t
    told_stays (Some SequenceEnd) (trying change) t = (since_stays t.0, uncommitted_stays change (faults.SequenceEnd reply.place) t.1)
    told_stays (Some SequenceEnd) (making change) t = absurd t
    told_stays (Some (Full needed free)) nothing t = absurd t
    told_stays (Some (Full needed free)) looking t = absurd t
    told_stays (Some (Full needed free)) (trying change) t = (since_stays t.0, uncommitted_stays change (faults.Full needed free reply.place) t.1)
    told_stays (Some (Full needed free)) (making change) t = absurd t
    told_stays (Some Memory) nothing t = tt
    told_stays (Some Memory) looking t = tt
    told_stays (Some Memory) (trying change) t = (t.0, t.1, reached start old more t.0 t.2, change_later moment start old more text tree t.0 t.2 style change t.3)
    told_stays (Some Memory) (making change) t = absurd t

pub replies_stay : {D : Type 0} (moment : D → Moment) → RepliesStay moment
replies_stay moment style start session pin old more own later text tree reply refusal course sealed within t =
    told_stays moment start session pin old more own later text tree reply sealed within style refusal course t

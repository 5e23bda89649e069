-- What was answered, as more events come.
use Rattle.std.proofs.Common.{◌≡◌, ◌∙◌, ℕ, ◌-◌, inl, inr, Bool, true, List, [], ◌∷◌, ◌++◌, length, Option, None, Some, ap, refl, sym, subst, append-nil, append_assoc}
use Rattle.std.specs.List.{list_all}
use Rattle.std.proofs.lemmas.Bool.{and_parts}
use Rattle.std.proofs.lemmas.List.Folds.{list_all-append}
use Rattle.afl_lexer.specs.Split.{Statement, closed_statements, statements}
use Rattle.afl_outside.specs.Disk.{Moment}
use Rattle.afl_outside.specs.Source.{SourceState}
use Rattle.afl_outside.specs.Sink.{SinkState}
use Rattle.event_core.specs.declared.entry.Entry.TheVariants.{Pin, Unpin}
use Rattle.session_answers.specs.Acts.{Course, nothing, looking, trying, making}
use Rattle.session_answers.specs.Answered.{BeganAt, EndedAt, IsAnswered}
use Rattle.store_state.specs.declared.state.event.Event.{Event}
use Rattle.session_answers.specs.Replies.{IsToldFor}
use Rattle.session_answers.specs.declared.replies.reply.Reply.{Reply}
use Rattle.snapshot_manager.specs.Start.{Start}
use Rattle.statement_replies.specs.declared.replies.style.Style.{Style}
use Rattle.snapshot_manager.specs.Told.{entries_in, is_sealed}
use Rattle.session_answers.proofs.Staying.{entered_later, no_room_later, replies_stay}
use Rattle.run_opening.specs.declared.reports.reports.Mark.{Mark}
use Rattle.run_opening.specs.declared.reports.reports.SessionEnd.{SessionEnd}
use Rattle.run_opening.specs.declared.reports.reports.SessionEnd.TheVariants as ends
use Rattle.afl_session.specs.Histories.{AnswersTextIn, IsAnsweredIn, IsMarkedIn}
use Rattle.afl_session.specs.ScriptsLaws.{MarksStay, SessionsStay}
use Rattle.afl_session.specs.Marked.{AnswersText, IsMarked, IsReplyOf, reply_told}
use Rattle.afl_session.specs.Session.{AnswerRule, AnswersAll, AnswersFront, AreAnswered, LeavesOne, Replies, Serves, decided}

-- a statement's pin came where it came
began_stays : (session pin : ℕ) (old new later : List Event) (course : Course) → BeganAt session pin old new course → BeganAt session pin old (new ++ later) course
began_stays session pin old new later nothing began = tt
began_stays session pin old new later looking began = entered_later (length (entries_in old)) (Pin session) pin new later began
began_stays session pin old new later (trying change) began = entered_later (length (entries_in old)) (Pin session) pin new later began
began_stays session pin old new later (making change) began = entered_later (length (entries_in old)) (Pin session) pin new later began

-- and ended where it ended
ended_stays : (session place unpin : ℕ) (new later : List Event) (course : Course) → EndedAt session place unpin new course → EndedAt session place unpin (new ++ later) course
ended_stays session place unpin new later nothing ended = tt
ended_stays session place unpin new later looking ended = entered_later place (Unpin session) unpin new later ended
ended_stays session place unpin new later (trying change) ended = entered_later place (Unpin session) unpin new later ended
ended_stays session place unpin new later (making change) ended = entered_later place (Unpin session) unpin new later ended

-- ---- a mark in more events

module _ {D : Type 0} (style : Style) (moment : D → Moment) (origin : Start D) (session : ℕ) where
  answer_stays : (old new later : List Event) (last : ℕ) (text : List ℕ) (reply : Reply) → list_all is_sealed new ≡ true
      → IsAnswered style moment origin session last old new text reply → IsAnsweredIn style moment origin session (new ++ later) old new last text reply
  answer_stays old new later last text reply sealed answered = record {
    own = answered.own;
    course = answered.course;
    pin = answered.pin;
    adds = answered.adds;
    acts = answered.acts;
    began = began_stays session answered.pin old new later answered.course answered.began;
    unpin = answered.unpin;
    ended = ended_stays session reply.place answered.unpin new later answered.course answered.ended;
    line = answered.line;
    told = λ tree derives.
        let t = answered.told tree derives in (
          t.0,
          subst (λ (events : List Event). IsToldFor moment origin session answered.pin (new ++ later) events text tree reply style reply.refusal answered.course) (append-nil answered.own)
              (replies_stay moment style origin session answered.pin new later answered.own [] text tree reply reply.refusal answered.course sealed (answered.until tree derives) t.1),
        );
    until = answered.until;
    full = λ tree derives is. no_room_later origin old new later reply.place (answered.full tree derives is);
    stopped = answered.stopped;
  }

  reply_stays : (old new later : List Event) (last bytes : ℕ) (text : Option (List ℕ)) (reply : Reply) → list_all is_sealed new ≡ true
      → IsReplyOf (AnswersText style moment origin session) old new last bytes text reply → IsReplyOf (AnswersTextIn style moment origin session (new ++ later)) old new last bytes text reply
  reply_stays old new later last bytes None reply sealed replied = replied
  reply_stays old new later last bytes (Some text) reply sealed replied = answer_stays old new later last text reply sealed replied

  mark_stays : (old new later : List Event) (last : ℕ) (statement : Statement) (mark : Mark) (written : List ℕ) → list_all is_sealed new ≡ true
      → IsMarked style moment origin session old new last statement mark written → IsMarkedIn style moment origin session (new ++ later) old new last statement mark written
  mark_stays old new later last statement mark written sealed marked = record {
    start = marked.start;
    end = marked.end;
    reply = reply_stays old new later last (statement.end - statement.start) statement.text (reply_told mark written) sealed marked.reply;
    want = marked.want;
  }

  -- ---- what was seen only grows

  record Grows (old new : List Event) : Type 0 where
    more : List Event
    grown : new ≡ old ++ more

  reply_grows : (old new : List Event) (last bytes : ℕ) (text : Option (List ℕ)) (reply : Reply) → IsReplyOf (AnswersText style moment origin session) old new last bytes text reply → Grows old new
  reply_grows old new last bytes None reply replied = record { more = []; grown = replied.same ∙ sym (append-nil old) }
  reply_grows old new last bytes (Some text) reply replied = record { more = replied.adds.more; grown = replied.adds.grown }

  all_grow : (old : List Event) (last : ℕ) (ss : List Statement) (ms : List Mark) (ts : List (List ℕ)) (new : List Event)
      → AreAnswered (IsMarked style moment origin session) old last ss ms ts new → Grows old new
  all_grow old last [] [] [] new all = record { more = []; grown = sym all ∙ sym (append-nil old) }
  all_grow old last (s ∷ ss) (m ∷ ms) (t ∷ ts) new all =
      let first : Grows old all.0 = reply_grows old all.0 last (s.end - s.start) s.text (reply_told m t) all.1.reply in
      let rest : Grows all.0 new = all_grow all.0 m.place ss ms ts new all.2 in
      record { more = first.more ++ rest.more; grown = rest.grown ∙ ap (λ (es : List Event). es ++ rest.more) first.grown ∙ append_assoc old first.more rest.more }
  all_grow old last [] [] (t ∷ ts) new all = absurd all
  all_grow old last [] (m ∷ ms) ts new all = absurd all
  all_grow old last (s ∷ ss) [] ts new all = absurd all
  all_grow old last (s ∷ ss) (m ∷ ms) [] new all = absurd all

  sealed_before : (old new more : List Event) → new ≡ old ++ more → list_all is_sealed new ≡ true → list_all is_sealed old ≡ true
  sealed_before old new more grown sealed =
      (and_parts (list_all is_sealed old) (list_all is_sealed more) (sym (list_all-append is_sealed old more) ∙ ap (list_all is_sealed) (sym grown) ∙ sealed)).0

  -- ---- all marks in more events

  each_stays : (whole later : List Event) (old : List Event) (last : ℕ) (ss : List Statement) (ms : List Mark) (ts : List (List ℕ)) (new : List Event)
      → whole ≡ new ++ later → list_all is_sealed new ≡ true → AreAnswered (IsMarked style moment origin session) old last ss ms ts new
      → AreAnswered (IsMarkedIn style moment origin session whole) old last ss ms ts new
  each_stays whole later old last [] [] [] new is sealed all = all
  each_stays whole later old last (s ∷ ss) (m ∷ ms) (t ∷ ts) new is sealed all =
      let rest : Grows all.0 new = all_grow all.0 m.place ss ms ts new all.2 in
      let longer : whole ≡ all.0 ++ (rest.more ++ later) = is ∙ ap (λ (es : List Event). es ++ later) rest.grown ∙ append_assoc all.0 rest.more later in (
        all.0,
        subst (λ (es : List Event). IsMarkedIn style moment origin session es old all.0 last s m t) (sym longer)
            (mark_stays old all.0 (rest.more ++ later) last s m t (sealed_before all.0 new rest.more rest.grown sealed) all.1),
        each_stays whole later all.0 m.place ss ms ts new is sealed all.2,
      )
  each_stays whole later old last [] [] (t ∷ ts) new is sealed all = absurd all
  each_stays whole later old last [] (m ∷ ms) ts new is sealed all = absurd all
  each_stays whole later old last (s ∷ ss) [] ts new is sealed all = absurd all
  each_stays whole later old last (s ∷ ss) (m ∷ ms) [] new is sealed all = absurd all

-- ---- what was served, by another rule

module _ (Answered Told : AnswerRule) (old : List Event) (last : ℕ) (new : List Event)
    (each : (ss : List Statement) (ms : List Mark) (ts : List (List ℕ)) → AreAnswered Answered old last ss ms ts new → AreAnswered Told old last ss ms ts new) where
  all_told : (ss : List Statement) (ms : List Mark) (written : List ℕ) → AnswersAll Answered old last new ss ms written → AnswersAll Told old last new ss ms written
  all_told ss ms written all = record { texts = all.texts; each = each ss ms all.texts all.each; whole = all.whole }

  front_told : (ss : List Statement) (ms : List Mark) (written : List ℕ) → AnswersFront Answered old last new ss ms written → AnswersFront Told old last new ss ms written
  front_told ss ms written front = record {
    answered = front.answered;
    unanswered = front.unanswered;
    in_order = front.in_order;
    texts = front.texts;
    begun = front.begun;
    at_most_one = front.at_most_one;
    each = each front.answered ms (front.texts ++ front.begun) front.each;
    front = front.front;
    unwritten = front.unwritten;
    parts = front.parts;
    printed = front.printed;
  }

  one_told : (ss : List Statement) (ms : List Mark) (written : List ℕ) → LeavesOne Answered old last new ss ms written → LeavesOne Told old last new ss ms written
  one_told ss ms written left = record {
    answered = left.answered;
    next = left.next;
    rest = left.rest;
    in_order = left.in_order;
    all = all_told left.answered ms written left.all;
  }

  replies_told : (end : SessionEnd) (is_whole : Bool) (read : List ℕ) (ms : List Mark) (written : List ℕ) → Replies Answered old last new end is_whole read ms written
      → Replies Told old last new end is_whole read ms written
  replies_told ends.Whole is_whole read ms written replies = (replies.0, all_told (statements read) ms written replies.1)
  replies_told ends.Source is_whole read ms written replies = (replies.0, all_told (closed_statements read) ms written replies.1)
  replies_told ends.Sink is_whole read ms written replies = front_told (decided is_whole read) ms written replies
  replies_told ends.Memory is_whole read ms written replies = front_told (decided is_whole read) ms written replies

  serves_told : (source source' : SourceState) (sink sink' : SinkState) (ms : List Mark) (end : SessionEnd)
      → Serves Answered old last new source source' sink sink' ms end → Serves Told old last new source source' sink sink' ms end
  serves_told source source' sink sink' ms end serves = record {
    read = serves.read;
    unread = serves.unread;
    is_whole = serves.is_whole;
    written = serves.written;
    gives = serves.gives;
    takes = serves.takes;
    replies = replies_told end serves.is_whole serves.read ms serves.written serves.replies;
    at_end = serves.at_end;
    source_fault = serves.source_fault;
    sink_fault = serves.sink_fault;
    memory = λ is. elim (serves.memory is) [
      | inl rose ↦ inl rose
      | inr left ↦ inr (one_told (decided serves.is_whole serves.read) ms serves.written left)
    ];
  }

pub marks_stay : {D : Type 0} (moment : D → Moment) → MarksStay moment
marks_stay moment style origin session old new later last statement mark written sealed marked =
    mark_stays style moment origin session old new later last statement mark written sealed marked

pub sessions_stay : {D : Type 0} (moment : D → Moment) → SessionsStay moment
sessions_stay moment style origin session old new later last source source' sink sink' marks end sealed serves =
    serves_told (IsMarked style moment origin session) (IsMarkedIn style moment origin session (new ++ later)) old last new
    (λ ss ms ts. each_stays style moment origin session (new ++ later) later old last ss ms ts new refl sealed) source source' sink sink' marks end serves

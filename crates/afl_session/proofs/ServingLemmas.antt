-- One statement more is answered.
use Rattle.std.proofs.Common.{◌≡◌, ℕ, ◌-◌, ◌≤◌, Bool, true, false, if◌then◌else◌, ◌⊎◌, List, [], ◌∷◌, ◌++◌, take, drop, Option, None, Some, inl, inr, Result, Ok, Err, MatchResult, OnOk, OnErr, IsErrOf, refl, sym, ◌∙◌, ap, subst, arith, append-nil}
use Rattle.std.proofs.lemmas.List.{take-append-drop}
use Rattle.std.proofs.lemmas.List.Folds.{concat-append}
use Rattle.std.specs.List.{concat}
use Rattle.afl_lexer.specs.Split.{Statement}
use Rattle.afl_lexer.specs.Inner.Standing.{Splitting, told}
use Rattle.afl_lexer.specs.declared.splitter.SplitStep.{SplitStep}
use Rattle.afl_lexer.specs.declared.splitter.SplitStep.TheVariants.{More, Blank, Piece, TooLong}
use Rattle.afl_outside.specs.Counts.{Rose}
use Rattle.afl_outside.specs.Disk.{Moment}
use Rattle.afl_outside.specs.Sink.{SinkState, Takes}
use Rattle.afl_outside.proofs.Streams.{Takes-more}
use Rattle.result_print.specs.declared.refusal.Refusal.{Refusal}
use Rattle.result_print.specs.declared.refusal.Refusal.TheVariants as refusals
use Rattle.statement_replies.specs.Reply.{memory_line}
use Rattle.statement_replies.specs.declared.replies.replies.Reply.{Reply as Words}
use Rattle.store_state.specs.declared.state.event.Event.{Event}
use Rattle.session_answers.specs.Replies.{HasLine}
use Rattle.session_answers.specs.declared.replies.reply.Reply.{Reply}
use Rattle.snapshot_manager.specs.Start.{Start}
use Rattle.statement_replies.specs.declared.replies.style.Style.{Style}
use Rattle.run_opening.specs.Outcomes.{is_want}
use Rattle.afl_session.specs.Inner.Serving.{GoesOn, HasAnswered, HasStopped, Reached, mark_at, place_after, statement_at}
use Rattle.afl_session.specs.Marked.{AnswersText, IsMarked, IsReplyOf, reply_told, written_for}
use Rattle.afl_session.specs.Session.{AnswerRule, AreAnswered}
use Rattle.run_opening.specs.declared.reports.reports.Mark.{Mark}
use Rattle.afl_session.specs.declared.scripts.streams.Stopped.{Stopped}
use Rattle.afl_session.specs.declared.scripts.streams.Stopped.TheVariants.{Fault, Memory}

-- ---- marks

place_after-snoc : (last : ℕ) (ms : List Mark) (m : Mark) → place_after last (ms ++ m ∷ []) ≡ m.place
place_after-snoc last [] m = refl
place_after-snoc last (m' ∷ ms) m = place_after-snoc m'.place ms m

module _ (Answered : AnswerRule) (next new : List Event) (s : Statement) (m : Mark) (t : List ℕ) where
  AreAnswered-snoc : (old : List Event) (last : ℕ) (ss : List Statement) (ms : List Mark) (ts : List (List ℕ)) → AreAnswered Answered old last ss ms ts next
      → Answered next new (place_after last ms) s m t → AreAnswered Answered old last (ss ++ s ∷ []) (ms ++ m ∷ []) (ts ++ t ∷ []) new
  AreAnswered-snoc old last [] [] [] all one = (new, subst (λ (es : List Event). Answered es new last s m t) (sym all) one, refl)
  AreAnswered-snoc old last (s' ∷ ss) (m' ∷ ms) (t' ∷ ts) all one = (all.0, all.1, AreAnswered-snoc all.0 m'.place ss ms ts all.2 one)
  AreAnswered-snoc old last [] [] (t' ∷ ts) all one = absurd all
  AreAnswered-snoc old last [] (m' ∷ ms) ts all one = absurd all
  AreAnswered-snoc old last (s' ∷ ss) [] ts all one = absurd all
  AreAnswered-snoc old last (s' ∷ ss) (m' ∷ ms) [] all one = absurd all

concat-snoc : (ts : List (List ℕ)) (t : List ℕ) → concat (ts ++ t ∷ []) ≡ concat ts ++ t
concat-snoc ts t = concat-append ts (t ∷ []) ∙ ap (λ (x : List ℕ). concat ts ++ x) (append-nil t)

-- ---- a reply and its mark

-- where no memory was found a reply has no text
empty_line : (reply : Reply) (refusal : Option Refusal) → HasLine reply refusal → is_want refusal ≡ true → reply.text ≡ []
empty_line reply (Some refusals.Memory) line want = line
empty_line reply _ line want = absurd (cc (want))

module _ {D : Type 0} (style : Style) (moment : D → Moment) (origin : Start D) (session : ℕ) where
  empty_text : (old new : List Event) (last bytes : ℕ) (text : Option (List ℕ)) (reply : Reply) → IsReplyOf (AnswersText style moment origin session) old new last bytes text reply
      → is_want reply.refusal ≡ true → reply.text ≡ []
  empty_text old new last bytes None reply replied want = elim replied.words [
    | inl told ↦ let other : is_want reply.refusal ≡ false = ap (λ (words : Words). is_want words.refusal) told.0 in absurd (cc (want, other))
    | inr none ↦ none.0.0
  ]
  empty_text old new last bytes (Some text) reply replied want = empty_line reply reply.refusal replied.line want

text_told : (want : Bool) (text : List ℕ) → (want ≡ true → text ≡ []) → (if want then [] else (if want then memory_line else text)) ≡ text
text_told true text none = sym (none refl)
text_told false text none = refl

-- its mark and what is written for it tell the reply
same_reply : (start end : ℕ) (reply : Reply) → (is_want reply.refusal ≡ true → reply.text ≡ []) → reply_told (mark_at start end reply) (written_for reply) ≡ reply
same_reply start end reply none =
    ap (λ (text : List ℕ). let told : Reply = record { text = text; refusal = reply.refusal; place = reply.place } in told) (text_told (is_want reply.refusal) reply.text none)

want_written : (reply : Reply) → reply.refusal ≡ Some refusals.Memory → written_for reply ≡ memory_line
want_written reply e = ap (λ (want : Bool). if want then memory_line else reply.text) (ap is_want e)

module _ {D : Type 0} (style : Style) (moment : D → Moment) (origin : Start D) (session : ℕ) where
  -- a statement's mark and what was written for it are those of its reply
  marked : (old new : List Event) (last start end : ℕ) (text : Option (List ℕ)) (reply : Reply)
      → IsReplyOf (AnswersText style moment origin session) old new last (end - start) text reply
      → IsMarked style moment origin session old new last (statement_at start end text) (mark_at start end reply) (written_for reply)
  marked old new last start end text reply replied = record {
    start = refl;
    end = refl;
    reply = subst (λ (r : Reply). IsReplyOf (AnswersText style moment origin session) old new last (end - start) text r)
        (sym (same_reply start end reply (empty_text style moment origin session old new last (end - start) text reply replied))) replied;
    want = want_written reply;
  }

-- ---- what a session has done

-- no statement came
pub nothing_told : (step : SplitStep) (splitter : Splitting) → (step ≡ More) ⊎ (step ≡ Blank) → told step splitter ≡ []
nothing_told step splitter is = elim is [
  | inl more ↦ ap (λ (s : SplitStep). told s splitter) more
  | inr blank ↦ ap (λ (s : SplitStep). told s splitter) blank
]

pub goes_nowhere : (Answered : AnswerRule) (now : Reached) (marks : List Mark) (none : List Statement) → none ≡ [] → GoesOn Answered now now marks marks none (Ok tt)
goes_nowhere Answered now marks none is first before so_far =
    subst (λ (ss : List Statement). HasAnswered Answered first now ss marks) (sym (ap (λ (ss : List Statement). before ++ ss) is ∙ append-nil before)) so_far

-- no room was found for its mark
pub stops_before : (Answered : AnswerRule) (now : Reached) (marks : List Mark) (next : Statement) → GoesOn Answered now now marks marks (next ∷ []) (Err Memory)
stops_before Answered now marks next first before so_far = record {
  written = so_far.written;
  takes = so_far.takes;
  answers = record {
    answered = before;
    unanswered = next ∷ [];
    in_order = refl;
    texts = so_far.answers.texts;
    begun = [];
    at_most_one = omega arith;
    each = subst (λ (ts : List (List ℕ)). AreAnswered Answered first.seen first.last before marks ts now.seen) (sym (append-nil so_far.answers.texts)) so_far.answers.each;
    front = [];
    unwritten = [];
    parts = refl;
    printed = so_far.answers.whole ∙ sym (append-nil (concat so_far.answers.texts));
  };
  fault = λ is. cc;
  memory = λ is. inr (record { answered = before; next = next; rest = []; in_order = refl; all = so_far.answers });
}

module _ (Answered : AnswerRule) (now now' : Reached) (marks marks' : List Mark) (statement : Statement) (mark : Mark) (text : List ℕ)
    (kept : marks' ≡ marks ++ mark ∷ []) (at_place : now'.last ≡ mark.place) (answered : Answered now.seen now'.seen now.last statement mark text)
    (first : Reached) (before : List Statement) (so_far : HasAnswered Answered first now before marks) where
  each_is : AreAnswered Answered first.seen first.last (before ++ statement ∷ []) marks' (so_far.answers.texts ++ text ∷ []) now'.seen
  each_is =
      subst (λ (ms : List Mark). AreAnswered Answered first.seen first.last (before ++ statement ∷ []) ms (so_far.answers.texts ++ text ∷ []) now'.seen) (sym kept)
      (AreAnswered-snoc Answered now.seen now'.seen statement mark text first.seen first.last before marks so_far.answers.texts so_far.answers.each
      (subst (λ (last : ℕ). Answered now.seen now'.seen last statement mark text) so_far.place answered))

  joined : concat (so_far.answers.texts ++ text ∷ []) ≡ so_far.written ++ text
  joined = concat-snoc so_far.answers.texts text ∙ ap (λ (x : List ℕ). x ++ text) (sym so_far.answers.whole)

  last_is : now'.last ≡ place_after first.last marks'
  last_is = at_place ∙ sym (place_after-snoc first.last marks mark) ∙ ap (place_after first.last) (sym kept)

  -- its text was written whole
  answers : Takes now.sink now'.sink text → HasAnswered Answered first now' (before ++ statement ∷ []) marks'
  answers takes = record {
    written = so_far.written ++ text;
    takes = Takes-more first.sink now.sink now'.sink so_far.written text so_far.takes takes;
    answers = record { texts = so_far.answers.texts ++ text ∷ []; each = each_is; whole = sym joined };
    place = last_is;
  }

  -- a front of its text was written
  stops : (stopped : Stopped) (n : ℕ) → Takes now.sink now'.sink (take n text) → (stopped ≡ Fault → Rose now.sink.faults now'.sink.faults)
      → (stopped ≡ Memory → Rose now.sink.wants now'.sink.wants) → HasStopped Answered first now' (before ++ statement ∷ []) marks' stopped
  stops stopped n takes fault want = record {
    written = so_far.written ++ take n text;
    takes = Takes-more first.sink now.sink now'.sink so_far.written (take n text) so_far.takes takes;
    answers = record {
      answered = before ++ statement ∷ [];
      unanswered = [];
      in_order = sym (append-nil (before ++ statement ∷ []));
      texts = so_far.answers.texts;
      begun = text ∷ [];
      at_most_one = omega arith;
      each = each_is;
      front = take n text;
      unwritten = drop n text;
      parts = append-nil text ∙ sym (take-append-drop n text);
      printed = ap (λ (x : List ℕ). x ++ take n text) so_far.answers.whole;
    };
    fault = λ is. let rose = fault is in omega (arith, rose, so_far.takes.later);
    memory = λ is. inl (let rose = want is in omega (arith, rose, so_far.takes.wants_later));
  }

  pub goes_there : (r : Result (Unit {0}) Stopped) → OnOk r (Takes now.sink now'.sink text) → OnErr r ((n : ℕ) × Takes now.sink now'.sink (take n text))
      → (IsErrOf r Fault → Rose now.sink.faults now'.sink.faults) → (IsErrOf r Memory → Rose now.sink.wants now'.sink.wants)
      → MatchResult r (λ _. HasAnswered Answered first now' (before ++ statement ∷ []) marks') (HasStopped Answered first now' (before ++ statement ∷ []) marks')
  goes_there (Ok u) ok err fault want = answers ok
  goes_there (Err stopped) ok err fault want = stops stopped err.0 err.1 (λ is. fault (ap Err is)) (λ is. want (ap Err is))

-- ---- a write that failed, behind some bytes

pub writes_front : (a b c : SinkState) (bytes : List ℕ) (at : ℕ) → Takes a b (take at bytes) → Takes b c [] → Takes a c (take at bytes)
writes_front a b c bytes at p q = subst (Takes a c) (append-nil (take at bytes)) (Takes-more a b c (take at bytes) [] p q)

pub no_fault : {A : Type 0} → ¬ IsErrOf {T = A} {E = Stopped} (Err Memory) Fault
no_fault is = cc

pub no_want : {A : Type 0} → ¬ IsErrOf {T = A} {E = Stopped} (Err Fault) Memory
no_want is = cc

pub true_false : ¬ (true ≡ false)
true_false e = cc

sooner : (a b now : ℕ) → a ≤ b → Rose b now → Rose a now
sooner a b now le rose = omega (arith, le, rose)

module _ (a b c : SinkState) (bytes : List ℕ) (p : Takes a b bytes) where
  pub faults_rose : (before now : ℕ) → before ≡ b.faults → now ≡ c.faults → Rose before now → Rose a.faults c.faults
  faults_rose before now was is rose = subst (Rose a.faults) is (sooner a.faults b.faults now p.later (subst (λ (n : ℕ). Rose n now) was rose))

  pub wants_rose : ¬ Rose b.faults c.faults → Rose b.faults c.faults ⊎ Rose b.wants c.wants → Rose a.wants c.wants
  wants_rose still (inl rose) = absurd (still rose)
  wants_rose still (inr rose) = sooner a.wants b.wants c.wants p.wants_later rose

pub still_there : (was now before after : ℕ) → before ≡ was → after ≡ now → ¬ Rose before after → ¬ Rose was now
still_there was now before after e f still rose = still (subst (λ (n : ℕ). Rose n after) (sym e) (subst (Rose was) (sym f) rose))

-- ---- a statement's turn

-- the statement of a step, by what the splitter shows
pub piece_told : (step : SplitStep) (splitter : Splitting) (start end : ℕ) (bytes : List ℕ) → step ≡ Piece → start ≡ splitter.start → end ≡ splitter.end
    → bytes ≡ splitter.bytes → statement_at start end (Some bytes) ∷ [] ≡ told step splitter
piece_told step splitter start end bytes is a b d =
    ap (λ (n : ℕ). statement_at n end (Some bytes) ∷ []) a ∙ ap (λ (n : ℕ). statement_at splitter.start n (Some bytes) ∷ []) b
    ∙ ap (λ (bs : List ℕ). statement_at splitter.start splitter.end (Some bs) ∷ []) d ∙ sym (ap (λ (s : SplitStep). told s splitter) is)

pub too_long_told : (step : SplitStep) (splitter : Splitting) (start end : ℕ) → step ≡ TooLong → start ≡ splitter.start → end ≡ splitter.end
    → statement_at start end None ∷ [] ≡ told step splitter
too_long_told step splitter start end is a b =
    ap (λ (n : ℕ). statement_at n end None ∷ []) a ∙ ap (λ (n : ℕ). statement_at splitter.start n None ∷ []) b ∙ sym (ap (λ (s : SplitStep). told s splitter) is)

module _ {D : Type 0} (style : Style) (moment : D → Moment) (origin : Start D) (own : ℕ) (now now' : Reached) (marks marks' : List Mark) (start end : ℕ) (text : Option (List ℕ)) where
  -- a statement was answered, its reply written as far as it went, and its mark kept
  pub goes_on : (reply : Reply) (r : Result (Unit {0}) Stopped) → IsReplyOf (AnswersText style moment origin own) now.seen now'.seen now.last (end - start) text reply
      → now'.last ≡ reply.place → marks' ≡ marks ++ mark_at start end reply ∷ [] → OnOk r (Takes now.sink now'.sink (written_for reply))
      → OnErr r ((n : ℕ) × Takes now.sink now'.sink (take n (written_for reply))) → (IsErrOf r Fault → Rose now.sink.faults now'.sink.faults)
      → (IsErrOf r Memory → Rose now.sink.wants now'.sink.wants)
      → (session : ℕ) → own ≡ session → GoesOn (IsMarked style moment origin session) now now' marks marks' (statement_at start end text ∷ []) r
  goes_on reply r replied place kept ok err fault want session is first before so_far =
      let answered : IsReplyOf (AnswersText style moment origin session) now.seen now'.seen now.last (end - start) text reply =
      subst (λ (k : ℕ). IsReplyOf (AnswersText style moment origin k) now.seen now'.seen now.last (end - start) text reply) is replied in
      goes_there (IsMarked style moment origin session) now now' marks marks' (statement_at start end text) (mark_at start end reply) (written_for reply) kept place
      (marked style moment origin session now.seen now'.seen now.last start end text reply answered) first before so_far r ok err fault want

-- How the bytes of a script come, and how it ends.
use Rattle.std.proofs.Common.{◌≡◌, ℕ, ◌+◌, ◌^◌, ◌<◌, List, [], ◌∷◌, ◌++◌, length, take, drop, get_or, true, false, Ok, Err, Some, inl, inr, refl, sym, ◌∙◌, ap, subst, arith, append_assoc, length-append, length-take-le}
use Rattle.std.proofs.lemmas.List.{take_more, take-append-drop}
use Rattle.afl_lexer.specs.Split.{Statement, statements, closed_statements}
use Rattle.afl_lexer.specs.Inner.Standing.{Splitting, StandsAfter, bytes_read}
use Rattle.std.specs.Io.KnownBytes.{IsAtEnd}
use Rattle.afl_outside.specs.Counts.{Rose}
use Rattle.afl_outside.specs.Source.{SourceState, Gives}
use Rattle.afl_outside.proofs.Streams.{Takes-nothing}
use Rattle.afl_session.specs.Inner.Serving.{EndsServing, GoesOn, HasAnswered, HasStopped, HasTaken, IsServing, Reached, StopsWithin, end_of}
use Rattle.afl_session.specs.Session.{AnswerRule, Replies, Serves}
use Rattle.run_opening.specs.declared.reports.reports.SessionEnd.{SessionEnd}
use Rattle.run_opening.specs.declared.reports.reports.SessionEnd.TheVariants.{Whole, Source, Sink, Memory as Wanting}
use Rattle.run_opening.specs.declared.reports.reports.Mark.{Mark}
use Rattle.afl_session.specs.declared.scripts.streams.Stopped.{Stopped}
use Rattle.afl_session.specs.declared.scripts.streams.Stopped.TheVariants.{Fault, Memory}

-- ---- bytes

pub read_more : (script bytes : List ℕ) (i : ℕ) → i < length bytes → script ++ take (i + 1) bytes ≡ (script ++ take i bytes) ++ get_or bytes i 0 ∷ []
read_more script bytes i within = ap (λ (x : List ℕ). script ++ x) (take_more bytes i 0 within) ∙ sym (append_assoc script (take i bytes) (get_or bytes i 0 ∷ []))

pub nothing_in : (bytes : List ℕ) → length bytes ≡ 0 → bytes ≡ []
nothing_in [] none = refl
nothing_in (byte ∷ bytes) none = absurd (omega (arith, none))

-- the statements that are closed with one byte more
closed_more : (script bytes : List ℕ) (i : ℕ) (told : List Statement) → i < length bytes
    → closed_statements ((script ++ take i bytes) ++ get_or bytes i 0 ∷ []) ≡ closed_statements (script ++ take i bytes) ++ told
    → closed_statements (script ++ take i bytes) ++ told ≡ closed_statements (script ++ take (i + 1) bytes)
closed_more script bytes i told within is = sym (ap (λ (x : List ℕ). closed_statements x) (read_more script bytes i within) ∙ is)

module _ (Answered : AnswerRule) (first now now' : Reached) (script bytes : List ℕ) (i : ℕ) (within : i < length bytes) (marks marks' : List Mark) (told : List Statement)
    (closed : closed_statements ((script ++ take i bytes) ++ get_or bytes i 0 ∷ []) ≡ closed_statements (script ++ take i bytes) ++ told)
    (so_far : HasAnswered Answered first now (closed_statements (script ++ take i bytes)) marks) where
  -- the statement that a byte ended was answered, if it ended one
  pub byte_taken : GoesOn Answered now now' marks marks' told (Ok tt) → HasAnswered Answered first now' (closed_statements (script ++ take (i + 1) bytes)) marks'
  byte_taken goes = subst (λ (ss : List Statement). HasAnswered Answered first now' ss marks') (closed_more script bytes i told within closed)
      (goes first (closed_statements (script ++ take i bytes)) so_far)

  -- or the session stopped there
  pub byte_stops : (stopped : Stopped) → GoesOn Answered now now' marks marks' told (Err stopped) → StopsWithin Answered first now' script bytes marks' stopped
  byte_stops stopped goes = record {
    done = take (i + 1) bytes;
    unread = drop (i + 1) bytes;
    pieces = sym (take-append-drop (i + 1) bytes);
    stops = subst (λ (ss : List Statement). HasStopped Answered first now' ss marks' stopped) (closed_more script bytes i told within closed)
        (goes first (closed_statements (script ++ take i bytes)) so_far);
  }

-- a splitter counts the bytes of a script that is short enough
pub bytes_fit : (script bytes : List ℕ) (i : ℕ) (splitter : Splitting) → StandsAfter (script ++ take i bytes) splitter → i < length bytes
    → length script + length bytes < 2 ^ 63 → bytes_read splitter < 2 ^ 63
bytes_fit script bytes i splitter stands within short =
    omega (arith, short, within, stands.end ∙ length-append script (take i bytes), length-take-le i bytes (omega (arith, within)))

-- a source that gave fewer bytes than that gave such a script
pub read_short : (a b c : SourceState) (read piece : List ℕ) → Gives a b read → Gives b c piece → c.given < 2 ^ 63 → length read + length piece < 2 ^ 63
read_short a b c read piece p q short = omega (arith, p.given, q.given, short)

-- ---- the script's end

whole_sink : ¬ (Whole ≡ Sink)
whole_sink e = cc

whole_memory : ¬ (Whole ≡ Wanting)
whole_memory e = cc

sink_memory : ¬ (Sink ≡ Wanting)
sink_memory e = cc

memory_sink : ¬ (Wanting ≡ Sink)
memory_sink e = cc

module _ (Answered : AnswerRule) (first now now' : Reached) (script : List ℕ) (marks marks' : List Mark) (told : List Statement)
    (all : statements script ≡ closed_statements script ++ told) (so_far : HasAnswered Answered first now (closed_statements script) marks) where
  pub ends_whole : GoesOn Answered now now' marks marks' told (Ok tt) → EndsServing Answered first now' script marks' Whole
  ends_whole goes =
      let answered : HasAnswered Answered first now' (statements script) marks' =
      subst (λ (ss : List Statement). HasAnswered Answered first now' ss marks') (sym all) (goes first (closed_statements script) so_far) in
      record { written = answered.written; takes = answered.takes; replies = (refl, answered.answers); fault = λ e. absurd (whole_sink e); memory = λ e. absurd (whole_memory e) }

  ends_early : (stopped : Stopped) → HasStopped Answered first now' (statements script) marks' stopped → EndsServing Answered first now' script marks' (end_of stopped)
  ends_early Fault stops =
      record { written = stops.written; takes = stops.takes; replies = stops.answers; fault = λ e. stops.fault refl; memory = λ e. absurd (sink_memory e) }
  ends_early Memory stops = record { written = stops.written; takes = stops.takes; replies = stops.answers; fault = λ e. absurd (memory_sink e); memory = λ e. stops.memory refl }

  pub ends_stopped : (stopped : Stopped) → GoesOn Answered now now' marks marks' told (Err stopped) → EndsServing Answered first now' script marks' (end_of stopped)
  ends_stopped stopped goes =
      ends_early stopped (subst (λ (ss : List Statement). HasStopped Answered first now' ss marks' stopped) (sym all) (goes first (closed_statements script) so_far))

-- ---- the session's end

pieces_of : (read bytes done unread : List ℕ) → bytes ≡ done ++ unread → read ++ bytes ≡ (read ++ done) ++ unread
pieces_of read bytes done unread is = ap (λ (x : List ℕ). read ++ x) is ∙ sym (append_assoc read done unread)

-- nothing is done yet
pub nothing_yet : (Answered : AnswerRule) (now : Reached) (marks : List Mark) → marks ≡ [] → HasAnswered Answered now now [] marks
nothing_yet Answered now marks none =
    subst (λ (ms : List Mark). HasAnswered Answered now now [] ms) (sym none) (record {
      written = [];
      takes = Takes-nothing now.sink;
      answers = record { texts = []; each = refl; whole = refl };
      place = refl;
    })

module _ (Answered : AnswerRule) (source source' : SourceState) (first now : Reached) (marks : List Mark) where
  -- the source's end was met
  serves_whole : (read more : List ℕ) (end : SessionEnd) → Gives source source' (read ++ more) → more ≡ [] → IsAtEnd source'.left
      → EndsServing Answered first now read marks end → Serves Answered first.seen first.last now.seen source source' first.sink now.sink marks end
  serves_whole read more end gives none at_end ends = record {
    read = read;
    unread = more;
    is_whole = true;
    written = ends.written;
    gives = gives;
    takes = ends.takes;
    replies = ends.replies;
    at_end = λ whole. (at_end, none);
    source_fault = λ is.
        let other = subst (λ (e : SessionEnd). Replies Answered first.seen first.last now.seen e true read marks ends.written) is ends.replies in absurd (cc (other.0));
    sink_fault = ends.fault;
    memory = ends.memory;
  }

  -- it stopped within the bytes that came last
  serves_stopped : (read bytes : List ℕ) (stopped : Stopped) → Gives source source' (read ++ bytes) → StopsWithin Answered first now read bytes marks stopped
      → Serves Answered first.seen first.last now.seen source source' first.sink now.sink marks (end_of stopped)
  serves_stopped read bytes Fault gives stops = record {
    read = read ++ stops.done;
    unread = stops.unread;
    is_whole = false;
    written = stops.stops.written;
    gives = subst (Gives source source') (pieces_of read bytes stops.done stops.unread stops.pieces) gives;
    takes = stops.stops.takes;
    replies = stops.stops.answers;
    at_end = λ whole. absurd (cc (whole));
    source_fault = λ is. absurd (cc (is));
    sink_fault = λ is. stops.stops.fault refl;
    memory = λ is. absurd (cc (is));
  }
  serves_stopped read bytes Memory gives stops = record {
    read = read ++ stops.done;
    unread = stops.unread;
    is_whole = false;
    written = stops.stops.written;
    gives = subst (Gives source source') (pieces_of read bytes stops.done stops.unread stops.pieces) gives;
    takes = stops.stops.takes;
    replies = stops.stops.answers;
    at_end = λ whole. absurd (cc (whole));
    source_fault = λ is. absurd (cc (is));
    sink_fault = λ is. absurd (cc (is));
    memory = λ is. stops.stops.memory refl;
  }

  -- it ended with a piece, which is empty at the script's end
  pub serves_ended : (read bytes : List ℕ) (splitter : Splitting) (end : SessionEnd) → Gives source source' (read ++ bytes)
      → (bytes ≡ [] → IsAtEnd source'.left) → HasTaken Answered first now read bytes splitter marks (Some end)
      → Serves Answered first.seen first.last now.seen source source' first.sink now.sink marks end
  serves_ended read bytes splitter end gives at_end (inl whole) = serves_whole read bytes end gives whole.0 (at_end whole.0) whole.1
  serves_ended read bytes splitter end gives at_end (inr stopped) =
      subst (λ (e : SessionEnd). Serves Answered first.seen first.last now.seen source source' first.sink now.sink marks e) (sym stopped.1)
      (serves_stopped read bytes stopped.0 gives stopped.2)

  -- the source failed
  pub serves_early : (read : List ℕ) (splitter : Splitting) → Gives source source' (read ++ []) → Rose source.faults source'.faults
      → IsServing Answered first now read splitter marks → Serves Answered first.seen first.last now.seen source source' first.sink now.sink marks Source
  serves_early read splitter gives rose serving = record {
    read = read;
    unread = [];
    is_whole = false;
    written = serving.answered.written;
    gives = gives;
    takes = serving.answered.takes;
    replies = (refl, serving.answered.answers);
    at_end = λ whole. absurd (cc (whole));
    source_fault = λ is. (rose, refl);
    sink_fault = λ is. absurd (cc (is));
    memory = λ is. absurd (cc (is));
  }

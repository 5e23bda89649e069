-- What a session's streams show at its end.
use Rattle.std.specs.Prelude.{◌≡◌, ◌⊎◌, ℕ, Bool, true, List, [], ◌++◌, Some, IfSome}
use Rattle.std.specs.Io.KnownBytes.{IsAtEnd}
use Rattle.afl_outside.specs.Counts.{Rose}
use Rattle.afl_outside.specs.Source.{SourceState}
use Rattle.afl_outside.specs.Sink.{SinkState}
use Rattle.afl_outside.specs.Shelf.{ShelfState}
use Rattle.session_threads.specs.Session.{AnswerRule, LeavesOne, Replies, decided}
use Rattle.store_state.specs.declared.state.event.Event.{Event}
use Rattle.run_opening.specs.Names.{Word, reply_name}
use Rattle.run_opening.specs.declared.reports.reports.Mark.{Mark}
use Rattle.run_opening.specs.declared.reports.reports.SessionEnd.{SessionEnd}
use Rattle.run_opening.specs.declared.reports.reports.SessionEnd.TheVariants.{Source, Sink, Memory}

-- the source has the name of the script, and the sink that of its reply, where they tell names; and they began as the shelf told
pub record IsOpenedAs (shelf : ShelfState) (script : Word) (source : SourceState) (sink : SinkState) : Type 0 where
  pub source_name : IfSome source.name (λ told. told ≡ script)
  pub sink_name : IfSome sink.name (λ told. told ≡ reply_name script)
  pub source_first : IfSome (shelf.scripts script) (λ bytes. source.first ≡ Some bytes)
  pub sink_first : IfSome (shelf.replies (reply_name script)) (λ bytes. sink.first ≡ Some bytes)

-- What was read, and what was not looked at, are the script without the bytes that the source has left. Behind its first bytes the sink holds what was
-- written. The statements are answered in order, from what the session had seen at first to what it had seen at its end.
pub record Prints (Answered : AnswerRule) (old : List Event) (last : ℕ) (new : List Event) (source : SourceState) (sink : SinkState) (marks : List Mark)
    (end : SessionEnd) : Type 0 where
  pub read : List ℕ
  pub unread : List ℕ
  pub is_whole : Bool
  pub written : List ℕ
  pub script : IfSome source.first (λ script. (left : List ℕ) × (source.left ≡ Some left) × (script ≡ (read ++ unread) ++ left))
  pub text : IfSome sink.first (λ begun. sink.held ≡ Some (begun ++ written))
  pub replies : Replies Answered old last new end is_whole read marks written
  pub at_end : is_whole ≡ true → IsAtEnd source.left × (unread ≡ [])
  pub source_fault : end ≡ Source → Rose 0 source.faults × (unread ≡ [])
  pub sink_fault : end ≡ Sink → Rose 0 sink.faults
  pub memory : end ≡ Memory → Rose 0 sink.wants ⊎ LeavesOne Answered old last new (decided is_whole read) marks written

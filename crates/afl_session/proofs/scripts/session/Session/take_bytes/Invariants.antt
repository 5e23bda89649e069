use Rattle.std.proofs.Common.{◌≡◌, ℕ, List, ◌++◌, take}
use Rattle.afl_lexer.specs.Split.{closed_statements}
use Rattle.afl_lexer.specs.Inner.Standing.{StandsAfter}
use Rattle.snapshot_manager.specs.Seats.{last_place, seen, session_of, start, HoldsNone, IsIdle, IsSeatOf}
use Rattle.afl_session.specs.Inner.Serving.{HasAnswered, Reached, reached}
use Rattle.afl_session.specs.Marked.{IsMarked}
use Rattle.afl_session.proofs.scripts.session.Session.take_bytes.Given as goal

-- the bytes so far were pushed, and the statements that they ended are answered
abbrev pub invariant-loop-byte : goal.invariant-loop-byte
invariant-loop-byte g l = record {
  seat : IsSeatOf l.shared l.seat × IsIdle l.seat;
  none : HoldsNone g.D.Disk.moment l.shared l.seat;
  same : session_of l.seat ≡ session_of l.fn.seat;
  stands : (script : List ℕ) → StandsAfter script l.fn.self.splitter → StandsAfter (script ++ take l.byte-index l.bytes) l.self.splitter;
  answered : (session : ℕ) (first : Reached) (script : List ℕ) → session_of l.fn.seat ≡ session → StandsAfter script l.fn.self.splitter
      → HasAnswered (IsMarked l.options.style g.D.Disk.moment (start g.D.Disk.moment l.shared) session) first
      (reached (seen l.fn.seat) (last_place l.fn.seat) (g.K.Sink.state l.fn.self.sink)) (closed_statements script) l.fn.self.marks.items
      → HasAnswered (IsMarked l.options.style g.D.Disk.moment (start g.D.Disk.moment l.shared) session) first
      (reached (seen l.seat) (last_place l.seat) (g.K.Sink.state l.self.sink)) (closed_statements (script ++ take l.byte-index l.bytes)) l.self.marks.items;
}

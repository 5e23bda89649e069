use Rattle.std.proofs.Common.{◌≡◌, ◌-◌, ◌^◌, ℕ, List}
use Rattle.afl_outside.specs.Source.{Gives}
use Rattle.snapshot_manager.specs.Seats.{last_place, seen, session_of, start, HoldsNone, IsIdle, IsSeatOf}
use Rattle.afl_session.specs.Inner.Serving.{IsServing, reached}
use Rattle.afl_session.specs.Marked.{IsMarked}
use Rattle.afl_session.proofs.scripts.session.converse.Given as goal

-- what was read so far is answered so far
abbrev pub invariant-pieces : goal.invariant-pieces
invariant-pieces g l = record {
  seat : IsSeatOf l.shared l.seat × IsIdle l.seat;
  none : HoldsNone g.D.Disk.moment l.shared l.seat;
  same : session_of l.seat ≡ session_of l.fn.seat;
  serving : (read : List ℕ) × Gives (g.S.Source.state l.fn.source) (g.S.Source.state l.source) read
      × IsServing (IsMarked l.options.style g.D.Disk.moment (start g.D.Disk.moment l.shared) (session_of l.fn.seat))
      (reached (seen l.fn.seat) (last_place l.fn.seat) (g.K.Sink.state l.fn.session.sink)) (reached (seen l.seat) (last_place l.seat) (g.K.Sink.state l.session.sink))
      read l.session.splitter l.session.marks.items;
}

-- a source gives fewer than 2 ^ 63 bytes
abbrev pub decreases-pieces : goal.decreases-pieces
decreases-pieces g l = 2 ^ 63 - (g.S.Source.state l.source).given

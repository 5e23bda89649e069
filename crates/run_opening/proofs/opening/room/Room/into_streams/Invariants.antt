use Rattle.std.proofs.Common.{◌≡◌, ◌≤◌, ◌+◌, ◌++◌, length, vec_capacity}
use Rattle.run_opening.specs.Inner.Rooms.{streams_of}
use Rattle.run_opening.proofs.opening.room.Room.into_streams.Given as goal

abbrev pub invariant-loop-sources : goal.invariant-loop-sources
invariant-loop-sources g l = record {
  joined : l.streams.items ++ streams_of l.sources.items l.sinks.items l.splitters.items
      ≡ streams_of l.fn.self.sources.items l.fn.self.sinks.items l.fn.self.splitters.items;
  sinks : length l.sinks.items ≡ length l.sources.items;
  splitters : length l.splitters.items ≡ length l.sources.items;
  room : length l.streams.items + length l.sources.items ≤ vec_capacity l.streams;
}

abbrev pub decreases-loop-sources : goal.decreases-loop-sources
decreases-loop-sources g l = length l.sources.items

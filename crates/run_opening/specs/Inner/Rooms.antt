-- The room of all sessions.
use Rattle.std.specs.Prelude.{◌≡◌, ◌≤◌, List, [], ◌∷◌, length, map, vec_capacity}
use Rattle.std.specs.List.{AllByRecursion}
use Rattle.afl_lexer.specs.Inner.Standing.{Splitting, StandsAfter}
use Rattle.run_opening.specs.declared.reports.reports.Streams.{Streams}
use Rattle.run_opening.specs.Names.{Word, reply_name}
use Rattle.run_opening.specs.declared.opening.room.Room.{Room}

-- it has room for the streams of so many scripts, the names of their replies, and fresh splitters
pub record HasRoom {S K : Type 0} (scripts : List Word) (room : Room S K) : Type 0 where
  pub names : room.replies.items ≡ map reply_name scripts
  pub no_sources : room.sources.items ≡ []
  pub no_sinks : room.sinks.items ≡ []
  pub no_streams : room.streams.items ≡ []
  pub source_room : length scripts ≤ vec_capacity room.sources
  pub sink_room : length scripts ≤ vec_capacity room.sinks
  pub stream_room : length scripts ≤ vec_capacity room.streams
  pub fresh : AllByRecursion (StandsAfter []) room.splitters.items
  pub enough : length room.splitters.items ≡ length scripts

-- to each source its sink and a splitter
abbrev pub streams_of : {S K : Type 0} → List S → List K → List Splitting → List (Streams S K)
streams_of (source ∷ sources) (sink ∷ sinks) (splitter ∷ splitters) =
    record { source = source; sink = sink; splitter = splitter } ∷ streams_of sources sinks splitters
streams_of _ _ _ = []

-- What sources and sinks in memory are, and what their calls do.
use Rattle.std.specs.Prelude.{◌≡◌, ℕ, ◌+◌, ◌++◌, List, [], drop, take, length, min, Some, Result, Ok, Err, ◌⊎◌}
use Rattle.afl_outside.specs.Counts.{risen}
use Rattle.afl_outside.specs.Turns.{Turns, no_turns, IsListed, passed, failed}
use Rattle.afl_outside.specs.Source.{SourceState}
use Rattle.afl_outside.specs.Sink.{SinkState}
use Rattle.afl_outside.specs.declared.source.Failed.{Failed}

-- Bytes that are read: those with which the source began, those that are left, and how many it has given.
pub record Reading : Type 0 where
  pub first : List ℕ
  pub left : List ℕ
  pub given : ℕ

-- nothing is given yet
abbrev pub unread : List ℕ → Reading
unread content = record { first = content; left = content; given = 0 }

-- n bytes more are given
abbrev pub read_on : ℕ → Reading → Reading
read_on n r = record r { left = drop n r.left; given = r.given + n }

-- the piece begins with the next n bytes, which are as many as fit
pub record ReadsPiece (old : Reading) (n : ℕ) (into : List ℕ) : Type 0 where
  pub most : n ≡ min (length into) (length old.left)
  pub bytes : take n into ≡ take n old.left

-- a source in memory whose reads may fail
pub record MemorySource : Type 0 where
  pub name : List ℕ
  pub bytes : Reading
  pub turns : Turns

-- one that has given nothing
abbrev pub new_source : List ℕ → List ℕ → List ℕ → MemorySource
new_source name content fails = record { name = name; bytes = unread content; turns = no_turns fails }

-- A read gives as much as fits. It fails exactly where its number is listed, and then gives nothing.
abbrev pub MemoryReads : List ℕ → MemorySource → MemorySource → Result ℕ Failed → Type 0
MemoryReads into old new (Ok n) = ¬ IsListed old.turns × ReadsPiece old.bytes n into
    × (new ≡ record old { bytes = read_on n old.bytes; turns = passed old.turns })
MemoryReads into old new (Err e) = IsListed old.turns × (new ≡ record old { turns = failed old.turns })

-- a source that never fails gives as much as fits
abbrev pub SureReads : List ℕ → Reading → Reading → Result ℕ Failed → Type 0
SureReads into old new (Ok n) = ReadsPiece old n into × (new ≡ read_on n old)
SureReads into old new (Err e) = ⊥

-- what a source with these bytes tells
abbrev pub told_source : List ℕ → Reading → ℕ → SourceState
told_source name r faults = record { name = Some name; first = Some r.first; left = Some r.left; given = r.given; faults = faults }

abbrev pub memory_source_state : MemorySource → SourceState
memory_source_state s = told_source s.name s.bytes s.turns.faults

abbrev pub sure_source_state : Reading → SourceState
sure_source_state r = told_source [] r 0

-- Bytes that are written: those with which the sink began, those that it holds, and how often it has found no memory.
pub record Holding : Type 0 where
  pub first : List ℕ
  pub held : List ℕ
  pub wants : ℕ

-- nothing is written yet
abbrev pub unwritten : List ℕ → Holding
unwritten content = record { first = content; held = content; wants = 0 }

-- these bytes more are held
abbrev pub written_on : List ℕ → Holding → Holding
written_on bytes h = record h { held = h.held ++ bytes }

-- no memory was found for more
abbrev pub starved : Holding → Holding
starved h = record h { wants = risen h.wants }

-- a sink in memory whose writes may fail
pub record MemorySink : Type 0 where
  pub name : List ℕ
  pub bytes : Holding
  pub turns : Turns

-- one to which nothing was written
abbrev pub new_sink : List ℕ → List ℕ → List ℕ → MemorySink
new_sink name content fails = record { name = name; bytes = unwritten content; turns = no_turns fails }

-- A write takes the whole piece. It takes nothing where its number is listed, or where no memory is found.
abbrev pub MemoryWrites : List ℕ → MemorySink → MemorySink → Result ℕ Failed → Type 0
MemoryWrites piece old new (Ok n) = ¬ IsListed old.turns × (n ≡ length piece)
    × (new ≡ record old { bytes = written_on piece old.bytes; turns = passed old.turns })
MemoryWrites piece old new (Err e) = (IsListed old.turns × (new ≡ record old { turns = failed old.turns }))
    ⊎ (¬ IsListed old.turns × (new ≡ record old { bytes = starved old.bytes; turns = passed old.turns }))

-- a sink whose writes fail only where no memory is found
abbrev pub SureWrites : List ℕ → Holding → Holding → Result ℕ Failed → Type 0
SureWrites piece old new (Ok n) = (n ≡ length piece) × (new ≡ written_on piece old)
SureWrites piece old new (Err e) = new ≡ starved old

-- what a sink with these bytes tells
abbrev pub told_sink : List ℕ → Holding → ℕ → SinkState
told_sink name h faults = record { name = Some name; first = Some h.first; held = Some h.held; faults = faults; wants = h.wants }

abbrev pub memory_sink_state : MemorySink → SinkState
memory_sink_state s = told_sink s.name s.bytes s.turns.faults

abbrev pub sure_sink_state : Holding → SinkState
sure_sink_state h = told_sink [] h 0

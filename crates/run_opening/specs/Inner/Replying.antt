-- Why a script or a reply is not opened.
use Rattle.std.specs.Prelude.{◌≡◌, ◌⊎◌, ℕ, ◌+◌, List, map, take, None, IsSomeAnd, slice_get}
use Rattle.std.specs.List.{AllZip}
use Rattle.afl_outside.specs.Counts.{Rose}
use Rattle.afl_outside.specs.Sink.{SinkState, IsNewSink}
use Rattle.afl_outside.specs.Source.{SourceState}
use Rattle.afl_outside.specs.Shelf.{ShelfState}
use Rattle.run_opening.specs.declared.reports.notices.Notice.{Notice}
use Rattle.run_opening.specs.declared.reports.notices.Notice.TheVariants as notices
use Rattle.run_opening.specs.Names.{Word}
use Rattle.run_opening.specs.Opened.{HandsOut, LeavesUnasked, StopsAtScript}

-- the shelf found no memory, or it failed at the reply of a session, and hadn't told that it opens it
abbrev pub FailsAtReply : List Word → Notice → ShelfState → ShelfState → Type 0
FailsAtReply names notice old new = ((notice ≡ notices.Memory) × Rose old.wants new.wants)
    ⊎ ((session : ℕ) × (notice ≡ notices.Stream session) × Rose old.faults new.faults
    × IsSomeAnd (slice_get names session) (λ asked. old.replies asked ≡ None))

-- the reply of this session fails: those before it were opened, and nothing else was asked for
pub record StopsAtName {K : Type 0} (sink_state : K → SinkState) (names : List Word) (session : ℕ) (old new : ShelfState) : Type 0 where
  pub opened : List K
  pub before : AllZip IsNewSink (take session names) (map sink_state opened)
  pub untold : IsSomeAnd (slice_get names session) (λ reply. old.replies reply ≡ None)
  pub others : LeavesUnasked (take (session + 1) names) old new
  pub handed : HandsOut session old new

abbrev pub StopsAmong : {K : Type 0} → (K → SinkState) → List Word → ShelfState → ShelfState → Notice → Type 0
StopsAmong sink_state names old new (notices.Stream session) = StopsAtName sink_state names session old new
StopsAmong sink_state names old new notice = Unit {0}

abbrev pub StopsAmongScripts : {S : Type 0} → (S → SourceState) → List Word → ShelfState → ShelfState → Notice → Type 0
StopsAmongScripts source_state scripts old new (notices.Stream session) = StopsAtScript source_state scripts session old new
StopsAmongScripts source_state scripts old new notice = Unit {0}

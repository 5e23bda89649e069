-- What a run did once its device was opened.
use Rattle.std.specs.Prelude.{◌≡◌, ◌≢◌, ℕ, List, [], length, Option, IfSome, IsSomeAnd}
use Rattle.afl_outside.specs.Disk.{DiskGoesOn, DiskState, Moment}
use Rattle.afl_outside.specs.Source.{SourceState}
use Rattle.afl_outside.specs.Sink.{SinkState}
use Rattle.afl_outside.specs.Shelf.{ShelfState}
use Rattle.event_core.specs.declared.entry.Entry.{Entry}
use Rattle.page_chain.specs.Puts.{OnlySyncs}
use Rattle.store_state.specs.Standings.{Standing}
use Rattle.run_opening.specs.Names.{Word, stream_names}
use Rattle.run_opening.specs.Opened.{HandsOut, LeavesUnasked, StopsAt}
use Rattle.run_opening.specs.declared.reports.reports.SessionReport.{SessionReport}
use Rattle.run_opening.specs.declared.reports.notices.Notice.{Notice}
use Rattle.session_threads.specs.Style.{Style}
use Rattle.afl_run.specs.OneHistory.{IsOneHistory}
use Rattle.afl_run.specs.Run.{AreOfScripts, BeganFrom, CountsPages, HandsOutStreams, IsOfStore, TellsSessions, TellsUnrun, state_in}

-- a disk of whose calls none failed yet, and that reads as it began
pub record IsAsBegun (disk : DiskState) : Type 0 where
  pub seen : disk.seen ≡ disk.first
  pub faults : disk.faults ≡ 0

-- this is the disk, some calls later
abbrev pub GoesOn : {D : Type 0} → (D → Moment) → D → Option D → Type 0
GoesOn moment disk device = IsSomeAnd device (λ later. DiskGoesOn (moment disk).state (moment later).state)

module _ {D S K : Type 0} (style : Style) (moment : D → Moment) (source_state : S → SourceState) (sink_state : K → SinkState) (old new : ShelfState)
    (notice : Notice) (history : List Entry) (sessions : List (SessionReport S K)) (free : ℕ) where
  pub record RunsOn (disk : D) (scripts : List Word) (pages limit : ℕ) (device : Option D) : Type 0 where
    pub opened : AreOfScripts source_state sink_state old scripts sessions
    pub goes_on : GoesOn moment disk device
    pub others : LeavesUnasked (stream_names scripts) old new
    pub handed : HandsOutStreams 0 (length scripts) (length sessions) old new
    pub all : IsOfStore notice → HandsOut (length scripts) old new
    pub first : sessions ≡ [] → StopsAt source_state sink_state scripts old new notice
    pub unwritten : sessions ≡ [] → IfSome device (λ later. (moment later).state.seen ≡ (moment disk).state.seen)
    -- of the device only what happened to it is told here
    pub none : sessions ≡ [] → (history ≡ []) × CountsPages (BeganFrom moment pages limit device) notice free
        × ((asked : Word) → TellsUnrun notice asked scripts (state_in moment device) old new)
    pub told : TellsSessions notice sessions
    pub one : sessions ≢ [] → (store : Standing D) × IsOneHistory style moment source_state sink_state sessions notice history free store
        × BeganFrom moment pages limit device store × OnlySyncs (moment disk) (moment store.opened.disk)
    pub untouched : sessions ≡ [] → IfSome device (λ later. OnlySyncs (moment disk) (moment later))

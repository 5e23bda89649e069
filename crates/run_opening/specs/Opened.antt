-- What a run opens, and why something is not opened.
use Rattle.std.specs.Prelude.{◌≡◌, ◌≢◌, ◌⊎◌, ℕ, ◌+◌, ◌^◌, ◌<◌, ◌≤◌, List, [], ◌++◌, map, take, Option, None, Some, All, IfSome, IsSomeAnd, slice_get}
use Rattle.std.specs.List.{AllZip}
use Rattle.afl_lexer.specs.Inner.Standing.{StandsAfter}
use Rattle.afl_outside.specs.Counts.{Rose}
use Rattle.afl_outside.specs.Disk.{DiskState}
use Rattle.afl_outside.specs.Source.{SourceState, IsNewSource}
use Rattle.afl_outside.specs.Sink.{SinkState, IsNewSink}
use Rattle.afl_outside.specs.Shelf.{ShelfState}
use Rattle.run_opening.specs.declared.reports.notices.Notice.{Notice}
use Rattle.run_opening.specs.declared.reports.notices.Notice.TheVariants as notices
use Rattle.run_opening.specs.declared.reports.reports.Streams.{Streams}
use Rattle.run_opening.specs.Names.{Word, reply_name}

-- ---- streams

-- a source that was opened under this name, with the bytes that the shelf told
pub record IsSourceOf (shelf : ShelfState) (asked : Word) (source : SourceState) : Type 0 where
  pub new : IsNewSource asked source
  pub content : IfSome (shelf.scripts asked) (λ bytes. source.first ≡ Some bytes)

pub record IsSinkOf (shelf : ShelfState) (asked : Word) (sink : SinkState) : Type 0 where
  pub new : IsNewSink asked sink
  pub content : IfSome (shelf.replies asked) (λ bytes. sink.first ≡ Some bytes)

-- the streams of a script and its reply, of which nothing is read or written yet
pub record IsOpenedFor {S K : Type 0} (source_state : S → SourceState) (sink_state : K → SinkState) (shelf : ShelfState) (script : Word)
    (streams : Streams S K) : Type 0 where
  pub source : IsSourceOf shelf script (source_state streams.source)
  pub sink : IsSinkOf shelf (reply_name script) (sink_state streams.sink)
  pub splitter : StandsAfter [] streams.splitter

-- those of all scripts, in order
abbrev pub AreOpenedFor : {S K : Type 0} → (S → SourceState) → (K → SinkState) → ShelfState → List Word → List (Streams S K) → Type 0
AreOpenedFor source_state sink_state shelf = AllZip (IsOpenedFor source_state sink_state shelf)

-- ---- what a shelf tells of names that it was not asked for

-- calls that asked for these names leave what is told of others
pub record LeavesUnasked (asked : List Word) (old new : ShelfState) : Type 0 where
  pub scripts : (n : Word) → All (λ m. n ≢ m) asked → new.scripts n ≡ old.scripts n
  pub replies : (n : Word) → All (λ m. n ≢ m) asked → new.replies n ≡ old.replies n
  pub devices : (n : Word) → All (λ m. n ≢ m) asked → new.devices n ≡ old.devices n
  pub later : old.faults ≤ new.faults
  pub wants_later : old.wants ≤ new.wants

-- ---- what a shelf hands out that can be written, but where the count would come to its last value

abbrev pub HandsOut : ℕ → ShelfState → ShelfState → Type 0
HandsOut count old new = old.handed + count < 2 ^ 64 → new.handed ≡ old.handed + count

-- at most so many
abbrev pub HandsOutSome : ℕ → ShelfState → ShelfState → Type 0
HandsOutSome most old new = (count : ℕ) × (count ≤ most) × HandsOut count old new

-- ---- why not

-- a count of the shelf rose, which hadn't told that it opens the script and its reply
pub record IsUnopened (script : Word) (old new : ShelfState) : Type 0 where
  pub rose : Rose old.faults new.faults
  pub untold : (old.scripts script ≡ None) ⊎ (old.replies (reply_name script) ≡ None)

-- the shelf found no memory, or it failed at a name of which this was told
abbrev pub FailsFor : ℕ → Option (List ℕ) → Notice → ShelfState → ShelfState → Type 0
FailsFor session told notice old new =
    ((notice ≡ notices.Memory) × Rose old.wants new.wants) ⊎ ((notice ≡ notices.Stream session) × Rose old.faults new.faults × (told ≡ None))

-- the shelf found no memory, or a stream of this session was not opened
abbrev pub FailsToOpen : List Word → Notice → ShelfState → ShelfState → Type 0
FailsToOpen scripts notice old new = ((notice ≡ notices.Memory) × Rose old.wants new.wants)
    ⊎ ((session : ℕ) × (notice ≡ notices.Stream session) × IsSomeAnd (slice_get scripts session) (λ script. IsUnopened script old new))

-- ---- the first that fails decides: scripts are opened in order, and then replies in order

-- the script of this session fails: those before it were opened, and nothing else was asked for
pub record StopsAtScript {S : Type 0} (source_state : S → SourceState) (scripts : List Word) (session : ℕ) (old new : ShelfState) : Type 0 where
  pub opened : List S
  pub before : AllZip IsNewSource (take session scripts) (map source_state opened)
  pub untold : IsSomeAnd (slice_get scripts session) (λ script. old.scripts script ≡ None)
  pub others : LeavesUnasked (take (session + 1) scripts) old new
  pub replies : (n : Word) → new.replies n ≡ old.replies n
  pub handed : new.handed ≡ old.handed

-- its reply fails: all scripts were opened, and the replies before it, and nothing else was asked for
pub record StopsAtReply {S K : Type 0} (source_state : S → SourceState) (sink_state : K → SinkState) (scripts : List Word) (session : ℕ)
    (old new : ShelfState) : Type 0 where
  pub sources : List S
  pub scripts_opened : AllZip IsNewSource scripts (map source_state sources)
  pub sinks : List K
  pub before : AllZip IsNewSink (take session (map reply_name scripts)) (map sink_state sinks)
  pub untold : IsSomeAnd (slice_get (map reply_name scripts) session) (λ reply. old.replies reply ≡ None)
  pub others : LeavesUnasked (scripts ++ take (session + 1) (map reply_name scripts)) old new
  pub handed : HandsOut session old new

abbrev pub StopsAt : {S K : Type 0} → (S → SourceState) → (K → SinkState) → List Word → ShelfState → ShelfState → Notice → Type 0
StopsAt source_state sink_state scripts old new (notices.Stream session) =
    StopsAtScript source_state scripts session old new ⊎ StopsAtReply source_state sink_state scripts session old new
StopsAt source_state sink_state scripts old new notice = Unit {0}

-- ---- the device

-- the shelf found no memory, or it failed at the device, and hadn't told that it opens it
abbrev pub FailsToOpenDevice : Word → Notice → ShelfState → ShelfState → Type 0
FailsToOpenDevice asked notice old new = ((notice ≡ notices.Memory) × Rose old.wants new.wants)
    ⊎ ((notice ≡ notices.Disk) × Rose old.faults new.faults × (old.devices asked ≡ None))

-- a device has this name, where it tells names, and began as the shelf told
pub record IsOpenedDevice (asked : Word) (shelf : ShelfState) (disk : DiskState) : Type 0 where
  pub name_told : IfSome disk.name (λ told. told ≡ asked)
  pub content : IfSome (shelf.devices asked) (λ bytes. disk.first ≡ Some bytes)

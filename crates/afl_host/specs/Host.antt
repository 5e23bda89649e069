-- What the real streams and files tell: their counts, and nothing else.
use Rattle.std.specs.Prelude.{ℕ, None, false}
use Rattle.afl_outside.specs.Source.{SourceState}
use Rattle.afl_outside.specs.Sink.{SinkState}
use Rattle.afl_outside.specs.Disk.{DiskState, Moment}
use Rattle.afl_outside.specs.Shelf.{ShelfState}
use Rattle.afl_host.specs.declared.host_source.HostSource.{HostSource}
use Rattle.afl_host.specs.declared.host_sink.HostSink.{HostSink}
use Rattle.afl_host.specs.declared.host_disk.HostDisk.{HostDisk}
use Rattle.afl_host.specs.declared.host_shelf.HostShelf.{HostShelf}

abbrev pub untold_source : ℕ → ℕ → SourceState
untold_source given faults = record { name = None; first = None; left = None; given = given; faults = faults }

abbrev pub untold_sink : ℕ → SinkState
untold_sink faults = record { name = None; first = None; held = None; faults = faults; wants = 0 }

-- a disk that isn't honest
abbrev pub untold_disk : ℕ → DiskState
untold_disk faults = record { name = None; first = None; seen = None; honest = false; moment = 0; faults = faults; wants = 0 }

abbrev pub untold_shelf : ℕ → ℕ → ShelfState
untold_shelf handed faults = record { scripts = λ _. None; replies = λ _. None; devices = λ _. None; faults = faults; wants = 0; handed = handed }

abbrev pub host_source_state : HostSource → SourceState
host_source_state s = untold_source s.given s.faults

abbrev pub host_sink_state : HostSink → SinkState
host_sink_state s = untold_sink s.faults

abbrev pub host_disk_state : HostDisk → DiskState
host_disk_state d = untold_disk d.faults

-- a crash may leave anything, at any moment
abbrev pub host_disk_moment : HostDisk → Moment
host_disk_moment d = record { state = host_disk_state d; may_leave = λ _. Unit {0}; left_since = λ _ _. Unit {0} }

abbrev pub host_shelf_state : HostShelf → ShelfState
host_shelf_state s = untold_shelf s.handed s.faults

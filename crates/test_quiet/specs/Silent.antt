-- What a silent disk tells: its count of faults, and nothing else.
use Rattle.afl_outside.specs.Disk.{Moment}
use Rattle.afl_host.specs.Host.{untold_disk}
use Rattle.test_quiet.specs.declared.silent_disk.SilentDisk.{SilentDisk}

abbrev pub silent_moment : SilentDisk → Moment
silent_moment d = record { state = untold_disk d.faults; may_leave = λ _. Unit {0}; left_since = λ _ _. Unit {0} }

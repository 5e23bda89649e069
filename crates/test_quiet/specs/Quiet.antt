-- What a quiet disk tells: its count of faults, and nothing else.
use Rattle.afl_outside.specs.Disk.{Moment}
use Rattle.afl_host.specs.Host.{untold_disk}
use Rattle.test_quiet.specs.declared.quiet_disk.QuietDisk.{QuietDisk}

abbrev pub quiet_moment : QuietDisk → Moment
quiet_moment d = record { state = untold_disk d.faults; may_leave = λ _. Unit {0}; left_since = λ _ _. Unit {0} }

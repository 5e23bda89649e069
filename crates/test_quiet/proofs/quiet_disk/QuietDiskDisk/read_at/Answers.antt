use Rattle.test_quiet.proofs.Untold.{untold_time}
use Rattle.test_quiet.proofs.quiet_disk.QuietDiskDisk.read_at.Goals as goal

pub returns-in-Ok-read_at-clause-time : goal.returns-in-Ok-read_at-clause-time
returns-in-Ok-read_at-clause-time c = untold_time

pub returns-clause-time : goal.returns-clause-time
returns-clause-time c = untold_time

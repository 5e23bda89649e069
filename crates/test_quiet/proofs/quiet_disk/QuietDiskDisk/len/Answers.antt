use Rattle.test_quiet.proofs.Untold.{untold_time}
use Rattle.test_quiet.proofs.quiet_disk.QuietDiskDisk.len.Goals as goal

pub returns-in-Ok-len-clause-time : goal.returns-in-Ok-len-clause-time
returns-in-Ok-len-clause-time c = untold_time

pub returns-clause-time : goal.returns-clause-time
returns-clause-time c = untold_time

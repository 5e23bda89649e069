use Rattle.test_quiet.proofs.Untold.{untold_time}
use Rattle.test_quiet.proofs.quiet_disk.QuietDiskDisk.sync.Goals as goal

pub returns-in-Ok-sync-clause-time : goal.returns-in-Ok-sync-clause-time
returns-in-Ok-sync-clause-time c = untold_time

pub returns-clause-time : goal.returns-clause-time
returns-clause-time c = untold_time

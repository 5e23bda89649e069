use Rattle.test_quiet.proofs.Untold.{untold_time}
use Rattle.test_quiet.proofs.silent_disk.SilentDiskDisk.read_at.Goals as goal

pub returns-in-Ok-clause-time : goal.returns-in-Ok-clause-time
returns-in-Ok-clause-time c = untold_time

pub returns-in-Err-clause-time : goal.returns-in-Err-clause-time
returns-in-Err-clause-time c = untold_time

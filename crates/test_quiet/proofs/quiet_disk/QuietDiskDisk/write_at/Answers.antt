use Rattle.std.proofs.Common.{length}
use Rattle.afl_outside.specs.Lemmas.TornLaws.{Torn-same}
use Rattle.test_quiet.proofs.Untold.{untold_time}
use Rattle.test_quiet.proofs.quiet_disk.QuietDiskDisk.write_at.Goals as goal

pub returns-in-Ok-write_at-clause-crash : goal.returns-in-Ok-write_at-clause-crash
returns-in-Ok-write_at-clause-crash c = λ left any. (left, tt, Torn-same c.args.at (length c.args.bytes.now) left)

pub returns-clause-crash : goal.returns-clause-crash
returns-clause-crash c = λ left any. (left, tt, Torn-same c.args.at (length c.args.bytes.now) left)

pub returns-in-Ok-write_at-clause-time : goal.returns-in-Ok-write_at-clause-time
returns-in-Ok-write_at-clause-time c = untold_time

pub returns-clause-time : goal.returns-clause-time
returns-clause-time c = untold_time

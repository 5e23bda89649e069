use Rattle.std.proofs.Common.{arith}
use Rattle.backup_format.specs.Table.{backup_in}
use Rattle.backup_format.proofs.ItemLaws.{read_is_spelled}
use Rattle.backup_format.specs.PiecePlaces.{arrays_in}
use Rattle.backup_format.proofs.VersionLaws.{bad_is, only_found, only_stopped}
use Rattle.backup_format.proofs.backup.decode_backup.Goals as goal

pub returns-in-Ok-clause-rules : goal.returns-in-Ok-clause-rules
returns-in-Ok-clause-rules c = (read_is_spelled c.args.bytes.now (arrays_in c.args.bytes.now c.in-Ok.arrays) (λ i. omega (arith, c.type_inv.bytes i)) c.in-Ok.ensures).0

pub returns-in-Ok-clause-spelled : goal.returns-in-Ok-clause-spelled
returns-in-Ok-clause-spelled c = (read_is_spelled c.args.bytes.now (arrays_in c.args.bytes.now c.in-Ok.arrays) (λ i. omega (arith, c.type_inv.bytes i)) c.in-Ok.ensures).1

pub returns-in-Ok-clause-only : goal.returns-in-Ok-clause-only
returns-in-Ok-clause-only c = λ all good e. only_found c.args.bytes.now c.in-Ok.arrays all good e c.in-Ok.ensures

pub returns-in-Err-clause-only : goal.returns-in-Err-clause-only
returns-in-Err-clause-only c = λ all good e. only_stopped c.args.bytes.now c.bad_backup.result c.in-Err.stop all good e c.bad_backup.ensures c.in-Err.ensures

pub returns-in-Err-clause-exact : goal.returns-in-Err-clause-exact
returns-in-Err-clause-exact c = bad_is c.bad_backup.result c.args.bytes.now c.in-Err.stop (backup_in c.args.bytes.now) c.bad_backup.ensures c.in-Err.ensures

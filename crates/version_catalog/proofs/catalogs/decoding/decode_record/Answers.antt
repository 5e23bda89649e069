use Rattle.std.proofs.Common.{arith}
use Rattle.version_catalog.specs.Table.{record_in}
use Rattle.version_catalog.proofs.RuleLaws.{record_keeps_rules, record_is_spelled, record_again}
use Rattle.version_catalog.proofs.Telling.{told_is, only_found, only_stopped}
use Rattle.version_catalog.proofs.catalogs.decoding.decode_record.Goals as goal

pub returns-in-Ok-clause-rules : goal.returns-in-Ok-clause-rules
returns-in-Ok-clause-rules c = record_keeps_rules c.args.bytes.now c.in-Ok.entry (λ i. omega (arith, c.type_inv.bytes i)) c.in-Ok.ensures

pub returns-in-Ok-clause-spelled : goal.returns-in-Ok-clause-spelled
returns-in-Ok-clause-spelled c = record_is_spelled c.args.bytes.now c.in-Ok.entry (λ i. omega (arith, c.type_inv.bytes i)) c.in-Ok.ensures

pub returns-in-Ok-clause-only : goal.returns-in-Ok-clause-only
returns-in-Ok-clause-only c = λ x is e. only_found c.args.bytes.now (record_in c.args.bytes.now) c.in-Ok.entry x (record_again c.args.bytes.now x is e) c.in-Ok.ensures

pub returns-in-Err-clause-only : goal.returns-in-Err-clause-only
returns-in-Err-clause-only c = λ x is e. only_stopped c.args.bytes.now (record_in c.args.bytes.now) c.told.result c.in-Err.stop x (record_again c.args.bytes.now x is e) c.told.ensures c.in-Err.ensures

pub returns-in-Err-clause-exact : goal.returns-in-Err-clause-exact
returns-in-Err-clause-exact c = told_is c.told.result c.args.bytes.now c.in-Err.stop (record_in c.args.bytes.now) c.told.ensures c.in-Err.ensures

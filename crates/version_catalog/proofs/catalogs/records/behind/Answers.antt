use Rattle.std.proofs.Common.{arith}
use Rattle.version_catalog.proofs.Fields.{other_kind}
use Rattle.version_catalog.proofs.catalogs.records.behind.Goals as goal

pub returns-in_default : goal.returns-in_default
returns-in_default c =
    other_kind c.args.kind c.args.bytes.now (λ e. omega arith) (λ e. omega arith) (λ e. omega arith) (λ e. omega arith) (λ e. omega arith)

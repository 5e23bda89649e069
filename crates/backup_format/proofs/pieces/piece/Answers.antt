use Rattle.std.proofs.Common.{arith}
use Rattle.std.specs.Option.{option_copied}
use Rattle.backup_format.proofs.PieceLaws.{core_read}
use Rattle.backup_format.proofs.pieces.piece.Goals as goal

pub payload-requires-clause-core : goal.payload-requires-clause-core
payload-requires-clause-core c =
    core_read c.args.schema.now.dimensions c.as_slice.result.now (option_copied c.args.before) c.args.bytes.now c.in-Ok.at.items c.in-Ok.rest.now c.as_slice.ensures (λ i. omega (arith, c.type_inv.bytes i)) c.in-Ok.ensures

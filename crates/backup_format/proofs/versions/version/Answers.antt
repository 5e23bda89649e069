use Rattle.std.proofs.Common.{◌<◌, ◌^◌, ℕ, arith}
use Rattle.std.specs.Int.{w32, to_le_bytes}
use Rattle.file_items.specs.Items.{number_at}
use Rattle.file_items.proofs.BytesLaws.{exact32, number_reads}
use Rattle.backup_format.proofs.Ends.{end_after}
use Rattle.backup_format.proofs.versions.version.Goals as goal

pub pieces-requires-clause-end : goal.pieces-requires-clause-end
pieces-requires-clause-end c =
    end_after (number_at w32) (to_le_bytes w32) (λ (n : ℕ). n < 2 ^ 32) (number_reads w32 (2 ^ 32) exact32) c.args.whole.now c.args.bytes.now c.in-Ok.read.0 c.in-Ok.read.1.now (λ i. omega (arith, c.type_inv.whole i)) c.requires.end c.in-Ok.ensures.read

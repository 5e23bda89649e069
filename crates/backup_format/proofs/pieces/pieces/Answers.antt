use Rattle.std.proofs.Common.{◌<◌, ◌^◌, ℕ, arith}
use Rattle.std.specs.Int.{w64, to_le_bytes}
use Rattle.file_items.specs.Items.{number_at}
use Rattle.file_items.proofs.BytesLaws.{exact64, number_reads}
use Rattle.backup_format.proofs.Ends.{end_after}
use Rattle.backup_format.proofs.pieces.pieces.Goals as goal

pub pieces_from-requires-clause-end : goal.pieces_from-requires-clause-end
pieces_from-requires-clause-end c =
    end_after (number_at w64) (to_le_bytes w64) (λ (n : ℕ). n < 2 ^ 64) (number_reads w64 (2 ^ 64) exact64) c.args.whole.now c.args.bytes.now c.in-Ok.read.0 c.in-Ok.read.1.now (λ i. omega (arith, c.type_inv.whole i)) c.requires.end c.in-Ok.ensures.read

pub fit_together-requires-clause-cores : goal.fit_together-requires-clause-cores
fit_together-requires-clause-cores c = rw c.as_slice.ensures c.in-Ok-pieces_from.ensures.cores

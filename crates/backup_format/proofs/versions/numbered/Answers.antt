use Rattle.std.proofs.Common.{◌<◌, ◌^◌, ℕ, arith}
use Rattle.std.specs.Int.{w32, to_le_bytes}
use Rattle.file_items.specs.Items.{number_at}
use Rattle.file_items.proofs.BytesLaws.{AreBytes, exact32, number_reads}
use Rattle.backup_format.proofs.Ends.{end_after}
use Rattle.backup_format.proofs.versions.numbered.Goals as goal

pub versions-requires-clause-end : goal.versions-requires-clause-end
versions-requires-clause-end c =
    let small : AreBytes c.args.whole.now = λ i. omega (arith, c.type_inv.whole i) in
    let first = end_after (number_at w32) (to_le_bytes w32) (λ (n : ℕ). n < 2 ^ 32) (number_reads w32 (2 ^ 32) exact32) c.args.whole.now c.args.bytes.now c.in-Ok.read.0 c.in-Ok.read.1.now small c.requires.end c.in-Ok.ensures.read in
    end_after (number_at w32) (to_le_bytes w32) (λ (n : ℕ). n < 2 ^ 32) (number_reads w32 (2 ^ 32) exact32) c.args.whole.now c.in-Ok.read.1.now c.in-Ok-u32_at.read.0 c.in-Ok-u32_at.read.1.now small first c.in-Ok-u32_at.ensures.read

use Rattle.std.proofs.Common.{◌<◌, ◌^◌, ℕ, List, arith}
use Rattle.std.specs.Int.{w32, to_le_bytes}
use Rattle.file_items.specs.Items.{number_at}
use Rattle.file_items.proofs.BytesLaws.{AreBytes, exact32, number_reads}
use Rattle.backup_format.specs.Spelling.{text}
use Rattle.backup_format.proofs.ItemLaws.{IsText, text_reads}
use Rattle.backup_format.specs.PiecePlaces.{text_at}
use Rattle.backup_format.proofs.Ends.{end_after, whole_ends}
use Rattle.backup_format.proofs.arrays.arrays.Goals as goal

pub arrays_from-requires : goal.arrays_from-requires
arrays_from-requires c =
    let small : AreBytes c.args.bytes.now = λ i. omega (arith, c.type_inv.bytes i) in
    let begun = end_after text_at (λ (begins : List ℕ). begins) IsText text_reads c.args.bytes.now c.args.bytes.now text c.in-Ok.rest.now small (whole_ends c.args.bytes.now) c.in-Ok.ensures in
    end_after (number_at w32) (to_le_bytes w32) (λ (n : ℕ). n < 2 ^ 32) (number_reads w32 (2 ^ 32) exact32) c.args.bytes.now c.in-Ok.rest.now c.in-Ok-u32_at.read.0 c.in-Ok-u32_at.read.1.now small begun c.in-Ok-u32_at.ensures.read

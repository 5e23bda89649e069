use Rattle.std.proofs.Common.{arith}
use Rattle.file_items.specs.Spelling.{spell_name}
use Rattle.file_items.specs.Table.{name_at}
use Rattle.file_items.proofs.SchemasLaws.{IsSpelledName, name_reads}
use Rattle.backup_format.proofs.Ends.{end_after}
use Rattle.backup_format.proofs.arrays.array.Goals as goal

pub content-requires : goal.content-requires
content-requires c =
    end_after name_at spell_name IsSpelledName name_reads c.args.whole.now c.args.bytes.now c.in-Ok.name c.in-Ok.rest.now (λ i. omega (arith, c.type_inv.whole i)) c.requires c.in-Ok.ensures

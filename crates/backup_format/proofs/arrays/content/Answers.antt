use Rattle.std.proofs.Common.{arith}
use Rattle.file_items.specs.Spelling.{spell_schema}
use Rattle.file_items.specs.Table.{schema_at}
use Rattle.file_items.proofs.SchemasLaws.{ArePassed, passed_reads}
use Rattle.backup_format.proofs.Ends.{end_after}
use Rattle.backup_format.proofs.VersionLaws.{valid_read}
use Rattle.backup_format.proofs.arrays.content.Goals as goal

pub numbered-requires-clause-valid : goal.numbered-requires-clause-valid
numbered-requires-clause-valid c = valid_read c.args.bytes.now c.in-Ok.schema c.in-Ok.rest.now (λ i. omega (arith, c.type_inv.bytes i)) c.in-Ok.ensures

pub numbered-requires-clause-end : goal.numbered-requires-clause-end
numbered-requires-clause-end c =
    end_after schema_at spell_schema ArePassed passed_reads c.args.whole.now c.args.bytes.now c.in-Ok.schema c.in-Ok.rest.now (λ i. omega (arith, c.type_inv.whole i)) c.requires c.in-Ok.ensures

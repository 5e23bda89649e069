use Rattle.std.proofs.Common.{arith}
use Rattle.array_geom.specs.declared.chunk.Chunk.{Chunk}
use Rattle.chunk_rle.specs.Decoding.{Answers}
use Rattle.backup_format.specs.Table.{chunk_in}
use Rattle.file_checking.proofs.PayloadLaws.{wrong_spells_none}
use Rattle.file_checking.proofs.payloads.decoded.Goals as goal

pub returns-in-Err-At-clause-decoded : goal.returns-in-Err-At-clause-decoded
returns-in-Err-At-clause-decoded c =
    let reading = chunk_in c.args.schema.now c.args.entry.now.at.items c.args.bytes.now in
    let exact : Answers (λ (x : Chunk). x) c.decode.result c.args.bytes.now reading = c.decode.ensures.exact in
    (c.first_page.ensures, wrong_spells_none c.decode.result c.in-Err-At.field-0 c.args.bytes.now reading c.in-Err-At.field-0-0 c.in-Err-At.is c.in-Err-At.field-0-is exact)

pub returns-in-Ok-clause-small : goal.returns-in-Ok-clause-small
returns-in-Ok-clause-small c = λ i. omega (arith, c.type_inv.bytes i)

pub returns-in-Err-At-clause-small : goal.returns-in-Err-At-clause-small
returns-in-Err-At-clause-small c = λ i. omega (arith, c.type_inv.bytes i)

pub returns-in-Err-Memory-clause-small : goal.returns-in-Err-Memory-clause-small
returns-in-Err-Memory-clause-small c = λ i. omega (arith, c.type_inv.bytes i)

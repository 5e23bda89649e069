use Rattle.schema_grammar.proofs.SchemaAgain.{printed_reads}
use Rattle.schema_grammar.proofs.printer.schema_text.Goals as goal

pub returns-clause-read : goal.returns-clause-read
returns-clause-read c =
    printed_reads c.args.schema.now c.write_parts.result c.as_slice.result.now c.as_slice-2.result.now c.as_slice.ensures c.as_slice-2.ensures
    c.write_parts.ensures.text c.write_parts.ensures.attributes c.write_parts.ensures.dimensions

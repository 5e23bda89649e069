use Rattle.csv.specs.Records.{fields_of}
use Rattle.csv.specs.Writing.{writer_setup}
use Rattle.result_print.specs.Inner.Writers.{written}
use Rattle.result_print.proofs.Alike.{no_numbers, written_more}
use Rattle.result_print.proofs.records.write_record.Goals as goal

pub returns-in-Ok-clause-text : goal.returns-in-Ok-clause-text
returns-in-Ok-clause-text c =
    let before = c.args.writer.now in
    let setup = writer_setup before in
    written_more setup (written before) (written c.write_byte_record.new.self) (fields_of c.args.fields.now) c.requires.settings
    (c.in-Ok.ensures.bytes c.requires.fields c.requires.clean (no_numbers setup c.requires.settings))

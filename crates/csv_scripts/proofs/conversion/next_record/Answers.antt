use Rattle.std.proofs.Common.{Bool, subst}
use Rattle.csv.specs.Reading.{ReadRecord}
use Rattle.csv.specs.Records.{fields_of}
use Rattle.csv_scripts.proofs.Conversions.{read_end, read_more}
use Rattle.csv_scripts.proofs.conversion.next_record.Goals as goal

pub returns-in-Ok-clause-more : goal.returns-in-Ok-clause-more
returns-in-Ok-clause-more g c text rows h t =
    let rem = g.R.Read.remaining in
    let fields = fields_of c.read_byte_record.new.row in
    read_more rem c.args.reader.now c.read_byte_record.new.self fields text rows h
    (subst (λ (b : Bool). ReadRecord rem c.args.reader.now c.read_byte_record.new.self b fields) t (c.in-Ok.ensures.reads h.1 h.0))
    (c.in-Ok.ensures.ready h.1)

pub returns-in-Ok-clause-end : goal.returns-in-Ok-clause-end
returns-in-Ok-clause-end g c text rows h t =
    let rem = g.R.Read.remaining in
    let fields = fields_of c.read_byte_record.new.row in
    read_end rem c.args.reader.now c.read_byte_record.new.self fields text rows h
    (subst (λ (b : Bool). ReadRecord rem c.args.reader.now c.read_byte_record.new.self b fields) t (c.in-Ok.ensures.reads h.1 h.0))

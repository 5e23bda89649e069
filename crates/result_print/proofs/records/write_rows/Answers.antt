use Rattle.std.proofs.Common.{◌++◌, ◌∙◌, List, ap}
use Rattle.std.specs.List.{flat_map}
use Rattle.std.proofs.lemmas.List.{take_all}
use Rattle.cell_values.specs.declared.datum.Row.{Row}
use Rattle.result_print.specs.Inner.Writers.{written}
use Rattle.result_print.specs.Records.{record_text, row_record}
use Rattle.result_print.proofs.Joined.{flat_after}
use Rattle.result_print.proofs.records.write_rows.Goals as goal

pub loop-row-preserved : goal.loop-row-preserved
loop-row-preserved c = record {
  ready = c.in_ok-write_record.ensures.ready;
  text = flat_after row_record c.args.rows.now c.loop-row.row-index c.row-item.result c.row-item.result (written c.args.writer.now)
      (written c.loop-row.writer) (written c.write_record.new.writer) c.loop-row-test.true c.row-item.is c.loop-row.invariant.text
      (c.in_ok-write_record.ensures.text ∙ ap (λ fields. written c.loop-row.writer ++ record_text fields) c.in_ok-fill_row.ensures);
}

pub returns : goal.returns
returns c =
    c.loop-row.invariant.text
    ∙ ap (λ (rows : List Row). written c.args.writer.now ++ flat_map row_record rows) (take_all c.loop-row.row-index c.args.rows.now c.loop-row-test.false)

use Rattle.std.proofs.Common.{◌≡◌, ◌++◌, take}
use Rattle.std.specs.List.{flat_map}
use Rattle.result_print.specs.Inner.Writers.{IsReady, written}
use Rattle.result_print.specs.Records.{row_record}
use Rattle.result_print.proofs.records.write_rows.Given as goal

abbrev pub invariant-loop-row : goal.invariant-loop-row
invariant-loop-row l = record {
  ready : IsReady l.writer;
  text : written l.writer ≡ written l.initial.writer ++ flat_map row_record (take l.row-index l.rows);
}

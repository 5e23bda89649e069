use Rattle.std.proofs.Common.{◌≡◌, [], ◌++◌, map, take}
use Rattle.csv.specs.Records.{fields_of, partial_of}
use Rattle.result_print.proofs.records.push_fields.Given as goal

abbrev pub invariant-loop-part : goal.invariant-loop-part
invariant-loop-part g l = record {
  fields : fields_of l.fields ≡ fields_of l.initial.fields ++ map g.T.Spelled.bytes (take l.part-index l.parts);
  whole : partial_of l.fields ≡ [];
}

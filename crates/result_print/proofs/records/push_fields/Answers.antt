use Rattle.std.proofs.Common.{◌++◌, ◌∙◌, ap}
use Rattle.csv.specs.Records.{fields_of, partial_of}
use Rattle.result_print.proofs.Joined.{mapped_after}
use Rattle.result_print.proofs.records.push_fields.Goals as goal

pub loop-part-preserved : goal.loop-part-preserved
loop-part-preserved g c =
    let bytes = g.T.Spelled.bytes in
    let field = c.as_slice.result.now in
    let spelled = c.as_slice.ensures ∙ c.in_ok-write.ensures ∙ ap (λ l. l ++ bytes c.part-item.result) c.clear.ensures in
    record {
      fields = mapped_after bytes c.args.parts.now c.loop-part.part-index c.part-item.result (fields_of c.args.fields.now) (fields_of c.loop-part.fields)
          (fields_of c.push_field.new.self) (partial_of c.loop-part.fields ++ field) c.loop-part-test.true c.part-item.is c.loop-part.invariant.fields
          (ap (λ l. l ++ field) c.loop-part.invariant.whole ∙ spelled) c.in_ok-push_field.ensures.fields;
      whole = c.in_ok-push_field.ensures.partial;
    }

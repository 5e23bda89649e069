use Rattle.std.proofs.lemmas.Result.{IfOk-equal}
use Rattle.result_print.proofs.Numbered.{line_made}
use Rattle.result_print.proofs.listings.write_array.Goals as goal

pub returns : goal.returns
returns c =
    IfOk-equal c.push-2.result c.push-2.new.self _ _ c.push-2.ensures.ok
    (line_made c.args.number c.args.entry.now c.as_slice.result.now c.args.out.now c.write_number.new.out c.write_text.new.out c.push.new.self
    c.write_quoted_schema.new.out c.as_slice.ensures.value c.in_ok-write_number.ensures c.in_ok-write_text.ensures c.in_ok-push.ensures.ok
    c.in_ok-write_quoted_schema.ensures)

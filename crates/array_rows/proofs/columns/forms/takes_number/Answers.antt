use Rattle.std.proofs.Common.{w64, ap}
use Rattle.std.proofs.lemmas.Int.{to_z-of_z}
use Rattle.cell_values.specs.declared.datum.Datum.TheVariants.{Int}
use Rattle.array_rows.proofs.FormLaws.{taken}
use Rattle.array_rows.proofs.columns.forms.takes_number.Goals as goal

pub returns-in-Even : goal.returns-in-Even
returns-in-Even c = taken c.args.form.now _ c.push_number.new.self (Int c.args.number) _ (ap Int (to_z-of_z w64 c.args.number c.ranges.number)) c.in-Even.is c.push_number.result c.push_number.ensures

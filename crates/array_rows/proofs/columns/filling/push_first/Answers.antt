use Rattle.std.proofs.Common.{w64, ap}
use Rattle.std.proofs.lemmas.Int.{to_z-of_z}
use Rattle.cell_values.specs.declared.datum.Datum.TheVariants.{Int}
use Rattle.array_rows.proofs.RowLaws.{first_pushed, on_ok}
use Rattle.array_rows.proofs.columns.filling.push_first.Goals as goal

pub returns : goal.returns
returns c = on_ok c.push_at.result (first_pushed c.args.columns.now.items c.push_at.new.columns.items (Int c.args.number) _ (ap Int (to_z-of_z w64 c.args.number c.ranges.number))) c.push_at.ensures

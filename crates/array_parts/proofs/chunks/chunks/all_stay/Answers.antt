use Rattle.std.proofs.Common.{sym, subst}
use Rattle.std.specs.List.{AllByRecursion}
use Rattle.array_rows.specs.declared.columns.forms.Form.{Form}
use Rattle.array_rows.specs.Inner.CellsIn.{cells_in}
use Rattle.array_parts.specs.Inner.Quickly.{StaysAnywhere}
use Rattle.array_parts.proofs.StayLaws.{all_full}
use Rattle.array_parts.proofs.chunks.chunks.all_stay.Goals as goal

pub returns-in-Even : goal.returns-in-Even
returns-in-Even g c = λ all.
    let stays = StaysAnywhere (g.C.CellChange.changed c.args.change.now) in
    subst (λ (form : Form). AllByRecursion stays (cells_in form)) (sym c.in-Even.is) (all_full stays _ (c.all_rows_stay.ensures all))

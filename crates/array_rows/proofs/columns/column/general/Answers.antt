use Rattle.std.proofs.Common.{ap, ◌∙◌, map, ℤ}
use Rattle.std.proofs.lemmas.List.{take_all}
use Rattle.cell_values.specs.declared.datum.Datum.TheVariants.{Int}
use Rattle.array_rows.proofs.columns.column.general.Goals as goal

pub returns : goal.returns
returns c = c.loop-number.invariant ∙ ap (map (λ (x : ℤ). Int x)) (take_all c.loop-number.number-index c.as_slice-number-items.result.now c.loop-number-test.false ∙ c.as_slice-number-items.ensures)

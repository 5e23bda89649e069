use Rattle.std.proofs.Common.{◌∙◌, ℕ, length, ap, refl}
use Rattle.array_rows.specs.RowsIn.{rows_in}
use Rattle.chunk_rle.proofs.Steps.{cells_of_rows}
use Rattle.chunk_rle.proofs.ValuedLaws.{chunk_made}
use Rattle.chunk_rle.proofs.expanding.chunk_of_values.Goals as goal

pub returns : goal.returns
returns c =
    chunk_made c.args.at.now c.copy_numbers.result c.args.runs.now c.args.columns.items c.in_ok-positions.positions c.from_rows.result c.copy_numbers.ensures c.in_ok-positions.ensures
    (c.from_rows.ensures ∙ cells_of_rows c.from_columns-rows.result (length c.in_ok-positions.positions) c.args.columns.items c.args.columns.items (c.from_columns-rows.ensures ∙ ap (λ (n : ℕ). rows_in n c.args.columns.items) c.len.ensures) refl)

use Rattle.std.proofs.Common.{drop}
use Rattle.std.specs.List.{AllByRecursion}
use Rattle.cell_values.specs.declared.datum.Cell.TheVariants.{Full}
use Rattle.array_parts.specs.Inner.Quickly.{StaysAnywhere}
use Rattle.array_parts.proofs.chunks.chunks.all_rows_stay.Given as goal

abbrev pub invariant-loop-k : goal.invariant-loop-k
invariant-loop-k g l =
    AllByRecursion (λ row. StaysAnywhere (g.C.CellChange.changed l.change) (Full row)) (drop l.k l.rows) → AllByRecursion (λ row. StaysAnywhere (g.C.CellChange.changed l.change) (Full row)) l.rows

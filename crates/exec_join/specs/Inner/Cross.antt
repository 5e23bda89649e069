-- Rows whose cross join has coordinates of at most 6 numbers.
use Rattle.std.specs.Prelude.{◌≤◌, List, length}
use Rattle.std.specs.List.{All}
use Rattle.cell_values.specs.declared.datum.Row.{Row}
use Rattle.logical_plan.specs.declared.parts.Pair.{Pair}
use Rattle.logical_plan.specs.Joins.{cross_at}

-- a left coordinate and what a right one has besides the paired numbers are at most 6 numbers
abbrev pub HaveRoom : List Pair → List Row → List Row → Type 0
HaveRoom pairs left right = All (λ l. All (λ r. length (cross_at pairs l.at.items r.at.items) ≤ 6) right) left

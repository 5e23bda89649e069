-- A cell with the values at some places alone. A doubt stays one.
use Rattle.std.specs.Prelude.{ℕ, List, map, slice_index_or}
use Rattle.cell_values.specs.declared.datum.Cell.{Cell}
use Rattle.cell_values.specs.declared.datum.Cell.TheVariants.{Full, Doubt}
use Rattle.cell_values.specs.declared.datum.Datum.TheVariants.{Null}

abbrev pub picked : List ℕ → Cell → Cell
picked places (Full vs) = Full (map (λ place. slice_index_or vs place Null) places)
picked places (Doubt kind) = Doubt kind

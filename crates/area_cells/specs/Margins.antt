-- Frames without margins.
use Rattle.std.specs.Prelude.{ℕ, List, map}
use Rattle.cell_values.specs.declared.schema.Dimension.{Dimension}

-- a margin of 0 for each dimension
abbrev pub no_margins : List Dimension → List ℕ
no_margins dims = map (λ d. 0) dims

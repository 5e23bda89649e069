-- Runs of rows.
use Rattle.std.specs.Prelude.{ℕ, ◌-◌, ◌≤◌, List, [], ◌∷◌, ◌++◌, take, drop}
use Rattle.std.specs.List.{All}
use Rattle.cell_values.specs.declared.datum.Row.{Row}
use Rattle.window_overlap.specs.declared.chunks.runs.Run.{Run}

-- the rows of runs, one run after the other
abbrev pub rows_of : List Row → List Run → List Row
rows_of rows [] = []
rows_of rows (run ∷ runs) = take (run.end - run.start) (drop run.start rows) ++ rows_of rows runs

-- runs of so many rows
abbrev pub AreRuns : ℕ → List Run → Type 0
AreRuns count = All (λ run. (run.start ≤ run.end) × (run.end ≤ count))

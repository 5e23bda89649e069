-- Chunks whose cells are aggregated behind those of earlier chunks.
use Rattle.std.specs.Prelude.{◌≡◌, ℕ, ℤ, List, ◌++◌}
use Rattle.cell_values.specs.declared.datum.Row.{Row}
use Rattle.cell_values.specs.declared.schema.Dimension.{Dimension}
use Rattle.array_geom.specs.declared.chunk.Chunk.{Chunk}
use Rattle.array_geom.specs.Link.{chunk_rows}
use Rattle.logical_plan.specs.declared.parts.Aggregate.{Aggregate}
use Rattle.group_rows.specs.declared.rows.groups.Group.{Group}
use Rattle.group_rows.specs.Grouped.{AreGroupsOf}
use Rattle.group_rows.specs.Sets.{sets_by}
use Rattle.order_exec.specs.Inner.ByChunk.{rows_of_core}
use Rattle.order_exec.specs.Inner.Running.{running}
use Rattle.order_exec.specs.Lines.{CanAggregate, LinesRise, line_start}

-- where lines stand for earlier rows, the made chunk has what the rows of the old one's core become behind these
abbrev pub ContinuesLines : ℕ → ℤ → List Aggregate → List Group → List Dimension → List ℕ → Chunk → Chunk → Type 0
ContinuesLines n low gs before dims margins chunk made = (earlier : List Row) → AreGroupsOf gs (sets_by (line_start n low) earlier) before
    → LinesRise (line_start n low) (earlier ++ rows_of_core dims margins chunk) → CanAggregate gs (earlier ++ rows_of_core dims margins chunk)
    → chunk_rows dims margins made ≡ running (line_start n low) gs earlier (rows_of_core dims margins chunk)

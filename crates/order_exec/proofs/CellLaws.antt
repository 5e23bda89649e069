-- Parts with the aggregates along lines.
use Rattle.std.proofs.Common.{◌≡◌, ℕ, List, length, sym, subst}
use Rattle.std.specs.List.{AllByRecursion}
use Rattle.cell_values.specs.declared.schema.Dimension.{Dimension}
use Rattle.cell_values.specs.declared.schema.Schema.{Schema}
use Rattle.array_geom.specs.declared.chunk.Chunk.{Chunk}
use Rattle.array_geom.specs.Link.{IsPart, NumbersRise, core_rows, numbers}
use Rattle.array_geom.proofs.NearLemmas.{valid_placed}
use Rattle.array_parts.specs.Cores.{HaveCells}
use Rattle.array_parts.specs.Parts.{AreParts}
use Rattle.area_cells.proofs.ListedLaws.{core_listed}
use Rattle.area_cells.proofs.PieceLaws.{changed_parts}
use Rattle.logical_plan.specs.declared.parts.Aggregate.{Aggregate}
use Rattle.logical_plan.specs.Ordered.{cumulate_cell, cumulate_rows}

pub whole_parts : (source target : Schema) (old margins : List ℕ) (n : ℕ) (gs : List Aggregate) (chunks parts : List Chunk) → target.dimensions ≡ source.dimensions → HaveCells source old chunks → numbers parts ≡ numbers chunks → NumbersRise (numbers chunks)
    → AllByRecursion (λ k. length k ≡ length source.dimensions) (numbers chunks) → AllByRecursion (IsPart target.dimensions margins (cumulate_rows n gs (core_rows source.dimensions old chunks))) parts
    → AreParts target.dimensions margins (cumulate_rows n gs (core_rows source.dimensions old chunks)) parts
whole_parts source target old margins n gs chunks parts same cells e rise sized each =
    let rows = core_rows source.dimensions old chunks in
    subst (λ (ds : List Dimension). AreParts ds margins (cumulate_rows n gs rows) parts) (sym same)
    (changed_parts source.dimensions margins (cumulate_cell n gs rows) rows chunks parts e rise sized (λ k l h. core_listed source.dimensions old chunks k (valid_placed source cells.placed.valid).near sized l h)
    (subst (λ (ds : List Dimension). AllByRecursion (IsPart ds margins (cumulate_rows n gs rows)) parts) same each))

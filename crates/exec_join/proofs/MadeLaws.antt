-- Arrays made of the rows of two others.
use Rattle.std.proofs.Common.{◌≡◌, ℕ, List, [], ◌∷◌, None, Result, Ok, sym, ap, subst, ◌∙◌}
use Rattle.std.specs.Prelude.{IfOk}
use Rattle.std.specs.List.{AllByRecursion}
use Rattle.cell_values.specs.declared.datum.Broken.{Broken}
use Rattle.cell_values.specs.declared.datum.Row.{Row}
use Rattle.cell_values.specs.declared.memory.Memory.{Memory}
use Rattle.cell_values.specs.declared.schema.Schema.{Schema}
use Rattle.array_rows.specs.Arrays.{AreRowsOf, Meant}
use Rattle.array_rows.specs.Boxes.{is_inside}
use Rattle.array_rows.proofs.RowSets.{IsRising-rows_where}
use Rattle.array_geom.specs.declared.chunk.Chunk.{Chunk}
use Rattle.array_geom.specs.declared.chunk.ChunkedArray.{ChunkedArray}
use Rattle.array_geom.specs.Geometry.{core}
use Rattle.array_geom.specs.Link.{Is, chunk_rows}
use Rattle.array_parts.specs.Cores.{HaveCells, cores_of, meant_by_cores, unless_broken}
use Rattle.array_parts.proofs.CoreLaws.{cores_are_rows}
use Rattle.chunk_cells.specs.Whole.{CoresRise}
use Rattle.logical_plan.specs.Faults.{if_whole, and_then}
use Rattle.logical_plan.specs.Meaning.{made_of_two}

pub rise_in_cores : (schema : Schema) (margins : List ℕ) (chunks : List Chunk) → HaveCells schema margins chunks → CoresRise schema.dimensions margins chunks
rise_in_cores schema margins chunks h = each chunks h.rows_of
  where
    each : (xs : List Chunk) → AllByRecursion (λ chunk. AreRowsOf schema (chunk_rows schema.dimensions margins chunk)) xs → CoresRise schema.dimensions margins xs
    each [] a = tt
    each (chunk ∷ xs) a = (IsRising-rows_where (is_inside (core schema.dimensions chunk.at.items)) (chunk_rows schema.dimensions margins chunk) a.0.are_rows.rising, each xs a.1)

pub of_cores : (array : ChunkedArray) (rows : List Row) → rows ≡ cores_of array → HaveCells array.schema array.margins.items array.chunks → AreRowsOf array.schema rows
of_cores array rows e h = subst (AreRowsOf array.schema) (sym e) (cores_are_rows array.schema array.margins.items array.chunks h)

abbrev meant_of : Schema → Result (List Row) Broken → Meant
meant_of schema rows = record { schema = schema; rows = rows }

-- what two arrays give, by a function of their rows
abbrev pub MadeOf : Type 0
MadeOf = List Row → List Row → List Row

pub means_whole : (rows_of : MadeOf) (schema : Schema) (left right : ChunkedArray) (left_rows right_rows rows : List Row) → left.broken ≡ None → right.broken ≡ None → left_rows ≡ cores_of left → right_rows ≡ cores_of right
    → rows ≡ rows_of left_rows right_rows → meant_of schema (Ok rows) ≡ made_of_two schema rows_of (meant_by_cores left) (meant_by_cores right)
means_whole rows_of schema left right left_rows right_rows rows l r e f m =
    ap (λ (z : List Row). meant_of schema (Ok z)) (m ∙ (λ i. rows_of (e i) (f i)))
    ∙ (λ i. meant_of schema (and_then (λ a. if_whole (rows_of a) (unless_broken (sym r i) (cores_of right))) (unless_broken (sym l i) (cores_of left))))

pub stands_for : (r : Result ChunkedArray Memory) (a b : Meant) → a ≡ b → IfOk r (λ made. Is made a) → IfOk r (λ made. Is made b)
stands_for r a b e h = subst (λ (m : Meant). IfOk r (λ made. Is made m)) e h

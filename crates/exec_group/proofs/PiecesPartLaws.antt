-- Groups of chunks that were found part by part.
use Rattle.std.proofs.Common.{◌≡◌, ℕ, ℤ, ◌≤◌, Bool, true, false, cond, List, [], ◌∷◌, length, refl, sym, ap, ◌∙◌, arith}
use Rattle.std.specs.List.{AllByRecursion, AllZip}
use Rattle.cell_values.specs.declared.schema.Dimension.{Dimension}
use Rattle.cell_values.specs.declared.schema.Schema.{Schema}
use Rattle.array_geom.specs.declared.chunk.Chunk.{Chunk}
use Rattle.array_geom.specs.declared.chunk.ChunkedArray.{ChunkedArray}
use Rattle.array_parts.specs.Cores.{HaveCells, cores_of}
use Rattle.array_parts.specs.Placed.{HasPlaces}
use Rattle.array_rows.specs.Arrays.{AreRowsOf}
use Rattle.cell_values.specs.declared.datum.Cell.{Cell}
use Rattle.cell_values.specs.declared.datum.Row.{Row}
use Rattle.cell_values.specs.declared.schema.Bounds.{Bounds}
use Rattle.array_rows.specs.Boxes.{is_inside, within}
use Rattle.array_rows.specs.Rows.{placed}
use Rattle.array_geom.specs.Geometry.{coordinate_in, core, frame_low, frame_lengths}
use Rattle.array_geom.specs.Link.{chunk_rows, core_rows, numbers, rows_in}
use Rattle.group_rows.specs.Inner.Keys.{core_of}
use Rattle.group_rows.specs.Counts.{cells_in_all}
use Rattle.group_rows.specs.declared.rows.groups.Groups.{Groups}
use Rattle.group_rows.specs.Grouped.{ArePartsOf}
use Rattle.logical_plan.specs.declared.parts.Aggregate.{Aggregate}
use Rattle.exec_group.specs.Inner.Parts.{IsPartOf, IsBlockPartOf, sets_of, block_sets_of, cells_held, has_parts}

-- there are no chunks, where there is no part
pub no_parts : (places : List ℕ) (chunks : List Chunk) → has_parts places chunks ≡ false → chunks ≡ []
no_parts [] [] e = refl
no_parts [] (chunk ∷ chunks) e = cc
no_parts (place ∷ places) chunks e = cc

pub no_rows : (array : ChunkedArray) (rows : List Row) → array.chunks ≡ [] → rows ≡ [] → rows ≡ cores_of array
no_rows array rows none e = e ∙ ap (core_rows array.schema.dimensions array.margins.items) (sym none)

-- each chunk of an array has cells by itself
pub each_has_cells : (schema : Schema) (margins : List ℕ) (chunks : List Chunk) → HaveCells schema margins chunks → AllByRecursion (λ chunk. HaveCells schema margins (chunk ∷ [])) chunks
each_has_cells schema margins chunks h = go chunks h.placed.sized h.placed.all h.rows_of
  where
    go : (some : List Chunk) → AllByRecursion (λ k. length k ≡ length schema.dimensions) (numbers some) → AllByRecursion (HasPlaces schema margins) some → AllByRecursion (λ chunk. AreRowsOf schema (chunk_rows schema.dimensions margins chunk)) some
        → AllByRecursion (λ chunk. HaveCells schema margins (chunk ∷ [])) some
    go [] s p r = tt
    go (chunk ∷ some) s p r = (
      record {
        placed = record {
          valid = h.placed.valid;
          each = h.placed.each;
          places = h.placed.places;
          rising = (tt, tt);
          sized = (s.0, tt);
          all = (p.0, tt);
        };
        rows_of = (r.0, tt);
      },
      go some s.1 p.1 r.1,
    )

pub each_with : (P : Chunk → Type 0) (Q : Type 0) (chunks : List Chunk) → AllByRecursion P chunks → Q → AllByRecursion (λ chunk. P chunk × Q) chunks
each_with P Q [] a q = tt
each_with P Q (chunk ∷ chunks) a q = ((a.0, q), each_with P Q chunks a.1 q)

pub parts_found : (gs : List Aggregate) (places : List ℕ) (dims : List Dimension) (margins : List ℕ) (chunks : List Chunk) (parts : List Groups)
    → AllZip (IsPartOf gs places dims margins) chunks parts → ArePartsOf gs (sets_of places dims margins chunks) parts
parts_found gs places dims margins [] [] h = tt
parts_found gs places dims margins [] (part ∷ parts) h = absurd h
parts_found gs places dims margins (chunk ∷ chunks) [] h = absurd h
parts_found gs places dims margins (chunk ∷ chunks) (part ∷ parts) h = (h.0.groups, parts_found gs places dims margins chunks parts h.1)

fewer_inside : (area : Bounds) (low : List ℤ) (lengths positions : List ℕ) (cells : List Cell) → length (within area (rows_in low lengths positions cells)) ≤ length cells
fewer_inside area low lengths [] cells = omega arith
fewer_inside area low lengths (p ∷ positions) [] = omega arith
fewer_inside area low lengths (p ∷ positions) (cell ∷ cells) = cases (is_inside area (coordinate_in low lengths p)) (fewer_inside area low lengths positions cells)
  where
    cases : (t : Bool) → length (within area (rows_in low lengths positions cells)) ≤ length cells
        → length (cond t (placed (coordinate_in low lengths p) cell ∷ within area (rows_in low lengths positions cells)) (within area (rows_in low lengths positions cells))) ≤ length (cell ∷ cells)
    cases true h = omega arith
    cases false h = omega arith

few_in_core : (dims : List Dimension) (margins : List ℕ) (chunk : Chunk) → length (core_of dims margins chunk) ≤ length chunk.cells
few_in_core dims margins chunk = fewer_inside (core dims chunk.at.items) (frame_low dims margins chunk.at.items) (frame_lengths dims margins) chunk.positions chunk.cells

pub few_in_parts : (gs : List Aggregate) (places : List ℕ) (dims : List Dimension) (margins : List ℕ) (chunks : List Chunk) (parts : List Groups)
    → AllZip (IsPartOf gs places dims margins) chunks parts → cells_in_all parts ≤ cells_held chunks
few_in_parts gs places dims margins [] [] h = omega arith
few_in_parts gs places dims margins [] (part ∷ parts) h = absurd h
few_in_parts gs places dims margins (chunk ∷ chunks) [] h = absurd h
few_in_parts gs places dims margins (chunk ∷ chunks) (part ∷ parts) h =
    let first = h.0.cells in let core = few_in_core dims margins chunk in let rest = few_in_parts gs places dims margins chunks parts h.1 in omega arith

-- ---- blocks

pub block_parts_found : (gs : List Aggregate) (sizes : List ℕ) (dims : List Dimension) (margins : List ℕ) (chunks : List Chunk) (parts : List Groups)
    → AllZip (IsBlockPartOf gs sizes dims margins) chunks parts → ArePartsOf gs (block_sets_of sizes dims margins chunks) parts
block_parts_found gs sizes dims margins [] [] h = tt
block_parts_found gs sizes dims margins [] (part ∷ parts) h = absurd h
block_parts_found gs sizes dims margins (chunk ∷ chunks) [] h = absurd h
block_parts_found gs sizes dims margins (chunk ∷ chunks) (part ∷ parts) h = (h.0.groups, block_parts_found gs sizes dims margins chunks parts h.1)

pub few_in_block_parts : (gs : List Aggregate) (sizes : List ℕ) (dims : List Dimension) (margins : List ℕ) (chunks : List Chunk) (parts : List Groups)
    → AllZip (IsBlockPartOf gs sizes dims margins) chunks parts → cells_in_all parts ≤ cells_held chunks
few_in_block_parts gs sizes dims margins [] [] h = omega arith
few_in_block_parts gs sizes dims margins [] (part ∷ parts) h = absurd h
few_in_block_parts gs sizes dims margins (chunk ∷ chunks) [] h = absurd h
few_in_block_parts gs sizes dims margins (chunk ∷ chunks) (part ∷ parts) h =
    let first = h.0.cells in let core = few_in_core dims margins chunk in let rest = few_in_block_parts gs sizes dims margins chunks parts h.1 in omega arith

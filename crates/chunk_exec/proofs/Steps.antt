-- Steps of the loops that look for the least fault.
use Rattle.std.proofs.Common.{◌≡◌, ℕ, suc, ◌+◌, ◌<◌, List, [], ◌∷◌, ◌++◌, Option, length, get_or, drop, refl, sym, ap, ◌∙◌, subst, arith}
use Rattle.std.specs.List.{AllByRecursion, flat_map}
use Rattle.std.proofs.Math.Seq.{drop-cons}
use Rattle.cell_values.specs.declared.datum.Broken.{Broken}
use Rattle.cell_values.specs.declared.datum.Cell.{Cell}
use Rattle.cell_values.specs.declared.datum.Cell.TheVariants.{Full, Doubt}
use Rattle.cell_values.specs.declared.datum.Datum.{Datum}
use Rattle.cell_values.specs.declared.datum.Datum.TheVariants.{Null, Missing, Int, Text, Truth, Bad}
use Rattle.cell_values.specs.declared.datum.Row.{Row}
use Rattle.array_geom.specs.declared.chunk.Chunk.{Chunk}
use Rattle.array_geom.specs.declared.grid.Grid.{Grid}
use Rattle.array_rows.specs.Rows.{placed}
use Rattle.array_geom.specs.Geometry.{coordinate_in, volume}
use Rattle.array_geom.specs.Link.{rows_in}
use Rattle.array_rows.specs.CellFaults.{fault_of_value, fault_of_values, fault_of_cell}
use Rattle.logical_plan.specs.Faults.{fault_in}
use Rattle.logical_plan.specs.Groups.{bad_kind, first_some}
use Rattle.chunk_exec.specs.Least.{fault_at, sooner, least_from}

same_value : (v : Datum) → fault_of_value v ≡ bad_kind v
same_value Null = refl
same_value (Missing code) = refl
same_value (Int n) = refl
same_value (Text t) = refl
same_value (Truth b) = refl
same_value (Bad kind) = refl

same_values : (vs : List Datum) → fault_of_values vs ≡ first_some bad_kind vs
same_values [] = refl
same_values (v ∷ vs) = let a = same_value v in let b = same_values vs in cc

-- a cell's fault is the one that plans speak of
pub same_fault : (cell : Cell) → fault_of_cell cell ≡ fault_in cell
same_fault (Full vs) = same_values vs
same_fault (Doubt kind) = refl

-- the cells from a place on are still to be looked at
pub record CellsLeft (grid : Grid) (positions : List ℕ) (cells : List Cell) (i : ℕ) (first least : Option Broken) : Type 0 where
  pub inside : AllByRecursion (λ p. p < volume grid.lengths.items) (drop i positions)
  pub rest : least_from least (rows_in grid.low.items grid.lengths.items (drop i positions) (drop i cells)) ≡ least_from first (rows_in grid.low.items grid.lengths.items positions cells)

pub next_cell : (grid : Grid) (positions : List ℕ) (cells : List Cell) (i : ℕ) (first least next : Option Broken) → length cells ≡ length positions → i < length positions
    → CellsLeft grid positions cells i first least → next ≡ sooner least (fault_at (placed (coordinate_in grid.low.items grid.lengths.items (get_or positions i 0)) (get_or cells i (Full [])))) → CellsLeft grid positions cells (i + 1) first next
next_cell grid positions cells i first least next each lt left en =
    let one : suc i ≡ i + 1 = omega arith in
    let less : i < length cells = omega arith in
    let low = grid.low.items in
    let lengths = grid.lengths.items in
    let p : ℕ = get_or positions i 0 in
    let cell : Cell = get_or cells i (Full []) in
    let d : drop i positions ≡ p ∷ drop (i + 1) positions = drop-cons positions i 0 lt ∙ ap (λ (n : ℕ). p ∷ drop n positions) one in
    let f : drop i cells ≡ cell ∷ drop (i + 1) cells = drop-cons cells i (Full []) less ∙ ap (λ (n : ℕ). cell ∷ drop n cells) one in
    let a : AllByRecursion (λ p. p < volume grid.lengths.items) (p ∷ drop (i + 1) positions) = subst (AllByRecursion (λ p. p < volume grid.lengths.items)) d left.inside in
    record {
      inside = a.1;
      rest = ap (λ (z : Option Broken). least_from z (rows_in low lengths (drop (i + 1) positions) (drop (i + 1) cells))) en
          ∙ ap (λ (ps : List ℕ). least_from least (rows_in low lengths ps (cell ∷ drop (i + 1) cells))) (sym d)
          ∙ ap (λ (cs : List Cell). least_from least (rows_in low lengths (drop i positions) cs)) (sym f)
          ∙ left.rest;
    }

pub least_of_both : (least : Option Broken) (a b : List Row) → least_from least (a ++ b) ≡ least_from (least_from least a) b
least_of_both least [] b = refl
least_of_both least (row ∷ a) b = least_of_both (sooner least (fault_at row)) a b

pub next_chunk : (f : Chunk → List Row) (P : Chunk → Type 0) (chunks : List Chunk) (i : ℕ) (chunk : Chunk) (least next first : Option Broken) → i < length chunks → chunk ≡ get_or chunks i chunk
    → AllByRecursion P (drop i chunks) → least_from least (flat_map f (drop i chunks)) ≡ first → next ≡ least_from least (f chunk)
    → AllByRecursion P (drop (i + 1) chunks) × (least_from next (flat_map f (drop (i + 1) chunks)) ≡ first)
next_chunk f P chunks i chunk least next first lt e all rest en =
    let one : suc i ≡ i + 1 = omega arith in
    let d : drop i chunks ≡ chunk ∷ drop (i + 1) chunks = drop-cons chunks i chunk lt ∙ ap (λ (x : Chunk). x ∷ drop (suc i) chunks) (sym e) ∙ ap (λ (n : ℕ). chunk ∷ drop n chunks) one in
    let a : AllByRecursion P (chunk ∷ drop (i + 1) chunks) = subst (AllByRecursion P) d all in
    (a.1, ap (λ (z : Option Broken). least_from z (flat_map f (drop (i + 1) chunks))) en ∙ sym (least_of_both least (f chunk) (flat_map f (drop (i + 1) chunks))) ∙ ap (λ (z : List Chunk). least_from least (flat_map f z)) (sym d) ∙ rest)

-- what holds of each chunk from a place on holds of the one there
pub holds_next : (P : Chunk → Type 0) (chunks : List Chunk) (i : ℕ) (chunk : Chunk) → i < length chunks → chunk ≡ get_or chunks i chunk
    → AllByRecursion P (drop i chunks) → P chunk
holds_next P chunks i chunk lt e all =
    let all_from : AllByRecursion P (get_or chunks i chunk ∷ drop (suc i) chunks) = subst (AllByRecursion P) (drop-cons chunks i chunk lt) all in
    subst P (sym e) all_from.0

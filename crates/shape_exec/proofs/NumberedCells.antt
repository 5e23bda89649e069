-- Cells that were found, numbered from 0, each with its coordinate before its values.
use Rattle.std.proofs.Common.{◌≡◌, ℕ, zero, suc, ◌+◌, ◌<◌, ◌^◌, pos, List, [], ◌∷◌, ◌++◌, length, get_or, map, take, drop, Option, Some, None, Result, Ok, Err, refl, sym, ap, ◌∙◌, subst, arith}
use Rattle.std.proofs.lemmas.List.{length-map, map-append, take_more}
use Rattle.std.specs.Prelude.{IfOk, slice_index_or}
use Rattle.arrayvec.specs.ArrayVec.{ArrayVec}
use Rattle.std.proofs.Common.{ℤ}
use Rattle.cell_values.specs.declared.datum.Broken.{Broken}
use Rattle.cell_values.specs.declared.datum.Cell.{Cell}
use Rattle.cell_values.specs.declared.datum.Cell.TheVariants.{Full, Doubt}
use Rattle.cell_values.specs.declared.datum.Datum.{Datum}
use Rattle.cell_values.specs.declared.datum.Datum.TheVariants.{Int}
use Rattle.cell_values.specs.declared.datum.FaultKind.{FaultKind}
use Rattle.cell_values.specs.declared.datum.Row.{Row}
use Rattle.cell_values.specs.declared.schema.Schema.{Schema}
use Rattle.cell_values.specs.Schemas.{IsValid}
use Rattle.array_rows.specs.Arrays.{AreRowsOf}
use Rattle.array_rows.specs.declared.columns.forms.Form.{Form}
use Rattle.array_rows.specs.declared.columns.forms.Form.TheVariants.{Even}
use Rattle.array_rows.specs.Inner.CellsIn.{cells_in}
use Rattle.array_rows.specs.Rows.{Coordinate, placed}
use Rattle.array_geom.specs.declared.chunk.ChunkedArray.{ChunkedArray}
use Rattle.array_geom.specs.declared.grid.Grid.{Grid}
use Rattle.array_geom.specs.Geometry.{coordinate_in}
use Rattle.array_geom.specs.Link.{Is}
use Rattle.array_parts.specs.Cores.{HaveCells, cores_of, meant_by_cores}
use Rattle.array_parts.proofs.CoreLaws.{cores_are_rows}
use Rattle.area_cells.specs.declared.finding.Found.{Found}
use Rattle.area_cells.specs.Found.{found_cell, found_row, found_rows}
use Rattle.area_cells.proofs.FoundLaws.{left_at}
use Rattle.logical_plan.specs.Faults.{if_whole}
use Rattle.logical_plan.specs.ShapeMeant.{unpack_meant}
use Rattle.logical_plan.specs.ShapeSchemas.{unpack_schema}
use Rattle.logical_plan.specs.Shapes.{after_cell, unpacked_from, unpack_rows}
use Rattle.shape_rows.proofs.UnpackLaws.{unpacks_are_arrays}
use Rattle.shape_exec.specs.Inner.Unpacked.{IsFirstDoubt, doubt_of, unpacked_cell, unpacked_found}
use Rattle.shape_exec.proofs.NumberedLaws.{unpack_doubt, unpack_whole}

-- ---- the first doubt

doubt_cell : (n : ℕ) (row : Row) (cell : Cell) (kind : FaultKind) (rest : Result (List Row) Broken) → doubt_of cell ≡ Some kind → after_cell n row cell rest ≡ Err (record { at = row.at; kind = kind })
doubt_cell n row (Full vs) kind rest e = cc
doubt_cell n row (Doubt other) kind rest e =
    let same : other ≡ kind = cc in
    ap (λ (k : FaultKind). Err (record { at = row.at; kind = k })) same

full_rows : (rows : List (List Datum)) (n : ℕ) → doubt_of (slice_index_or (map Full rows) n (Full [])) ≡ None
full_rows [] n = refl
full_rows (row ∷ rows) zero = refl
full_rows (row ∷ rows) (suc n) = full_rows rows n

pub none_doubted : (one : Found) (rows : List (List Datum)) → one.form.now ≡ Even rows → doubt_of (found_cell one) ≡ None
none_doubted one rows e = ap (λ (f : Form). doubt_of (slice_index_or (cells_in f) one.number (Full []))) e ∙ full_rows rows one.number

pub doubt_here : (grid : Grid) (one : Found) (n : ℕ) (rows : List Row) (at : ArrayVec ℤ) (kind : FaultKind) → at.items ≡ coordinate_in grid.low.items grid.lengths.items one.position → doubt_of (found_cell one) ≡ Some kind
    → IsFirstDoubt n (found_row grid one ∷ rows) (Some (record { at = at; kind = kind }))
doubt_here grid one n rows at kind e d =
    doubt_cell n (found_row grid one) (found_cell one) kind (unpacked_from (n + 1) rows) d
    ∙ ap (λ (c : Coordinate). Err (record { at = record { items = c }; kind = kind })) (sym e)

full_cell : (n : ℕ) (at : ArrayVec ℤ) (cell : Cell) (rows : List Row) (later : Option Broken) → doubt_of cell ≡ None → IsFirstDoubt (n + 1) rows later → IsFirstDoubt n (record { at = at; cell = cell } ∷ rows) later
full_cell n at (Doubt kind) rows later e h = absurd cc
full_cell n at (Full vs) rows None e h = ap (if_whole (λ more. placed (pos n ∷ []) (Full (map Int at.items ++ vs)) ∷ more)) h
full_cell n at (Full vs) rows (Some broken) e h = ap (if_whole (λ more. placed (pos n ∷ []) (Full (map Int at.items ++ vs)) ∷ more)) h

pub doubt_later : (grid : Grid) (one : Found) (n : ℕ) (rows : List Row) (later : Option Broken) → doubt_of (found_cell one) ≡ None → IsFirstDoubt (n + 1) rows later → IsFirstDoubt n (found_row grid one ∷ rows) later
doubt_later grid one n rows later e h = full_cell n (found_row grid one).at (found_cell one) rows later e h

pub one_further : (grid : Grid) (found : List Found) (k : ℕ) (one : Found) (broken : Option Broken) → k < length found → one ≡ get_or found k one → IsFirstDoubt k (found_row grid one ∷ found_rows grid (drop (k + 1) found)) broken
    → IsFirstDoubt k (found_rows grid (drop k found)) broken
one_further grid found k one broken l is h = subst (λ (rows : List Row). IsFirstDoubt k rows broken) (sym (left_at grid found k one l is)) h

-- ---- lists

pub mapped_found : (grid : Grid) (found : List Found) → map unpacked_cell (found_rows grid found) ≡ map (unpacked_found grid) found
mapped_found grid [] = refl
mapped_found grid (one ∷ found) = ap (λ (cells : List Cell). unpacked_found grid one ∷ cells) (mapped_found grid found)

pub mapped_more : (grid : Grid) (found : List Found) (k : ℕ) (one : Found) → k < length found → one ≡ get_or found k one
    → map (unpacked_found grid) (take (k + 1) found) ≡ map (unpacked_found grid) (take k found) ++ unpacked_found grid one ∷ []
mapped_more grid found k one l e =
    ap (map (unpacked_found grid)) (take_more found k one l) ∙ map-append (unpacked_found grid) (take k found) (get_or found k one ∷ [])
    ∙ ap (λ (f : Found). map (unpacked_found grid) (take k found) ++ unpacked_found grid f ∷ []) (sym e)

-- ---- the array

pub unpacked_rows_are : (array : ChunkedArray) (target : Schema) (grid : Grid) (found : List Found) → HaveCells array.schema array.margins.items array.chunks → (name : List ℕ) × (target ≡ unpack_schema name array.schema) → IsValid target
    → found_rows grid found ≡ cores_of array → length found < 2 ^ 62 → IfOk (unpack_rows (found_rows grid found)) (AreRowsOf target)
unpacked_rows_are array target grid found cells named valid e few =
    let source = array.schema in
    let long = ap (λ (rows : List Row). length rows) e in
    let as_many = length-map found (found_row grid) in
    let law : IfOk (unpack_rows (cores_of array)) (AreRowsOf (unpack_schema named.0 source)) =
    unpacks_are_arrays named.0 source (cores_of array) (subst IsValid named.1 valid) (cores_are_rows source array.margins.items array.chunks cells) (omega (arith, long, as_many, few)) in
    subst (λ (s : Schema). IfOk (unpack_rows (found_rows grid found)) (AreRowsOf s)) (sym named.1) (subst (λ (rows : List Row). IfOk (unpack_rows rows) (AreRowsOf (unpack_schema named.0 source))) (sym e) law)

pub unpack_either : (array : ChunkedArray) (target : Schema) (rows : List Row) (made : ChunkedArray) → array.broken ≡ None → rows ≡ cores_of array → IfOk (unpack_rows rows) (AreRowsOf target)
    → Is made (record { schema = target; rows = unpack_rows rows }) → Is made (unpack_meant target (meant_by_cores array))
unpack_either array target rows made whole e are is = cases (unpack_rows rows) refl are is
  where
    cases : (r : Result (List Row) Broken) → r ≡ unpack_rows rows → IfOk r (AreRowsOf target) → Is made (record { schema = target; rows = r }) → Is made (unpack_meant target (meant_by_cores array))
    cases (Ok unpacked) f k h = unpack_whole array target rows unpacked (Ok made) whole e f k h
    cases (Err broken) f k h = unpack_doubt array target rows broken (Ok made) whole e f h

-- Rows that are being numbered.
use Rattle.std.proofs.Common.{◌≡◌, true, cond, ℕ, suc, ◌+◌, ◌<◌, ◌≤◌, ◌^◌, List, [], ◌∷◌, ◌++◌, length, Option, Some, None, Result, Ok, Err, refl, sym, ap, ◌∙◌, subst, arith}
use Rattle.cell_values.specs.declared.datum.Broken.{Broken}
use Rattle.cell_values.specs.declared.datum.Row.{Row}
use Rattle.cell_values.specs.declared.memory.Memory.{Memory}
use Rattle.cell_values.specs.declared.schema.Schema.{Schema}
use Rattle.cell_values.specs.Schemas.{IsValid}
use Rattle.std.specs.Prelude.{IfOk}
use Rattle.array_rows.specs.Arrays.{AreRowsOf}
use Rattle.array_geom.specs.declared.chunk.ChunkedArray.{ChunkedArray}
use Rattle.array_geom.specs.Link.{Is}
use Rattle.array_parts.specs.Cores.{HaveCells, cores_of, meant_by_cores, unless_broken}
use Rattle.array_parts.proofs.CoreLaws.{cores_are_rows}
use Rattle.array_rows.specs.Boxes.{bounds_of, is_inside, within}
use Rattle.cell_values.specs.declared.schema.Bounds.{Bounds}
use Rattle.std.specs.List.{AllByRecursion}
use Rattle.logical_plan.specs.Faults.{and_then, if_whole}
use Rattle.logical_plan.specs.ShapeMeant.{unpack_meant}
use Rattle.logical_plan.specs.ShapeSchemas.{unpack_schema}
use Rattle.shape_rows.proofs.UnpackLaws.{unpacks_are_arrays}
use Rattle.exec_box.proofs.ArraysMadeLaws.{stands_for}
use Rattle.shape_exec.proofs.BuildLaws.{meant_of}
use Rattle.logical_plan.specs.Shapes.{unpacked_from, unpack_rows}
use Rattle.shape_exec.specs.Inner.Unpacked.{Unpacks, followed}

-- the rows so far, and what is left of them
pub record IsNumbering (rows : List Row) (number : ℕ) (made left : List Row) : Type 0 where
  pub same : followed made (unpacked_from number left) ≡ unpack_rows rows
  pub many : number + length left ≡ length rows

none_followed : (r : Result (List Row) Broken) → followed [] r ≡ r
none_followed (Ok rows) = refl
none_followed (Err broken) = refl

pub begun : (rows made left : List Row) → made ≡ [] → left ≡ rows → IsNumbering rows 0 made left
begun rows made left e f = record {
  same = (λ i. followed (e i) (unpacked_from 0 (f i))) ∙ none_followed (unpack_rows rows);
  many = let g = ap length f in omega (arith, g);
}

pub few_left : (rows : List Row) (number : ℕ) (made left : List Row) (row : Row) (more : List Row) → left ≡ row ∷ more → length rows ≤ 2 ^ 62 → IsNumbering rows number made left → number < 2 ^ 62
few_left rows number made left row more e few is = let g : length left ≡ suc (length more) = ap length e in let m = is.many in omega (arith, g, m, few)

pub one_more : (rows : List Row) (number next : ℕ) (made new left : List Row) (row : Row) (more : List Row) (broken : Option Broken) → left ≡ row ∷ more → next ≡ number + 1 → broken ≡ None → Unpacks number row made new broken → IsNumbering rows number made left
    → IsNumbering rows next new more
one_more rows number next made new left row more broken e n b u is =
    let step : Unpacks number row made new None = subst (Unpacks number row made new) b u in
    let g : length left ≡ suc (length more) = ap length e in
    let m = is.many in
    record {
      same = ap (λ (k : ℕ). followed new (unpacked_from k more)) n ∙ step (unpacked_from (number + 1) more) ∙ sym (ap (λ (l : List Row). followed made (unpacked_from number l)) e) ∙ is.same;
      many = omega (arith, g, m, n);
    }

pub broken_here : (rows : List Row) (number : ℕ) (made new left : List Row) (row : Row) (more : List Row) (found : Option Broken) (broken : Broken) → left ≡ row ∷ more → found ≡ Some broken → Unpacks number row made new found → IsNumbering rows number made left
    → Err broken ≡ unpack_rows rows
broken_here rows number made new left row more found broken e b u is =
    let step : Unpacks number row made new (Some broken) = subst (Unpacks number row made new) b u in
    step (unpacked_from (number + 1) more) ∙ sym (ap (λ (l : List Row). followed made (unpacked_from number l)) e) ∙ is.same

nothing_more : (rows : List Row) → followed rows (Ok []) ≡ Ok rows
nothing_more rows = ap (λ (l : List Row). Ok l) (all rows)
  where
    all : (rows : List Row) → rows ++ [] ≡ rows
    all [] = refl
    all (row ∷ rows) = ap (λ (l : List Row). row ∷ l) (all rows)

pub ended : (rows : List Row) (number : ℕ) (made left : List Row) → left ≡ [] → IsNumbering rows number made left → Ok made ≡ unpack_rows rows
ended rows number made left e is = sym (nothing_more made) ∙ sym (ap (λ (l : List Row). followed made (unpacked_from number l)) e) ∙ is.same

-- ---- the array

pub unpacked_are : (array : ChunkedArray) (target : Schema) (rows made : List Row) → HaveCells array.schema array.margins.items array.chunks → (name : List ℕ) × (target ≡ unpack_schema name array.schema) → IsValid target → rows ≡ cores_of array
    → length rows ≤ 2 ^ 62 → Ok made ≡ unpack_rows rows → AreRowsOf target made
unpacked_are array target rows made cells named valid e few told =
    let law : IfOk (unpack_rows (cores_of array)) (AreRowsOf (unpack_schema named.0 array.schema)) =
    unpacks_are_arrays named.0 array.schema (cores_of array) (subst IsValid named.1 valid) (cores_are_rows array.schema array.margins.items array.chunks cells) (subst (λ (rs : List Row). length rs ≤ 2 ^ 62) e few) in
    let here : IfOk {E = Broken} (Ok made) (AreRowsOf (unpack_schema named.0 array.schema)) = subst (λ (r : Result (List Row) Broken). IfOk r (AreRowsOf (unpack_schema named.0 array.schema))) (sym (told ∙ ap unpack_rows e)) law in
    subst (λ (s : Schema). AreRowsOf s made) (sym named.1) here

kept_within : (area : Bounds) (rows : List Row) → AllByRecursion (λ row. is_inside area row.at.items ≡ true) rows → within area rows ≡ rows
kept_within area [] a = refl
kept_within area (row ∷ rows) a = (λ i. cond (a.0 i) (row ∷ within area rows) (within area rows)) ∙ ap (λ (l : List Row). row ∷ l) (kept_within area rows a.1)

-- of rows of an array none lies beyond its bounds
pub unpack_whole : (array : ChunkedArray) (target : Schema) (rows made : List Row) (r : Result ChunkedArray Memory) → array.broken ≡ None → rows ≡ cores_of array → Ok made ≡ unpack_rows rows → AreRowsOf target made
    → IfOk r (λ a. Is a (record { schema = target; rows = Ok made })) → IfOk r (λ a. Is a (unpack_meant target (meant_by_cores array)))
unpack_whole array target rows made r whole e f are is =
    let area : Bounds = bounds_of target.dimensions in
    let told : Result (List Row) Broken = and_then unpack_rows (unless_broken array.broken (cores_of array)) in
    let same : Ok made ≡ told = f ∙ ap unpack_rows e ∙ ap (λ b. and_then unpack_rows (unless_broken b (cores_of array))) (sym whole) in
    let within_all : Ok made ≡ if_whole (within area) told = ap (λ (l : List Row). Ok l) (sym (kept_within area made are.are_rows.in_bounds)) ∙ ap (if_whole (within area)) same in
    stands_for r _ _ (ap (meant_of target) within_all) is

pub unpack_doubt : (array : ChunkedArray) (target : Schema) (rows : List Row) (broken : Broken) (r : Result ChunkedArray Memory) → array.broken ≡ None → rows ≡ cores_of array → Err broken ≡ unpack_rows rows
    → IfOk r (λ a. Is a (record { schema = target; rows = Err broken })) → IfOk r (λ a. Is a (unpack_meant target (meant_by_cores array)))
unpack_doubt array target rows broken r whole e f is =
    let area : Bounds = bounds_of target.dimensions in
    let told : Result (List Row) Broken = and_then unpack_rows (unless_broken array.broken (cores_of array)) in
    let same : Err broken ≡ told = f ∙ ap unpack_rows e ∙ ap (λ b. and_then unpack_rows (unless_broken b (cores_of array))) (sym whole) in
    let here : Err broken ≡ if_whole (within area) told = ap (if_whole (within area)) same in
    stands_for r _ _ (ap (meant_of target) here) is

-- Values that are computed column by column.
use Rattle.std.proofs.Common.{◌≡◌, ℕ, zero, suc, ◌+◌, ◌<◌, ◌≤◌, ℤ, List, [], ◌∷◌, ◌++◌, map, length, take, get_or, Option, Some, refl, sym, ap, ◌∙◌, subst, arith}
use Rattle.std.proofs.lemmas.List.{take_all, take_more}
use Rattle.std.specs.List.{AllByRecursion}
use Rattle.std.specs.Prelude.{IfOk, IfSome, Result, Ok, Err}
use Rattle.arrayvec.specs.ArrayVec.{ArrayVec}
use Rattle.cell_values.specs.declared.datum.Cell.{Cell}
use Rattle.cell_values.specs.declared.datum.Cell.TheVariants.{Full, Doubt}
use Rattle.cell_values.specs.declared.datum.Datum.{Datum}
use Rattle.cell_values.specs.declared.datum.Datum.TheVariants.{Null}
use Rattle.cell_values.specs.declared.datum.Row.{Row}
use Rattle.cell_values.specs.declared.memory.Memory.{Memory}
use Rattle.cell_values.specs.declared.schema.Dimension.{Dimension}
use Rattle.array_rows.specs.Boxes.{by_pairs}
use Rattle.array_rows.specs.Cellwise.{put_first}
use Rattle.array_rows.specs.Rows.{placed}
use Rattle.array_rows.specs.RowsIn.{AreLong, row_at, rows_in as column_rows}
use Rattle.array_geom.specs.declared.chunk.Chunk.{Chunk}
use Rattle.array_geom.specs.Chunks.{AreRising}
use Rattle.array_geom.specs.Geometry.{coordinate_in, frame_low, frame_lengths, volume}
use Rattle.array_geom.specs.Link.{rows_in, IsPart}
use Rattle.logical_plan.specs.declared.parts.Applied.{Applied}
use Rattle.logical_plan.specs.CellOps.{apply_cell, apply_rows}
use Rattle.array_parts.specs.Made.{IsPlaced, IsMadeBy}
use Rattle.array_parts.proofs.Steps.{part_made}
use Rattle.exec_cellwise.specs.Inner.Computed.{applied_at, behind, value_there, values_there}

-- ---- pairs

pub pairs_length : {A B C : Type 0} (f : A → B → C) (xs : List A) (ys : List B) → length ys ≡ length xs → length (by_pairs f xs ys) ≡ length xs
pairs_length f [] ys e = refl
pairs_length f (x ∷ xs) [] e = absurd (omega arith)
pairs_length f (x ∷ xs) (y ∷ ys) e = ap suc (pairs_length f xs ys (omega arith))

pairs_at : {A B C : Type 0} (f : A → B → C) (xs : List A) (ys : List B) (k : ℕ) (a : A) (b : B) (c : C) → k < length xs → length ys ≡ length xs → get_or (by_pairs f xs ys) k c ≡ f (get_or xs k a) (get_or ys k b)
pairs_at f [] ys k a b c l e = absurd (omega (arith, l))
pairs_at f (x ∷ xs) [] k a b c l e = absurd (omega (arith, e))
pairs_at f (x ∷ xs) (y ∷ ys) zero a b c l e = refl
pairs_at f (x ∷ xs) (y ∷ ys) (suc k) a b c l e = pairs_at f xs ys k a b c (omega (arith, l)) (omega (arith, e))

-- a loop's step: one more item, which is made of the next pair
pub pair_more : {A B C : Type 0} (f : A → B → C) (xs : List A) (ys : List B) (k : ℕ) (a : A) (b : B) (v : C) (old new : List C) → k < length xs → length ys ≡ length xs
    → old ≡ take k (by_pairs f xs ys) → new ≡ old ++ v ∷ [] → v ≡ f (get_or xs k a) (get_or ys k b) → new ≡ take (k + 1) (by_pairs f xs ys)
pair_more {C = C} f xs ys k a b v old new less each is pushed same =
    let all = by_pairs f xs ys in
    pushed ∙ ap (λ (l : List C). l ++ v ∷ []) is ∙ ap (λ (z : C). take k all ++ z ∷ []) (same ∙ sym (pairs_at f xs ys k a b v less each))
    ∙ sym (take_more all k v (subst (λ (n : ℕ). k < n) (sym (pairs_length f xs ys each)) less))

pub pairs_all : {A B C : Type 0} (f : A → B → C) (xs : List A) (ys : List B) (k : ℕ) (made : List C) → length xs ≤ k → length ys ≡ length xs → made ≡ take k (by_pairs f xs ys) → made ≡ by_pairs f xs ys
pairs_all f xs ys k made most each is = is ∙ take_all k (by_pairs f xs ys) (subst (λ (n : ℕ). n ≤ k) (sym (pairs_length f xs ys each)) most)

pub all_at : {A : Type 0} (P : A → Type 0) (xs : List A) (k : ℕ) (d : A) → k < length xs → AllByRecursion P xs → P (get_or xs k d)
all_at P [] k d less all = absurd (omega (arith, less))
all_at P (x ∷ xs) zero d less all = all.0
all_at P (x ∷ xs) (suc k) d less all = all_at P xs k d (omega (arith, less)) all.1

-- ---- columns of values as rows

module _ (low : List ℤ) (lengths : List ℕ) (places : List ℕ) (rows : List (List Datum)) (each : length rows ≡ length places) where
  pub are_long : (more : List Applied) → AreLong (length places) (map (λ (a : Applied). by_pairs (value_there low lengths a.value) places rows) more)
  are_long [] = tt
  are_long (a ∷ more) = (pairs_length (value_there low lengths a.value) places rows each, are_long more)

  row_is : (k : ℕ) (more : List Applied) → k < length places
      → row_at k (map (λ (a : Applied). by_pairs (value_there low lengths a.value) places rows) more) ≡ values_there low lengths more (get_or places k 0) (get_or rows k [])
  row_is k [] less = refl
  row_is k (a ∷ more) less =
      ap (λ (v : Datum). v ∷ row_at k (map (λ (b : Applied). by_pairs (value_there low lengths b.value) places rows) more)) (pairs_at (value_there low lengths a.value) places rows k 0 [] Null less each)
      ∙ ap (λ (vs : List Datum). value_there low lengths a.value (get_or places k 0) (get_or rows k []) ∷ vs) (row_is k more less)

  first_rows : (more : List Applied) (n : ℕ) → n ≤ length places
      → column_rows n (map (λ (a : Applied). by_pairs (value_there low lengths a.value) places rows) more) ≡ take n (by_pairs (values_there low lengths more) places rows)
  first_rows more zero most = refl
  first_rows more (suc n) most =
      let columns = map (λ (a : Applied). by_pairs (value_there low lengths a.value) places rows) more in
      let all = by_pairs (values_there low lengths more) places rows in
      let less : n < length places = omega (arith, most) in
      let next : n + 1 ≡ suc n = omega arith in
      ap (λ (l : List (List Datum)). l ++ row_at n columns ∷ []) (first_rows more n (omega (arith, most)))
      ∙ ap (λ (r : List Datum). take n all ++ r ∷ []) (row_is n more less ∙ sym (pairs_at (values_there low lengths more) places rows n 0 [] [] less each))
      ∙ sym (take_more all n [] (subst (λ (m : ℕ). n < m) (sym (pairs_length (values_there low lengths more) places rows each)) less))
      ∙ ap (λ (m : ℕ). take m all) next

  pub rows_are : (more : List Applied) (columns : List (List Datum)) (count : ℕ) (made : List (List Datum)) → count ≡ length places
      → columns ≡ map (λ (a : Applied). by_pairs (value_there low lengths a.value) places rows) more → made ≡ column_rows count columns
      → made ≡ by_pairs (values_there low lengths more) places rows
  rows_are more columns count made all is from =
      from ∙ ap (λ (n : ℕ). column_rows n columns) all ∙ ap (column_rows (length places)) is ∙ first_rows more (length places) (omega arith)
      ∙ take_all (length places) (by_pairs (values_there low lengths more) places rows) (omega (arith, pairs_length (values_there low lengths more) places rows each))

pub are_long_columns : (low : List ℤ) (lengths places : List ℕ) (rows : List (List Datum)) (more : List Applied) (columns : List (List Datum)) (count : ℕ) → length rows ≡ length places → count ≡ length places
    → columns ≡ map (λ (a : Applied). by_pairs (value_there low lengths a.value) places rows) more → AreLong count columns
are_long_columns low lengths places rows more columns count each all is =
    subst (λ (n : ℕ). AreLong n columns) (sym all) (subst (AreLong (length places)) (sym is) (are_long low lengths places rows each more))

-- ---- cells

-- rows with others behind them, as cells
pub full_behind : (rows more : List (List Datum)) → map Full (by_pairs (λ (row others : List Datum). row ++ others) rows more) ≡ by_pairs behind rows more
full_behind [] more = refl
full_behind (r ∷ rows) [] = refl
full_behind (r ∷ rows) (o ∷ more) = ap (λ (cells : List Cell). behind r o ∷ cells) (full_behind rows more)

pub cells_are : (low : List ℤ) (lengths places : List ℕ) (more : List Applied) (rows : List (List Datum))
    → by_pairs behind rows (by_pairs (values_there low lengths more) places rows) ≡ by_pairs (applied_at low lengths more) places (map Full rows)
cells_are low lengths [] more [] = refl
cells_are low lengths [] more (r ∷ rows) = refl
cells_are low lengths (p ∷ places) more [] = refl
cells_are low lengths (p ∷ places) more (r ∷ rows) = ap (λ (cells : List Cell). behind r (values_there low lengths more p r) ∷ cells) (cells_are low lengths places more rows)

pub cells_applied : (low : List ℤ) (lengths places : List ℕ) (more : List Applied) (rows behind_them : List (List Datum)) (made : Result (List Cell) Memory) → behind_them ≡ by_pairs (values_there low lengths more) places rows
    → IfOk made (λ cells. cells ≡ by_pairs behind rows behind_them) → IfOk made (λ cells. cells ≡ by_pairs (applied_at low lengths more) places (map Full rows))
cells_applied low lengths places more rows behind_them (Err e) is from = tt
cells_applied low lengths places more rows behind_them (Ok cells) is from = from ∙ ap (by_pairs behind rows) is ∙ cells_are low lengths places more rows

stays : (low : List ℤ) (lengths : List ℕ) (more : List Applied) (p : ℕ) (x : Cell) → apply_cell more (coordinate_in low lengths p) x ≡ Some (applied_at low lengths more p x)
stays low lengths more p (Full vs) = refl
stays low lengths more p (Doubt kind) = refl

rows_applied : (low : List ℤ) (lengths positions : List ℕ) (more : List Applied) (cells : List Cell)
    → rows_in low lengths positions (by_pairs (applied_at low lengths more) positions cells) ≡ apply_rows more (rows_in low lengths positions cells)
rows_applied low lengths [] more cells = refl
rows_applied low lengths (p ∷ positions) more [] = refl
rows_applied low lengths (p ∷ positions) more (x ∷ cells) =
    ap (λ (rows : List Row). placed (coordinate_in low lengths p) (applied_at low lengths more p x) ∷ rows) (rows_applied low lengths positions more cells)
    ∙ ap (λ (o : Option Cell). put_first (coordinate_in low lengths p) o (apply_rows more (rows_in low lengths positions cells))) (sym (stays low lengths more p x))

pub cells_of_rows : (low : List ℤ) (lengths : List ℕ) (more : List Applied) (ps positions : List ℕ) (rows : List (List Datum)) (cells made : List Cell)
    → made ≡ by_pairs (applied_at low lengths more) ps (map Full rows) → ps ≡ positions → map Full rows ≡ cells → made ≡ by_pairs (applied_at low lengths more) positions cells
cells_of_rows low lengths more ps positions rows cells made is p c =
    is ∙ ap (λ (qs : List ℕ). by_pairs (applied_at low lengths more) qs (map Full rows)) p ∙ ap (by_pairs (applied_at low lengths more) positions) c

-- the chunk of the same number and positions with these cells
pub applied_made : (more : List Applied) (dims : List Dimension) (margins : List ℕ) (low : List ℤ) (lengths : List ℕ) (old new : Chunk) → low ≡ frame_low dims margins old.at.items → lengths ≡ frame_lengths dims margins
    → new.at ≡ old.at → new.positions ≡ old.positions → new.cells ≡ by_pairs (applied_at low lengths more) old.positions old.cells → IsPlaced dims margins old → IsMadeBy (apply_rows more) dims margins old new
applied_made more dims margins low lengths old new l n number p c are =
    let cells = λ (zs : List ℤ) (ns : List ℕ). by_pairs (applied_at zs ns more) old.positions old.cells in
    let here : new.cells ≡ cells (frame_low dims margins old.at.items) (frame_lengths dims margins) = c ∙ ap (λ (zs : List ℤ). cells zs lengths) l ∙ ap (λ (ns : List ℕ). cells (frame_low dims margins old.at.items) ns) n in
    record {
      number = number;
      placed = record {
        each = ap length c ∙ pairs_length (applied_at low lengths more) old.positions old.cells are.each ∙ ap length (sym p);
        in_frame = subst (AllByRecursion (λ q. q < volume (frame_lengths dims margins))) (sym p) are.in_frame;
      };
      rising = λ r. subst AreRising (sym p) r;
      rows =
          ap (λ (at : ArrayVec ℕ). rows_in (frame_low dims margins at.items) (frame_lengths dims margins) new.positions new.cells) number
          ∙ ap (λ (ps : List ℕ). rows_in (frame_low dims margins old.at.items) (frame_lengths dims margins) ps new.cells) p
          ∙ ap (λ (cs : List Cell). rows_in (frame_low dims margins old.at.items) (frame_lengths dims margins) old.positions cs) here
          ∙ rows_applied (frame_low dims margins old.at.items) (frame_lengths dims margins) old.positions more old.cells;
    }

pub applied_part : (more : List Applied) (dims : List Dimension) (margins : List ℕ) (rows : List Row) (low : List ℤ) (lengths : List ℕ) (old new : Chunk) → low ≡ frame_low dims margins old.at.items → lengths ≡ frame_lengths dims margins
    → new.at ≡ old.at → new.positions ≡ old.positions → new.cells ≡ by_pairs (applied_at low lengths more) old.positions old.cells
    → IsPart dims margins rows old → IsPart dims margins (apply_rows more rows) new
applied_part more dims margins rows low lengths old new l n number p c part =
    part_made (apply_cell more) dims margins rows old new part (applied_made more dims margins low lengths old new l n number p c (record { each = part.each; in_frame = part.in_frame }))

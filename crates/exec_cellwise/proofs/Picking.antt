-- Cells that are changed at their positions, whatever their coordinates.
use Rattle.std.proofs.Common.{◌≡◌, ℕ, ◌+◌, ◌<◌, ℤ, List, [], ◌∷◌, ◌++◌, map, length, take, get_or, Option, Some, refl, sym, ap, subst, ◌∙◌}
use Rattle.std.proofs.lemmas.List.{length-map, map_more}
use Rattle.std.specs.List.{AllByRecursion}
use Rattle.arrayvec.specs.ArrayVec.{ArrayVec}
use Rattle.cell_values.specs.declared.datum.Cell.{Cell}
use Rattle.cell_values.specs.declared.datum.Cell.TheVariants.{Full, Doubt}
use Rattle.cell_values.specs.declared.datum.Row.{Row}
use Rattle.cell_values.specs.declared.schema.Dimension.{Dimension}
use Rattle.array_rows.specs.Cellwise.{put_first}
use Rattle.array_rows.specs.Rows.{Coordinate, placed}
use Rattle.array_geom.specs.declared.chunk.Chunk.{Chunk}
use Rattle.array_geom.specs.Chunks.{AreRising}
use Rattle.array_geom.specs.Geometry.{coordinate_in, frame_low, frame_lengths, volume}
use Rattle.array_geom.specs.Link.{rows_in, IsPart}
use Rattle.logical_plan.specs.CellOps.{project_cell, project_rows}
use Rattle.array_parts.specs.Made.{IsPlaced, IsMadeBy}
use Rattle.array_parts.proofs.Steps.{part_made}
use Rattle.exec_cellwise.specs.Picked.{picked}

-- a loop's step: one more item, which is made of the next one
pub one_made : {A B : Type 0} (f : A → B) (xs : List A) (i : ℕ) (d : A) (z : B) (old new : List B) → i < length xs → old ≡ map f (take i xs)
    → new ≡ old ++ z ∷ [] → z ≡ f (get_or xs i d) → new ≡ map f (take (i + 1) xs)
one_made {A} {B} f xs i d z old new less is pushed same =
    pushed ∙ ap (λ (l : List B). l ++ z ∷ []) is ∙ ap (λ (y : B). map f (take i xs) ++ y ∷ []) same ∙ sym (map_more f xs i d less)

stays : (places : List ℕ) (c : Coordinate) (x : Cell) → project_cell places c x ≡ Some (picked places x)
stays places c (Full vs) = refl
stays places c (Doubt kind) = refl

picked_rows : (places : List ℕ) (low : List ℤ) (lengths positions : List ℕ) (cells : List Cell) → rows_in low lengths positions (map (picked places) cells) ≡ project_rows places (rows_in low lengths positions cells)
picked_rows places low lengths [] cells = refl
picked_rows places low lengths (p ∷ positions) [] = refl
picked_rows places low lengths (p ∷ positions) (x ∷ cells) =
    ap (λ (rows : List Row). placed (coordinate_in low lengths p) (picked places x) ∷ rows) (picked_rows places low lengths positions cells)
    ∙ ap (λ (o : Option Cell). put_first (coordinate_in low lengths p) o (project_rows places (rows_in low lengths positions cells))) (sym (stays places (coordinate_in low lengths p) x))

-- the chunk of the same number and positions with these cells
pub made_of : (places : List ℕ) (dims : List Dimension) (margins : List ℕ) (old new : Chunk) → new.at ≡ old.at → new.positions ≡ old.positions → new.cells ≡ map (picked places) old.cells
    → IsPlaced dims margins old → IsMadeBy (project_rows places) dims margins old new
made_of places dims margins old new n p c are = record {
  number = n;
  placed = record {
    each = ap length c ∙ length-map old.cells (picked places) ∙ are.each ∙ ap length (sym p);
    in_frame = subst (AllByRecursion (λ q. q < volume (frame_lengths dims margins))) (sym p) are.in_frame;
  };
  rising = λ r. subst AreRising (sym p) r;
  rows =
      ap (λ (at : ArrayVec ℕ). rows_in (frame_low dims margins at.items) (frame_lengths dims margins) new.positions new.cells) n
      ∙ ap (λ (ps : List ℕ). rows_in (frame_low dims margins old.at.items) (frame_lengths dims margins) ps new.cells) p
      ∙ ap (λ (cs : List Cell). rows_in (frame_low dims margins old.at.items) (frame_lengths dims margins) old.positions cs) c
      ∙ picked_rows places (frame_low dims margins old.at.items) (frame_lengths dims margins) old.positions old.cells;
}

pub part_of : (places : List ℕ) (dims : List Dimension) (margins : List ℕ) (rows : List Row) (old new : Chunk) → new.at ≡ old.at → new.positions ≡ old.positions → new.cells ≡ map (picked places) old.cells
    → IsPart dims margins rows old → IsPart dims margins (project_rows places rows) new
part_of places dims margins rows old new n p c part =
    part_made (project_cell places) dims margins rows old new part (made_of places dims margins old new n p c (record { each = part.each; in_frame = part.in_frame }))

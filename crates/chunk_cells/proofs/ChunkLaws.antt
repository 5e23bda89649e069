-- Chunks that have taken all rows are the array.
use Rattle.chunk_cells.proofs.CellLaws.{take_with}
use Rattle.std.proofs.lemmas.List.{map-append}
use Rattle.std.proofs.Common.{◌≡◌, ℕ, Bool, true, false, cond, ◌<◌, List, [], ◌∷◌, length, refl, sym, ap, ◌∙◌, subst, ◌+◌, ◌++◌, take, get_or}
use Rattle.std.specs.List.{AllByRecursion}
use Rattle.cell_values.specs.declared.datum.Row.{Row}
use Rattle.cell_values.specs.declared.schema.Dimension.{Dimension}
use Rattle.arrayvec.specs.ArrayVec.{ArrayVec}
use Rattle.array_rows.specs.Boxes.{is_inside, within, bounds_of}
use Rattle.array_geom.specs.Geometry.{ChunkNumber, core, frame_lengths, frame_low, has_core, volume}
use Rattle.array_geom.specs.Link.{AreChunksOf, IsPart, NumbersRise, has_cell, is_listed, is_not_empty, numbers, rows_in}
use Rattle.array_geom.specs.Inner.Ranges.{AreNear}
use Rattle.array_geom.specs.declared.chunk.Chunk.{Chunk}
use Rattle.array_geom.proofs.CoreLaws.{core_of, chunk_has_core}
use Rattle.chunk_cells.specs.Frames.{AreFramed, HasNoCells}
use Rattle.chunk_cells.specs.Inner.Numbers.{numbers_in, AreCoresOf}
use Rattle.chunk_cells.proofs.SortedLaws.{all_listed}
use Rattle.chunk_cells.proofs.PartLaws.{all_with}

core_of_cell : (dims : List Dimension) (k : ChunkNumber) (rows : List Row) → AreNear dims → length k ≡ length dims → AllByRecursion (λ row. is_inside (bounds_of dims) row.at.items ≡ true) rows → has_cell dims rows k ≡ true → has_core dims k ≡ true
core_of_cell dims k [] near l a e = cc
core_of_cell dims k (row ∷ rows) near l a e = cases (is_inside (core dims k) row.at.items) refl e (core_of_cell dims k rows near l a.1)
  where
    cases : (t : Bool) → is_inside (core dims k) row.at.items ≡ t → is_not_empty (cond t (row ∷ within (core dims k) rows) (within (core dims k) rows)) ≡ true → (has_cell dims rows k ≡ true → has_core dims k ≡ true) → has_core dims k ≡ true
    cases true f g more = ap (has_core dims) (core_of dims k row.at.items near l f) ∙ chunk_has_core dims row.at.items a.0
    cases false f g more = more g

pub cores_framed : (dims : List Dimension) (rows : List Row) (listed : List (ArrayVec ℕ)) → AreNear dims → AllByRecursion (λ row. is_inside (bounds_of dims) row.at.items ≡ true) rows → AreCoresOf dims rows listed → AreFramed dims (numbers_in listed)
cores_framed dims rows listed near inside cores =
    all_with (λ (k : ChunkNumber). length k ≡ length dims) (λ (k : ChunkNumber). is_listed k (numbers_in listed) ≡ true) (λ (k : ChunkNumber). has_core dims k ≡ true) (numbers_in listed) cores.named.sized
    (all_listed (λ (k : ChunkNumber). is_listed k (numbers_in listed) ≡ true) (numbers_in listed) (λ k e. e))
    (λ k l e. core_of_cell dims k rows near l inside (sym (cores.named.cores k l) ∙ e))

pub empty_parts : (dims : List Dimension) (margins : List ℕ) (chunks : List Chunk) → AllByRecursion HasNoCells chunks → AllByRecursion (IsPart dims margins []) chunks
empty_parts dims margins [] a = tt
empty_parts dims margins (chunk ∷ chunks) a = (empty_part dims margins chunk a.0.0 a.0.1, empty_parts dims margins chunks a.1)
  where
    empty_part : (dims : List Dimension) (margins : List ℕ) (chunk : Chunk) → chunk.positions ≡ [] → chunk.cells ≡ [] → IsPart dims margins [] chunk
    empty_part dims margins chunk p q = record {
      each = ap length q ∙ sym (ap length p);
      in_frame = subst (AllByRecursion (λ (q : ℕ). q < volume (frame_lengths dims margins))) (sym p) tt;
      cells = ap (λ (ps : List ℕ). rows_in (frame_low dims margins chunk.at.items) (frame_lengths dims margins) ps chunk.cells) p;
    }

pub are_chunks : (dims : List Dimension) (margins : List ℕ) (rows : List Row) (listed : List (ArrayVec ℕ)) (chunks : List Chunk) → AreCoresOf dims rows listed → numbers chunks ≡ numbers_in listed → AllByRecursion (IsPart dims margins rows) chunks → AreChunksOf dims margins rows chunks
are_chunks dims margins rows listed chunks cores same parts = record {
  in_order = subst NumbersRise (sym same) cores.in_order;
  sized = subst (AllByRecursion (λ (k : ChunkNumber). length k ≡ length dims)) (sym same) cores.named.sized;
  listed = λ k l. ap (is_listed k) same ∙ cores.named.cores k l;
  parts = parts;
}

-- chunks with the numbers of the cores that have a row
pub chunks_made : (dims : List Dimension) (margins : List ℕ) (rows : List Row) (listed : List (ArrayVec ℕ)) (chunks : List Chunk) → AreCoresOf dims rows listed → numbers chunks ≡ numbers_in listed
    → AllByRecursion (IsPart dims margins rows) chunks → AreChunksOf dims margins rows chunks
chunks_made dims margins rows listed chunks are same parts = record {
  in_order = subst NumbersRise (sym same) are.in_order;
  sized = subst (AllByRecursion (λ k. length k ≡ length dims)) (sym same) are.named.sized;
  listed = λ k sized. ap (is_listed k) same ∙ are.named.cores k sized;
  parts = parts;
}

pub numbers_more : (chunks new : List Chunk) (chunk : Chunk) (listed : List (ArrayVec ℕ)) (i : ℕ) (number : ArrayVec ℕ) → new ≡ chunks ++ chunk ∷ [] → numbers chunks ≡ numbers_in (take i listed)
    → chunk.at ≡ number → i < length listed → number ≡ get_or listed i number → numbers new ≡ numbers_in (take (i + 1) listed)
numbers_more chunks new chunk listed i number pushed same at_is low is =
    ap numbers pushed ∙ map-append (λ (c : Chunk). c.at.items) chunks (chunk ∷ [])
    ∙ ap (λ ks. ks ++ chunk.at.items ∷ []) same ∙ ap (λ (k : ArrayVec ℕ). numbers_in (take i listed) ++ k.items ∷ []) at_is
    ∙ sym (map-append (λ (k : ArrayVec ℕ). k.items) (take i listed) (number ∷ [])) ∙ ap numbers_in (take_with listed i number low is)

pub all_and_last : {X : Type 0} (P : X → Type 0) (xs : List X) (x : X) → AllByRecursion P xs → P x → AllByRecursion P (xs ++ x ∷ [])
all_and_last P [] x all last = (last, tt)
all_and_last P (y ∷ xs) x all last = (all.0, all_and_last P xs x all.1 last)

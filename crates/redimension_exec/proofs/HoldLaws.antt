-- Chunks without margins that hold rows, with one row more.
use Rattle.std.proofs.Common.{◌≡◌, ℕ, suc, Bool, true, false, cond, List, [], ◌∷◌, ◌++◌, length, Option, Some, None, refl, sym, ap, ◌∙◌, subst}
use Rattle.std.proofs.lemmas.List.{append-nil}
use Rattle.std.specs.BTreeMap as tree
use Rattle.std.specs.BTreeMap.{BTreeMap, Updates}
use Rattle.std.specs.Option.{unwrap_or}
use Rattle.std.specs.Ordering.{is_eq}
use Rattle.std.specs.Prelude.{int_le}
use Rattle.std.specs.declared.cmp.Ordering.{Ordering}
use Rattle.std.specs.declared.cmp.Ordering.TheVariants.{Less, Equal, Greater}
use Rattle.arrayvec.specs.ArrayVec.{ArrayVec}
use Rattle.cell_values.specs.declared.datum.Row.{Row}
use Rattle.cell_values.specs.declared.schema.Dimension.{Dimension}
use Rattle.cell_values.specs.declared.schema.Schema.{Schema}
use Rattle.cell_values.specs.Schemas.{IsValid}
use Rattle.array_rows.specs.Boxes.{bounds_of, is_inside, within}
use Rattle.array_rows.specs.Rows.{Coordinate}
use Rattle.array_geom.specs.declared.chunk.Chunk.{Chunk}
use Rattle.array_geom.specs.Geometry.{ChunkNumber, HasFrame, chunk_of, first_in, frame, has_core, position_of}
use Rattle.array_geom.specs.Link.{IsPart, number_order}
use Rattle.array_geom.proofs.CoreLaws.{chunk_has_core, core_has, core_in_frame}
use Rattle.array_geom.proofs.NearLemmas.{valid_placed}
use Rattle.array_geom.proofs.NumberLaws.{is_equal, same_number}
use Rattle.array_geom.proofs.TestLaws.{and_parts}
use Rattle.array_parts.specs.Made.{with_cell}
use Rattle.chunk_cells.proofs.CellLaws.{in_own_core, within-more}
use Rattle.chunk_cells.proofs.PartLaws.{skips, takes}
use Rattle.area_cells.specs.Margins.{no_margins}
use Rattle.area_cells.proofs.FrameLaws.{each_none, frame_in_core, places_none}
use Rattle.redimension_exec.specs.Inner.Filling.{AreIn, IsHeld, IsHeldAt, by_number, chunk_at, no_cells}
use Rattle.redimension_exec.specs.declared.filling.chunks.Filled.{Filled}

pub long_as_core : (dims : List Dimension) (k : ChunkNumber) → has_core dims k ≡ true → length k ≡ length dims
long_as_core [] [] e = refl
long_as_core [] (q ∷ k) e = cc
long_as_core (d ∷ dims) [] e = cc
long_as_core (d ∷ dims) (q ∷ k) e = ap suc (long_as_core dims k (and_parts (int_le (first_in d q) d.hi) (has_core dims k) e).1)

clash : true ≡ false → ⊥
clash e = cc

-- a coordinate within the bounds lies in no other such frame than that of its chunk
other_frame : (target : Schema) (k : ChunkNumber) (c : Coordinate) → IsValid target → length k ≡ length target.dimensions → is_inside (bounds_of target.dimensions) c ≡ true
    → is_eq (number_order (chunk_of target.dimensions c) k) ≡ false → is_inside (frame target.dimensions (no_margins target.dimensions) k) c ≡ false
other_frame target k c valid l b n = cases (is_inside (frame target.dimensions (no_margins target.dimensions) k) c) refl
  where
    cases : (t : Bool) → is_inside (frame target.dimensions (no_margins target.dimensions) k) c ≡ t → is_inside (frame target.dimensions (no_margins target.dimensions) k) c ≡ false
    cases false e = e
    cases true e = absurd (clash (sym (frame_in_core target.dimensions k c b e) ∙ in_own_core target.dimensions k c (valid_placed target valid).near l b ∙ n))

-- ---- one row more

module _ (target : Schema) (made : List Row) (row : Row) (number : ArrayVec ℕ) (valid : IsValid target) (inside : is_inside (bounds_of target.dimensions) row.at.items ≡ true)
    (own : number.items ≡ chunk_of target.dimensions row.at.items) where
  pub own_framed : HasFrame target (no_margins target.dimensions) number.items
  own_framed = record {
    valid = valid;
    core = ap (has_core target.dimensions) own ∙ chunk_has_core target.dimensions row.at.items inside;
    each = each_none target.dimensions;
    places = places_none target valid;
  }

  pub own_inside : is_inside (frame target.dimensions (no_margins target.dimensions) number.items) row.at.items ≡ true
  own_inside =
      ap (λ (k : ChunkNumber). is_inside (frame target.dimensions (no_margins target.dimensions) k) row.at.items) own
      ∙ core_in_frame target.dimensions (no_margins target.dimensions) (chunk_of target.dimensions row.at.items) row.at.items (each_none target.dimensions)
      (core_has target.dimensions row.at.items (valid_placed target valid).near inside)

  module _ (place : ℕ) (p : place ≡ position_of target.dimensions (no_margins target.dimensions) number.items row.at.items) where
    with_row : (old new : Chunk) → old.at.items ≡ number.items → new ≡ with_cell old place (Some row.cell) → IsPart target.dimensions (no_margins target.dimensions) made old
        → IsHeldAt target (made ++ row ∷ []) number.items new
    with_row old new at e part =
        let took = takes target (no_margins target.dimensions) row old new place (subst (λ (k : ChunkNumber). HasFrame target (no_margins target.dimensions) k) (sym at) own_framed)
        (ap (λ (k : ChunkNumber). is_inside (frame target.dimensions (no_margins target.dimensions) k) row.at.items) at ∙ own_inside)
        (p ∙ ap (λ (k : ChunkNumber). position_of target.dimensions (no_margins target.dimensions) k row.at.items) (sym at))
        (ap (λ (c : Chunk). c.at) e) (ap (λ (c : Chunk). c.positions) e) (ap (λ (c : Chunk). c.cells) e) in
        record { at = ap (λ (c : Chunk). c.at.items) e ∙ at; framed = own_framed; part = took.part made part }

    held_on : (key : ArrayVec ℕ) (o : Option Chunk) → is_eq (by_number number key) ≡ false → IsHeld target made key o → IsHeld target (made ++ row ∷ []) key o
    held_on key None n h = λ l.
        within-more (frame target.dimensions (no_margins target.dimensions) key.items) made row
        ∙ (λ i. within (frame target.dimensions (no_margins target.dimensions) key.items) made
        ++ cond (other_frame target key.items row.at.items valid l inside (ap (λ (k : ChunkNumber). is_eq (number_order k key.items)) (sym own) ∙ n) i) (row ∷ []) [])
        ∙ append-nil (within (frame target.dimensions (no_margins target.dimensions) key.items) made)
        ∙ h l
    held_on key (Some chunk) n h =
        let outside : is_inside (frame target.dimensions (no_margins target.dimensions) chunk.at.items) row.at.items ≡ false =
        ap (λ (k : ChunkNumber). is_inside (frame target.dimensions (no_margins target.dimensions) k) row.at.items) h.at
        ∙ other_frame target key.items row.at.items valid (long_as_core target.dimensions key.items h.framed.core) inside (ap (λ (k : ChunkNumber). is_eq (number_order k key.items)) (sym own) ∙ n) in
        record { at = h.at; framed = h.framed; part = (skips target (no_margins target.dimensions) row chunk outside).part made h.part }

    -- the chunk that stands at the number, or the first one there
    held_here : (o : Option Chunk) → IsHeld target made number o → IsHeldAt target made number.items (unwrap_or o (no_cells number))
    held_here (Some found) h = h
    held_here None h = record {
      at = refl;
      framed = own_framed;
      part = record { each = refl; in_frame = tt; cells = sym (h (long_as_core target.dimensions number.items own_framed.core)) };
    }

    module _ (old new : Filled) (chunk last : Chunk) (holds : AreIn target made old) (here : chunk ≡ unwrap_or (chunk_at old.last old.others number) (no_cells number))
        (filled : last ≡ with_cell chunk place (Some row.cell)) (others : (key : ArrayVec ℕ) → is_eq (by_number number key) ≡ false → tree.get by_number new.others key ≡ chunk_at old.last old.others key) where
      last_holds : IsHeldAt target (made ++ row ∷ []) number.items last
      last_holds =
          let held = subst (IsHeldAt target made number.items) (sym here) (held_here (chunk_at old.last old.others number) (holds number)) in
          with_row chunk last held.at filled held.part

      each_key : (key : ArrayVec ℕ) → IsHeld target (made ++ row ∷ []) key (chunk_at (Some last) new.others key)
      each_key key = cases (by_number last.at key) (ap (λ (k : ChunkNumber). number_order k key.items) last_holds.at)
        where
          apart : is_eq (by_number number key) ≡ false → IsHeld target (made ++ row ∷ []) key (tree.get by_number new.others key)
          apart n = subst (IsHeld target (made ++ row ∷ []) key) (sym (others key n)) (held_on key (chunk_at old.last old.others key) n (holds key))

          cases : (o : Ordering) → o ≡ by_number number key → IsHeld target (made ++ row ∷ []) key (cond (is_eq o) (Some last) (tree.get by_number new.others key))
          cases Less e = apart (ap is_eq (sym e))
          cases Greater e = apart (ap is_eq (sym e))
          cases Equal e = subst (λ (k : ChunkNumber). IsHeldAt target (made ++ row ∷ []) k last) (same_number number.items key.items (sym e)) last_holds

      pub held_more : new.last ≡ Some last → AreIn target (made ++ row ∷ []) new
      held_more e key = subst (λ (o : Option Chunk). IsHeld target (made ++ row ∷ []) key (chunk_at o new.others key)) (sym e) (each_key key)

-- ---- a chunk beside the others

-- the last chunk stands where its number leads
pub found_last : (last : Chunk) (others : BTreeMap (ArrayVec ℕ) Chunk) (number : ArrayVec ℕ) → is_eq (by_number last.at number) ≡ true → chunk_at (Some last) others number ≡ Some last
found_last last others number e = λ i. cond (e i) (Some last) (tree.get by_number others number)

pub others_last : (last : Chunk) (others : BTreeMap (ArrayVec ℕ) Chunk) (number key : ArrayVec ℕ) → is_eq (by_number last.at number) ≡ true → is_eq (by_number number key) ≡ false
    → tree.get by_number others key ≡ chunk_at (Some last) others key
others_last last others number key e n =
    let same : last.at.items ≡ number.items = same_number last.at.items number.items (is_equal (by_number last.at number) e) in
    λ i. cond ((sym n ∙ ap (λ (k : ChunkNumber). is_eq (number_order k key.items)) (sym same)) i) (Some last) (tree.get by_number others key)

-- where the last chunk is put among the others, it is found there
pub put_back : (last : Chunk) (others all : BTreeMap (ArrayVec ℕ) Chunk) (number : ArrayVec ℕ) → number ≡ last.at → Updates by_number others all number (Some last) → (key : ArrayVec ℕ)
    → tree.get by_number all key ≡ chunk_at (Some last) others key
put_back last others all number e u key = u.0 key ∙ (λ i. cond (is_eq (by_number (e i) key)) (Some last) (tree.get by_number others key))

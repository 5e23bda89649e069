-- The chunks into which the cells of an array come, and what they hold.
use Rattle.std.proofs.Common.{◌≡◌, ℕ, zero, suc, ◌+◌, ◌<◌, ◌≤◌, ◌^◌, ℤ, Bool, true, false, cond, ◌||◌, List, [], ◌∷◌, length, take, drop, refl, sym, ap, ◌∙◌, subst, add-one, arith}
use Rattle.std.proofs.lemmas.List.{append-nil, take_all}
use Rattle.std.proofs.lemmas.Cmp.{tied_itself}
use Rattle.std.specs.List.{AllByRecursion, AllZip}
use Rattle.std.specs.Ordering.{is_eq}
use Rattle.std.specs.Prelude.{slice_index_or, Result, Ok, Err, IfOk}
use Rattle.arrayvec.specs.ArrayVec.{ArrayVec}
use Rattle.cell_values.specs.declared.datum.Cell.{Cell}
use Rattle.cell_values.specs.declared.datum.Row.{Row}
use Rattle.cell_values.specs.declared.memory.Memory.{Memory}
use Rattle.cell_values.specs.declared.schema.Bounds.{Bounds}
use Rattle.cell_values.specs.declared.schema.Dimension.{Dimension}
use Rattle.cell_values.specs.declared.schema.Schema.{Schema}
use Rattle.cell_values.specs.Schemas.{IsValid}
use Rattle.array_rows.specs.Boxes.{bounds_of, is_inside, within}
use Rattle.array_rows.specs.Rows.{Coordinate, placed}
use Rattle.array_geom.specs.declared.chunk.Chunk.{Chunk}
use Rattle.array_geom.specs.Geometry.{ChunkNumber, HasFrame, chunk_of, coordinate_at, coordinate_in, core, frame, frame_lengths, frame_low, has_core, volume}
use Rattle.array_geom.specs.Inner.Ranges.{AreNear}
use Rattle.array_geom.specs.Link.{NumbersRise, chunk_rows, core_rows, has_cell, is_listed, is_not_empty, number_order, numbers, rows_in}
use Rattle.array_geom.proofs.CoreLaws.{chunk_has_core, core_of}
use Rattle.array_geom.proofs.NearLemmas.{valid_placed}
use Rattle.array_parts.specs.Made.{IsPlaced}
use Rattle.array_parts.specs.Parts.{AreParts}
use Rattle.array_parts.specs.Placed.{HasPlaces, HavePlaces}
use Rattle.chunk_cells.specs.Inner.Numbers.{numbers_in, starts_with}
use Rattle.chunk_cells.proofs.NumberLaws.{listed_again, number_order_total}
use Rattle.area_cells.specs.Pieces.{IsPartAt}
use Rattle.area_cells.proofs.PieceLaws.{has_places, is_part}
use Rattle.exec_box.specs.Inner.Reached.{AddsPicks, HaveCores}
use Rattle.exec_box.proofs.ReachLaws.{all_follow, all_take_more, core_long, listed_holds, parts_of_numbers}
use Rattle.chunk_cells.proofs.SortedLaws.{all_listed}
use Rattle.shape_rows.specs.Pulls.{ComesFrom, IsPulled, IsPulledIn}
use Rattle.shape_rows.proofs.PullLaws.{all_put_all, part_pulled, pulled_in, pulled_places}
use Rattle.shape_exec.specs.Inner.Added.{AddsAt, AddsPlace, AddsPlaces, AreListed, AreReachedOf, HaveReached, IsMove}
use Rattle.shape_exec.specs.Inner.Pulled.{IsPulledPart}

-- ---- one number

or_true : (p q : Bool) → p ≡ true → (p || q) ≡ true
or_true true q e = refl
or_true false q e = cc

pub number_added : (dims : List Dimension) (y : Coordinate) (number : ArrayVec ℕ) (old new : List (ArrayVec ℕ)) → is_inside (bounds_of dims) y ≡ true → number.items ≡ chunk_of dims y
    → AddsPicks dims number.items [] [] old new → AddsPlace dims y old new
number_added dims y number old new inside e adds = record {
  kept = adds.kept;
  cores = adds.cores;
  listed = ap (λ (k : ChunkNumber). is_listed k (numbers_in new)) (sym (append-nil number.items ∙ e)) ∙ adds.picked [] refl (ap (has_core dims) (append-nil number.items ∙ e) ∙ chunk_has_core dims y inside);
}

pub number_there : (dims : List Dimension) (y : Coordinate) (number : ArrayVec ℕ) (last : ℕ) (found : List (ArrayVec ℕ)) → number.items ≡ chunk_of dims y → starts_with number.items (drop last found) ≡ true → AddsPlace dims y found found
number_there dims y number last found e there = record {
  kept = λ k f. f;
  cores = λ f. f;
  listed = ap (λ (k : ChunkNumber). is_listed k (numbers_in found)) (sym e) ∙ listed_again number.items number last found there
      ∙ or_true (is_eq (number_order number.items number.items)) (is_listed number.items (numbers_in found)) (ap is_eq (tied_itself number_order_total number.items));
}

-- a move has one place to which a cell goes
pub places_added : (source target : List Dimension) (place back : Coordinate → Coordinate) (at : Coordinate) (old new : List (ArrayVec ℕ)) → IsMove source target place back → AddsPlace target (place at) old new → AddsPlaces target back at old new
places_added source target place back at old new move adds = record {
  kept = adds.kept;
  cores = adds.cores;
  reached = λ y inside e.
      let there : y ≡ place at = sym (move.again y inside) ∙ ap place e in
      ap (λ (z : Coordinate). is_listed (chunk_of target z) (numbers_in new)) there ∙ adds.listed;
}

-- ---- the places of a chunk

any_default : (xs : List ℕ) (i d : ℕ) → i < length xs → slice_index_or xs i d ≡ slice_index_or xs i (slice_index_or xs i d)
any_default [] i d l = absurd (omega (arith, l))
any_default (x ∷ xs) zero d l = refl
any_default (x ∷ xs) (suc i) d l = any_default xs i d (omega (arith, l))

module _ (dims : List Dimension) (back : Coordinate → Coordinate) (low : List ℤ) (lengths : List ℕ) where
  pub none_at : (old : List (ArrayVec ℕ)) → AddsAt dims back low lengths [] old old
  none_at old = record { kept = λ k f. f; reached = tt; cores = λ f. f }

  more_listed : (old new : List (ArrayVec ℕ)) → ((k : ChunkNumber) → is_listed k (numbers_in old) ≡ true → is_listed k (numbers_in new) ≡ true) → (c : Coordinate) → AreListed dims back old c → AreListed dims back new c
  more_listed old new kept c l = λ y inside e. kept (chunk_of dims y) (l y inside e)

  pub one_more_at : (positions : List ℕ) (i : ℕ) (at : Coordinate) (old found new : List (ArrayVec ℕ)) → i < length positions → at ≡ coordinate_in low lengths (slice_index_or positions i 0)
      → AddsAt dims back low lengths (take i positions) old found → AddsPlaces dims back at found new → AddsAt dims back low lengths (take (suc i) positions) old new
  one_more_at positions i at old found new l e so_far adds =
      let here : ℕ → Type 0 = λ q. AreListed dims back new (coordinate_in low lengths q) in
      record {
        kept = λ k f. adds.kept k (so_far.kept k f);
        cores = λ f. adds.cores (so_far.cores f);
        reached = all_take_more here positions i (slice_index_or positions i 0) l (any_default positions i 0 l)
            (all_follow (λ q. AreListed dims back found (coordinate_in low lengths q)) here (λ q h. more_listed found new adds.kept (coordinate_in low lengths q) h) (take i positions) so_far.reached)
            (subst (AreListed dims back new) e adds.reached);
      }

-- the coordinates of a chunk's positions lie within bounds
pub positions_inside : (area : Bounds) (low : List ℤ) (lengths positions : List ℕ) (cells : List Cell) → length cells ≡ length positions → AllByRecursion (λ row. is_inside area row.at.items ≡ true) (rows_in low lengths positions cells)
    → AllByRecursion (λ p. is_inside area (coordinate_in low lengths p) ≡ true) positions
positions_inside area low lengths [] cells e a = tt
positions_inside area low lengths (p ∷ positions) [] e a = absurd (omega (arith, e))
positions_inside area low lengths (p ∷ positions) (cell ∷ cells) e a = (a.0, positions_inside area low lengths positions cells (omega (arith, e)) a.1)

rows_listed : (P : Coordinate → Type 0) (low : List ℤ) (lengths positions : List ℕ) (cells : List Cell) → AllByRecursion (λ p. P (coordinate_in low lengths p)) positions → AllByRecursion (λ row. P row.at.items) (rows_in low lengths positions cells)
rows_listed P low lengths [] cells a = tt
rows_listed P low lengths (p ∷ positions) [] a = tt
rows_listed P low lengths (p ∷ positions) (cell ∷ cells) a = (a.0, rows_listed P low lengths positions cells a.1)

-- ---- chunk after chunk

module _ (dims : List Dimension) (back : Coordinate → Coordinate) (old : List Dimension) (margins : List ℕ) where
  pub none_reached : (chunks : List Chunk) (found : List (ArrayVec ℕ)) → found ≡ [] → HaveReached dims back old margins (take 0 chunks) found
  none_reached chunks found e = record { cores = subst (HaveCores dims) (sym e) tt; reached = tt }

  more_of : (found new : List (ArrayVec ℕ)) → ((k : ChunkNumber) → is_listed k (numbers_in found) ≡ true → is_listed k (numbers_in new) ≡ true) → (chunk : Chunk) → AreReachedOf dims back old margins found chunk → AreReachedOf dims back old margins new chunk
  more_of found new kept chunk a =
      all_follow (λ p. AreListed dims back found (coordinate_at old margins chunk.at.items p)) (λ p. AreListed dims back new (coordinate_at old margins chunk.at.items p)) (λ p l. λ y inside e. kept (chunk_of dims y) (l y inside e)) chunk.positions a

  pub more_reached : (chunks : List Chunk) (k : ℕ) (chunk : Chunk) (found new : List (ArrayVec ℕ)) → k < length chunks → chunk ≡ slice_index_or chunks k chunk → HaveReached dims back old margins (take k chunks) found
      → AddsAt dims back (frame_low old margins chunk.at.items) (frame_lengths old margins) chunk.positions found new → HaveReached dims back old margins (take (k + 1) chunks) new
  more_reached chunks k chunk found new l e is adds = record {
    cores = adds.cores is.cores;
    reached = subst (λ (n : ℕ). AllByRecursion (AreReachedOf dims back old margins new) (take n chunks)) (sym (add-one k))
        (all_take_more (AreReachedOf dims back old margins new) chunks k chunk l e
        (all_follow (AreReachedOf dims back old margins found) (AreReachedOf dims back old margins new) (more_of found new adds.kept) (take k chunks) is.reached)
        adds.reached);
  }

  pub all_reached : (chunks : List Chunk) (k : ℕ) (found : List (ArrayVec ℕ)) → length chunks ≤ k → HaveReached dims back old margins (take k chunks) found → HaveReached dims back old margins chunks found
  all_reached chunks k found l is = subst (λ (cs : List Chunk). HaveReached dims back old margins cs found) (take_all k chunks l) is

  pub sorted_reached : (chunks : List Chunk) (found : List (ArrayVec ℕ)) (r : Result (List (ArrayVec ℕ)) Memory) → HaveReached dims back old margins chunks found
      → IfOk r (λ listed. (k : ChunkNumber) → is_listed k (numbers_in listed) ≡ is_listed k (numbers_in found)) → IfOk r (HaveReached dims back old margins chunks)
  sorted_reached chunks found (Ok listed) is same = record {
    cores = all_listed (λ (k : ChunkNumber). has_core dims k ≡ true) (numbers_in listed) (λ k e. listed_holds (λ (n : ChunkNumber). has_core dims n ≡ true) (numbers_in found) k is.cores (sym (same k) ∙ e));
    reached = all_follow (AreReachedOf dims back old margins found) (AreReachedOf dims back old margins listed) (more_of found listed (λ k e. same k ∙ e)) chunks is.reached;
  }
  sorted_reached chunks found (Err memory) is same = tt

  -- the chunks of what comes from each row are listed
  pub rows_reached : (chunks : List Chunk) (found : List (ArrayVec ℕ)) → AllByRecursion (AreReachedOf dims back old margins found) chunks → AllByRecursion (λ row. AreListed dims back found row.at.items) (core_rows old margins chunks)
  rows_reached [] found a = tt
  rows_reached (chunk ∷ chunks) found a =
      all_put_all (λ row. AreListed dims back found row.at.items) (within (core old chunk.at.items) (chunk_rows old margins chunk)) (core_rows old margins chunks)
      (all_within (core old chunk.at.items) (chunk_rows old margins chunk) (rows_listed (AreListed dims back found) (frame_low old margins chunk.at.items) (frame_lengths old margins) chunk.positions chunk.cells a.0))
      (rows_reached chunks found a.1)
    where
      all_within : (area : Bounds) (rows : List Row) → AllByRecursion (λ row. AreListed dims back found row.at.items) rows → AllByRecursion (λ row. AreListed dims back found row.at.items) (within area rows)
      all_within area [] b = tt
      all_within area (row ∷ rows) b = cases (is_inside area row.at.items) (all_within area rows b.1)
        where
          cases : (t : Bool) → AllByRecursion (λ row. AreListed dims back found row.at.items) (within area rows) → AllByRecursion (λ row. AreListed dims back found row.at.items) (cond t (row ∷ within area rows) (within area rows))
          cases true r = (b.0, r)
          cases false r = r

-- a core that has one of the rows is listed, where the chunks of all rows are
pub listed_where : (dims : List Dimension) (found : List (ArrayVec ℕ)) (rows : List Row) (k : ChunkNumber) → AreNear dims → AllByRecursion (λ row. is_listed (chunk_of dims row.at.items) (numbers_in found) ≡ true) rows
    → length k ≡ length dims → has_cell dims rows k ≡ true → is_listed k (numbers_in found) ≡ true
listed_where dims found [] k near a l e = absurd cc
listed_where dims found (row ∷ rows) k near a l e = cases (is_inside (core dims k) row.at.items) refl e (listed_where dims found rows k near a.1 l)
  where
    cases : (t : Bool) → is_inside (core dims k) row.at.items ≡ t → is_not_empty (cond t (row ∷ within (core dims k) rows) (within (core dims k) rows)) ≡ true
        → (has_cell dims rows k ≡ true → is_listed k (numbers_in found) ≡ true) → is_listed k (numbers_in found) ≡ true
    cases true t f more = ap (λ (n : ChunkNumber). is_listed n (numbers_in found)) (core_of dims k row.at.items near l t) ∙ a.0
    cases false t f more = more f

-- ---- a chunk

pub pulled_part : (schema : Schema) (target : List Dimension) (margins : List ℕ) (back : Coordinate → Coordinate) (rows part : List Row) (number : ArrayVec ℕ) (area : Bounds) (chunk : Chunk) → target ≡ schema.dimensions → HasFrame schema margins number.items
    → area ≡ frame schema.dimensions margins number.items → ((made : List Row) → IsPulled (bounds_of target) back rows made → part ≡ within area made) → chunk.at ≡ number → IsPlaced schema.dimensions margins chunk
    → chunk_rows schema.dimensions margins chunk ≡ part → IsPulledPart schema margins back rows number chunk
pulled_part schema target margins back rows part number area chunk same framed e f n placed g = record {
  number_is = n;
  places = has_places schema margins number chunk framed n placed;
  part = λ made is. is_part schema.dimensions margins number made part area chunk e (f made (subst (λ (dims : List Dimension). IsPulled (bounds_of dims) back rows made) (sym same) is)) n placed g;
}

pub kept_part : (target source area near : Bounds) (back : Coordinate → Coordinate) (rows from made kept : List Row) → ComesFrom target source back area near → AllByRecursion (λ row. is_inside source row.at.items ≡ true) rows
    → from ≡ within near rows → IsPulledIn target area back from made → kept ≡ within area made → (whole : List Row) → IsPulled target back rows whole → kept ≡ within area whole
kept_part target source area near back rows from made kept comes inside e is k whole pulled =
    k ∙ part_pulled target source area near back comes rows whole made inside (pulled_in target area back rows whole pulled) (subst (λ (rs : List Row). IsPulledIn target area back rs made) e is)

-- ---- all chunks

module _ (schema : Schema) (margins : List ℕ) (back : Coordinate → Coordinate) (rows : List Row) where
  parts_at : (made : List Row) → IsPulled (bounds_of schema.dimensions) back rows made → (listed : List (ArrayVec ℕ)) (parts : List Chunk) → AllZip (IsPulledPart schema margins back rows) listed parts → AllZip (IsPartAt schema margins made) listed parts
  parts_at made is [] [] a = tt
  parts_at made is [] (part ∷ parts) a = absurd a
  parts_at made is (n ∷ listed) [] a = absurd a
  parts_at made is (n ∷ listed) (part ∷ parts) a = (record { number_is = a.0.number_is; places = a.0.places; part = a.0.part made is }, parts_at made is listed parts a.1)

  places_each : (listed : List (ArrayVec ℕ)) (parts : List Chunk) → AllZip (IsPulledPart schema margins back rows) listed parts → AllByRecursion (HasPlaces schema margins) parts
  places_each [] [] a = tt
  places_each [] (part ∷ parts) a = absurd a
  places_each (n ∷ listed) [] a = absurd a
  places_each (n ∷ listed) (part ∷ parts) a = (a.0.places, places_each listed parts a.1)

  numbers_at : (listed : List (ArrayVec ℕ)) (parts : List Chunk) → AllZip (IsPulledPart schema margins back rows) listed parts → numbers parts ≡ numbers_in listed
  numbers_at [] [] a = refl
  numbers_at [] (part ∷ parts) a = absurd a
  numbers_at (n ∷ listed) [] a = absurd a
  numbers_at (n ∷ listed) (part ∷ parts) a =
      let rest = numbers_at listed parts a.1 in
      λ i. (a.0.number_is i).items ∷ rest i

  pub have_places : (listed : List (ArrayVec ℕ)) (parts : List Chunk) → IsValid schema → length margins ≡ length schema.dimensions → volume (frame_lengths schema.dimensions margins) ≤ 2 ^ 48
      → NumbersRise (numbers_in listed) → HaveCores schema.dimensions listed → AllZip (IsPulledPart schema margins back rows) listed parts → HavePlaces schema margins parts
  have_places listed parts valid each places rise cores a =
      let same : numbers parts ≡ numbers_in listed = numbers_at listed parts a in
      record {
        valid = valid;
        each = each;
        places = places;
        rising = subst NumbersRise (sym same) rise;
        sized = subst (AllByRecursion (λ k. length k ≡ length schema.dimensions)) (sym same)
            (all_follow (λ (k : ChunkNumber). has_core schema.dimensions k ≡ true) (λ (k : ChunkNumber). length k ≡ length schema.dimensions) (core_long schema.dimensions) (numbers_in listed) cores);
        all = places_each listed parts a;
      }

  pub are_parts : (target old : List Dimension) (old_margins : List ℕ) (chunks : List Chunk) (made : List Row) (listed : List (ArrayVec ℕ)) (parts : List Chunk) → IsValid schema → target ≡ schema.dimensions → rows ≡ core_rows old old_margins chunks
      → IsPulled (bounds_of schema.dimensions) back rows made → NumbersRise (numbers_in listed) → HaveReached target back old old_margins chunks listed → AllZip (IsPulledPart schema margins back rows) listed parts
      → AreParts schema.dimensions margins made parts
  are_parts target old old_margins chunks made listed parts valid same e is rise reached a =
      let there = subst (λ (dims : List Dimension). HaveReached dims back old old_margins chunks listed) same reached in
      let dims : List Dimension = schema.dimensions in
      parts_of_numbers schema margins made listed parts (parts_at made is listed parts a) rise there.cores
      (λ k l h. listed_where dims listed made k (valid_placed schema valid).near
      (pulled_places (bounds_of dims) back rows made (AreListed dims back listed) (λ c. is_listed (chunk_of dims c) (numbers_in listed) ≡ true) (λ c inside f. f c inside refl) is
      (subst (AllByRecursion (λ row. AreListed dims back listed row.at.items)) (sym e) (rows_reached dims back old old_margins chunks listed there.reached)))
      l h)

-- Where no chunk has an overlap: what is written chunk by chunk, each over the stored one of its number.
use Rattle.std.proofs.Common.{◌≡◌, ℕ, zero, suc, ◌+◌, ◌<◌, Bool, true, false, ◌&&◌, ◌||◌, List, [], ◌∷◌, ◌++◌, length, map, take, get_or, Result, Ok, Err, refl, sym, ap, ◌∙◌, subst, arith}
use Rattle.std.specs.Prelude.{IfOk}
use Rattle.std.specs.List.{AllByRecursion}
use Rattle.std.specs.Ordering.{is_eq}
use Rattle.std.specs.declared.cmp.Ordering.{Ordering}
use Rattle.std.specs.declared.cmp.Ordering.TheVariants.{Less, Equal, Greater}
use Rattle.std.proofs.lemmas.List.{map-append}
use Rattle.cell_values.specs.declared.datum.Row.{Row}
use Rattle.cell_values.specs.declared.memory.Memory.{Memory}
use Rattle.cell_values.specs.declared.schema.Schema.{Schema}
use Rattle.array_rows.specs.Arrays.{AreRowsOf}
use Rattle.array_rows.specs.Boxes.{is_inside, within}
use Rattle.array_rows.specs.Rows.{put_all, put_by, put_row, row_major}
use Rattle.array_rows.proofs.Loops.{mapped_on}
use Rattle.array_rows.proofs.RowSets.{IsRising-rows_where, rows_where-put_all}
use Rattle.array_geom.specs.declared.chunk.Changed.{Changed}
use Rattle.array_geom.specs.declared.chunk.Chunk.{Chunk}
use Rattle.array_geom.specs.declared.chunk.ChunkedArray.{ChunkedArray}
use Rattle.array_geom.specs.Chunks.{IsChunk}
use Rattle.array_geom.specs.Geometry.{ChunkNumber, HasFrame, core, frame, overlaps}
use Rattle.array_geom.specs.Link.{IsPart, NumbersRise, has_cell, is_listed, is_not_empty, number_order, numbers}
use Rattle.array_geom.proofs.NearLemmas.{valid_placed}
use Rattle.array_parts.specs.Cores.{HaveCells, cores_of}
use Rattle.array_parts.specs.Placed.{HasPlaces}
use Rattle.array_parts.proofs.CoreLaws.{cores_are_rows}
use Rattle.array_parts.proofs.PartLemmas.{each_listed}
use Rattle.chunk_cells.proofs.MergeLaws.{put_all-none}
use Rattle.area_cells.specs.Margins.{no_margins}
use Rattle.area_cells.proofs.ApartLaws.{no_rows}
use Rattle.area_cells.proofs.CutLaws.{at_index}
use Rattle.chunk_source.specs.Inner.Alone.{have_no_overlap}
use Rattle.chunk_source.specs.Laws.{HasSoundCells}
use Rattle.chunk_source.proofs.ReadingLeafLaws.{core_sized, each_overlap, few_places}
use Rattle.chunk_source.proofs.ValidLaws.{its_cells, valid_chunk}
use Rattle.logical_plan.specs.Typing.{is_sound}
use Rattle.commit_pages.specs.Lengths.{meets}
use Rattle.changed_chunks.specs.Inner.Input.{AreStoredChunks, CanBeStored, stored_rows}
use Rattle.changed_chunks.specs.Inner.Writes.{IsInsertOf}
use Rattle.changed_chunks.proofs.ChunkLaws.{stored_chunks}
use Rattle.changed_chunks.proofs.CoresAlone.{alone_parts, framed_rows, no_overlap, unlisted_apart}
use Rattle.changed_chunks.proofs.Written.{its_places, over_may}

-- ---- a search

pub refuted : (b : Bool) → (b ≡ true → ⊥) → b ≡ false
refuted true f = absurd (f refl)
refuted false f = refl

abbrev pub no_chunk : Chunk
no_chunk = record { at = record { items = [] }; positions = []; cells = [] }

pub found_listed : (chunks : List Chunk) (place : ℕ) (d : Chunk) (k : ChunkNumber) → place < length chunks → number_order (get_or chunks place d).at.items k ≡ Equal → is_listed k (numbers chunks) ≡ true
found_listed [] place d k near e = absurd (omega (arith, near))
found_listed (chunk ∷ chunks) zero d k near e = ap (λ (t : Ordering). is_eq t || is_listed k (numbers chunks)) e
found_listed (chunk ∷ chunks) (suc place) d k near e = by_test (is_eq (number_order chunk.at.items k)) (found_listed chunks place d k (omega (arith, near)) e)
  where
    by_test : (t : Bool) → is_listed k (numbers chunks) ≡ true → (t || is_listed k (numbers chunks)) ≡ true
    by_test true e = refl
    by_test false e = e

-- ---- results

pub if_same : (P : Chunk → Type 0) (x : Chunk) (r : Result Chunk Memory) → P x → IfOk r (λ y. y ≡ x) → IfOk r P
if_same P x (Ok y) p e = subst P (sym e) p
if_same P x (Err f) p e = tt

pub if_number : (x y : Chunk) (r : Result Chunk Memory) → x.at ≡ y.at → IfOk r (λ made. made.at ≡ x.at) → IfOk r (λ made. made.at ≡ y.at)
if_number x y (Ok made) same e = e ∙ same
if_number x y (Err f) same e = tt

-- ---- a loop

pub one_over : (items made new : List Chunk) (k : ℕ) (from x : Chunk) → k < length items → from ≡ get_or items k from → x.at ≡ from.at → new ≡ made ++ x ∷ [] → numbers made ≡ numbers (take k items)
    → numbers new ≡ numbers (take (k + 1) items)
one_over items made new k from x near is same more before =
    mapped_on (λ (chunk : Chunk). chunk.at.items) items (numbers made) (numbers new) k from x.at.items near (ap (λ at. at.items) same ∙ ap (λ (chunk : Chunk). chunk.at.items) is) before
    (ap numbers more ∙ map-append (λ (chunk : Chunk). chunk.at.items) made (x ∷ []))

-- ---- numbers

frames_of : (schema : Schema) (margins : List ℕ) (chunks : List Chunk) → AllByRecursion (HasPlaces schema margins) chunks → AllByRecursion (HasFrame schema margins) (numbers chunks)
frames_of schema margins [] all = tt
frames_of schema margins (chunk ∷ chunks) all = (all.0.framed, frames_of schema margins chunks all.1)

sized_of : (schema : Schema) (margins : List ℕ) (ks : List ChunkNumber) → AllByRecursion (HasFrame schema margins) ks → AllByRecursion (λ k. length k ≡ length schema.dimensions) ks
sized_of schema margins [] all = tt
sized_of schema margins (k ∷ ks) all = (core_sized schema.dimensions k all.0.core, sized_of schema margins ks all.1)

put_is_some : (x : Row) (rows : List Row) → is_not_empty (put_row x rows) ≡ true
put_is_some x [] = refl
put_is_some x (row ∷ rows) = by_order (row_major x.at.items row.at.items)
  where
    by_order : (t : Ordering) → is_not_empty (put_by t x row rows (put_row x rows)) ≡ true
    by_order Less = refl
    by_order Equal = refl
    by_order Greater = refl

some_put : (a b : List Row) → is_not_empty a ≡ true → is_not_empty (put_all a b) ≡ true
some_put [] b e = absurd cc
some_put (x ∷ a) b e = put_is_some x (put_all a b)

-- ---- an array put over stored chunks

module _ (put : ChunkedArray) (can : CanBeStored put) (old : List Chunk) (stored : AreStoredChunks put.schema old) (none : have_no_overlap put.schema.dimensions ≡ true) where
  abbrev margins : List ℕ
  margins = overlaps put.schema.dimensions

  abbrev before : List Row
  before = stored_rows put.schema old

  abbrev after : List Row
  after = put_all (cores_of put) before

  no_margin : margins ≡ no_margins put.schema.dimensions
  no_margin = no_overlap put.schema.dimensions none

  old_cells : HaveCells put.schema margins old
  old_cells = record {
    placed = record {
      valid = stored.valid;
      each = each_overlap put.schema.dimensions;
      places = few_places put.schema stored.valid;
      rising = stored.rising;
      sized = sized_of put.schema margins (numbers old) (frames_of put.schema margins old stored.placed);
      all = stored.placed;
    };
    rows_of = stored.rows_of;
  }

  pub before_rows : AreRowsOf put.schema before
  before_rows = cores_are_rows put.schema margins old old_cells

  -- a stored chunk is its part of their rows
  pub below_part : (place : ℕ) (below : Chunk) → place < length old → below ≡ get_or old place below → IsPart put.schema.dimensions margins before below
  below_part place below near is = at_index (IsPart put.schema.dimensions margins before) old place below (alone_parts put.schema margins old old_cells no_margin) near is

  pub below_places : (place : ℕ) (below : Chunk) → place < length old → below ≡ get_or old place below → HasPlaces put.schema margins below
  below_places place below near is = at_index (HasPlaces put.schema margins) old place below stored.placed near is

  pub new_places : (items : List Chunk) (place : ℕ) (new : Chunk) → items ≡ put.chunks → place < length items → new ≡ get_or items place new → HasPlaces put.schema margins new
  new_places items place new same near is =
      at_index (HasPlaces put.schema margins) items place new
      (subst (AllByRecursion (HasPlaces put.schema margins)) (sym same) (subst (λ (ms : List ℕ). AllByRecursion (HasPlaces put.schema ms) put.chunks) can.margins (its_places put can).all)) near is

  pub new_part : (items : List Chunk) (place : ℕ) (new : Chunk) → items ≡ put.chunks → place < length items → new ≡ get_or items place new → IsPart put.schema.dimensions margins (cores_of put) new
  new_part items place new same near is =
      at_index (IsPart put.schema.dimensions margins (cores_of put)) items place new
      (subst (AllByRecursion (IsPart put.schema.dimensions margins (cores_of put))) (sym same) (subst (λ (ms : List ℕ). AllByRecursion (IsPart put.schema.dimensions ms (cores_of put)) put.chunks) can.margins can.holds.chunks.parts)) near is

  -- a chunk over none is its part as it stands
  pub over_nothing : (new : Chunk) → HasPlaces put.schema margins new → IsPart put.schema.dimensions margins (cores_of put) new → is_listed new.at.items (numbers old) ≡ false → IsPart put.schema.dimensions margins after new
  over_nothing new places part unlisted =
      let dims = put.schema.dimensions in
      let area = frame dims margins new.at.items in
      let empty : within area before ≡ [] = framed_rows dims margins new.at.items before no_margin before_rows.are_rows.in_bounds
      ∙ no_rows dims margins (core dims new.at.items) old
      (unlisted_apart dims new.at.items (numbers old) (valid_placed put.schema stored.valid).near (core_sized dims new.at.items places.framed.core) old_cells.placed.sized unlisted) in
      record {
        each = part.each;
        in_frame = part.in_frame;
        cells = part.cells ∙ sym (rows_where-put_all (is_inside area) (cores_of put) before before_rows.are_rows.rising ∙ ap (put_all (within area (cores_of put))) empty
            ∙ put_all-none (within area (cores_of put)) (IsRising-rows_where (is_inside area) (cores_of put) can.holds.rows_of.are_rows.rising));
      }

  -- ---- what is written

  has_after : (k : ChunkNumber) → has_cell put.schema.dimensions (cores_of put) k ≡ true → has_cell put.schema.dimensions after k ≡ true
  has_after k e =
      let area = core put.schema.dimensions k in
      ap is_not_empty (rows_where-put_all (is_inside area) (cores_of put) before before_rows.are_rows.rising) ∙ some_put (within area (cores_of put)) (within area before) e

  all_have : (ks : List ChunkNumber) → AllByRecursion (λ k. length k ≡ length put.schema.dimensions) ks → AllByRecursion (λ k. is_listed k (numbers put.chunks) ≡ true) ks → AllByRecursion (λ k. has_cell put.schema.dimensions after k ≡ true) ks
  all_have [] sized listed = tt
  all_have (k ∷ ks) sized listed = (has_after k (sym (can.holds.chunks.listed k sized.0) ∙ listed.0), all_have ks sized.1 listed.1)

  all_valid : (made : List Chunk) → AllByRecursion (HasFrame put.schema margins) (numbers made) → AllByRecursion (λ k. has_cell put.schema.dimensions after k ≡ true) (numbers made)
      → AllByRecursion (IsPart put.schema.dimensions margins after) made → AllByRecursion (IsChunk put.schema margins) made
  all_valid [] framed has parts = tt
  all_valid (chunk ∷ made) framed has parts = (
    valid_chunk put.schema margins after chunk parts.0 (over_may put can old stored).rows_of (record { framed = framed.0; placed = record { each = parts.0.each; in_frame = parts.0.in_frame } }) has.0,
    all_valid made framed.1 has.1 parts.1,
  )

  all_sound : (made : List Chunk) → AllByRecursion (IsPart put.schema.dimensions margins after) made → AllByRecursion (HasSoundCells put.schema) made
  all_sound [] parts = tt
  all_sound (chunk ∷ made) parts = (its_cells put.schema margins after chunk parts.0 (λ cell. is_sound put.schema.attributes cell ≡ true) (over_may put can old stored).sound, all_sound made parts.1)

  met_here : (k : ChunkNumber) → has_cell put.schema.dimensions (cores_of put) k ≡ (has_cell put.schema.dimensions after k && meets put.schema.dimensions (cores_of put) k)
  met_here k =
      by_test (has_cell put.schema.dimensions (cores_of put) k) refl
      ∙ ap (λ (b : Bool). has_cell put.schema.dimensions after k && b) (ap is_not_empty (sym (framed_rows put.schema.dimensions margins k (cores_of put) no_margin can.holds.rows_of.are_rows.in_bounds)))
    where
      by_test : (b : Bool) → has_cell put.schema.dimensions (cores_of put) k ≡ b → b ≡ (has_cell put.schema.dimensions after k && b)
      by_test true e = ap (λ (z : Bool). z && true) (sym (has_after k e))
      by_test false e = no (has_cell put.schema.dimensions after k)
        where
          no : (z : Bool) → false ≡ (z && false)
          no true = refl
          no false = refl

  pub over_cores : (made : List Chunk) (changed : Changed) → numbers made ≡ numbers put.chunks → AllByRecursion (IsPart put.schema.dimensions margins after) made
      → changed ≡ record { schema = put.schema; whole = false; chunks = made } → IsInsertOf put.schema (cores_of put) before changed
  over_cores made changed same parts is =
      let framed : AllByRecursion (HasFrame put.schema margins) (numbers made) = subst (AllByRecursion (HasFrame put.schema margins)) (sym same)
      (frames_of put.schema margins put.chunks (subst (λ (ms : List ℕ). AllByRecursion (HasPlaces put.schema ms) put.chunks) can.margins (its_places put can).all)) in
      let has = all_have (numbers made) (sized_of put.schema margins (numbers made) framed) (subst (AllByRecursion (λ k. is_listed k (numbers put.chunks) ≡ true)) (sym same) (each_listed (numbers put.chunks))) in
      subst (IsInsertOf put.schema (cores_of put) before) (sym is) (record {
        is_of = (refl, refl);
        valid = record {
          rising = subst NumbersRise (sym same) can.holds.chunks.in_order;
          stored = stored_chunks put.schema made (all_valid made framed has parts) (all_sound made parts);
        };
        rows_of = (over_may put can old stored).rows_of;
        listed = λ k long. ap (is_listed k) same ∙ can.holds.chunks.listed k long ∙ met_here k;
        parts = parts;
      })

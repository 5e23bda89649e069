-- Chunks of which none reaches beyond its core: each is its part of the rows of all.
use Rattle.std.proofs.Common.{◌≡◌, ℕ, ◌<◌, ℤ, Bool, true, false, cond, ◌||◌, List, [], ◌∷◌, length, refl, sym, ap, ◌∙◌, subst, arith}
use Rattle.std.specs.Prelude.{◌==◌, ◌&&◌}
use Rattle.std.specs.List.{AllByRecursion}
use Rattle.std.specs.Ordering.{is_eq}
use Rattle.std.specs.declared.cmp.Ordering.TheVariants.{Less, Equal}
use Rattle.std.proofs.lemmas.Cmp.{lists_total, nat_cmp_total, tied_itself}
use Rattle.cell_values.specs.declared.datum.Cell.{Cell}
use Rattle.cell_values.specs.declared.datum.Row.{Row}
use Rattle.cell_values.specs.declared.schema.Bounds.{Bounds}
use Rattle.cell_values.specs.declared.schema.Dimension.{Dimension}
use Rattle.cell_values.specs.declared.schema.Schema.{Schema}
use Rattle.array_rows.specs.Arrays.{AreRowsOf}
use Rattle.array_rows.specs.Boxes.{bounds_of, is_inside, within}
use Rattle.array_rows.specs.Rows.{Coordinate, IsRising, put_all}
use Rattle.array_rows.proofs.RowSets.{IsRising-rows_where, rows_where-put_all}
use Rattle.array_geom.specs.declared.chunk.Chunk.{Chunk}
use Rattle.array_geom.specs.Geometry.{ChunkNumber, HasFrame, coordinate_in, core, frame, frame_low, frame_lengths, overlaps, volume}
use Rattle.array_geom.specs.Inner.Ranges.{AreNear}
use Rattle.array_geom.specs.Link.{AreChunksOf, IsPart, NumbersRise, chunk_rows, core_rows, has_cell, is_listed, is_not_empty, number_order, numbers, rows_in}
use Rattle.array_geom.proofs.CoreLaws.{core_in_frame, core_of}
use Rattle.array_geom.proofs.LawProofs.{coordinate_at_place}
use Rattle.array_geom.proofs.LinkLaws.{within-within}
use Rattle.array_geom.proofs.NearLemmas.{valid_placed}
use Rattle.array_geom.proofs.NumberLaws.{is_equal, same_number}
use Rattle.array_geom.proofs.TestLaws.{and_parts}
use Rattle.array_parts.specs.Cores.{HaveCells}
use Rattle.array_parts.specs.Parts.{holds_cell}
use Rattle.array_parts.specs.Placed.{HasPlaces}
use Rattle.array_parts.proofs.CoreLaws.{cores_are_rows}
use Rattle.chunk_cells.proofs.MergeLaws.{IsRising-core_rows, put_all-none}
use Rattle.area_cells.specs.Margins.{no_margins}
use Rattle.area_cells.proofs.ApartLaws.{CoresApart, LieApart, no_rows}
use Rattle.area_cells.proofs.FrameLaws.{each_none, frame_in_core}
use Rattle.area_cells.proofs.ListedLaws.{core_listed}
use Rattle.chunk_source.specs.Inner.Alone.{have_no_overlap}
use Rattle.changed_chunks.proofs.Reach.{same_test}

-- ---- a chunk is a part of its own rows

keeps_all : (area : Bounds) (low : List ℤ) (lengths positions : List ℕ) (cells : List Cell) → AllByRecursion (λ p. is_inside area (coordinate_in low lengths p) ≡ true) positions → within area (rows_in low lengths positions cells) ≡ rows_in low lengths positions cells
keeps_all area low lengths [] cells are = refl
keeps_all area low lengths (p ∷ positions) [] are = refl
keeps_all area low lengths (p ∷ positions) (cell ∷ cells) are = rw (are.0, keeps_all area low lengths positions cells are.1) refl

all_in_frame : (schema : Schema) (margins k positions : List ℕ) → HasFrame schema margins k → AllByRecursion (λ p. p < volume (frame_lengths schema.dimensions margins)) positions
    → AllByRecursion (λ p. is_inside (frame schema.dimensions margins k) (coordinate_in (frame_low schema.dimensions margins k) (frame_lengths schema.dimensions margins) p) ≡ true) positions
all_in_frame schema margins k [] framed are = tt
all_in_frame schema margins k (p ∷ positions) framed are = ((coordinate_at_place schema margins k p framed are.0).0, all_in_frame schema margins k positions framed are.1)

pub own_part : (schema : Schema) (margins : List ℕ) (chunk : Chunk) → HasPlaces schema margins chunk → IsPart schema.dimensions margins (chunk_rows schema.dimensions margins chunk) chunk
own_part schema margins chunk places = record {
  each = places.placed.each;
  in_frame = places.placed.in_frame;
  cells = sym (keeps_all (frame schema.dimensions margins chunk.at.items) (frame_low schema.dimensions margins chunk.at.items) (frame_lengths schema.dimensions margins) chunk.positions chunk.cells
      (all_in_frame schema margins chunk.at.items chunk.positions places.framed places.placed.in_frame));
}

-- ---- frames that are cores

is_zero : (n : ℕ) → (n == 0) ≡ true → n ≡ 0
is_zero n e = grind (arith, e)

pub no_overlap : (dims : List Dimension) → have_no_overlap dims ≡ true → overlaps dims ≡ no_margins dims
no_overlap [] e = refl
no_overlap (d ∷ dims) e = let both = and_parts (d.overlap == 0) (have_no_overlap dims) e in (λ i. is_zero d.overlap both.0 i ∷ no_overlap dims both.1 i)

-- rows within the bounds lie in such a frame where they lie in its core
pub framed_rows : (dims : List Dimension) (margins : List ℕ) (k : ChunkNumber) (rows : List Row) → margins ≡ no_margins dims → AllByRecursion (λ row. is_inside (bounds_of dims) row.at.items ≡ true) rows
    → within (frame dims margins k) rows ≡ within (core dims k) rows
framed_rows dims margins k rows none all = subst (λ (ms : List ℕ). within (frame dims ms k) rows ≡ within (core dims k) rows) (sym none) (by_rows rows all)
  where
    same : (c : Coordinate) → is_inside (bounds_of dims) c ≡ true → is_inside (frame dims (no_margins dims) k) c ≡ is_inside (core dims k) c
    same c b = same_test (is_inside (frame dims (no_margins dims) k) c) (is_inside (core dims k) c) (frame_in_core dims k c b) (core_in_frame dims (no_margins dims) k c (each_none dims))

    by_rows : (some : List Row) → AllByRecursion (λ row. is_inside (bounds_of dims) row.at.items ≡ true) some → within (frame dims (no_margins dims) k) some ≡ within (core dims k) some
    by_rows [] a = refl
    by_rows (row ∷ some) a = (λ i. cond (same row.at.items a.0 i) (row ∷ by_rows some a.1 i) (by_rows some a.1 i))

-- ---- cores of different numbers lie apart

less_than_itself : (k : ChunkNumber) → number_order k k ≡ Less → ⊥
less_than_itself k e = let same : number_order k k ≡ Equal = tied_itself (lists_total nat_cmp_total) k in cc

differ_less : (j k : ChunkNumber) → number_order j k ≡ Less → j ≡ k → ⊥
differ_less j k less same = less_than_itself j (ap (number_order j) same ∙ less)

cores_apart : (dims : List Dimension) (j k : ChunkNumber) → AreNear dims → length j ≡ length dims → length k ≡ length dims → (j ≡ k → ⊥) → LieApart (core dims j) (core dims k)
cores_apart dims j k near long also differ c e f = differ (core_of dims j c near long e ∙ sym (core_of dims k c near also f))

clash : (b : Bool) → b ≡ true → b ≡ false → ⊥
clash true e f = cc
clash false e f = cc

is_listed_itself : (j k : ChunkNumber) → j ≡ k → is_eq (number_order j k) ≡ true
is_listed_itself j k same = ap (λ (z : ChunkNumber). is_eq (number_order z k)) same ∙ ap is_eq (tied_itself (lists_total nat_cmp_total) k)

neither : (a b : Bool) → (a || b) ≡ false → (a ≡ false) × (b ≡ false)
neither true b e = absurd cc
neither false b e = (refl, e)

-- a number that isn't listed is none of them
pub unlisted_apart : (dims : List Dimension) (k : ChunkNumber) (ks : List ChunkNumber) → AreNear dims → length k ≡ length dims → AllByRecursion (λ n. length n ≡ length dims) ks → is_listed k ks ≡ false → CoresApart dims (core dims k) ks
unlisted_apart dims k [] near long sized e = tt
unlisted_apart dims k (n ∷ ks) near long sized e =
    let both = neither (is_eq (number_order n k)) (is_listed k ks) e in
    (cores_apart dims n k near sized.0 long (λ same. clash (is_eq (number_order n k)) (is_listed_itself n k same) both.0), unlisted_apart dims k ks near long sized.1 both.1)

-- ---- a chunk's own rows among those of all

module _ (schema : Schema) (margins : List ℕ) (near : AreNear schema.dimensions) where
  abbrev dims : List Dimension
  dims = schema.dimensions

  abbrev own_rows : Chunk → List Row
  own_rows chunk = within (core dims chunk.at.items) (chunk_rows dims margins chunk)

  abbrev HasOwn : List Chunk → Chunk → Type 0
  HasOwn all chunk = within (core dims chunk.at.items) (core_rows dims margins all) ≡ own_rows chunk

  others_apart : (chunk : Chunk) (chunks : List Chunk) → length chunk.at.items ≡ length dims → AllByRecursion (λ k. length k ≡ length dims) (numbers chunks) → AllByRecursion (λ later. number_order chunk.at.items later ≡ Less) (numbers chunks)
      → CoresApart dims (core dims chunk.at.items) (numbers chunks)
  others_apart chunk [] long sized less = tt
  others_apart chunk (c ∷ chunks) long sized less =
      (cores_apart dims c.at.items chunk.at.items near sized.0 long (λ same. differ_less chunk.at.items c.at.items less.0 (sym same)), others_apart chunk chunks long sized.1 less.1)

  own_rise : (chunk : Chunk) → IsRising (chunk_rows dims margins chunk) → IsRising (own_rows chunk)
  own_rise chunk rising = IsRising-rows_where (is_inside (core dims chunk.at.items)) (chunk_rows dims margins chunk) rising

  none_there : (area : Bounds) (chunk : Chunk) → IsRising (chunk_rows dims margins chunk) → LieApart (core dims chunk.at.items) area → within area (own_rows chunk) ≡ []
  none_there area chunk rising apart = ap (within area) (sym (put_all-none (own_rows chunk) (own_rise chunk rising))) ∙ no_rows dims margins area (chunk ∷ []) (apart, tt)

  in_box : (area : Bounds) (chunk : Chunk) (chunks : List Chunk) → within area (core_rows dims margins (chunk ∷ chunks)) ≡ put_all (within area (own_rows chunk)) (within area (core_rows dims margins chunks))
  in_box area chunk chunks = rows_where-put_all (is_inside area) (own_rows chunk) (core_rows dims margins chunks) (IsRising-core_rows dims margins chunks)

  first_own : (chunk : Chunk) (chunks : List Chunk) → IsRising (chunk_rows dims margins chunk) → CoresApart dims (core dims chunk.at.items) (numbers chunks) → HasOwn (chunk ∷ chunks) chunk
  first_own chunk chunks rising apart =
      let area = core dims chunk.at.items in
      in_box area chunk chunks
      ∙ (λ i. put_all (within-within area area (chunk_rows dims margins chunk) (λ c inside. inside) i) (no_rows dims margins area chunks apart i))
      ∙ put_all-none (own_rows chunk) (own_rise chunk rising)

  later_own : (chunk : Chunk) (chunks rest : List Chunk) → IsRising (chunk_rows dims margins chunk) → CoresApart dims (core dims chunk.at.items) (numbers rest) → AllByRecursion (HasOwn chunks) rest → AllByRecursion (HasOwn (chunk ∷ chunks)) rest
  later_own chunk chunks [] rising apart own = tt
  later_own chunk chunks (c ∷ rest) rising apart own = (
    in_box (core dims c.at.items) chunk chunks
        ∙ ap (λ (z : List Row). put_all z (within (core dims c.at.items) (core_rows dims margins chunks))) (none_there (core dims c.at.items) chunk rising (λ x e f. apart.0 x f e))
        ∙ own.0,
    later_own chunk chunks rest rising apart.1 own.1,
  )

  all_own : (chunks : List Chunk) → AllByRecursion (λ chunk. AreRowsOf schema (chunk_rows dims margins chunk)) chunks → NumbersRise (numbers chunks) → AllByRecursion (λ k. length k ≡ length dims) (numbers chunks) → AllByRecursion (HasOwn chunks) chunks
  all_own [] are rise sized = tt
  all_own (chunk ∷ chunks) are rise sized =
      let apart = others_apart chunk chunks sized.0 sized.1 rise.0 in
      (first_own chunk chunks are.0.are_rows.rising apart, later_own chunk chunks chunks are.0.are_rows.rising apart (all_own chunks are.1 rise.1 sized.1))

  -- where no frame is larger than its core each is a part of the rows of all
  parts_of : (chunks rest : List Chunk) → margins ≡ no_margins dims → AreRowsOf schema (core_rows dims margins chunks) → AllByRecursion (HasPlaces schema margins) rest
      → AllByRecursion (λ chunk. AreRowsOf schema (chunk_rows dims margins chunk)) rest → AllByRecursion (HasOwn chunks) rest → AllByRecursion (IsPart dims margins (core_rows dims margins chunks)) rest
  parts_of chunks [] none all places are own = tt
  parts_of chunks (c ∷ rest) none all places are own = (
    record {
      each = places.0.placed.each;
      in_frame = places.0.placed.in_frame;
      cells = (own_part schema margins c places.0).cells ∙ framed_rows dims margins c.at.items (chunk_rows dims margins c) none are.0.are_rows.in_bounds ∙ sym own.0
          ∙ sym (framed_rows dims margins c.at.items (core_rows dims margins chunks) none all.are_rows.in_bounds);
    },
    parts_of chunks rest none all places.1 are.1 own.1,
  )

  -- a listed chunk with a cell in its core
  holds_there : (chunks rest : List Chunk) (k : ChunkNumber) → AllByRecursion (HasOwn chunks) rest → AllByRecursion (λ chunk. holds_cell dims margins chunk ≡ true) rest → is_listed k (numbers rest) ≡ true
      → has_cell dims (core_rows dims margins chunks) k ≡ true
  holds_there chunks [] k own held e = absurd cc
  holds_there chunks (c ∷ rest) k own held e = by_test (is_eq (number_order c.at.items k)) refl e (holds_there chunks rest k own.1 held.1)
    where
      by_test : (t : Bool) → is_eq (number_order c.at.items k) ≡ t → (t || is_listed k (numbers rest)) ≡ true → (is_listed k (numbers rest) ≡ true → has_cell dims (core_rows dims margins chunks) k ≡ true)
          → has_cell dims (core_rows dims margins chunks) k ≡ true
      by_test true f g later =
          subst (λ (m : ChunkNumber). has_cell dims (core_rows dims margins chunks) m ≡ true) (same_number c.at.items k (is_equal (number_order c.at.items k) f)) (ap is_not_empty own.0 ∙ held.0)
      by_test false f g later = later g

-- ---- such chunks are those of the rows of their cores

module _ (schema : Schema) (margins : List ℕ) (chunks : List Chunk) (have : HaveCells schema margins chunks) (none : margins ≡ no_margins schema.dimensions) where
  its_near : AreNear schema.dimensions
  its_near = (valid_placed schema have.placed.valid).near

  pub alone_parts : AllByRecursion (IsPart schema.dimensions margins (core_rows schema.dimensions margins chunks)) chunks
  alone_parts = parts_of schema margins its_near chunks chunks none (cores_are_rows schema margins chunks have) have.placed.all have.rows_of (all_own schema margins its_near chunks have.rows_of have.placed.rising have.placed.sized)

  pub alone_chunks : AllByRecursion (λ chunk. holds_cell schema.dimensions margins chunk ≡ true) chunks → AreChunksOf schema.dimensions margins (core_rows schema.dimensions margins chunks) chunks
  alone_chunks held = record {
    in_order = have.placed.rising;
    sized = have.placed.sized;
    listed = λ k long. same_test (is_listed k (numbers chunks)) (has_cell schema.dimensions (core_rows schema.dimensions margins chunks) k)
        (holds_there schema margins its_near chunks chunks k (all_own schema margins its_near chunks have.rows_of have.placed.rising have.placed.sized) held)
        (core_listed schema.dimensions margins chunks k its_near have.placed.sized long);
    parts = alone_parts;
  }

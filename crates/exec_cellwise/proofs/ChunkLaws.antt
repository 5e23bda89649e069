-- The chunks of a `build` are its array.
use Rattle.std.proofs.Common.{◌≡◌, ℕ, suc, ◌+◌, ◌<◌, ℤ, Bool, true, false, List, [], ◌∷◌, ◌++◌, map, take, length, get_or, Result, Ok, Err, refl, sym, ap, ◌∙◌, subst, arith}
use Rattle.std.specs.Prelude.{◌&&◌, ◌||◌, int_le, IfOk}
use Rattle.std.specs.Int.{int_min, int_max}
use Rattle.std.specs.List.{AllByRecursion}
use Rattle.std.specs.Ordering.{is_eq}
use Rattle.std.proofs.lemmas.Int.{ints, clamps}
use Rattle.std.proofs.lemmas.List.{map-append, map_more}
use Rattle.cell_values.specs.declared.schema.Bounds.{Bounds}
use Rattle.array_rows.specs.Arrays.{AreRowsOf}
use Rattle.array_geom.specs.declared.grid.Grid.{Grid}
use Rattle.array_geom.proofs.NumberLaws.{same_number, is_equal}
use Rattle.chunk_cells.specs.Frames.{AreFramed, HasFrames}
use Rattle.chunk_cells.proofs.NumberLaws.{number_at}
use Rattle.chunk_cells.proofs.CellLaws.{same_tests}
use Rattle.chunk_cells.proofs.ChunkLaws.{are_chunks}
use Rattle.cell_values.specs.declared.memory.Memory.{Memory}
use Rattle.logical_plan.proofs.BuiltRows.{all-follows}
use Rattle.cell_values.specs.declared.datum.Row.{Row}
use Rattle.cell_values.specs.declared.schema.Dimension.{Dimension}
use Rattle.cell_values.specs.declared.schema.Schema.{Schema}
use Rattle.cell_values.specs.Schemas.{IsValid}
use Rattle.arrayvec.specs.ArrayVec.{ArrayVec}
use Rattle.array_rows.specs.Rows.{Coordinate}
use Rattle.array_rows.specs.Boxes.{by_pairs, is_between, is_inside, bounds_of, within, meet}
use Rattle.array_geom.specs.Geometry.{ChunkNumber, HasFrame, chunk_of, first_in, frame, frame_low, frame_lengths, has_core, volume}
use Rattle.array_geom.specs.Link.{AreChunksOf, IsPart, numbers, NumbersRise, has_cell, is_listed, number_order, rows_in}
use Rattle.array_geom.specs.Inner.Ranges.{AreNear, is_in_grid}
use Rattle.array_geom.specs.declared.chunk.Chunk.{Chunk}
use Rattle.array_geom.proofs.NearLemmas.{valid_placed, inside_grid}
use Rattle.array_geom.proofs.TestLaws.{and_both, and_parts, le_from_test, le_test}
use Rattle.chunk_cells.specs.Inner.Numbers.{AreCoresOf, numbers_in}
use Rattle.expr_nulls.specs.Expr.{Expr}
use Rattle.logical_plan.specs.Meaning.{built_rows}
use Rattle.exec_cellwise.specs.Inner.Rows.{built_row}
use Rattle.exec_cellwise.specs.Inner.Walks.{Holds, TakesRows, coordinates_between, numbers_to, numbers_under, rows_between}
use Rattle.exec_cellwise.proofs.CutLaws.{cut_box}
use Rattle.exec_cellwise.proofs.RowLaws.{all_push, between_is, built_between, rows_filter}
use Rattle.exec_cellwise.proofs.NumberLists.{all_under, numbers_rise}
use Rattle.exec_cellwise.proofs.CoreCells.{all_have_cores, core_has_cell, core_of_cell, last_numbers, length_map, listed_core}

-- ---- one chunk

frame_lows : (dims : List Dimension) (margins : List ℕ) (k : ChunkNumber) → length margins ≡ length dims → has_core dims k ≡ true → length (frame_low dims margins k) ≡ length dims
frame_lows [] [] [] l e = refl
frame_lows [] [] (x ∷ k) l e = cc
frame_lows [] (m ∷ margins) k l e = absurd (omega arith)
frame_lows (d ∷ dims) [] k l e = absurd (omega arith)
frame_lows (d ∷ dims) (m ∷ margins) [] l e = cc
frame_lows (d ∷ dims) (m ∷ margins) (x ∷ k) l e = ap suc (frame_lows dims margins k (omega arith) (and_rest _ _ e))
  where
    and_rest : (p q : Bool) → (p && q) ≡ true → q ≡ true
    and_rest true q e = e
    and_rest false q e = cc

length-has_core : (dims : List Dimension) (k : ChunkNumber) → has_core dims k ≡ true → length k ≡ length dims
length-has_core [] [] e = refl
length-has_core [] (x ∷ k) e = cc
length-has_core (d ∷ dims) [] e = cc
length-has_core (d ∷ dims) (x ∷ k) e = ap suc (length-has_core dims k (and_parts (int_le (first_in d x) d.hi) (has_core dims k) e).1)

max_first : (l m x : ℤ) → int_le (int_max l m) x ≡ true → int_le l x ≡ true
max_first l m x e = let f = le_from_test (int_max l m) x e in le_test l x (omega (arith, ints, clamps))

min_first : (h i x : ℤ) → int_le x (int_min h i) ≡ true → int_le x h ≡ true
min_first h i x e = let f = le_from_test x (int_min h i) e in le_test x h (omega (arith, ints, clamps))

-- what lies in both boxes lies in the first one
between_first : (lo hi lo' hi' c : List ℤ) → length lo' ≡ length lo → length hi' ≡ length hi → is_between (by_pairs int_max lo lo') (by_pairs int_min hi hi') c ≡ true → is_between lo hi c ≡ true
between_first [] [] lo' hi' c a b e = e
between_first [] (h ∷ hi) lo' [] c a b e = absurd (omega arith)
between_first [] (h ∷ hi) lo' (i ∷ hi') c a b e = cc
between_first (l ∷ lo) hi [] hi' c a b e = absurd (omega arith)
between_first (l ∷ lo) [] (m ∷ lo') hi' c a b e = cc
between_first (l ∷ lo) (h ∷ hi) (m ∷ lo') [] c a b e = absurd (omega arith)
between_first (l ∷ lo) (h ∷ hi) (m ∷ lo') (i ∷ hi') [] a b e = cc
between_first (l ∷ lo) (h ∷ hi) (m ∷ lo') (i ∷ hi') (x ∷ c) a b e =
    let p = and_parts (int_le (int_max l m) x && int_le x (int_min h i)) (is_between (by_pairs int_max lo lo') (by_pairs int_min hi hi') c) e in
    let q = and_parts (int_le (int_max l m) x) (int_le x (int_min h i)) p.0 in
    and_both _ _ (and_both _ _ (max_first l m x q.0) (min_first h i x q.1)) (between_first lo hi lo' hi' c (omega arith) (omega arith) p.1)

frame_highs : (dims : List Dimension) (margins : List ℕ) (k : ChunkNumber) → length margins ≡ length dims → has_core dims k ≡ true → length (frame dims margins k).hi.items ≡ length dims
frame_highs [] [] [] l e = refl
frame_highs [] [] (x ∷ k) l e = cc
frame_highs [] (m ∷ margins) k l e = absurd (omega arith)
frame_highs (d ∷ dims) [] k l e = absurd (omega arith)
frame_highs (d ∷ dims) (m ∷ margins) [] l e = cc
frame_highs (d ∷ dims) (m ∷ margins) (x ∷ k) l e = ap suc (frame_highs dims margins k (omega arith) (and_parts (int_le (first_in d x) d.hi) (has_core dims k) e).1)

-- the box that is walked lies in the grid
pub walk_in_grid : (schema : Schema) (margins : List ℕ) (k : ChunkNumber) (grid : Grid) (bounds area : Bounds) (lo hi c at : Coordinate) → HasFrame schema margins k → bounds ≡ bounds_of schema.dimensions → area ≡ meet (frame schema.dimensions margins k) bounds
    → lo ≡ area.lo.items → hi ≡ area.hi.items → grid.low.items ≡ frame_low schema.dimensions margins k → grid.lengths.items ≡ frame_lengths schema.dimensions margins → at ≡ [] → is_between lo hi c ≡ true → is_in_grid grid.low.items grid.lengths.items (at ++ c) ≡ true
walk_in_grid schema margins k grid bounds area lo hi c at framed b a l h low lengths none e =
    let dims = schema.dimensions in
    let shared = frame dims margins k in
    let in_area : is_inside (meet shared (bounds_of dims)) c ≡ true
    = ap (λ (z : Bounds). is_inside (meet shared z) c) (sym b) ∙ ap (λ (z : Bounds). is_inside z c) (sym a) ∙ ap (λ (z : Coordinate). is_between z area.hi.items c) (sym l) ∙ ap (λ (z : Coordinate). is_between lo z c) (sym h) ∙ e in
    ap (λ (z : Coordinate). is_in_grid grid.low.items grid.lengths.items (z ++ c)) none
    ∙ inside_grid schema margins k grid c framed low lengths
    (between_first shared.lo.items shared.hi.items (map (λ d. d.lo) dims) (map (λ d. d.hi) dims) c (length_map (λ d. d.lo) dims ∙ sym (frame_lows dims margins k framed.each framed.core)) (length_map (λ d. d.hi) dims ∙ sym (frame_highs dims margins k framed.each framed.core)) in_area)

-- ---- the rows of the walk

walked : (schema : Schema) (e : Expr) (margins : List ℕ) (k : ChunkNumber) → HasFrame schema margins k
    → rows_between (built_row schema.attributes e) [] (meet (frame schema.dimensions margins k) (bounds_of schema.dimensions)).lo.items (meet (frame schema.dimensions margins k) (bounds_of schema.dimensions)).hi.items ≡ within (frame schema.dimensions margins k) (built_rows schema e)
walked schema e margins k framed =
    let dims = schema.dimensions in
    let row = built_row schema.attributes e in
    let shared = frame dims margins k in
    let lo = map (λ d. d.lo) dims in
    let hi = map (λ d. d.hi) dims in
    let same_lo = length_map (λ (d : Dimension). d.lo) dims in
    between_is row [] (meet shared (bounds_of dims)).lo.items (meet shared (bounds_of dims)).hi.items
    ∙ ap (map row) (sym (cut_box shared.lo.items shared.hi.items lo hi (frame_lows dims margins k framed.each framed.core ∙ sym same_lo) (frame_highs dims margins k framed.each framed.core ∙ sym same_lo) (length_map (λ d. d.hi) dims ∙ sym same_lo)))
    ∙ sym (rows_filter schema.attributes e (is_inside shared) (coordinates_between lo hi))
    ∙ ap (within shared) (sym (built_between schema e))

no_cells : (low : List ℤ) (lengths : List ℕ) (chunk : Chunk) → chunk.positions ≡ [] → chunk.cells ≡ [] → Holds low lengths [] chunk
no_cells low lengths chunk p q = record {
  each = ap length q ∙ sym (ap length p);
  in_grid = subst (AllByRecursion (λ (n : ℕ). n < volume lengths)) (sym p) tt;
  cells = ap (λ (ps : List ℕ). rows_in low lengths ps chunk.cells) p;
}

part_held : (dims : List Dimension) (margins : List ℕ) (k : ChunkNumber) (rows all : List Row) (new : Chunk) → new.at.items ≡ k → rows ≡ within (frame dims margins k) all → Holds (frame_low dims margins k) (frame_lengths dims margins) rows new → IsPart dims margins all new
part_held dims margins k rows all new at is held = record {
  each = held.each;
  in_frame = held.in_grid;
  cells =
      ap (λ (z : ChunkNumber). rows_in (frame_low dims margins z) (frame_lengths dims margins) new.positions new.cells) at ∙ held.cells ∙ is
      ∙ ap (λ (z : ChunkNumber). within (frame dims margins z) all) (sym at);
}

pub part_walked : (schema : Schema) (e : Expr) (margins : List ℕ) (k : ArrayVec ℕ) (grid : Grid) (bounds area : Bounds) (lo hi at : Coordinate) (old new : Chunk) → HasFrame schema margins k.items → bounds ≡ bounds_of schema.dimensions → area ≡ meet (frame schema.dimensions margins k.items) bounds
    → lo ≡ area.lo.items → hi ≡ area.hi.items → at ≡ [] → grid.low.items ≡ frame_low schema.dimensions margins k.items → grid.lengths.items ≡ frame_lengths schema.dimensions margins → old.at ≡ k → old.positions ≡ [] → old.cells ≡ []
    → TakesRows grid.low.items grid.lengths.items (rows_between (built_row schema.attributes e) at lo hi) old new → IsPart schema.dimensions margins (built_rows schema e) new
part_walked schema e margins k grid bounds area lo hi at old new framed b a l h none low lengths number p q takes =
    let dims = schema.dimensions in
    let row = built_row schema.attributes e in
    let shared = frame dims margins k.items in
    let held : Holds grid.low.items grid.lengths.items (rows_between row at lo hi) new = takes.holds [] (no_cells grid.low.items grid.lengths.items old p q) in
    let again : Holds (frame_low dims margins k.items) (frame_lengths dims margins) (rows_between row at lo hi) new
    = subst (λ (z : List ℤ). Holds z (frame_lengths dims margins) (rows_between row at lo hi) new) low (subst (λ (z : List ℕ). Holds grid.low.items z (rows_between row at lo hi) new) lengths held) in
    let rows : rows_between row at lo hi ≡ within shared (built_rows schema e)
    = ap (λ (z : Coordinate). rows_between row z lo hi) none ∙ ap (λ (z : Coordinate). rows_between row [] z hi) l ∙ ap (λ (z : Coordinate). rows_between row [] area.lo.items z) h
    ∙ ap (λ (z : Bounds). rows_between row [] z.lo.items z.hi.items) a ∙ ap (λ (z : Bounds). rows_between row [] (meet shared z).lo.items (meet shared z).hi.items) b ∙ walked schema e margins k.items framed in
    part_held dims margins k.items (rows_between row at lo hi) (built_rows schema e) new (ap (λ (z : ArrayVec ℕ). z.items) (takes.number ∙ number)) rows again

-- ---- all chunks

highest : (dims : List Dimension) → AreNear dims → is_inside (bounds_of dims) (map (λ d. d.hi) dims) ≡ true
highest [] near = refl
highest (d ∷ dims) near = and_both _ _ (and_both _ _ (le_test d.lo d.hi near.0.order) (le_test d.hi d.hi (omega (arith, ints)))) (highest dims near.1)

pub highest_inside : (schema : Schema) (bounds : Bounds) → IsValid schema → bounds ≡ bounds_of schema.dimensions → is_inside (bounds_of schema.dimensions) bounds.hi.items ≡ true
highest_inside schema bounds valid b = ap (λ (z : Bounds). is_inside (bounds_of schema.dimensions) z.hi.items) b ∙ highest schema.dimensions (valid_placed schema valid).near

pub numbers_walked : (dims : List Dimension) (bounds : Bounds) (old new : List (ArrayVec ℕ)) (at last : List ℕ) (number : ArrayVec ℕ) → bounds ≡ bounds_of dims → old ≡ [] → at ≡ [] → last ≡ number.items → number.items ≡ chunk_of dims bounds.hi.items
    → numbers_in new ≡ numbers_in old ++ numbers_under at last → numbers_in new ≡ numbers_to (last_numbers dims)
numbers_walked dims bounds old new at last number b none first l is e =
    e ∙ ap (λ (z : List (ArrayVec ℕ)). numbers_in z ++ numbers_under at last) none ∙ ap (λ (z : List ℕ). numbers_under z last) first ∙ all_under last
    ∙ ap numbers_to (l ∙ is ∙ ap (λ (z : Bounds). chunk_of dims z.hi.items) b)

pub frame_of_listed : (schema : Schema) (margins : List ℕ) (listed : List (ArrayVec ℕ)) (i : ℕ) (k : ArrayVec ℕ) → HasFrames schema margins → AreFramed schema.dimensions (numbers_in listed) → i < length listed → k ≡ get_or listed i k → HasFrame schema margins k.items
frame_of_listed schema margins listed i k frames framed below is = record {
  valid = frames.valid;
  core = number_at (λ (n : ChunkNumber). has_core schema.dimensions n ≡ true) listed i k framed below is;
  each = frames.each;
  places = frames.places;
}

pub all_framed : (schema : Schema) (listed : List (ArrayVec ℕ)) → IsValid schema → numbers_in listed ≡ numbers_to (last_numbers schema.dimensions) → AreFramed schema.dimensions (numbers_in listed)
all_framed schema listed valid is = subst (AreFramed schema.dimensions) (sym is) (all_have_cores schema.dimensions (valid_placed schema valid).near)

listed_holds : (P : ChunkNumber → Type 0) (k : ChunkNumber) (ks : List ChunkNumber) → AllByRecursion P ks → is_listed k ks ≡ true → P k
listed_holds P k [] a e = cc
listed_holds P k (n ∷ ks) a e = cases (is_eq (number_order n k)) refl e (λ f. listed_holds P k ks a.1 f)
  where
    cases : (t : Bool) → is_eq (number_order n k) ≡ t → (t || is_listed k ks) ≡ true → (is_listed k ks ≡ true → P k) → P k
    cases true f g more = subst P (same_number n k (is_equal (number_order n k) f)) a.0
    cases false f g more = more g

pub are_cores : (schema : Schema) (e : Expr) (listed : List (ArrayVec ℕ)) → AreRowsOf schema (built_rows schema e) → numbers_in listed ≡ numbers_to (last_numbers schema.dimensions) → AreCoresOf schema.dimensions (built_rows schema e) listed
are_cores schema e listed rows is =
    let dims = schema.dimensions in
    let near = (valid_placed schema rows.valid).near in
    let cores = all_have_cores dims near in
    record {
      in_order = subst NumbersRise (sym is) (numbers_rise (last_numbers dims));
      named = record {
        sized = subst (AllByRecursion (λ (k : ChunkNumber). length k ≡ length dims)) (sym is) (all-follows (λ k. has_core dims k ≡ true) (λ k. length k ≡ length dims) (λ k c. length-has_core dims k c) (numbers_to (last_numbers dims)) cores);
        cores = λ k l.
            ap (is_listed k) is
            ∙ same_tests (is_listed k (numbers_to (last_numbers dims))) (has_cell dims (built_rows schema e) k)
            (λ h. core_has_cell schema e k near (listed_holds (λ n. has_core dims n ≡ true) k (numbers_to (last_numbers dims)) cores h))
            (λ h. listed_core dims k near (core_of_cell dims k (built_rows schema e) near l rows.are_rows.in_bounds h));
      };
    }

pub chunks_made : (schema : Schema) (e : Expr) (margins : List ℕ) (listed shown : List (ArrayVec ℕ)) (answer : Result (List Chunk) Memory) → AreRowsOf schema (built_rows schema e) → numbers_in listed ≡ numbers_to (last_numbers schema.dimensions) → shown ≡ listed
    → IfOk answer (λ chunks. numbers chunks ≡ numbers_in shown) → IfOk answer (λ chunks. AllByRecursion (IsPart schema.dimensions margins (built_rows schema e)) chunks) → IfOk answer (λ chunks. AreChunksOf schema.dimensions margins (built_rows schema e) chunks)
chunks_made schema e margins listed shown (Err fault) rows is shows same parts = tt
chunks_made schema e margins listed shown (Ok chunks) rows is shows same parts =
    are_chunks schema.dimensions margins (built_rows schema e) listed chunks (are_cores schema e listed rows is) (same ∙ ap numbers_in shows) parts

-- ---- one more chunk

pub number_made : (listed : List (ArrayVec ℕ)) (i : ℕ) (number : ArrayVec ℕ) (chunk : Chunk) (old new : List Chunk) → i < length listed
    → number ≡ get_or listed i number → chunk.at ≡ number → numbers old ≡ numbers_in (take i listed) → new ≡ old ++ chunk ∷ []
    → numbers new ≡ numbers_in (take (i + 1) listed)
number_made listed i number chunk old new less item at so_far pushed =
    ap numbers pushed ∙ map-append (λ (z : Chunk). z.at.items) old (chunk ∷ []) ∙ (λ j. so_far j ++ (at j).items ∷ [])
    ∙ ap (λ (z : ArrayVec ℕ). numbers_in (take i listed) ++ z.items ∷ []) item ∙ sym (map_more (λ (z : ArrayVec ℕ). z.items) listed i number less)

pub part_made : (P : Chunk → Type 0) (old new : List Chunk) (chunk : Chunk) → AllByRecursion P old → P chunk → new ≡ old ++ chunk ∷ [] → AllByRecursion P new
part_made P old new chunk all one pushed = subst (AllByRecursion P) (sym pushed) (all_push P old chunk all one)

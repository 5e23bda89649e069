-- What a valid schema gives each dimension, and a frame each of its lengths.
use Rattle.std.proofs.Common.{◌≡◌, ℕ, suc, ◌+◌, ◌-◌, ◌*◌, ◌≤◌, ◌<◌, ◌^◌, ℤ, pos, negsuc, ◌≤ℤ◌, ◌-ℤ◌, true, ◌&&◌, List, [], ◌∷◌, length, refl, sym, ap, subst, ◌∙◌, arith}
use Rattle.std.specs.Prelude.{int_le, nat_le}
use Rattle.std.specs.List.{list_all}
use Rattle.std.proofs.lemmas.Int.{ints}
use Rattle.array_rows.specs.Dimension.{Dimension}
use Rattle.array_rows.specs.Schema.{Schema}
use Rattle.array_rows.specs.Schemas.{is_bound, bounds_in_range, bounds_in_order, has_chunk, overlap_fits, is_dimension, has_attributes, has_dimensions, are_distinct, names_of, frame_length, frame_size, frame_fits, IsValid}
use Rattle.array_rows.specs.Rows.{Coordinate}
use Rattle.array_rows.specs.Boxes.{is_inside}
use Rattle.array_geom.specs.declared.grid.Grid.{Grid}
use Rattle.array_geom.specs.Geometry.{ChunkNumber, first_in, has_core, frame, frame_low, frame_lengths, volume, overlaps, HasFrame}
use Rattle.array_geom.specs.Inner.Ranges.{IsNear, AreNear, AreMargins, IsLow, AreLow, AreLengths, IsGrid, is_in_grid}
use Rattle.array_geom.proofs.TestLaws.{and_parts, at_most, le_from_test}
use Rattle.array_geom.proofs.PlaceLaws.{frame_is_grid}

low_bound : (z : ℤ) → is_bound z ≡ true → negsuc (2 ^ 62 - 2) ≤ℤ z
low_bound (pos n) e = omega (arith, ints)
low_bound (negsuc n) e = let h : suc n ≤ 4611686018427387903 = at_most _ _ e in omega (arith, ints)

high_bound : (z : ℤ) → is_bound z ≡ true → z ≤ℤ pos (2 ^ 62 - 1)
high_bound (pos n) e = let h : n ≤ 4611686018427387903 = at_most _ _ e in omega (arith, ints)
high_bound (negsuc n) e = omega (arith, ints)

near : (d : Dimension) → is_dimension d ≡ true → d.chunk ≤ 2 ^ 48 → IsNear d
near d e small =
    let a = and_parts (bounds_in_range d && bounds_in_order d && has_chunk d) (overlap_fits d) e in
    let b = and_parts (bounds_in_range d && bounds_in_order d) (has_chunk d) a.0 in
    let r = and_parts (bounds_in_range d) (bounds_in_order d) b.0 in
    let lh = and_parts (is_bound d.lo) (is_bound d.hi) r.0 in
    record { low = low_bound d.lo lh.0; order = le_from_test d.lo d.hi r.1; high = high_bound d.hi lh.1; some = at_most 1 d.chunk b.1; small = small }

-- a factor is at most the product, where the other is at least 1
factor : (x y limit : ℕ) → 0 < x → 0 < y → x * y ≤ limit → (x ≤ limit) × (y ≤ limit)
factor x y limit p q h = (grind arith, grind arith)

positive : (x y : ℕ) → 0 < x → 0 < y → 0 < x * y
positive x y p q = grind arith

has_chunk_of : (d : Dimension) → is_dimension d ≡ true → 0 < d.chunk
has_chunk_of d e =
    let a = and_parts (bounds_in_range d && bounds_in_order d && has_chunk d) (overlap_fits d) e in
    let b = and_parts (bounds_in_range d && bounds_in_order d) (has_chunk d) a.0 in
    at_most 1 d.chunk b.1

some_size : (dims : List Dimension) → list_all is_dimension dims ≡ true → 0 < frame_size dims
some_size [] e = omega arith
some_size (d ∷ dims) e =
    let a = and_parts (is_dimension d) (list_all is_dimension dims) e in
    let c = has_chunk_of d a.0 in
    positive (frame_length d) (frame_size dims) (omega arith) (some_size dims a.1)

all_near : (dims : List Dimension) → list_all is_dimension dims ≡ true → frame_size dims ≤ 2 ^ 48 → AreNear dims
all_near [] e small = tt
all_near (d ∷ dims) e small =
    let a = and_parts (is_dimension d) (list_all is_dimension dims) e in
    let c = has_chunk_of d a.0 in
    let f = factor (frame_length d) (frame_size dims) (2 ^ 48) (omega arith) (some_size dims a.1) small in
    (near d a.0 (omega (arith, f.0)), all_near dims a.1 f.1)

pub record IsPlaced (schema : Schema) : Type 0 where
  pub near : AreNear schema.dimensions
  pub few : length schema.dimensions ≤ 6

pub valid_placed : (schema : Schema) → IsValid schema → IsPlaced schema
valid_placed schema e =
    let dims = schema.dimensions in
    let a = and_parts (has_attributes schema.attributes && has_dimensions dims && are_distinct (names_of schema) && list_all is_dimension dims) (frame_fits dims) e in
    let b = and_parts (has_attributes schema.attributes && has_dimensions dims && are_distinct (names_of schema)) (list_all is_dimension dims) a.0 in
    let c = and_parts (has_attributes schema.attributes && has_dimensions dims) (are_distinct (names_of schema)) b.0 in
    let d = and_parts (has_attributes schema.attributes) (has_dimensions dims) c.0 in
    let f = and_parts (nat_le 1 (length dims)) (nat_le (length dims) 6) d.1 in
    record { near = all_near dims b.1 (at_most (frame_size dims) 281474976710656 a.1); few = at_most (length dims) 6 f.1 }

-- ---- the lengths of a frame

pub some_places : (dims : List Dimension) (margins : List ℕ) → AreNear dims → AreLengths (frame_lengths dims margins) × (0 < volume (frame_lengths dims margins))
some_places [] margins n = (tt, omega arith)
some_places (d ∷ dims) [] n = (tt, omega arith)
some_places (d ∷ dims) (m ∷ margins) n =
    let more = some_places dims margins n.1 in
    let one : 0 < d.chunk + 2 * m = omega (arith, n.0.some) in
    ((one, more.0), positive (d.chunk + 2 * m) (volume (frame_lengths dims margins)) one more.1)

pub margins_of : (dims : List Dimension) (margins : List ℕ) → AreNear dims → length margins ≡ length dims → volume (frame_lengths dims margins) ≤ 2 ^ 48 → AreMargins dims margins
margins_of [] [] n e small = tt
margins_of [] (m ∷ margins) n e small = absurd (omega arith)
margins_of (d ∷ dims) [] n e small = absurd (omega arith)
margins_of (d ∷ dims) (m ∷ margins) n e small =
    let more = some_places dims margins n.1 in
    let f = factor (d.chunk + 2 * m) (volume (frame_lengths dims margins)) (2 ^ 48) (omega (arith, n.0.some)) more.1 small in
    (f.0, margins_of dims margins n.1 (omega arith) f.1)

low_in_range : (d : Dimension) (m k : ℕ) → IsNear d → first_in d k ≤ℤ d.hi → d.chunk + 2 * m ≤ 2 ^ 48 → IsLow (first_in d k -ℤ pos m)
low_in_range d m k n h small = let l = n.low in let g = n.high in (omega (arith, ints), omega (arith, ints))

pub lows_in_range : (dims : List Dimension) (margins : List ℕ) (ks : ChunkNumber) → AreNear dims → has_core dims ks ≡ true → AreMargins dims margins → AreLow (frame_low dims margins ks)
lows_in_range [] margins ks n h a = tt
lows_in_range (d ∷ dims) [] ks n h a = absurd a
lows_in_range (d ∷ dims) (m ∷ margins) [] n h a = tt
lows_in_range (d ∷ dims) (m ∷ margins) (k ∷ ks) n h a =
    let t = and_parts (int_le (first_in d k) d.hi) (has_core dims ks) h in
    (low_in_range d m k n.0 (le_from_test _ _ t.0) a.0, lows_in_range dims margins ks n.1 t.1 a.1)

pub as_many : (dims : List Dimension) (margins : List ℕ) (ks : ChunkNumber) → has_core dims ks ≡ true → length (frame_low dims margins ks) ≡ length (frame_lengths dims margins)
as_many [] margins ks h = refl
as_many (d ∷ dims) margins [] h = cc
as_many (d ∷ dims) [] (k ∷ ks) h = refl
as_many (d ∷ dims) (m ∷ margins) (k ∷ ks) h = ap suc (as_many dims margins ks (and_parts (int_le (first_in d k) d.hi) (has_core dims ks) h).1)

-- with the overlaps as margins the frame has the size that the schema's rules bound
pub size_is_volume : (dims : List Dimension) → frame_size dims ≡ volume (frame_lengths dims (overlaps dims))
size_is_volume [] = refl
size_is_volume (d ∷ dims) = ap (λ n. frame_length d * n) (size_is_volume dims)

each_overlap : (dims : List Dimension) → length (overlaps dims) ≡ length dims
each_overlap [] = refl
each_overlap (d ∷ dims) = ap suc (each_overlap dims)

pub stored_frame : (schema : Schema) (k : ChunkNumber) → IsValid schema → has_core schema.dimensions k ≡ true → HasFrame schema (overlaps schema.dimensions) k
stored_frame schema k e h =
    let dims = schema.dimensions in
    let a = and_parts (has_attributes schema.attributes && has_dimensions dims && are_distinct (names_of schema) && list_all is_dimension dims) (frame_fits dims) e in
    let small = at_most (frame_size dims) 281474976710656 a.1 in
    let same = size_is_volume dims in
    record { valid = e; core = h; each = each_overlap dims; places = omega arith }

-- ---- what the calls hand on

pub near_slice : (schema : Schema) (dims : List Dimension) → dims ≡ schema.dimensions → IsValid schema → AreNear dims
near_slice schema dims same valid = subst AreNear (sym same) (valid_placed schema valid).near

pub near_framed : (schema : Schema) (margins : List ℕ) (k : ChunkNumber) (dims : List Dimension) → dims ≡ schema.dimensions → HasFrame schema margins k → AreNear dims
near_framed schema margins k dims same framed = near_slice schema dims same framed.valid

pub margins_framed : (schema : Schema) (margins : List ℕ) (k : ChunkNumber) (dims : List Dimension) (ms : List ℕ) → dims ≡ schema.dimensions → ms ≡ margins → HasFrame schema margins k → AreMargins dims ms
margins_framed schema margins k dims ms same same' framed =
    subst (λ (ds : List Dimension). AreMargins ds ms) (sym same)
    (subst (AreMargins schema.dimensions) (sym same') (margins_of schema.dimensions margins (valid_placed schema framed.valid).near framed.each framed.places))

pub grid_made : (schema : Schema) (margins : List ℕ) (k : ChunkNumber) (grid : Grid) → HasFrame schema margins k → grid.low.items ≡ frame_low schema.dimensions margins k → grid.lengths.items ≡ frame_lengths schema.dimensions margins → IsGrid grid
grid_made schema margins k grid framed low lengths =
    let near = (valid_placed schema framed.valid).near in
    let dims = schema.dimensions in
    record {
      low = subst AreLow (sym low) (lows_in_range dims margins k near framed.core (margins_of dims margins near framed.each framed.places));
      lengths = subst AreLengths (sym lengths) (some_places dims margins near).0;
      each = ap length low ∙ as_many dims margins k framed.core ∙ sym (ap length lengths);
      places = subst (λ (ns : List ℕ). volume ns ≤ 2 ^ 48) (sym lengths) framed.places;
    }

pub inside_grid : (schema : Schema) (margins : List ℕ) (k : ChunkNumber) (grid : Grid) (c : Coordinate) → HasFrame schema margins k → grid.low.items ≡ frame_low schema.dimensions margins k → grid.lengths.items ≡ frame_lengths schema.dimensions margins
    → is_inside (frame schema.dimensions margins k) c ≡ true → is_in_grid grid.low.items grid.lengths.items c ≡ true
inside_grid schema margins k grid c framed low lengths e =
    ap (λ (lo : List ℤ). is_in_grid lo grid.lengths.items c) low ∙ ap (λ (ns : List ℕ). is_in_grid (frame_low schema.dimensions margins k) ns c) lengths
    ∙ sym (frame_is_grid schema.dimensions margins k c (valid_placed schema framed.valid).near framed.each framed.core) ∙ e

-- What windows by places ask for, in a frame.
use Rattle.std.proofs.Common.{◌≡◌, ℕ, ◌≤◌, ◌^◌, ℤ, true, List, [], ◌∷◌, length, sym, ap, ◌∙◌, subst}
use Rattle.std.specs.List.{AllByRecursion}
use Rattle.cell_values.specs.declared.datum.Row.{Row}
use Rattle.cell_values.specs.declared.schema.Bounds.{Bounds}
use Rattle.cell_values.specs.declared.schema.Schema.{Schema}
use Rattle.array_rows.specs.Boxes.{by_pairs, is_inside, within}
use Rattle.array_rows.specs.Cellwise.{cell_wise}
use Rattle.array_rows.specs.Rows.{Coordinate, IsRising}
use Rattle.array_geom.specs.declared.chunk.Chunk.{Chunk}
use Rattle.array_geom.specs.declared.grid.Grid.{Grid}
use Rattle.array_geom.specs.Arrays.{AreRowsOf}
use Rattle.array_geom.specs.Geometry.{HasFrame, frame, frame_lengths, frame_low, volume}
use Rattle.array_geom.specs.Inner.Ranges.{AreLengths, AreLow, IsGrid, is_in_grid}
use Rattle.array_geom.specs.Link.{chunk_rows}
use Rattle.array_geom.proofs.NearLemmas.{inside_grid, lows_in_range, margins_of, valid_placed}
use Rattle.array_parts.specs.Cores.{HaveCells}
use Rattle.area_cells.specs.Inner.Filled.{IsFilled}
use Rattle.logical_plan.specs.declared.parts.Aggregate.{Aggregate}
use Rattle.logical_plan.specs.declared.parts.Reach.{Reach}
use Rattle.logical_plan.specs.Groups.{window, window_rows}
use Rattle.window_overlap.specs.Cores.{window_within}
use Rattle.window_overlap.specs.Inner.Dense.{AreOffsets, IsSet, span, widths, zeros}
use Rattle.window_overlap.specs.Inner.Reached.{reached}
use Rattle.window_overlap.specs.Reaches.{AreShort}
use Rattle.window_overlap.proofs.PartLaws.{windows_kept}
use Rattle.window_overlap.proofs.PieceLaws.{as_long, covers, frame_windows, highs_in_range, low_length, own_window}

pub origin_grid : (shape grid origin : Grid) → IsGrid shape → IsGrid grid → origin.low ≡ shape.low → origin.lengths ≡ grid.lengths → length shape.lengths.items ≡ length grid.lengths.items → IsGrid origin
origin_grid shape grid origin s g e f n = record {
  low = subst (λ a. AreLow a.items) (sym e) s.low;
  lengths = subst (λ a. AreLengths a.items) (sym f) g.lengths;
  each = ap (λ a. length a.items) e ∙ s.each ∙ n ∙ sym (ap (λ a. length a.items) f);
  places = subst (λ a. volume a.items ≤ 2 ^ 48) (sym f) g.places;
}

pub origin_fits : (shape grid origin : Grid) → origin.low ≡ shape.low → origin.lengths ≡ grid.lengths → ((low c : Coordinate) → is_in_grid low shape.lengths.items c ≡ true → is_in_grid low grid.lengths.items c ≡ true)
    → (c : Coordinate) → is_in_grid shape.low.items shape.lengths.items c ≡ true → is_in_grid origin.low.items origin.lengths.items c ≡ true
origin_fits shape grid origin e f fits c h = (λ i. is_in_grid (e i).items (f i).items c) ∙ fits shape.low.items c h

pub is_set : (target : Schema) (margins k : List ℕ) (reach : List Reach) (area box : Bounds) (grid shape origin : Grid) (offsets : List ℕ) → HasFrame target margins k → area ≡ frame target.dimensions margins k → box ≡ reached reach area → AreShort reach → length reach ≡ length target.dimensions
    → IsGrid grid → IsGrid shape → ((c : Coordinate) → is_inside box c ≡ true → is_in_grid grid.low.items grid.lengths.items c ≡ true) → ((c : Coordinate) → is_in_grid grid.low.items grid.lengths.items c ≡ true → AreLow c)
    → shape.low.items ≡ zeros reach → shape.lengths.items ≡ by_pairs span (zeros reach) (widths reach) → origin.low ≡ shape.low → origin.lengths ≡ grid.lengths
    → ((low c : Coordinate) → is_in_grid low shape.lengths.items c ≡ true → is_in_grid low grid.lengths.items c ≡ true) → AreOffsets shape origin offsets → IsSet reach grid shape origin offsets area
is_set target margins k reach area box grid shape origin offsets framed e b short each is_grid is_shape holds lows low lengths ol ons fits are = record {
  grid_is = is_grid;
  window_is = is_shape;
  low = low;
  lengths = lengths;
  origin_low = ap (λ a. a.items) ol ∙ low;
  origin_lengths = ap (λ a. a.items) ons;
  fits = origin_fits shape grid origin ol ons fits;
  offsets_are = are;
  short = short;
  held = held;
  each = long;
  low_places = λ c h. lows c (held c h c (own_window reach c (sym (long c h))));
}
  where
    long : (c : Coordinate) → is_inside area c ≡ true → length c ≡ length reach
    long c h =
        let there = subst (λ (z : Bounds). is_inside z c ≡ true) e h in
        as_long (frame target.dimensions margins k).lo.items (frame target.dimensions margins k).hi.items c there ∙ low_length target.dimensions margins k framed.core framed.each ∙ sym each

    held : (c : Coordinate) → is_inside area c ≡ true → (d : Coordinate) → is_inside (window reach c) d ≡ true → is_in_grid grid.low.items grid.lengths.items d ≡ true
    held c h d f =
        let dims = target.dimensions in
        let near = (valid_placed target framed.valid).near in
        let wide = margins_of dims margins near framed.each framed.places in
        let there = subst (λ (z : Bounds). is_inside z c ≡ true) e h in
        let in_reach = covers (frame dims margins k).lo.items (frame dims margins k).hi.items reach c d (lows_in_range dims margins k near framed.core wide) (highs_in_range dims margins k near framed.core wide) short there f in
        holds d (subst (λ (z : Bounds). is_inside z d ≡ true) (sym (b ∙ ap (reached reach) e)) in_reach)

pub held_by : (schema : Schema) (margins : List ℕ) (k : List ℕ) (grid : Grid) (area : Bounds) → HasFrame schema margins k → grid.low.items ≡ frame_low schema.dimensions margins k → grid.lengths.items ≡ frame_lengths schema.dimensions margins → area ≡ frame schema.dimensions margins k
    → (c : Coordinate) → is_inside area c ≡ true → is_in_grid grid.low.items grid.lengths.items c ≡ true
held_by schema margins k grid area framed low lengths e c h = inside_grid schema margins k grid c framed low lengths (subst (λ (b : Bounds). is_inside b c ≡ true) e h)

pub rows_rise : (schema : Schema) (margins : List ℕ) (chunks some : List Chunk) → some ≡ chunks → HaveCells schema margins chunks → AllByRecursion (λ chunk. IsRising (chunk_rows schema.dimensions margins chunk)) some
rows_rise schema margins chunks some e h = subst (AllByRecursion (λ chunk. IsRising (chunk_rows schema.dimensions margins chunk))) (sym e) (each chunks h.rows_of)
  where
    each : (xs : List Chunk) → AllByRecursion (λ chunk. AreRowsOf schema (chunk_rows schema.dimensions margins chunk)) xs → AllByRecursion (λ chunk. IsRising (chunk_rows schema.dimensions margins chunk)) xs
    each [] a = tt
    each (chunk ∷ xs) a = (a.0.are_rows.rising, each xs a.1)

pub filled_windows : (target : Schema) (margins k : List ℕ) (area : Bounds) (reach : List Reach) (gs : List Aggregate) (all some : List Row) (grid : Grid) (chunk : Chunk) → HasFrame target margins k → area ≡ frame target.dimensions margins k → AreShort reach → length reach ≡ length target.dimensions
    → some ≡ within (reached reach area) all → grid.low.items ≡ frame_low target.dimensions margins k → grid.lengths.items ≡ frame_lengths target.dimensions margins → IsFilled grid.low.items grid.lengths.items (cell_wise (window_within area reach gs some) some) chunk
    → IsFilled (frame_low target.dimensions margins k) (frame_lengths target.dimensions margins) (within area (window_rows reach gs all)) chunk
filled_windows target margins k area reach gs all some grid chunk framed e short each s low lengths is =
    let rows : cell_wise (window_within area reach gs some) some ≡ within area (window_rows reach gs all) =
    frame_windows target margins k area reach gs all some (cell_wise (window_within area reach gs some) some) framed e short each s (windows_kept area reach gs some) in
    subst (λ (rs : List Row). IsFilled (frame_low target.dimensions margins k) (frame_lengths target.dimensions margins) rs chunk) rows
    (subst (λ (ls : List ℤ). IsFilled ls (frame_lengths target.dimensions margins) (cell_wise (window_within area reach gs some) some) chunk) low
    (subst (λ (ns : List ℕ). IsFilled grid.low.items ns (cell_wise (window_within area reach gs some) some) chunk) lengths is))

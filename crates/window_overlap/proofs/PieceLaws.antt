-- Windows chunk by chunk.
use Rattle.std.proofs.Common.{◌≡◌, ℕ, suc, ◌+◌, ◌*◌, ◌-◌, ◌<◌, ◌≤◌, ◌^◌, ℤ, pos, ◌+ℤ◌, ◌-ℤ◌, ◌≤ℤ◌, negsuc, int_le, min, ◌&&◌, Bool, true, false, cond, IsTrue, List, [], ◌∷◌, ◌++◌, length, get_or, map, take, Option, None, refl, sym, ap, ◌∙◌, subst, arith}
use Rattle.std.specs.Prelude.{◌==◌, nat_le}
use Rattle.std.specs.Int.{w64, saturate_signed}
use Rattle.std.specs.List.{AllByRecursion}
use Rattle.std.proofs.lemmas.Bool.{eqb-true}
use Rattle.std.proofs.lemmas.Int.{ints}
use Rattle.std.proofs.lemmas.List.{append-nil, take_all, take_more}
use Rattle.cell_values.specs.declared.datum.Cell.{Cell}
use Rattle.cell_values.specs.declared.datum.Row.{Row}
use Rattle.cell_values.specs.declared.schema.Bounds.{Bounds}
use Rattle.cell_values.specs.declared.schema.Dimension.{Dimension}
use Rattle.cell_values.specs.declared.schema.Schema.{Schema}
use Rattle.array_rows.specs.Boxes.{corners, is_between, is_inside, within}
use Rattle.array_rows.specs.Cellwise.{cell_wise, put_first}
use Rattle.array_rows.specs.Rows.{Coordinate}
use Rattle.array_rows.proofs.RowsLemmas.{within-cell_wise}
use Rattle.arrayvec.specs.ArrayVec.{ArrayVec}
use Rattle.array_geom.specs.declared.chunk.Chunk.{Chunk}
use Rattle.array_geom.specs.declared.chunk.ChunkedArray.{ChunkedArray}
use Rattle.array_geom.specs.Geometry.{ChunkNumber, HasFrame, first_in, frame, frame_low, has_core, last_in}
use Rattle.array_geom.specs.Inner.Ranges.{AreLow, AreMargins, AreNear, IsLow, IsNear}
use Rattle.array_geom.specs.Link.{IsPart, core_rows, numbers}
use Rattle.array_geom.proofs.NearLemmas.{lows_in_range, margins_of, valid_placed}
use Rattle.array_geom.proofs.TestLaws.{and_parts, le_from_test}
use Rattle.array_parts.proofs.PartLemmas.{all_kept}
use Rattle.array_parts.specs.Cores.{HaveCells}
use Rattle.array_parts.specs.Parts.{AreParts}
use Rattle.array_parts.specs.Placed.{HasPlaces}
use Rattle.chunk_cells.specs.Frames.{HasFrames}
use Rattle.area_cells.proofs.ListedLaws.{core_listed}
use Rattle.area_cells.proofs.PieceLaws.{changed_parts, each_number}
use Rattle.logical_plan.specs.declared.parts.Aggregate.{Aggregate}
use Rattle.logical_plan.specs.declared.parts.Reach.{Reach}
use Rattle.logical_plan.specs.Groups.{window, window_cell, window_rows}
use Rattle.logical_plan.specs.Typing.{are_aggregates_of, are_windows_of, reached_size, window_size}
use Rattle.window_overlap.specs.Cores.{window_within}
use Rattle.window_overlap.specs.Inner.Reached.{reached}
use Rattle.window_overlap.specs.Reaches.{AreShort, HaveLowPlaces}
use Rattle.window_overlap.proofs.ChunksWindowLaws.{cell_wise-more}
use Rattle.window_overlap.proofs.PartLaws.{on_side, same_part, same_windows, side, windows_kept}

-- ---- one row after the other

pub no_window : (area : Bounds) (reach : List Reach) (gs : List Aggregate) (rows : List Row) (row : Row) (made : List Row) → is_inside area row.at.items ≡ false → made ≡ made ++ cell_wise (window_within area reach gs rows) (row ∷ [])
no_window area reach gs rows row made outside =
    sym (ap (λ (b : Bool). made ++ put_first row.at.items (cond b (window_cell reach gs rows row.at.items row.cell) None) []) outside ∙ append-nil made)

pub next_pushed : (change : Coordinate → Cell → Option Cell) (rows : List Row) (i : ℕ) (row : Row) (made made' : List Row) → i < length rows → row ≡ get_or rows i row → made ≡ cell_wise change (take i rows) → made' ≡ made ++ cell_wise change (row ∷ [])
    → made' ≡ cell_wise change (take (i + 1) rows)
next_pushed change rows i row made made' l e h n =
    n
    ∙ ap (λ (z : List Row). z ++ cell_wise change (row ∷ [])) h
    ∙ sym (cell_wise-more change (take i rows) row)
    ∙ ap (cell_wise change) (ap (λ (z : Row). take i rows ++ z ∷ []) e ∙ sym (take_more rows i row l))

pub all_pushed : (area : Bounds) (reach : List Reach) (gs : List Aggregate) (rows items : List Row) (i : ℕ) (made : List Row) → items ≡ rows → length items ≤ i → made ≡ cell_wise (window_within area reach gs rows) (take i items) → made ≡ within area (window_rows reach gs rows)
all_pushed area reach gs rows items i made e l h =
    h ∙ ap (cell_wise (window_within area reach gs rows)) (take_all i items l ∙ e) ∙ windows_kept area reach gs rows

-- ---- what windows reach

-- numbers that stay in 64 bits with a window behind them
abbrev pub AreHigh : List ℤ → Type 0
AreHigh = AllByRecursion (λ h. h ≤ℤ pos (2 ^ 62 + 2 ^ 50))

high_number : (d : Dimension) (k m : ℕ) → IsNear d → first_in d k ≤ℤ d.hi → d.chunk + 2 * m ≤ 2 ^ 48 → (last_in d k +ℤ pos m) ≤ℤ pos (2 ^ 62 + 2 ^ 50)
high_number d k m near first small = let high = near.high in omega (arith, ints, high, first, small)

pub highs_in_range : (dims : List Dimension) (margins : List ℕ) (k : ChunkNumber) → AreNear dims → has_core dims k ≡ true → AreMargins dims margins → AreHigh (frame dims margins k).hi.items
highs_in_range [] margins k n e a = tt
highs_in_range (d ∷ dims) margins [] n e a = tt
highs_in_range (d ∷ dims) [] (k ∷ ks) n e a = tt
highs_in_range (d ∷ dims) (m ∷ margins) (k ∷ ks) n e a =
    let t = and_parts (int_le (first_in d k) d.hi) (has_core dims ks) e in
    (high_number d k m n.0 (le_from_test (first_in d k) d.hi t.0) a.0, highs_in_range dims margins ks n.1 t.1 a.1)

in_limits : (z : ℤ) → negsuc (2 ^ 63 - 1) ≤ℤ z → z ≤ℤ pos (2 ^ 63 - 1) → saturate_signed w64 z ≡ z
in_limits (pos n) low high = let few : n ≤ 2 ^ 63 - 1 = omega (arith, ints) in let same : min n (2 ^ 63 - 1) ≡ n = omega arith in ap pos same
in_limits (negsuc n) low high = let few : n ≤ 2 ^ 63 - 1 = omega (arith, ints) in let same : min n (2 ^ 63 - 1) ≡ n = omega arith in ap negsuc same

low_reached : (l x y : ℤ) (before : ℕ) → IsLow l → before ≤ 2 ^ 48 → l ≤ℤ x → (x -ℤ pos before) ≤ℤ y → saturate_signed w64 (l -ℤ pos before) ≤ℤ y
low_reached l x y before low short a b =
    let least = low.0 in
    let most = low.1 in
    let same = in_limits (l -ℤ pos before) (omega (arith, ints, least, short)) (omega (arith, ints, most)) in
    let reach : (l -ℤ pos before) ≤ℤ y = omega (arith, ints, a, b) in
    subst (λ (z : ℤ). z ≤ℤ y) (sym same) reach

high_reached : (h x y : ℤ) (after : ℕ) → h ≤ℤ pos (2 ^ 62 + 2 ^ 50) → after ≤ 2 ^ 48 → x ≤ℤ h → y ≤ℤ (x +ℤ pos after) → (negsuc (2 ^ 63 - 1)) ≤ℤ x → y ≤ℤ saturate_signed w64 (h +ℤ pos after)
high_reached h x y after high short a b c =
    let same = in_limits (h +ℤ pos after) (omega (arith, ints, a, c)) (omega (arith, ints, high, short)) in
    let reach : y ≤ℤ (h +ℤ pos after) = omega (arith, ints, a, b) in
    subst (λ (z : ℤ). y ≤ℤ z) (sym same) reach

-- a window around a coordinate of a box lies in what the windows around its coordinates reach
pub covers : (lo hi : List ℤ) (reach : List Reach) (c y : Coordinate) → AreLow lo → AreHigh hi → AreShort reach → is_between lo hi c ≡ true → is_inside (window reach c) y ≡ true → is_inside (reached reach (corners lo hi)) y ≡ true
covers [] [] reach [] y a b s e f = f
covers [] [] reach (x ∷ c) y a b s e f = absurd cc
covers [] (h ∷ hi) reach c y a b s e f = absurd cc
covers (l ∷ lo) [] reach c y a b s e f = absurd cc
covers (l ∷ lo) (h ∷ hi) reach [] y a b s e f = absurd cc
covers (l ∷ lo) (h ∷ hi) [] (x ∷ c) y a b s e f = f
covers (l ∷ lo) (h ∷ hi) (r ∷ reach) (x ∷ c) [] a b s e f = absurd cc
covers (l ∷ lo) (h ∷ hi) (r ∷ reach) (x ∷ c) (y ∷ ys) a b s e f =
    let t = on_side l h x (is_between lo hi c) e in
    let u = on_side (x -ℤ pos r.before) (x +ℤ pos r.after) y (is_inside (window reach c) ys) f in
    let least = a.0.0 in
    let low = t.low in
    let far : (negsuc (2 ^ 63 - 1)) ≤ℤ x = omega (arith, ints, least, low) in
    side (saturate_signed w64 (l -ℤ pos r.before)) (saturate_signed w64 (h +ℤ pos r.after)) y (is_inside (reached reach (corners lo hi)) ys)
    (low_reached l x y r.before a.0 s.0.0 t.low u.low) (high_reached h x y r.after b.0 s.0.1 t.high u.high far)
    (covers lo hi reach c ys a.1 b.1 s.1 t.others u.others)

-- a coordinate lies in its own window
pub own_window : (reach : List Reach) (c : Coordinate) → length reach ≡ length c → is_inside (window reach c) c ≡ true
own_window [] [] e = refl
own_window [] (x ∷ c) e = absurd (omega (arith, e))
own_window (r ∷ reach) [] e = absurd (omega (arith, e))
own_window (r ∷ reach) (x ∷ c) e = side (x -ℤ pos r.before) (x +ℤ pos r.after) x (is_inside (window reach c) c) (omega (arith, ints)) (omega (arith, ints)) (own_window reach c (omega (arith, e)))

pub as_long : (lo hi : List ℤ) (c : Coordinate) → is_between lo hi c ≡ true → length c ≡ length lo
as_long [] [] [] e = refl
as_long [] [] (x ∷ c) e = absurd cc
as_long [] (h ∷ hi) c e = absurd cc
as_long (l ∷ lo) [] c e = absurd cc
as_long (l ∷ lo) (h ∷ hi) [] e = absurd cc
as_long (l ∷ lo) (h ∷ hi) (x ∷ c) e = let t = and_parts (int_le l x && int_le x h) (is_between lo hi c) e in ap suc (as_long lo hi c t.1)

pub low_length : (dims : List Dimension) (margins : List ℕ) (k : ChunkNumber) → has_core dims k ≡ true → length margins ≡ length dims → length (frame_low dims margins k) ≡ length dims
low_length [] margins [] e n = refl
low_length [] margins (k ∷ ks) e n = absurd cc
low_length (d ∷ dims) margins [] e n = absurd cc
low_length (d ∷ dims) [] (k ∷ ks) e n = absurd (omega (arith, n))
low_length (d ∷ dims) (m ∷ margins) (k ∷ ks) e n = let t = and_parts (int_le (first_in d k) d.hi) (has_core dims ks) e in ap suc (low_length dims margins ks t.1 (omega (arith, n)))

-- as many reaches as there are dimensions
pub each_reach : (schema : Schema) (reach : List Reach) → IsTrue (are_windows_of schema reach) → length reach ≡ length schema.dimensions
each_reach schema reach w =
    let a = and_parts ((length reach == length schema.dimensions) && nat_le (window_size reach) 16777216) (nat_le (reached_size schema.dimensions reach) 281474976710656) w in
    let b = and_parts (length reach == length schema.dimensions) (nat_le (window_size reach) 16777216) a.0 in
    eqb-true (length reach) (length schema.dimensions) b.0

-- ---- the windows in a frame

windows_framed : (schema : Schema) (margins : List ℕ) (k : ChunkNumber) (reach : List Reach) (gs : List Aggregate) (all some made : List Row) → HasFrame schema margins k → AreShort reach → length reach ≡ length schema.dimensions
    → some ≡ within (reached reach (frame schema.dimensions margins k)) all → made ≡ within (frame schema.dimensions margins k) (window_rows reach gs some) → made ≡ within (frame schema.dimensions margins k) (window_rows reach gs all)
windows_framed schema margins k reach gs all some made framed short each e m =
    let dims = schema.dimensions in
    let box = frame dims margins k in
    let near = (valid_placed schema framed.valid).near in
    let wide = margins_of dims margins near framed.each framed.places in
    let low = lows_in_range dims margins k near framed.core wide in
    let high = highs_in_range dims margins k near framed.core wide in
    let window_in = λ (c : Coordinate) (h : is_inside box c ≡ true) (y : Coordinate) (f : is_inside (window reach c) y ≡ true). covers box.lo.items box.hi.items reach c y low high short h f in
    let long = λ (c : Coordinate) (h : is_inside box c ≡ true). each ∙ sym (as_long box.lo.items box.hi.items c h ∙ low_length dims margins k framed.core framed.each) in
    m
    ∙ within-cell_wise box (window_cell reach gs some) some
    ∙ ap (cell_wise (window_cell reach gs some)) (ap (within box) e ∙ same_part box (reached reach box) all (λ c h. window_in c h c (own_window reach c (long c h))))
    ∙ same_windows box reach gs some all all (λ c h. ap (within (window reach c)) e ∙ same_part (window reach c) (reached reach box) all (λ y f. window_in c h y f))
    ∙ sym (within-cell_wise box (window_cell reach gs all) all)

pub frame_windows : (schema : Schema) (margins : List ℕ) (k : ChunkNumber) (area : Bounds) (reach : List Reach) (gs : List Aggregate) (all some made : List Row) → HasFrame schema margins k → area ≡ frame schema.dimensions margins k → AreShort reach
    → length reach ≡ length schema.dimensions → some ≡ within (reached reach area) all → made ≡ within area (window_rows reach gs some) → made ≡ within area (window_rows reach gs all)
frame_windows schema margins k area reach gs all some made framed is short each e m =
    windows_framed schema margins k reach gs all some made framed short each (e ∙ ap (λ (b : Bounds). within (reached reach b) all) is) (m ∙ ap (λ (b : Bounds). within b (window_rows reach gs some)) is)
    ∙ ap (λ (b : Bounds). within b (window_rows reach gs all)) (sym is)

-- the rows that are reached
pub rows_there : (reach : List Reach) (area : Bounds) (dims : List Dimension) (margins : List ℕ) (items chunks : List Chunk) (rows : List Row) (box : Bounds) → items ≡ chunks → box ≡ reached reach area → rows ≡ within box (core_rows dims margins items)
    → rows ≡ within (reached reach area) (core_rows dims margins chunks)
rows_there reach area dims margins items chunks rows box e b r = r ∙ (λ i. within (b i) (core_rows dims margins (e i)))

pub low_within : (area : Bounds) (rows some : List Row) → some ≡ within area rows → HaveLowPlaces rows → HaveLowPlaces some
low_within area rows some e low = subst HaveLowPlaces (sym e) (all_kept (λ row. AreLow row.at.items) (λ row. is_inside area row.at.items) rows low)

-- the parts of all windows, one for each chunk whose core has a cell
pub whole_parts : (source target : Schema) (old margins : List ℕ) (reach : List Reach) (gs : List Aggregate) (chunks parts : List Chunk) → target.dimensions ≡ source.dimensions → HaveCells source old chunks → numbers parts ≡ numbers chunks
    → AllByRecursion (IsPart target.dimensions margins (window_rows reach gs (core_rows source.dimensions old chunks))) parts
    → AreParts target.dimensions margins (window_rows reach gs (core_rows source.dimensions old chunks)) parts
whole_parts source target old margins reach gs chunks parts same cells e each =
    let rows = core_rows source.dimensions old chunks in
    subst (λ (ds : List Dimension). AreParts ds margins (window_rows reach gs rows) parts) (sym same)
    (changed_parts source.dimensions margins (window_cell reach gs rows) rows chunks parts e cells.placed.rising cells.placed.sized
    (λ k l h. core_listed source.dimensions old chunks k (valid_placed source cells.placed.valid).near cells.placed.sized l h)
    (subst (λ (ds : List Dimension). AllByRecursion (IsPart ds margins (window_rows reach gs rows)) parts) same each))

pub same_frame : (source target : Schema) (old margins : List ℕ) (chunk : Chunk) → target.dimensions ≡ source.dimensions → HasFrames target margins → HasPlaces source old chunk → HasFrame target margins chunk.at.items
same_frame source target old margins chunk same frames placed =
    record { valid = frames.valid; core = ap (λ (ds : List Dimension). has_core ds chunk.at.items) same ∙ placed.framed.core; each = frames.each; places = frames.places }

-- each number is that of a chunk whose windows can be made
pub can_have_windows : (array : ChunkedArray) (reach : List Reach) (gs : List Aggregate) (target : Schema) (margins : List ℕ) (ks : List (ArrayVec ℕ)) → ks ≡ map (λ chunk. chunk.at) array.chunks → HasFrames target margins
    → HaveCells array.schema array.margins.items array.chunks → IsTrue (are_windows_of array.schema reach) → IsTrue (are_aggregates_of array.schema.attributes gs) → target.dimensions ≡ array.schema.dimensions
    → AllByRecursion (λ number. HaveCells array.schema array.margins.items array.chunks × IsTrue (are_windows_of array.schema reach) × IsTrue (are_aggregates_of array.schema.attributes gs) × (target.dimensions ≡ array.schema.dimensions) × HasFrame target margins number.items) ks
can_have_windows array reach gs target margins ks e frames cells reached typed same =
    let can : ArrayVec ℕ → Type 0 = λ number. HaveCells array.schema array.margins.items array.chunks × IsTrue (are_windows_of array.schema reach) × IsTrue (are_aggregates_of array.schema.attributes gs) × (target.dimensions ≡ array.schema.dimensions) × HasFrame target margins number.items in
    subst (λ (z : List (ArrayVec ℕ)). AllByRecursion can z) (sym e)
    (each_number can (HasPlaces array.schema array.margins.items) (λ chunk placed. (cells, reached, typed, same, same_frame array.schema target array.margins.items margins chunk same frames placed)) array.chunks cells.placed.all)

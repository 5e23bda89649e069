-- Cells at all places of their blocks.
use Rattle.std.proofs.Common.{IsTrue, nat_le, ◌≡◌, ℕ, zero, suc, ◌+◌, ◌-◌, ◌*◌, ◌≤◌, ◌<◌, ◌^◌, ℤ, pos, negsuc, ◌+ℤ◌, ◌-ℤ◌, ◌≤ℤ◌, true, ◌&&◌, List, [], ◌∷◌, ◌++◌, append-nil, append_assoc, map, length, drop, take, get_or, min, Some, Result, Ok, Err, refl, sym, ap, ◌∙◌, subst, add-one, arith}
use Rattle.std.proofs.lemmas.Int.{ints}
use Rattle.std.proofs.lemmas.List.{length-append, take_all, take_more}
use Rattle.std.specs.Int.{w64, saturate_signed}
use Rattle.std.specs.Int.RustNames.{FitsSigned}
use Rattle.std.specs.List.{AllByRecursion, flat_map}
use Rattle.std.specs.Prelude.{IfOk, int_le, slice_index_or, unsigned_abs}
use Rattle.arrayvec.specs.ArrayVec.{ArrayVec}
use Rattle.cell_values.specs.declared.datum.Cell.{Cell}
use Rattle.cell_values.specs.declared.datum.Cell.TheVariants.{Full}
use Rattle.cell_values.specs.declared.datum.Row.{Row}
use Rattle.cell_values.specs.declared.memory.Memory.{Memory}
use Rattle.cell_values.specs.declared.schema.Dimension.{Dimension}
use Rattle.cell_values.specs.declared.schema.Schema.{Schema}
use Rattle.cell_values.specs.Schemas.{IsValid}
use Rattle.array_rows.specs.Boxes.{bounds_of, by_pairs, is_inside}
use Rattle.array_rows.specs.Rows.{Coordinate, cell_at, in_order, placed}
use Rattle.array_rows.proofs.RowsLemmas.{cell_at-first}
use Rattle.array_geom.specs.Geometry.{chunk_of}
use Rattle.array_geom.specs.Link.{is_listed}
use Rattle.chunk_cells.specs.Inner.Numbers.{numbers_in}
use Rattle.exec_box.proofs.ReachLaws.{all_follow}
use Rattle.order_exec.proofs.AlongLaws.{all_joined}
use Rattle.array_geom.specs.Inner.Ranges.{AreNear}
use Rattle.array_geom.proofs.NearLemmas.{valid_placed}
use Rattle.array_geom.proofs.TestLaws.{and_parts, le_from_test}
use Rattle.logical_plan.specs.Places.{count_from, how_many}
use Rattle.shape_rows.specs.Laws.{AllEnlarge}
use Rattle.shape_rows.specs.Pulls.{IsPulled}
use Rattle.logical_plan.specs.ShapeSchemas.{enlarged, length_of}
use Rattle.logical_plan.specs.Shapes.{block_of, blocks_back, first_place, last_place, places_between, places_of, spread_over, xgrid_rows}
use Rattle.logical_plan.specs.Typing.{can_enlarge, enlarges, product_of}
use Rattle.shape_rows.proofs.TypedLaws.{all_enlarge}
use Rattle.shape_rows.proofs.BlockLaws.{fits_up, xgrid_pulled}
use Rattle.shape_rows.proofs.PullLaws.{place_holds}
use Rattle.shape_exec.specs.declared.blocks.Part.{Part}
use Rattle.shape_exec.specs.Inner.Added.{AddsPlace, AddsPlaces}
use Rattle.shape_exec.specs.Inner.Spread.{AddsRows, block_part, parts_of, spread_all, spread_under}

-- a count at its limit gives the same
pub far : (low : ℤ) (n : ℕ) → FitsSigned w64 low → saturate_signed w64 (low +ℤ pos (min n (2 ^ 64 - 1))) ≡ saturate_signed w64 (low +ℤ pos n)
far low n fits = grind (arith, ints)

pub farther : (low : ℤ) (n m : ℕ) → FitsSigned w64 low → saturate_signed w64 (low +ℤ pos (min (min n (2 ^ 64 - 1) + m) (2 ^ 64 - 1))) ≡ saturate_signed w64 (low +ℤ pos (n + m))
farther low n m fits = grind (arith, ints)

-- ---- lists of places

pub room_along : {A : Type 0} (at next : Coordinate) (x : ℤ) (lo : List A) → next ≡ at ++ x ∷ [] → length at + length lo < 6 → length next + length lo ≤ 6
room_along at next x lo is room = omega (arith, room, ap length is ∙ length-append at (x ∷ []))

flat_append : {A B : Type 0} (f : A → List B) (xs ys : List A) → flat_map f (xs ++ ys) ≡ flat_map f xs ++ flat_map f ys
flat_append f [] ys = refl
flat_append f (x ∷ xs) ys = ap (λ zs. f x ++ zs) (flat_append f xs ys) ∙ sym (append_assoc (f x) (flat_map f xs) (flat_map f ys))

count_more : (lo : ℤ) (n : ℕ) → count_from lo (suc n) ≡ count_from lo n ++ (lo +ℤ pos n) ∷ []
count_more lo zero = ap (λ (x : ℤ). x ∷ []) (same lo)
  where
    same : (lo : ℤ) → lo ≡ lo +ℤ pos 0
    same lo = omega (arith, ints)
count_more lo (suc n) = ap (λ (xs : List ℤ). lo ∷ xs) (count_more (lo +ℤ pos 1) n ∙ ap (λ (x : ℤ). count_from (lo +ℤ pos 1) n ++ x ∷ []) (next lo n))
  where
    next : (lo : ℤ) (n : ℕ) → ((lo +ℤ pos 1) +ℤ pos n) ≡ (lo +ℤ pos (suc n))
    next lo n = omega (arith, ints)

pub grown : (f : ℤ → List Row) (lo : ℤ) (old : List Row) (n : ℕ) (rows now : List Row) → rows ≡ old ++ flat_map f (count_from lo n) → now ≡ rows ++ f (lo +ℤ pos n) → now ≡ old ++ flat_map f (count_from lo (n + 1))
grown f lo old n rows now p q =
    q ∙ ap (λ (l : List Row). l ++ f (lo +ℤ pos n)) p ∙ append_assoc old (flat_map f (count_from lo n)) (f (lo +ℤ pos n))
    ∙ ap (λ (l : List Row). old ++ l)
    (ap (λ (l : List Row). flat_map f (count_from lo n) ++ l) (sym (append-nil (f (lo +ℤ pos n)))) ∙ sym (flat_append f (count_from lo n) ((lo +ℤ pos n) ∷ [])) ∙ ap (flat_map f) (sym (count_more lo n)) ∙ ap (λ (k : ℕ). flat_map f (count_from lo k)) (sym (add-one n)))

map_append : {A B : Type 0} (f : A → B) (xs ys : List A) → map f (xs ++ ys) ≡ map f xs ++ map f ys
map_append f [] ys = refl
map_append f (x ∷ xs) ys = ap (λ zs. f x ∷ zs) (map_append f xs ys)

firsts : List Part → List ℤ
firsts [] = []
firsts (p ∷ parts) = p.first ∷ firsts parts

lasts : List Part → List ℤ
lasts [] = []
lasts (p ∷ parts) = p.last ∷ lasts parts

-- a cell over parts, at a coordinate and what follows
spread_is : (cell : Cell) (at : Coordinate) (parts : List Part) → spread_under cell at parts ≡ map (λ (c : Coordinate). placed (at ++ c) cell) (places_between (firsts parts) (lasts parts))
unfolding firsts lasts
spread_is cell at [] = ap (λ (c : Coordinate). placed c cell ∷ []) (sym (append-nil at))
spread_is cell at (p ∷ parts) = each (count_from p.first (how_many p.first p.last)) (λ x. spread_is cell (at ++ x ∷ []) parts)
  where
    rest : List Coordinate
    rest = places_between (firsts parts) (lasts parts)

    behind : (x : ℤ) (cs : List Coordinate) → map (λ (c : Coordinate). placed ((at ++ x ∷ []) ++ c) cell) cs ≡ map (λ (c : Coordinate). placed (at ++ c) cell) (map (λ c. x ∷ c) cs)
    behind x [] = refl
    behind x (c ∷ cs) = λ i. placed (append_assoc at (x ∷ []) c i) cell ∷ behind x cs i

    each : (xs : List ℤ) → ((x : ℤ) → spread_under cell (at ++ x ∷ []) parts ≡ map (λ (c : Coordinate). placed ((at ++ x ∷ []) ++ c) cell) rest)
        → flat_map (λ x. spread_under cell (at ++ x ∷ []) parts) xs ≡ map (λ (c : Coordinate). placed (at ++ c) cell) (flat_map (λ x. map (λ c. x ∷ c) rest) xs)
    each [] ih = refl
    each (x ∷ xs) ih =
        (λ i. (ih x ∙ behind x rest) i ++ each xs ih i) ∙ sym (map_append (λ (c : Coordinate). placed (at ++ c) cell) (map (λ c. x ∷ c) rest) (flat_map (λ z. map (λ c. z ∷ c) rest) xs))

-- ---- blocks within bounds

exact : (z : ℤ) → negsuc (2 ^ 62) ≤ℤ z → z ≤ℤ pos (2 ^ 62) → saturate_signed w64 z ≡ z
exact (pos n) low high = let few : n ≤ 2 ^ 63 - 1 = omega (arith, ints) in let same : min n (2 ^ 63 - 1) ≡ n = omega arith in ap pos same
exact (negsuc n) low high = let few : n ≤ 2 ^ 63 - 1 = omega (arith, ints) in let same : min n (2 ^ 63 - 1) ≡ n = omega arith in ap negsuc same

above_low : (lo : ℤ) (k : ℕ) → negsuc (2 ^ 62 - 2) ≤ℤ lo → negsuc (2 ^ 62) ≤ℤ (lo +ℤ pos k)
above_low lo k a = omega (arith, ints)

below_high : (lo : ℤ) (k m : ℕ) (e h : ℤ) → k ≤ m → (lo +ℤ pos m) ≤ℤ e → h ≡ e → h ≤ℤ pos (2 ^ 62 - 1) → (lo +ℤ pos k) ≤ℤ pos (2 ^ 62)
below_high lo k m e h a b c d = omega (arith, ints)

record Exactly (dims : List Dimension) (sizes : List ℕ) (c : Coordinate) : Type 0 where
  low : firsts (parts_of dims sizes c) ≡ (block_of dims sizes c).lo.items
  high : lasts (parts_of dims sizes c) ≡ (block_of dims sizes c).hi.items

parts_exact : (dims : List Dimension) (sizes : List ℕ) (c : Coordinate) → AreNear dims → AllEnlarge dims sizes → AreNear (by_pairs enlarged dims sizes) → is_inside (bounds_of dims) c ≡ true → Exactly dims sizes c
unfolding firsts lasts
parts_exact [] sizes c near en far_near e = record { low = refl; high = refl }
parts_exact (d ∷ dims) [] c near en far_near e = absurd en
parts_exact (d ∷ dims) (size ∷ sizes) [] near en far_near e = absurd cc
parts_exact (d ∷ dims) (size ∷ sizes) (x ∷ c) near en far_near e =
    let p = and_parts (int_le d.lo x && int_le x d.hi) (is_inside (bounds_of dims) c) e in
    let q = and_parts (int_le d.lo x) (int_le x d.hi) p.0 in
    let up = fits_up d.lo d.hi x size en.0.0 (le_from_test d.lo x q.0) (le_from_test x d.hi q.1) in
    let n : ℕ = unsigned_abs (x -ℤ d.lo) * size in
    let last : ℕ = n + (size - 1) in
    let less : n ≤ last = omega arith in
    let same : last ≤ last = omega arith in
    let first_one = exact (first_place d size x) (above_low d.lo n near.0.low) (below_high d.lo n last ((d.lo +ℤ pos (length_of d * size)) -ℤ pos 1) (enlarged d size).hi less up en.0.2 far_near.0.high) in
    let last_one = exact (last_place d size x) (above_low d.lo last near.0.low) (below_high d.lo last last ((d.lo +ℤ pos (length_of d * size)) -ℤ pos 1) (enlarged d size).hi same up en.0.2 far_near.0.high) in
    let rest = parts_exact dims sizes c near.1 en.1 far_near.1 p.1 in
    record { low = λ i. first_one i ∷ rest.low i; high = λ i. last_one i ∷ rest.high i }

block_spread : (dims : List Dimension) (sizes : List ℕ) (row : Row) → AreNear dims → AllEnlarge dims sizes → AreNear (by_pairs enlarged dims sizes) → is_inside (bounds_of dims) row.at.items ≡ true
    → spread_under row.cell [] (parts_of dims sizes row.at.items) ≡ spread_over row.cell (places_of (block_of dims sizes row.at.items))
block_spread dims sizes row near en far_near e =
    let same = parts_exact dims sizes row.at.items near en far_near e in
    spread_is row.cell [] (parts_of dims sizes row.at.items) ∙ (λ i. map (λ (c : Coordinate). placed c row.cell) (places_between (same.low i) (same.high i)))

pub all_spread : (dims : List Dimension) (sizes : List ℕ) (rows : List Row) → AreNear dims → AllEnlarge dims sizes → AreNear (by_pairs enlarged dims sizes) → AllByRecursion (λ row. is_inside (bounds_of dims) row.at.items ≡ true) rows
    → in_order (spread_all dims sizes rows) ≡ xgrid_rows dims sizes rows
all_spread dims sizes rows near en far_near a = ap in_order (each rows a)
  where
    each : (some : List Row) → AllByRecursion (λ row. is_inside (bounds_of dims) row.at.items ≡ true) some → spread_all dims sizes some ≡ flat_map (λ row. spread_over row.cell (places_of (block_of dims sizes row.at.items))) some
    each [] b = refl
    each (row ∷ some) b = λ i. block_spread dims sizes row near en far_near b.0 i ++ each some b.1 i

take_next : (rows : List Row) (k : ℕ) (row : Row) → k < length rows → row ≡ slice_index_or rows k row → take (suc k) rows ≡ take k rows ++ row ∷ []
take_next [] k row l e = absurd (omega (arith, l))
take_next (x ∷ rows) zero row l e = ap (λ (z : Row). z ∷ []) (sym e)
take_next (x ∷ rows) (suc k) row l e = ap (λ (zs : List Row). x ∷ zs) (take_next rows k row (omega (arith, l)) e)

pub one_spread : (dims : List Dimension) (sizes : List ℕ) (rows : List Row) (k : ℕ) (row : Row) (made new : List Row) → k < length rows → row ≡ slice_index_or rows k row → made ≡ spread_all dims sizes (take k rows)
    → new ≡ made ++ spread_under row.cell [] (parts_of dims sizes row.at.items) → new ≡ spread_all dims sizes (take (k + 1) rows)
one_spread dims sizes rows k row made new l is e f =
    let one = λ (r : Row). spread_under r.cell [] (parts_of dims sizes r.at.items) in
    f ∙ ap (λ (rs : List Row). rs ++ spread_under row.cell [] (parts_of dims sizes row.at.items)) e
    ∙ ap (λ (rs : List Row). spread_all dims sizes (take k rows) ++ rs) (sym (append-nil (spread_under row.cell [] (parts_of dims sizes row.at.items))))
    ∙ sym (flat_append one (take k rows) (row ∷ []))
    ∙ ap (spread_all dims sizes) (sym (take_next rows k row l is))
    ∙ ap (λ (n : ℕ). spread_all dims sizes (take n rows)) (sym (add-one k))

-- ---- the rows of blocks

pub spread_pulled : (source schema : Schema) (sizes : List ℕ) (dims : List Dimension) (rows spread : List Row) (r : Result (List Row) Memory) → IsValid source → IsValid schema → AllEnlarge source.dimensions sizes
    → schema.dimensions ≡ by_pairs enlarged source.dimensions sizes → dims ≡ source.dimensions → AllByRecursion (λ row. is_inside (bounds_of source.dimensions) row.at.items ≡ true) rows → spread ≡ spread_all dims sizes rows
    → IfOk r (λ made. made ≡ in_order spread) → IfOk r (IsPulled (bounds_of schema.dimensions) (blocks_back source.dimensions sizes) rows)
spread_pulled source schema sizes dims rows spread (Ok made) valid new en e f a g h =
    let near = (valid_placed source valid).near in
    let new_near = subst AreNear e (valid_placed schema new).near in
    let same : made ≡ xgrid_rows source.dimensions sizes rows = h ∙ ap in_order (g ∙ ap (λ (ds : List Dimension). spread_all ds sizes rows) f) ∙ all_spread source.dimensions sizes rows near en new_near a in
    subst (λ (ds : List Dimension). IsPulled (bounds_of ds) (blocks_back source.dimensions sizes) rows made) (sym e)
    (subst (IsPulled (bounds_of (by_pairs enlarged source.dimensions sizes)) (blocks_back source.dimensions sizes) rows) (sym same) (xgrid_pulled source.dimensions sizes rows en a))
spread_pulled source schema sizes dims rows spread (Err memory) valid new en e f a g h = tt

-- ---- the chunks of the block of a place

pub rows_more : (dims : List Dimension) (rows : List Row) (i : ℕ) (row : Row) (old found new : List (ArrayVec ℕ)) → i < length rows → row ≡ get_or rows i row → AddsRows dims (take i rows) old found → AddsPlace dims row.at.items found new
    → AddsRows dims (take (i + 1) rows) old new
rows_more dims rows i row old found new l e so_far adds =
    let listed : Row → Type 0 = λ r. is_listed (chunk_of dims r.at.items) (numbers_in new) ≡ true in
    record {
      kept = λ k f. adds.kept k (so_far.kept k f);
      cores = λ f. adds.cores (so_far.cores f);
      reached = subst (AllByRecursion listed) (sym (take_more rows i row l ∙ ap (λ (r : Row). take i rows ++ r ∷ []) (sym e)))
          (all_joined listed (take i rows) (row ∷ []) (all_follow (λ r. is_listed (chunk_of dims r.at.items) (numbers_in found) ≡ true) listed (λ r h. adds.kept (chunk_of dims r.at.items) h) (take i rows) so_far.reached) (adds.listed, tt));
    }

pub one_place : (target : List Dimension) (back : Coordinate → Coordinate) (at : Coordinate) (one made : List Row) → one ≡ placed at (Full []) ∷ [] → IsPulled (bounds_of target) back one made
    → (y : Coordinate) → is_inside (bounds_of target) y ≡ true → back y ≡ at → cell_at made y ≡ Some (Full [])
one_place target back at one made e is y inside b = is.cells y inside ∙ (λ i. cell_at (e i) (b i)) ∙ cell_at-first (placed at (Full [])) []

pub place_added : (target : List Dimension) (back : Coordinate → Coordinate) (at : Coordinate) (rows : List Row) (old new : List (ArrayVec ℕ))
    → ((y : Coordinate) → is_inside (bounds_of target) y ≡ true → back y ≡ at → cell_at rows y ≡ Some (Full [])) → AddsRows target rows old new → AddsPlaces target back at old new
place_added target back at rows old new h adds = record {
  kept = adds.kept;
  reached = λ y inside b. place_holds (λ c. is_listed (chunk_of target c) (numbers_in new) ≡ true) rows y (Full []) adds.reached (h y inside b);
  cores = adds.cores;
}

-- ---- parts that are pushed

abbrev rest_of : {A : Type 0} → List A → List A
rest_of xs = take (length xs - 1) (drop 1 xs)

rest_is : {A : Type 0} (x : A) (xs : List A) → rest_of (x ∷ xs) ≡ xs
rest_is x xs = take_all (length (x ∷ xs) - 1) xs (omega arith)

pub parts_pushed : (dims : List Dimension) (sizes : List ℕ) (at : List ℤ) (d : Dimension) (old more new : List Part) (z : Part) → 1 ≤ length dims → 1 ≤ length sizes → 1 ≤ length at → d ≡ slice_index_or dims 0 d
    → more ≡ old ++ z ∷ [] → new ≡ more ++ parts_of (take (length dims - 1) (drop 1 dims)) (take (length sizes - 1) (drop 1 sizes)) (take (length at - 1) (drop 1 at))
    → z ≡ block_part d (slice_index_or sizes 0 0) (slice_index_or at 0 (pos 0)) → new ≡ old ++ parts_of dims sizes at
parts_pushed [] sizes at d old more new z a b c e f g h = absurd (omega (arith, a))
parts_pushed (x ∷ dims) [] at d old more new z a b c e f g h = absurd (omega (arith, b))
parts_pushed (x ∷ dims) (size ∷ sizes) [] d old more new z a b c e f g h = absurd (omega (arith, c))
parts_pushed (x ∷ dims) (size ∷ sizes) (n ∷ at) d old more new z a b c e f g h =
    g ∙ (λ i. f i ++ parts_of (rest_is x dims i) (rest_is size sizes i) (rest_is n at i)) ∙ append_assoc old (z ∷ []) (parts_of dims sizes at)
    ∙ ap (λ (p : Part). old ++ p ∷ parts_of dims sizes at) (h ∙ ap (λ (y : Dimension). block_part y size n) e)

-- ---- what the rule of typing says of the sizes

pub enlarging : (schema : Schema) (sizes : List ℕ) → IsValid schema → IsTrue (enlarges schema sizes) → AllEnlarge schema.dimensions sizes
enlarging schema sizes valid t =
    all_enlarge schema.dimensions sizes (valid_placed schema valid).near (and_parts (can_enlarge schema.dimensions sizes) (nat_le (product_of sizes) 65536) t).0

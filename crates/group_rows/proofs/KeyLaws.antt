-- The groups of rows, row by row.
use Rattle.std.proofs.Common.{◌≡◌, ℕ, ℤ, zero, suc, pos, negsuc, ◌+◌, ◌-◌, ◌/◌, ◌^◌, ◌<◌, ◌≤◌, ◌≤ℤ◌, ◌+ℤ◌, ◌-ℤ◌, unsigned_abs, min, List, [], ◌∷◌, ◌++◌, map, length, get_or, take, drop, append_assoc, length-append, true, ◌&&◌, refl, sym, ap, ◌∙◌, subst, arith}
use Rattle.std.proofs.lemmas.List.{append-nil, take_all, take_more, take_rest, map-append, length-map, length-take-le}
use Rattle.std.specs.Prelude.{slice_index_or, int_le, IsTrue}
use Rattle.std.specs.List.{All}
use Rattle.std.proofs.lemmas.Int.{ints}
use Rattle.std.specs.Int.{w64, saturate_signed}
use Rattle.arrayvec.specs.ArrayVec.{ArrayVec}
use Rattle.cell_values.specs.declared.datum.Row.{Row}
use Rattle.cell_values.specs.declared.schema.Dimension.{Dimension}
use Rattle.array_rows.specs.Boxes.{bounds_of, is_between, is_inside}
use Rattle.array_rows.specs.Rows.{Coordinate}
use Rattle.array_geom.specs.Inner.Ranges.{IsNear, AreNear}
use Rattle.array_geom.proofs.TestLaws.{and_parts, le_from_test}
use Rattle.logical_plan.specs.BoxOps.{numbers_at}
use Rattle.logical_plan.specs.Groups.{block}
use Rattle.group_rows.specs.Inner.Keys.{aggregate_sets, block_at}
use Rattle.std.specs.Option.{SomeIff}
use Rattle.std.proofs.Common.{Option, Result, unwrap_or}
use Rattle.std.specs.Prelude.{IfOk}
use Rattle.cell_values.specs.declared.memory.Memory.{Memory}
use Rattle.logical_plan.specs.declared.parts.Aggregate.{Aggregate}
use Rattle.group_rows.specs.declared.rows.groups.Groups.{Groups}
use Rattle.group_rows.specs.Grouped.{AreGroupsOf}
use Rattle.group_rows.specs.Sets.{AreKeys, one_set, sets_by}

in_limits : (z : ℤ) → negsuc (2 ^ 63 - 1) ≤ℤ z → z ≤ℤ pos (2 ^ 63 - 1) → saturate_signed w64 z ≡ z
in_limits (pos n) low high = let few : n ≤ 2 ^ 63 - 1 = omega (arith, ints) in let same : min n (2 ^ 63 - 1) ≡ n = omega arith in ap pos same
in_limits (negsuc n) low high = let few : n ≤ 2 ^ 63 - 1 = omega (arith, ints) in let same : min n (2 ^ 63 - 1) ≡ n = omega arith in ap negsuc same

no_more : (n size : ℕ) → n / size ≤ n
no_more n zero = grind arith
no_more n (suc size) = grind arith

quotient : (o : Option ℕ) (a size : ℕ) → SomeIff o (0 < size) (a / size) → unwrap_or o 0 ≡ a / size
quotient o a size found = grind arith

-- a block by the calls that compute it
pub clamped : (low number : ℤ) (size a u : ℕ) (o : Option ℕ) (r : ℤ) → a ≡ unsigned_abs (number -ℤ low) → SomeIff o (0 < size) (a / size)
    → u ≡ unwrap_or o 0 → r ≡ saturate_signed w64 (low +ℤ pos u) → r ≡ saturate_signed w64 (block low size number)
clamped low number size a u o r is found taken made =
    made ∙ ap (λ (n : ℕ). saturate_signed w64 (low +ℤ pos n)) (taken ∙ quotient o a size found ∙ ap (λ (z : ℕ). z / size) is)

-- the block of a number of a dimension has 64 bits
pub exact_block : (d : Dimension) (size : ℕ) (x : ℤ) → IsNear d → d.lo ≤ℤ x → x ≤ℤ d.hi → saturate_signed w64 (block d.lo size x) ≡ block d.lo size x
exact_block d size x near l h =
    let low : negsuc (2 ^ 62 - 2) ≤ℤ d.lo = near.low in
    let high : d.hi ≤ℤ pos (2 ^ 62 - 1) = near.high in
    let less = no_more (unsigned_abs (x -ℤ d.lo)) size in
    let whole : d.lo +ℤ pos (unsigned_abs (x -ℤ d.lo)) ≡ x = omega (arith, ints, l) in
    in_limits (block d.lo size x) (omega (arith, ints, low)) (omega (arith, ints, less, whole, h, high))

pub next_key : (group : Coordinate → Coordinate) (rows : List Row) (i : ℕ) (row : Row) (keys new : List (ArrayVec ℤ)) (key : ArrayVec ℤ) → i < length rows → row ≡ get_or rows i row
    → AreKeys group keys (take i rows) → key.items ≡ group row.at.items → new ≡ keys ++ key ∷ [] → AreKeys group new (take (i + 1) rows)
next_key group rows i row keys new key l e k own n =
    ap (map (λ (z : ArrayVec ℤ). z.items)) n
    ∙ map-append (λ (z : ArrayVec ℤ). z.items) keys (key ∷ [])
    ∙ (λ j. k j ++ own j ∷ [])
    ∙ sym (map-append (λ (z : Row). group z.at.items) (take i rows) (row ∷ []))
    ∙ ap (λ (z : Row). map (λ (r : Row). group r.at.items) (take i rows ++ z ∷ [])) e
    ∙ ap (map (λ (z : Row). group z.at.items)) (sym (take_more rows i row l))

-- the numbers of a key so far leave room for the next
pub room_for : {A B : Type 0} (f : A → B) (xs : List A) (i : ℕ) (out : List B) → out ≡ map f (take i xs) → i < length xs → length xs ≤ 6 → length out < 6
room_for f xs i out is less few = omega (arith, less, few, ap length is ∙ length-map (take i xs) f ∙ length-take-le i xs (omega (arith, less)))

pub all_keys : (group : Coordinate → Coordinate) (items rows : List Row) (keys : List (ArrayVec ℤ)) (i : ℕ) → items ≡ rows → length items ≤ i
    → AreKeys group keys (take i items) → AreKeys group keys rows
all_keys group items rows keys i is over are = subst (AreKeys group keys) (take_all i items over ∙ is) are

-- a key for each row
pub each_key : (group : Coordinate → Coordinate) (keys : List (ArrayVec ℤ)) (rows : List Row) → AreKeys group keys rows → length keys ≡ length rows
each_key group keys rows k = sym (length-map keys (λ (z : ArrayVec ℤ). z.items)) ∙ ap length k ∙ length-map rows (λ (z : Row). group z.at.items)

-- the groups of rows by their keys
pub keyed : (gs : List Aggregate) (group : Coordinate → Coordinate) (keys keys' : List (ArrayVec ℤ)) (rows rows' : List Row) (r : Result Groups Memory) → keys' ≡ keys → rows' ≡ rows → AreKeys group keys rows
    → ((g : Coordinate → Coordinate) → AreKeys g keys' rows' → IfOk r (λ part. AreGroupsOf gs (sets_by g rows') part.groups)) → IfOk r (λ part. AreGroupsOf gs (sets_by group rows) part.groups)
keyed gs group keys keys' rows rows' r e f k h =
    subst (λ (rs : List Row). IfOk r (λ part. AreGroupsOf gs (sets_by group rs) part.groups)) f
    (h group (subst (λ (ks : List (ArrayVec ℤ)). AreKeys group ks rows') (sym e) (subst (AreKeys group keys) (sym f) k)))

-- the sets of cells by names, of which there are some
pub named_sets : (dims : List ℕ) (rows : List Row) → 1 ≤ length dims → sets_by (numbers_at dims) rows ≡ aggregate_sets dims rows
named_sets [] rows some = absurd (omega (arith, some))
named_sets (d ∷ dims) rows some = refl

-- all cells in one group at 0 where there are no names
pub one_named : (gs : List Aggregate) (dims : List ℕ) (at : ArrayVec ℤ) (rows rows' : List Row) (r : Result Groups Memory) → length dims < 1 → at.items ≡ pos 0 ∷ [] → rows ≡ rows'
    → IfOk r (λ part. AreGroupsOf gs (one_set at.items rows) part.groups) → IfOk r (λ part. AreGroupsOf gs (aggregate_sets dims rows') part.groups)
one_named gs [] at rows rows' r none origin same h =
    subst (λ (rs : List Row). IfOk r (λ part. AreGroupsOf gs (one_set (pos 0 ∷ []) rs) part.groups)) same
    (subst (λ (c : Coordinate). IfOk r (λ part. AreGroupsOf gs (one_set c rows) part.groups)) origin h)
one_named gs (d ∷ dims) at rows rows' r none origin same h = absurd (omega (arith, none))

-- what holds of each row holds of one
pub all_items : {A : Type 0} (P : A → Type 0) (rows items : List A) (i : ℕ) (row : A) → items ≡ rows → i < length items → row ≡ get_or items i row → All P rows → P row
all_items P rows items i row same less is all =
    subst P (sym is) (subst (λ (xs : List _). P (get_or xs i row)) (sym same) (all i row (subst (λ (xs : List _). i < length xs) same less)))

-- each row has a block
pub keyed_blocks : (dims dims' : List Dimension) (rows : List Row) → dims ≡ dims' → length dims ≤ 6 → AreNear dims → All (λ row. IsTrue (is_inside (bounds_of dims') row.at.items)) rows
    → All (λ row. (length dims ≤ 6) × AreNear dims × IsTrue (is_inside (bounds_of dims) row.at.items)) rows
keyed_blocks dims dims' rows same few near inside k row less =
    (few, near, subst (λ (ds : List Dimension). IsTrue (is_inside (bounds_of ds) (slice_index_or rows k row).at.items)) (sym same) (inside k row less))

-- the first block, and those behind it
pub next_block : (dims : List Dimension) (sizes : List ℕ) (c out out' new : List ℤ) (d : Dimension) (b : ℤ) → 1 ≤ length dims → 1 ≤ length sizes → 1 ≤ length c → d ≡ slice_index_or dims 0 d
    → b ≡ block d.lo (slice_index_or sizes 0 0) (slice_index_or c 0 (pos 0)) → out' ≡ out ++ b ∷ []
    → new ≡ out' ++ block_at (take (length dims - 1) (drop 1 dims)) (take (length sizes - 1) (drop 1 sizes)) (take (length c - 1) (drop 1 c)) → new ≡ out ++ block_at dims sizes c
next_block [] sizes c out out' new d b k l m e f g h = absurd (omega (arith, k))
next_block (first ∷ dims) [] c out out' new d b k l m e f g h = absurd (omega (arith, l))
next_block (first ∷ dims) (size ∷ sizes) [] out out' new d b k l m e f g h = absurd (omega (arith, m))
next_block (first ∷ dims) (size ∷ sizes) (x ∷ c) out out' new d b k l m e f g h =
    h
    ∙ (λ i. g i ++ block_at (take_rest (first ∷ dims) 1 i) (take_rest (size ∷ sizes) 1 i) (take_rest (x ∷ c) 1 i))
    ∙ append_assoc out (b ∷ []) (block_at dims sizes c)
    ∙ ap (λ (z : ℤ). out ++ z ∷ block_at dims sizes c) (f ∙ ap (λ (z : Dimension). block z.lo size x) e)

pub no_blocks : (dims : List Dimension) (sizes : List ℕ) (c out : List ℤ) → length dims < 1 → out ≡ out ++ block_at dims sizes c
no_blocks [] sizes c out none = sym (append-nil out)
no_blocks (d ∷ dims) sizes c out none = absurd (omega (arith, none))

-- what is known of a dimension and a number from the front, and behind them
pub record IsFront (d : Dimension) (dims : List Dimension) (c : List ℤ) : Type 0 where
  pub near : IsNear d
  pub low : d.lo ≤ℤ get_or c 0 (pos 0)
  pub high : get_or c 0 (pos 0) ≤ℤ d.hi
  pub others : AreNear (take (length dims - 1) (drop 1 dims))
  pub inside : is_between (map (λ (e : Dimension). e.lo) (take (length dims - 1) (drop 1 dims)))
      (map (λ (e : Dimension). e.hi) (take (length dims - 1) (drop 1 dims))) (take (length c - 1) (drop 1 c)) ≡ true

pub front : (d : Dimension) (dims : List Dimension) (c : List ℤ) → 1 ≤ length dims → 1 ≤ length c → d ≡ slice_index_or dims 0 d → AreNear dims
    → is_between (map (λ (e : Dimension). e.lo) dims) (map (λ (e : Dimension). e.hi) dims) c ≡ true → IsFront d dims c
front d [] c some _ _ _ _ = absurd (omega (arith, some))
front d (first ∷ dims) [] _ some _ _ _ = absurd (omega (arith, some))
front d (first ∷ dims) (x ∷ c) _ _ is near inside =
    let Inside = λ (ds : List Dimension) (at : List ℤ). is_between (map (λ (e : Dimension). e.lo) ds) (map (λ (e : Dimension). e.hi) ds) at in
    let both = and_parts (int_le first.lo x && int_le x first.hi) (Inside dims c) inside in
    let ends = and_parts (int_le first.lo x) (int_le x first.hi) both.0 in
    record {
      near = subst IsNear (sym is) near.0;
      low = subst (λ (e : Dimension). e.lo ≤ℤ x) (sym is) (le_from_test first.lo x ends.0);
      high = subst (λ (e : Dimension). x ≤ℤ e.hi) (sym is) (le_from_test x first.hi ends.1);
      others = subst AreNear (sym (take_rest (first ∷ dims) 1)) near.1;
      inside = ap (λ (ds : List Dimension). Inside ds (take (length (x ∷ c) - 1) c)) (take_rest (first ∷ dims) 1)
          ∙ ap (Inside dims) (take_rest (x ∷ c) 1) ∙ both.1;
    }

pub fewer : {A : Type 0} (xs : List A) → 1 ≤ length xs → length (take (length xs - 1) (drop 1 xs)) < length xs
fewer [] some = absurd (omega (arith, some))
fewer (x ∷ xs) some = let same : length (take (length (x ∷ xs) - 1) xs) ≡ length xs = ap length (take_rest (x ∷ xs) 1) in omega arith

-- of six places, one is taken for the first block
pub room_left : {A : Type 0} (out new : List ℤ) (b : ℤ) (xs : List A) → 1 ≤ length xs → new ≡ out ++ b ∷ [] → length out + length xs ≤ 6
    → length new + length (take (length xs - 1) (drop 1 xs)) ≤ 6
room_left out new b [] some is room = absurd (omega (arith, some))
room_left out new b (x ∷ xs) some is room =
    let more : length new ≡ length out + 1 = ap length is ∙ length-append out (b ∷ []) in
    let same : length (take (length (x ∷ xs) - 1) xs) ≡ length xs = ap length (take_rest (x ∷ xs) 1) in omega arith

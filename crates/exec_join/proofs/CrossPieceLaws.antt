-- Cross joins chunk by chunk.
use Rattle.std.proofs.Common.{◌≡◌, ℕ, zero, suc, ◌+◌, ◌/◌, ◌<◌, ◌≤◌, ℤ, pos, ◌-ℤ◌, ◌≤ℤ◌, Bool, true, false, cond, ◌&&◌, ◌||◌, ◌⊎◌, inl, inr, List, [], ◌∷◌, ◌++◌, map, length, take, drop, Option, Some, None, refl, sym, ap, ◌∙◌, subst, arith, add-one, length-append, length-drop, length-take}
use Rattle.std.proofs.lemmas.Bool.{eqb-true}
use Rattle.std.proofs.lemmas.Cmp.{tied_itself}
use Rattle.std.proofs.lemmas.Int.{ints}
use Rattle.std.proofs.lemmas.List.{append-nil, length-map, take_all}
use Rattle.std.specs.Cmp.{signed_Decides}
use Rattle.std.specs.List.{AllByRecursion, AllZip}
use Rattle.std.specs.Ordering.{int_eq, is_eq}
use Rattle.std.specs.Prelude.{◌==◌, int_le, slice_index_or, unsigned_abs, Result, Ok, Err, IfOk}
use Rattle.arrayvec.specs.ArrayVec.{ArrayVec}
use Rattle.cell_values.specs.declared.datum.Row.{Row}
use Rattle.cell_values.specs.declared.memory.Memory.{Memory}
use Rattle.cell_values.specs.declared.schema.Attribute.{Attribute}
use Rattle.cell_values.specs.declared.schema.Bounds.{Bounds}
use Rattle.cell_values.specs.declared.schema.Dimension.{Dimension}
use Rattle.cell_values.specs.declared.schema.Schema.{Schema}
use Rattle.cell_values.specs.Schemas.{IsValid, attribute_names, dimension_names}
use Rattle.cell_values.specs.Cells.{IsCellOf}
use Rattle.array_rows.specs.Arrays.{AreRowsOf}
use Rattle.array_rows.specs.Boxes.{bounds_of, by_pairs, corners, is_between, is_inside, within}
use Rattle.array_rows.specs.Rows.{Coordinate, rows_where}
use Rattle.array_rows.proofs.RowSets.{IsRising-rows_where}
use Rattle.array_geom.specs.declared.chunk.Chunk.{Chunk}
use Rattle.array_geom.specs.declared.chunk.ChunkedArray.{ChunkedArray}
use Rattle.array_geom.specs.Geometry.{ChunkNumber, chunk_of, core, has_core}
use Rattle.array_geom.specs.Link.{NumbersRise, has_cell, is_listed, is_not_empty, number_order}
use Rattle.array_geom.specs.Inner.Ranges.{AreNear}
use Rattle.array_geom.proofs.CoreLaws.{core_of}
use Rattle.array_geom.proofs.NearLemmas.{valid_placed}
use Rattle.array_geom.proofs.TestLaws.{and_parts, le_from_test, le_test}
use Rattle.array_parts.specs.Cores.{HaveCells, cores_of}
use Rattle.array_parts.specs.Parts.{AreParts}
use Rattle.array_parts.specs.Placed.{HasPlaces}
use Rattle.array_parts.proofs.CoreLaws.{cores_are_rows}
use Rattle.chunk_cells.specs.Inner.Numbers.{numbers_in}
use Rattle.chunk_cells.proofs.NumberLaws.{listed_end, number_order_total}
use Rattle.chunk_cells.proofs.SortedLaws.{all_listed}
use Rattle.area_cells.specs.Pieces.{IsPartAt}
use Rattle.logical_plan.specs.declared.parts.Pair.{Pair}
use Rattle.logical_plan.specs.BoxOps.{items_but}
use Rattle.logical_plan.specs.Joins.{agree, cross_at, cross_rows, right_places}
use Rattle.logical_plan.specs.PlanSchema.{cross_schema, free_names, renamed_dimension}
use Rattle.exec_box.specs.Inner.Reached.{AddsPicks, HaveCores}
use Rattle.exec_box.proofs.MovedLaws.{all_where}
use Rattle.exec_box.proofs.ReachLaws.{all_cores, all_follow, all_take_more, core_long, listed_holds, made_listed, parts_of_numbers, within_made}
use Rattle.exec_box.proofs.SliceLaws.{is_among, long}
use Rattle.exec_box.proofs.SpreadLaws.{slice_comes}
use Rattle.exec_join.specs.Inner.Pieces.{AddsOthers, AreCrossed, IsListedWith, aside, paired_place, set_aside}
use Rattle.exec_join.proofs.ArraysCrossLaws.{as_many_dimensions, of_both}
use Rattle.exec_join.proofs.SideLaws.{as_many_names}

-- ---- numbers that are listed

or_left : (p q : Bool) → p ≡ true → (p || q) ≡ true
or_left true q e = refl
or_left false q e = absurd cc

or_right : (p q : Bool) → q ≡ true → (p || q) ≡ true
or_right true q e = refl
or_right false q e = e

abbrev IsIn : List (ArrayVec ℕ) → ChunkNumber → Type 0
IsIn found k = is_listed k (numbers_in found) ≡ true

pub none_unpaired : (places : List ℕ) (chunks : List Chunk) (others : List (ArrayVec ℕ)) → AllByRecursion (λ chunk. IsIn others (items_but places 0 chunk.at.items)) (take 0 chunks)
none_unpaired places chunks others = tt

pub more_unpaired : (places : List ℕ) (chunks : List Chunk) (k : ℕ) (chunk : Chunk) (number : ArrayVec ℕ) (old new : List (ArrayVec ℕ)) → k < length chunks → chunk ≡ slice_index_or chunks k chunk → number.items ≡ items_but places 0 chunk.at.items → new ≡ old ++ number ∷ []
    → AllByRecursion (λ chunk. IsIn old (items_but places 0 chunk.at.items)) (take k chunks) → AllByRecursion (λ chunk. IsIn new (items_but places 0 chunk.at.items)) (take (k + 1) chunks)
more_unpaired places chunks k chunk number old new l e n f is =
    subst (λ (j : ℕ). AllByRecursion (λ c. IsIn new (items_but places 0 c.at.items)) (take j chunks)) (sym (add-one k))
    (all_take_more (λ (c : Chunk). IsIn new (items_but places 0 c.at.items)) chunks k chunk l e
    (all_follow (λ (c : Chunk). IsIn old (items_but places 0 c.at.items)) (λ (c : Chunk). IsIn new (items_but places 0 c.at.items)) (λ c t. still (items_but places 0 c.at.items) t) (take k chunks) is)
    (subst (IsIn new) n itself))
  where
    at_end : (j : ChunkNumber) → is_listed j (numbers_in new) ≡ (is_eq (number_order number.items j) || is_listed j (numbers_in old))
    at_end j = ap (λ (xs : List (ArrayVec ℕ)). is_listed j (numbers_in xs)) f ∙ listed_end j number old

    still : (j : ChunkNumber) → IsIn old j → IsIn new j
    still j t = at_end j ∙ or_right (is_eq (number_order number.items j)) (is_listed j (numbers_in old)) t

    itself : IsIn new number.items
    itself = at_end number.items ∙ or_left (is_eq (number_order number.items number.items)) (is_listed number.items (numbers_in old)) (ap is_eq (tied_itself number_order_total number.items))

pub all_unpaired : (places : List ℕ) (chunks : List Chunk) (k : ℕ) (others : List (ArrayVec ℕ)) → length chunks ≤ k → AllByRecursion (λ chunk. IsIn others (items_but places 0 chunk.at.items)) (take k chunks) → AllByRecursion (λ chunk. IsIn others (items_but places 0 chunk.at.items)) chunks
all_unpaired places chunks k others l is = subst (AllByRecursion (λ (c : Chunk). IsIn others (items_but places 0 c.at.items))) (take_all k chunks l) is

pub unpaired_in_order : (places : List ℕ) (chunks : List Chunk) (found : List (ArrayVec ℕ)) (r : Result (List (ArrayVec ℕ)) Memory) → AllByRecursion (λ chunk. IsIn found (items_but places 0 chunk.at.items)) chunks
    → IfOk r (λ listed. (k : ChunkNumber) → is_listed k (numbers_in listed) ≡ is_listed k (numbers_in found)) → IfOk r (λ listed. AllByRecursion (λ chunk. IsIn listed (items_but places 0 chunk.at.items)) chunks)
unpaired_in_order places chunks found (Ok listed) is same =
    all_follow (λ (c : Chunk). IsIn found (items_but places 0 c.at.items)) (λ (c : Chunk). IsIn listed (items_but places 0 c.at.items)) (λ c t. same (items_but places 0 c.at.items) ∙ t) chunks is
unpaired_in_order places chunks found (Err memory) is same = tt

-- a number that is longer than there are dimensions is none
pub too_long : (schema : Schema) (front other : ChunkNumber) (old : List (ArrayVec ℕ)) → IsValid schema → 6 < length front + length other → AddsPicks schema.dimensions (front ++ other) [] [] old old
too_long schema front other old valid l = record { kept = λ k t. t; picked = λ ks p t. absurd (never ks t); cores = λ all. all }
  where
    never : (ks : ChunkNumber) → has_core schema.dimensions ((front ++ other) ++ ks) ≡ true → ⊥
    never ks t =
        let few = (valid_placed schema valid).few in
        let same = core_long schema.dimensions ((front ++ other) ++ ks) t in
        let all = length-append (front ++ other) ks in
        let both = length-append front other in
        absurd (omega (arith, few, same, all, both, l))

module _ (dims : List Dimension) (front : ChunkNumber) where
  pub none_with : (others found : List (ArrayVec ℕ)) → AddsOthers dims front (take 0 others) found found
  none_with others found = record { kept = λ k t. t; listed = tt; cores = λ all. all }

  pub more_with : (others : List (ArrayVec ℕ)) (k : ℕ) (other : ArrayVec ℕ) (old found new : List (ArrayVec ℕ)) → k < length others → other ≡ slice_index_or others k other → AddsOthers dims front (take k others) old found
      → AddsPicks dims (front ++ other.items) [] [] found new → AddsOthers dims front (take (k + 1) others) old new
  more_with others k other old found new l e is adds = record {
    kept = λ j t. adds.kept j (is.kept j t);
    cores = λ all. adds.cores (is.cores all);
    listed = subst (λ (j : ℕ). AllByRecursion (IsListedWith dims new front) (take j others)) (sym (add-one k))
        (all_take_more (IsListedWith dims new front) others k other l e
        (all_follow (IsListedWith dims found front) (IsListedWith dims new front) (λ o f. λ has. adds.kept (front ++ o.items) (f has)) (take k others) is.listed)
        (λ has. subst (IsIn new) (append-nil (front ++ other.items)) (adds.picked [] refl (ap (has_core dims) (append-nil (front ++ other.items)) ∙ has))));
  }

  pub all_with : (others : List (ArrayVec ℕ)) (k : ℕ) (old new : List (ArrayVec ℕ)) → length others ≤ k → AddsOthers dims front (take k others) old new → AddsOthers dims front others old new
  all_with others k old new l is = subst (λ (os : List (ArrayVec ℕ)). AddsOthers dims front os old new) (take_all k others l) is

module _ (dims : List Dimension) (others : List (ArrayVec ℕ)) where
  abbrev With : List (ArrayVec ℕ) → Chunk → Type 0
  With found chunk = AllByRecursion (IsListedWith dims found chunk.at.items) others

  pub none_crossed : (chunks : List Chunk) (found : List (ArrayVec ℕ)) → found ≡ [] → AreCrossed dims others (take 0 chunks) found
  none_crossed chunks found e = record { cores = subst (HaveCores dims) (sym e) tt; listed = tt }

  still_with : (found new : List (ArrayVec ℕ)) → ((k : ChunkNumber) → IsIn found k → IsIn new k) → (chunks : List Chunk) → AllByRecursion (With found) chunks → AllByRecursion (With new) chunks
  still_with found new kept chunks is =
      all_follow (With found) (With new) (λ chunk ws. all_follow (IsListedWith dims found chunk.at.items) (IsListedWith dims new chunk.at.items) (λ o f. λ has. kept (chunk.at.items ++ o.items) (f has)) others ws) chunks is

  pub more_crossed : (chunks : List Chunk) (k : ℕ) (chunk : Chunk) (these found new : List (ArrayVec ℕ)) → these ≡ others → k < length chunks → chunk ≡ slice_index_or chunks k chunk → AreCrossed dims others (take k chunks) found
      → AddsOthers dims chunk.at.items these found new → AreCrossed dims others (take (k + 1) chunks) new
  more_crossed chunks k chunk these found new same l e is adds = record {
    cores = adds.cores is.cores;
    listed = subst (λ (j : ℕ). AllByRecursion (With new) (take j chunks)) (sym (add-one k))
        (all_take_more (With new) chunks k chunk l e (still_with found new adds.kept (take k chunks) is.listed) (subst (AllByRecursion (IsListedWith dims new chunk.at.items)) same adds.listed));
  }

  pub all_crossed : (chunks : List Chunk) (k : ℕ) (found : List (ArrayVec ℕ)) → length chunks ≤ k → AreCrossed dims others (take k chunks) found → AreCrossed dims others chunks found
  all_crossed chunks k found l is = subst (λ (cs : List Chunk). AreCrossed dims others cs found) (take_all k chunks l) is

  pub crossed_in_order : (chunks : List Chunk) (found : List (ArrayVec ℕ)) (r : Result (List (ArrayVec ℕ)) Memory) → AreCrossed dims others chunks found
      → IfOk r (λ listed. (k : ChunkNumber) → is_listed k (numbers_in listed) ≡ is_listed k (numbers_in found)) → IfOk r (AreCrossed dims others chunks)
  crossed_in_order chunks found (Ok listed) is same = record {
    cores = all_listed (λ (k : ChunkNumber). has_core dims k ≡ true) (numbers_in listed) (λ k e. listed_holds (λ (n : ChunkNumber). has_core dims n ≡ true) (numbers_in found) k is.cores (sym (same k) ∙ e));
    listed = still_with found listed (λ k t. same k ∙ t) chunks is.listed;
  }
  crossed_in_order chunks found (Err memory) is same = tt

-- ---- dimensions with other names

same_chunk_of : (dims : List Dimension) (names : List (List ℕ)) (c : Coordinate) → length dims ≤ length names → chunk_of (by_pairs renamed_dimension dims names) c ≡ chunk_of dims c
same_chunk_of [] names c l = refl
same_chunk_of (d ∷ dims) [] c l = absurd (omega (arith, l))
same_chunk_of (d ∷ dims) (name ∷ names) [] l = refl
same_chunk_of (d ∷ dims) (name ∷ names) (x ∷ c) l = let rest = same_chunk_of dims names c (omega (arith, l)) in λ i. (unsigned_abs (x -ℤ d.lo) / d.chunk) ∷ rest i

chunk_of-append : (a b : List Dimension) (c d : Coordinate) → length c ≡ length a → chunk_of (a ++ b) (c ++ d) ≡ chunk_of a c ++ chunk_of b d
chunk_of-append [] b [] d l = refl
chunk_of-append [] b (x ∷ c) d l = absurd (omega (arith, l))
chunk_of-append (g ∷ a) b [] d l = absurd (omega (arith, l))
chunk_of-append (g ∷ a) b (x ∷ c) d l = let rest = chunk_of-append a b c d (omega (arith, l)) in λ i. (unsigned_abs (x -ℤ g.lo) / g.chunk) ∷ rest i

abbrev dims_of : List Pair → Schema → Schema → List Dimension
dims_of pairs left right = left.dimensions ++ items_but (right_places pairs) 0 right.dimensions

-- the number of the chunk into which the cells of two chunks come
abbrev number_of : List Pair → Schema → Schema → Coordinate → Coordinate → ChunkNumber
number_of pairs left right l r = chunk_of left.dimensions l ++ items_but (right_places pairs) 0 (chunk_of right.dimensions r)

cross_comes : (pairs : List Pair) (left right schema : Schema) (l r : Coordinate) → schema ≡ cross_schema pairs left right → length l ≡ length left.dimensions → length r ≡ length right.dimensions
    → chunk_of schema.dimensions (cross_at pairs l r) ≡ number_of pairs left right l r
cross_comes pairs left right schema l r e ll lr =
    let dims = dims_of pairs left right in
    let attributes = left.attributes ++ right.attributes in
    let names = free_names [] (dimension_names dims ++ attribute_names attributes) in
    let all : length names ≡ length dims + length attributes =
    as_many_names [] (dimension_names dims ++ attribute_names attributes) ∙ length-append (dimension_names dims) (attribute_names attributes)
    ∙ (λ i. length-map dims (λ (d : Dimension). d.name) i + length-map attributes (λ (a : Attribute). a.name) i) in
    let front = length-take (length dims) names in
    ap (λ (s : Schema). chunk_of s.dimensions (cross_at pairs l r)) e
    ∙ same_chunk_of dims (take (length dims) names) (cross_at pairs l r) (omega (arith, all, front))
    ∙ chunk_of-append left.dimensions (items_but (right_places pairs) 0 right.dimensions) l (items_but (right_places pairs) 0 r) ll
    ∙ ap (λ (ks : ChunkNumber). chunk_of left.dimensions l ++ ks) (slice_comes (right_places pairs) 0 right.dimensions r lr)

-- ---- boxes

front_between : (n : ℕ) (lo hi l c : List ℤ) → length l ≡ n → n ≤ length lo → n ≤ length hi → is_between lo hi (l ++ c) ≡ (is_between (take n lo) (take n hi) l && is_between (drop n lo) (drop n hi) c)
front_between zero lo hi [] c e f g = refl
front_between zero lo hi (x ∷ l) c e f g = absurd (omega (arith, e))
front_between (suc n) lo hi [] c e f g = absurd (omega (arith, e))
front_between (suc n) [] hi (x ∷ l) c e f g = absurd (omega (arith, f))
front_between (suc n) (a ∷ lo) [] (x ∷ l) c e f g = absurd (omega (arith, g))
front_between (suc n) (a ∷ lo) (b ∷ hi) (x ∷ l) c e f g =
    ap (λ (t : Bool). int_le a x && int_le x b && t) (front_between n lo hi l c (omega (arith, e)) (omega (arith, f)) (omega (arith, g)))
    ∙ three (int_le a x && int_le x b) (is_between (take n lo) (take n hi) l) (is_between (drop n lo) (drop n hi) c)
  where
    three : (p q r : Bool) → (p && (q && r)) ≡ ((p && q) && r)
    three true q r = refl
    three false q r = refl

nothing_left : (x : ℤ) → x ≤ℤ x
nothing_left x = omega (arith, ints)

-- each number of a coordinate lies between those of the corners
between_at : (lo hi c : List ℤ) (j : ℕ) → is_between lo hi c ≡ true → (slice_index_or lo j (pos 0) ≤ℤ slice_index_or c j (pos 0)) × (slice_index_or c j (pos 0) ≤ℤ slice_index_or hi j (pos 0))
between_at [] [] [] j e = (nothing_left (pos 0), nothing_left (pos 0))
between_at [] [] (x ∷ c) j e = absurd cc
between_at [] (h ∷ hi) c j e = absurd cc
between_at (l ∷ lo) [] c j e = absurd cc
between_at (l ∷ lo) (h ∷ hi) [] j e = absurd cc
between_at (l ∷ lo) (h ∷ hi) (x ∷ c) zero e =
    let t = and_parts (int_le l x && int_le x h) (is_between lo hi c) e in
    let u = and_parts (int_le l x) (int_le x h) t.0 in
    (le_from_test l x u.0, le_from_test x h u.1)
between_at (l ∷ lo) (h ∷ hi) (x ∷ c) (suc j) e = between_at lo hi c j (and_parts (int_le l x && int_le x h) (is_between lo hi c) e).1

paired_among : (pairs : List Pair) (m j : ℕ) → paired_place pairs m ≡ Some j → is_among (right_places pairs) m ≡ true
paired_among [] m j e = absurd cc
paired_among (p ∷ pairs) m j e = cases (p.right == m) e (paired_among pairs m j)
  where
    cases : (t : Bool) → cond t (Some p.left) (paired_place pairs m) ≡ Some j → (paired_place pairs m ≡ Some j → is_among (right_places pairs) m ≡ true) → (t || is_among (right_places pairs) m) ≡ true
    cases true e more = refl
    cases false e more = more e

not_paired : (pairs : List Pair) (m : ℕ) → paired_place pairs m ≡ None → is_among (right_places pairs) m ≡ false
not_paired [] m e = refl
not_paired (p ∷ pairs) m e = cases (p.right == m) e (not_paired pairs m)
  where
    cases : (t : Bool) → cond t (Some p.left) (paired_place pairs m) ≡ None → (paired_place pairs m ≡ None → is_among (right_places pairs) m ≡ false) → (t || is_among (right_places pairs) m) ≡ false
    cases true e more = absurd cc
    cases false e more = more e

some_same : (a b : ℕ) → Some a ≡ Some b → a ≡ b
some_same a b e = cc

-- coordinates that agree have the same number in paired dimensions
agreed_there : (pairs : List Pair) (m j : ℕ) (l r : Coordinate) → agree pairs l r ≡ true → paired_place pairs m ≡ Some j → slice_index_or l j (pos 0) ≡ slice_index_or r m (pos 0)
agreed_there [] m j l r h e = absurd cc
agreed_there (p ∷ pairs) m j l r h e = cases (p.right == m) refl e (agreed_there pairs m j l r parts.1)
  where
    parts : (int_eq (slice_index_or l p.left (pos 0)) (slice_index_or r p.right (pos 0)) ≡ true) × (agree pairs l r ≡ true)
    parts = and_parts (int_eq (slice_index_or l p.left (pos 0)) (slice_index_or r p.right (pos 0))) (agree pairs l r) h

    cases : (t : Bool) → (p.right == m) ≡ t → cond t (Some p.left) (paired_place pairs m) ≡ Some j → (paired_place pairs m ≡ Some j → slice_index_or l j (pos 0) ≡ slice_index_or r m (pos 0)) → slice_index_or l j (pos 0) ≡ slice_index_or r m (pos 0)
    cases true t e more =
        ap (λ (k : ℕ). slice_index_or l k (pos 0)) (sym (some_same p.left j e))
        ∙ (signed_Decides (slice_index_or l p.left (pos 0)) (slice_index_or r p.right (pos 0))).0 parts.0
        ∙ ap (λ (k : ℕ). slice_index_or r k (pos 0)) (eqb-true p.right m t)
    cases false t e more = more e

abbrev AgreeFrom : List Pair → ℕ → Coordinate → Coordinate → Type 0
AgreeFrom pairs n l r = (k m j : ℕ) → m ≡ n + k → paired_place pairs m ≡ Some j → slice_index_or l j (pos 0) ≡ slice_index_or r k (pos 0)

inside_side : (a b x y : ℤ) (rest : Bool) → y ≡ x → a ≤ℤ y → y ≤ℤ b → (int_le a x && int_le x b && rest) ≡ rest
inside_side a b x y rest e low high =
    let f = le_test a x (subst (λ (z : ℤ). a ≤ℤ z) e low) in
    let g = le_test x b (subst (λ (z : ℤ). z ≤ℤ b) e high) in
    λ i. f i && g i && rest

-- the right box holds a coordinate that agrees with one of the left box where the cross join's holds the unpaired part of it
aside_holds : (pairs : List Pair) (lo hi l : List ℤ) (n : ℕ) (dims : List Dimension) (flo fhi : List ℤ) (c : Coordinate) → is_between lo hi l ≡ true → length c ≡ length dims → length flo ≡ length (items_but (right_places pairs) n dims)
    → length fhi ≡ length (items_but (right_places pairs) n dims) → AgreeFrom pairs n l c → is_between (set_aside pairs lo n dims flo) (set_aside pairs hi n dims fhi) c ≡ is_between flo fhi (items_but (right_places pairs) n c)
aside_holds pairs lo hi l n [] [] [] [] b e f g has = refl
aside_holds pairs lo hi l n [] [] (y ∷ fhi) [] b e f g has = absurd (omega (arith, g))
aside_holds pairs lo hi l n [] (y ∷ flo) fhi [] b e f g has = absurd (omega (arith, f))
aside_holds pairs lo hi l n [] flo fhi (x ∷ c) b e f g has = absurd (omega (arith, e))
aside_holds pairs lo hi l n (d ∷ dims) flo fhi [] b e f g has = absurd (omega (arith, e))
aside_holds pairs lo hi l n (d ∷ dims) flo fhi (x ∷ c) b e f g has =
    cases (paired_place pairs n) refl flo fhi f g (λ us vs p q. aside_holds pairs lo hi l (n + 1) dims us vs c b (omega (arith, e)) p q (λ k m j s t. has (suc k) m j (omega (arith, s)) t))
  where
    places : List ℕ
    places = right_places pairs

    rest : List ℤ
    rest = items_but places (n + 1) c

    low : List ℤ → List ℤ
    low = set_aside pairs lo (n + 1) dims

    high : List ℤ → List ℤ
    high = set_aside pairs hi (n + 1) dims

    cases : (o : Option ℕ) → paired_place pairs n ≡ o → (us vs : List ℤ) → length us ≡ length (items_but places n (d ∷ dims)) → length vs ≡ length (items_but places n (d ∷ dims))
        → ((us vs : List ℤ) → length us ≡ length (items_but places (n + 1) dims) → length vs ≡ length (items_but places (n + 1) dims) → is_between (low us) (high vs) c ≡ is_between us vs rest)
        → is_between (aside o lo us low) (aside o hi vs high) (x ∷ c) ≡ is_between us vs (items_but places n (x ∷ c))
    cases (Some j) o us vs p q more =
        let among = paired_among pairs n j o in
        let zeroth : n ≡ n + 0 = omega arith in
        let at = between_at lo hi l j b in
        let as_many : length (items_but places n (d ∷ dims)) ≡ length (items_but places (n + 1) dims) = ap (λ (t : Bool). length (cond t (items_but places (n + 1) dims) (d ∷ items_but places (n + 1) dims))) among in
        inside_side (slice_index_or lo j (pos 0)) (slice_index_or hi j (pos 0)) x (slice_index_or l j (pos 0)) (is_between (low us) (high vs) c) (has 0 n j zeroth o) at.0 at.1
        ∙ more us vs (p ∙ as_many) (q ∙ as_many)
        ∙ ap (λ (t : Bool). is_between us vs (cond t rest (x ∷ rest))) (sym among)
    cases None o us vs p q more =
        let among = not_paired pairs n o in
        let as_many : length (items_but places n (d ∷ dims)) ≡ suc (length (items_but places (n + 1) dims)) = ap (λ (t : Bool). length (cond t (items_but places (n + 1) dims) (d ∷ items_but places (n + 1) dims))) among in
        go us vs (p ∙ as_many) (q ∙ as_many) ∙ ap (λ (t : Bool). is_between us vs (cond t rest (x ∷ rest))) (sym among)
      where
        go : (us vs : List ℤ) → length us ≡ suc (length (items_but places (n + 1) dims)) → length vs ≡ suc (length (items_but places (n + 1) dims)) → is_between (aside None lo us low) (aside None hi vs high) (x ∷ c) ≡ is_between us vs (x ∷ rest)
        go [] vs p q = absurd (omega (arith, p))
        go (u ∷ us) [] p q = absurd (omega (arith, q))
        go (u ∷ us) (v ∷ vs) p q = ap (λ (t : Bool). int_le u x && int_le x v && t) (more us vs (omega (arith, p)) (omega (arith, q)))

-- ---- rows in a box

within-append : (F : Bounds) (a b : List Row) → within F (a ++ b) ≡ within F a ++ within F b
within-append F [] b = refl
within-append F (row ∷ a) b = cases (is_inside F row.at.items) (within-append F a b)
  where
    cases : (t : Bool) → within F (a ++ b) ≡ within F a ++ within F b → cond t (row ∷ within F (a ++ b)) (within F (a ++ b)) ≡ cond t (row ∷ within F a) (within F a) ++ within F b
    cases true r = ap (λ (rs : List Row). row ∷ rs) r
    cases false r = r

none_made : (F : Bounds) (made : Row → Row) → ((row : Row) → is_inside F (made row).at.items ≡ false) → (rows : List Row) → within F (map made rows) ≡ []
none_made F made misses [] = refl
none_made F made misses (row ∷ rows) = ap (λ (t : Bool). cond t (made row ∷ within F (map made rows)) (within F (map made rows))) (misses row) ∙ none_made F made misses rows

-- what holds of the boxes of a piece
record AreBoxes (pairs : List Pair) (left right : List Dimension) (F of_left of_right : Bounds) : Type 0 where
  front : (l c : Coordinate) → length l ≡ length left → is_inside F (l ++ c) ≡ (is_inside of_left l && is_between (drop (length left) F.lo.items) (drop (length left) F.hi.items) c)
  behind : (l r : Coordinate) → is_inside of_left l ≡ true → length r ≡ length right → agree pairs l r ≡ true → is_inside of_right r ≡ is_between (drop (length left) F.lo.items) (drop (length left) F.hi.items) (items_but (right_places pairs) 0 r)

cross_within : (pairs : List Pair) (left right : List Dimension) (F of_left of_right : Bounds) (ls rs : List Row) → AreBoxes pairs left right F of_left of_right → AllByRecursion (λ row. is_inside (bounds_of left) row.at.items ≡ true) ls
    → AllByRecursion (λ row. is_inside (bounds_of right) row.at.items ≡ true) rs → within F (cross_rows pairs ls rs) ≡ cross_rows pairs (within of_left ls) (within of_right rs)
cross_within pairs left right F of_left of_right [] rs boxes pl pr = refl
cross_within pairs left right F of_left of_right (l ∷ ls) rs boxes pl pr =
    within-append F (map (of_both pairs l) (rows_where (agree pairs l.at.items) rs)) (cross_rows pairs ls rs) ∙ cases (is_inside of_left l.at.items) refl (cross_within pairs left right F of_left of_right ls rs boxes pl.1 pr)
  where
    ours : List Row
    ours = within F (map (of_both pairs l) (rows_where (agree pairs l.at.items) rs))

    as_long : length l.at.items ≡ length left
    as_long = long left l.at.items pl.0

    cases : (t : Bool) → is_inside of_left l.at.items ≡ t → within F (cross_rows pairs ls rs) ≡ cross_rows pairs (within of_left ls) (within of_right rs)
        → ours ++ within F (cross_rows pairs ls rs) ≡ cross_rows pairs (cond t (l ∷ within of_left ls) (within of_left ls)) (within of_right rs)
    cases true t r =
        let same : ours ≡ map (of_both pairs l) (rows_where (agree pairs l.at.items) (within of_right rs)) =
        within_made F (agree pairs l.at.items) (is_inside of_right) (of_both pairs l) (λ c. is_inside (bounds_of right) c ≡ true)
        (λ row p a. boxes.behind l.at.items row.at.items t (long right row.at.items p) a
        ∙ sym (boxes.front l.at.items (items_but (right_places pairs) 0 row.at.items) as_long ∙ ap (λ (s : Bool). s && is_between (drop (length left) F.lo.items) (drop (length left) F.hi.items) (items_but (right_places pairs) 0 row.at.items)) t))
        rs pr in
        λ i. same i ++ r i
    cases false t r =
        let none : ours ≡ [] =
        none_made F (of_both pairs l)
        (λ row. boxes.front l.at.items (items_but (right_places pairs) 0 row.at.items) as_long ∙ ap (λ (s : Bool). s && is_between (drop (length left) F.lo.items) (drop (length left) F.hi.items) (items_but (right_places pairs) 0 row.at.items)) t)
        (rows_where (agree pairs l.at.items) rs) in
        ap (λ (zs : List Row). zs ++ within F (cross_rows pairs ls rs)) none ∙ r

boxes_are : (pairs : List Pair) (left right : List Dimension) (F of_left of_right : Bounds) → length F.lo.items ≡ length left + length (items_but (right_places pairs) 0 right) → length F.hi.items ≡ length left + length (items_but (right_places pairs) 0 right)
    → of_left ≡ corners (take (length left) F.lo.items) (take (length left) F.hi.items)
    → of_right ≡ corners (set_aside pairs of_left.lo.items 0 right (drop (length left) F.lo.items)) (set_aside pairs of_left.hi.items 0 right (drop (length left) F.hi.items)) → AreBoxes pairs left right F of_left of_right
boxes_are pairs left right F of_left of_right low high e f = record {
  front = λ l c len.
      front_between (length left) F.lo.items F.hi.items l c len (omega (arith, low)) (omega (arith, high))
      ∙ ap (λ (b : Bounds). is_inside b l && is_between (drop (length left) F.lo.items) (drop (length left) F.hi.items) c) (sym e);
  behind = λ l r inside len ag.
      let lows = length-drop (length left) F.lo.items in
      let highs = length-drop (length left) F.hi.items in
      ap (λ (b : Bounds). is_inside b r) f
      ∙ aside_holds pairs of_left.lo.items of_left.hi.items l 0 right (drop (length left) F.lo.items) (drop (length left) F.hi.items) r inside len (omega (arith, low, lows)) (omega (arith, high, highs)) (from_start l r ag);
}
  where
    from_start : (l r : Coordinate) → agree pairs l r ≡ true → AgreeFrom pairs 0 l r
    from_start l r ag k m j s t =
        let same : m ≡ k = omega (arith, s) in
        agreed_there pairs k j l r ag (ap (paired_place pairs) (sym same) ∙ t)

in_bounds : (array : ChunkedArray) → HaveCells array.schema array.margins.items array.chunks → AllByRecursion (λ row. is_inside (bounds_of array.schema.dimensions) row.at.items ≡ true) (cores_of array)
in_bounds array h = (cores_are_rows array.schema array.margins.items array.chunks h).are_rows.in_bounds

-- how many dimensions a cross join has
pub cross_dimensions : (pairs : List Pair) (left right schema : Schema) → schema ≡ cross_schema pairs left right → length schema.dimensions ≡ length left.dimensions + length (items_but (right_places pairs) 0 right.dimensions)
cross_dimensions pairs left right schema e = as_many_dimensions pairs left right schema e ∙ length-append left.dimensions (items_but (right_places pairs) 0 right.dimensions)

pub left_count : (pairs : List Pair) (left right schema : Schema) (count n : ℕ) → schema ≡ cross_schema pairs left right → count ≡ length left.dimensions → n ≡ length schema.dimensions → count ≤ n
left_count pairs left right schema count n e c l = let all = cross_dimensions pairs left right schema e in omega (arith, all, c, l)

pub crossed_there : (left right : ChunkedArray) (pairs : List Pair) (schema : Schema) (area of_left of_right : Bounds) (count : ℕ) (from_left from_right rows : List Row) → HaveCells left.schema left.margins.items left.chunks → HaveCells right.schema right.margins.items right.chunks
    → schema ≡ cross_schema pairs left.schema right.schema → length area.lo.items ≡ length schema.dimensions → length area.hi.items ≡ length schema.dimensions → count ≡ length left.schema.dimensions
    → of_left ≡ corners (take count area.lo.items) (take count area.hi.items) → of_right ≡ corners (set_aside pairs of_left.lo.items 0 right.schema.dimensions (drop count area.lo.items)) (set_aside pairs of_left.hi.items 0 right.schema.dimensions (drop count area.hi.items))
    → from_left ≡ within of_left (cores_of left) → from_right ≡ within of_right (cores_of right) → rows ≡ cross_rows pairs from_left from_right → rows ≡ within area (cross_rows pairs (cores_of left) (cores_of right))
crossed_there left right pairs schema area of_left of_right count from_left from_right rows cl cr e low high n f g l r m =
    let all = cross_dimensions pairs left.schema right.schema schema e in
    let dims = right.schema.dimensions in
    m ∙ (λ i. cross_rows pairs (l i) (r i))
    ∙ sym (cross_within pairs left.schema.dimensions dims area of_left of_right (cores_of left) (cores_of right)
    (boxes_are pairs left.schema.dimensions dims area of_left of_right (low ∙ all) (high ∙ all) (f ∙ ap (λ (k : ℕ). corners (take k area.lo.items) (take k area.hi.items)) n)
    (g ∙ ap (λ (k : ℕ). corners (set_aside pairs of_left.lo.items 0 dims (drop k area.lo.items)) (set_aside pairs of_left.hi.items 0 dims (drop k area.hi.items))) n))
    (in_bounds left cl) (in_bounds right cr))

-- the rows of an array in a box are those of an array
pub rows_within : (array : ChunkedArray) (box : Bounds) (rows : List Row) → HaveCells array.schema array.margins.items array.chunks → rows ≡ within box (cores_of array) → AreRowsOf array.schema rows
rows_within array box rows h e =
    let a = cores_are_rows array.schema array.margins.items array.chunks h in
    subst (AreRowsOf array.schema) (sym e) (record {
      valid = a.valid;
      are_rows = record {
        rising = IsRising-rows_where (is_inside box) (cores_of array) a.are_rows.rising;
        in_bounds = all_where (λ row. is_inside (bounds_of array.schema.dimensions) row.at.items ≡ true) (is_inside box) (cores_of array) a.are_rows.in_bounds;
      };
      kinds = all_where (λ row. IsCellOf array.schema.attributes row.cell) (is_inside box) (cores_of array) a.kinds;
    })

-- ---- each chunk into which a cell comes

one_of : (a b : List Row) → is_not_empty (a ++ b) ≡ true → (is_not_empty a ≡ true) ⊎ (is_not_empty b ≡ true)
one_of [] b e = inr e
one_of (row ∷ a) b e = inl refl

all_numbers : (Q : ChunkNumber → Type 0) (others : List (ArrayVec ℕ)) → AllByRecursion (λ other. Q other.items) others → AllByRecursion Q (numbers_in others)
all_numbers Q [] a = tt
all_numbers Q (o ∷ others) a = (a.0, all_numbers Q others a.1)

all_both : {A : Type 0} (P Q R : A → Type 0) → ((x : A) → P x → Q x → R x) → (xs : List A) → AllByRecursion P xs → AllByRecursion Q xs → AllByRecursion R xs
all_both P Q R f [] a b = tt
all_both P Q R f (x ∷ xs) a b = (f x a.0 b.0, all_both P Q R f xs a.1 b.1)

module _ (pairs : List Pair) (left right schema : Schema) (found : List (ArrayVec ℕ)) where
  -- the chunk of two coordinates is listed, if it has a core
  abbrev IsFound : Coordinate → Coordinate → Type 0
  IsFound l r = has_core schema.dimensions (number_of pairs left right l r) ≡ true → IsIn found (number_of pairs left right l r)

  cross_listed : (ls rs : List Row) (k : ChunkNumber) → schema ≡ cross_schema pairs left right → AreNear schema.dimensions → AllByRecursion (λ row. is_inside (bounds_of left.dimensions) row.at.items ≡ true) ls
      → AllByRecursion (λ row. is_inside (bounds_of right.dimensions) row.at.items ≡ true) rs → AllByRecursion (λ l. AllByRecursion (λ r. IsFound l.at.items r.at.items) rs) ls
      → length k ≡ length schema.dimensions → has_cell schema.dimensions (cross_rows pairs ls rs) k ≡ true → IsIn found k
  cross_listed [] rs k e near pl pr fs len h = absurd cc
  cross_listed (l ∷ ls) rs k e near pl pr fs len h =
      cases (one_of (within (core schema.dimensions k) ours) (within (core schema.dimensions k) (cross_rows pairs ls rs)) (sym (ap is_not_empty (within-append (core schema.dimensions k) ours (cross_rows pairs ls rs))) ∙ h))
      (cross_listed ls rs k e near pl.1 pr fs.1 len)
    where
      ours : List Row
      ours = map (of_both pairs l) (rows_where (agree pairs l.at.items) rs)

      cases : (is_not_empty (within (core schema.dimensions k) ours) ≡ true) ⊎ (is_not_empty (within (core schema.dimensions k) (cross_rows pairs ls rs)) ≡ true) → (has_cell schema.dimensions (cross_rows pairs ls rs) k ≡ true → IsIn found k) → IsIn found k
      cases (inl some) more =
          made_listed schema.dimensions (agree pairs l.at.items) (of_both pairs l) (number_of pairs left right l.at.items) (λ c. is_inside (bounds_of right.dimensions) c ≡ true) found rs k near
          (λ row p a. cross_comes pairs left right schema l.at.items row.at.items e (long left.dimensions l.at.items pl.0) (long right.dimensions row.at.items p)) pr
          (all_follow (λ (r : Row). IsFound l.at.items r.at.items) (λ (r : Row). agree pairs l.at.items r.at.items ≡ true → IsFound l.at.items r.at.items) (λ r f. λ a. f) rs fs.0) len some
      cases (inr some) more = more some

  in_cores : (others : List (ArrayVec ℕ)) (kl kr : ChunkNumber) (l r : Coordinate) → AreNear left.dimensions → AreNear right.dimensions → has_core left.dimensions kl ≡ true → has_core right.dimensions kr ≡ true → is_inside (core left.dimensions kl) l ≡ true
      → is_inside (core right.dimensions kr) r ≡ true → AllByRecursion (IsListedWith schema.dimensions found kl) others → IsIn others (items_but (right_places pairs) 0 kr) → IsFound l r
  in_cores others kl kr l r nl nr hl hr il ir ws there =
      let at : kl ≡ chunk_of left.dimensions l = core_of left.dimensions kl l nl (core_long left.dimensions kl hl) il in
      let beside : kr ≡ chunk_of right.dimensions r = core_of right.dimensions kr r nr (core_long right.dimensions kr hr) ir in
      let same : kl ++ items_but (right_places pairs) 0 kr ≡ number_of pairs left right l r = (λ i. at i ++ items_but (right_places pairs) 0 (beside i)) in
      let with_it : has_core schema.dimensions (kl ++ items_but (right_places pairs) 0 kr) ≡ true → IsIn found (kl ++ items_but (right_places pairs) 0 kr) =
      listed_holds (λ (n : ChunkNumber). has_core schema.dimensions (kl ++ n) ≡ true → IsIn found (kl ++ n)) (numbers_in others) (items_but (right_places pairs) 0 kr)
      (all_numbers (λ (n : ChunkNumber). has_core schema.dimensions (kl ++ n) ≡ true → IsIn found (kl ++ n)) others ws) there in
      λ has. subst (IsIn found) same (with_it (ap (has_core schema.dimensions) same ∙ has))

abbrev HasCore : List Dimension → Chunk → Type 0
HasCore dims chunk = has_core dims chunk.at.items ≡ true

each_core : (schema : Schema) (margins : List ℕ) (chunks : List Chunk) → AllByRecursion (HasPlaces schema margins) chunks → AllByRecursion (HasCore schema.dimensions) chunks
each_core schema margins chunks a = all_follow (HasPlaces schema margins) (HasCore schema.dimensions) (λ chunk h. h.framed.core) chunks a

pub cross_parts : (schema : Schema) (left right : ChunkedArray) (pairs : List Pair) (margins : List ℕ) (others listed : List (ArrayVec ℕ)) (parts : List Chunk) → IsValid schema → HaveCells left.schema left.margins.items left.chunks → HaveCells right.schema right.margins.items right.chunks
    → schema ≡ cross_schema pairs left.schema right.schema → NumbersRise (numbers_in listed) → AllByRecursion (λ chunk. IsIn others (items_but (right_places pairs) 0 chunk.at.items)) right.chunks → AreCrossed schema.dimensions others left.chunks listed
    → AllZip (IsPartAt schema margins (cross_rows pairs (cores_of left) (cores_of right))) listed parts → AreParts schema.dimensions margins (cross_rows pairs (cores_of left) (cores_of right)) parts
cross_parts schema left right pairs margins others listed parts valid cl cr e rise there crossed zip =
    parts_of_numbers schema margins (cross_rows pairs (cores_of left) (cores_of right)) listed parts zip rise crossed.cores
    (λ k len h. cross_listed pairs left.schema right.schema schema listed (cores_of left) (cores_of right) k e (valid_placed schema valid).near (in_bounds left cl) (in_bounds right cr)
    (all_cores (λ l. AllByRecursion (λ r. IsFound pairs left.schema right.schema schema listed l r.at.items) (cores_of right)) left.schema.dimensions left.margins.items left.chunks
    (all_both (HasCore left.schema.dimensions) (With schema.dimensions others listed) (λ (c : Chunk). (l : Coordinate) → is_inside (core left.schema.dimensions c.at.items) l ≡ true → AllByRecursion (λ r. IsFound pairs left.schema right.schema schema listed l r.at.items) (cores_of right))
    (λ c has ws. λ l inside. of_left_chunk c l has ws inside) left.chunks (each_core left.schema left.margins.items left.chunks cl.placed.all) crossed.listed))
    len h)
  where
    near_left : AreNear left.schema.dimensions
    near_left = (valid_placed left.schema cl.placed.valid).near

    near_right : AreNear right.schema.dimensions
    near_right = (valid_placed right.schema cr.placed.valid).near

    of_left_chunk : (c : Chunk) (l : Coordinate) → HasCore left.schema.dimensions c → With schema.dimensions others listed c → is_inside (core left.schema.dimensions c.at.items) l ≡ true → AllByRecursion (λ r. IsFound pairs left.schema right.schema schema listed l r.at.items) (cores_of right)
    of_left_chunk c l has ws inside =
        all_cores (λ r. IsFound pairs left.schema right.schema schema listed l r) right.schema.dimensions right.margins.items right.chunks
        (all_both (HasCore right.schema.dimensions) (λ (d : Chunk). IsIn others (items_but (right_places pairs) 0 d.at.items)) (λ (d : Chunk). (r : Coordinate) → is_inside (core right.schema.dimensions d.at.items) r ≡ true → IsFound pairs left.schema right.schema schema listed l r)
        (λ d has_too t. λ r inside_too. in_cores pairs left.schema right.schema schema listed others c.at.items d.at.items l r near_left near_right has has_too inside inside_too ws t)
        right.chunks (each_core right.schema right.margins.items right.chunks cr.placed.all) there)

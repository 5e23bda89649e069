-- Chunks that hold no cell of others are an array as they stand.
use Rattle.std.proofs.Common.{◌≡◌, ℕ, suc, ◌≤◌, ℤ, pos, ◌+ℤ◌, ◌-ℤ◌, ◌≤ℤ◌, Bool, true, false, cond, ◌&&◌, ◌||◌, ◌⊎◌, inl, inr, List, [], ◌∷◌, filter, length, refl, sym, ap, ◌∙◌, arith}
use Rattle.std.specs.Prelude.{◌==◌, int_le}
use Rattle.std.specs.Int.{int_min}
use Rattle.std.specs.List.{AllByRecursion, AllZip}
use Rattle.std.specs.Ordering.{is_eq}
use Rattle.std.specs.declared.cmp.Ordering.TheVariants.{Less}
use Rattle.std.proofs.lemmas.Cmp.{lists_total, nat_cmp_total, tied_itself}
use Rattle.std.proofs.lemmas.Int.{ints, clamps}
use Rattle.arrayvec.specs.ArrayVec.{ArrayVec}
use Rattle.cell_values.specs.declared.datum.Row.{Row}
use Rattle.cell_values.specs.declared.schema.Bounds.{Bounds}
use Rattle.cell_values.specs.declared.schema.Dimension.{Dimension}
use Rattle.cell_values.specs.declared.schema.Schema.{Schema}
use Rattle.cell_values.specs.Schemas.{IsValid}
use Rattle.array_rows.specs.Boxes.{bounds_of, is_inside}
use Rattle.array_rows.specs.Rows.{Coordinate}
use Rattle.array_geom.specs.declared.chunk.Chunk.{Chunk}
use Rattle.array_geom.specs.declared.chunk.ChunkedArray.{ChunkedArray}
use Rattle.array_geom.specs.Geometry.{ChunkNumber, core, core_meets, first_in, frame, has_core, last_in, overlaps}
use Rattle.array_geom.specs.Inner.Ranges.{AreNear}
use Rattle.array_geom.specs.Link.{Is, IsPart, NumbersRise, has_cell, is_listed, is_not_empty, number_order}
use Rattle.array_geom.proofs.CoreLaws.{core_of}
use Rattle.array_geom.proofs.NearLemmas.{valid_placed}
use Rattle.array_geom.proofs.TestLaws.{and_both, and_parts, le_from_test, le_test}
use Rattle.array_parts.proofs.PartLemmas.{each_listed}
use Rattle.logical_plan.specs.Meaning.{whole}
use Rattle.logical_plan.specs.declared.parts.Leaf.{Leaf}
use Rattle.plan_needs.specs.Wanted.{wanted_of}
use Rattle.chunk_source.specs.Source.{HasArray, IsStored, numbers_of}
use Rattle.chunk_source.proofs.ReadingLeafLaws.{is_told}
use Rattle.chunk_source.specs.Inner.Alone.{have_no_overlap, stand_alone}
use Rattle.chunk_source.specs.Known.{is_framed, known, known_for}
use Rattle.chunk_source.specs.Read.{IsRead}
use Rattle.chunk_source.proofs.KnownLaws.{cell_known, frame_known, known_rows, known_sound, listed_kept, no_cell_known, none_inside, one_holds}

-- ---- wanted chunks that are all chunks

few_kept : (p : ArrayVec ℕ → Bool) (xs : List (ArrayVec ℕ)) → length (filter p xs) ≤ length xs
few_kept p [] = omega arith
few_kept p (x ∷ xs) = cases (p x) (few_kept p xs)
  where
    cases : (t : Bool) → length (filter p xs) ≤ length xs → length (cond t (x ∷ filter p xs) (filter p xs)) ≤ suc (length xs)
    cases true ih = omega (arith, ih)
    cases false ih = omega (arith, ih)

all_wanted : (p : ArrayVec ℕ → Bool) (xs : List (ArrayVec ℕ)) → length (filter p xs) ≡ length xs → filter p xs ≡ xs
all_wanted p [] e = refl
all_wanted p (x ∷ xs) e = cases (p x) e (few_kept p xs) (all_wanted p xs)
  where
    cases : (t : Bool) → length (cond t (x ∷ filter p xs) (filter p xs)) ≡ suc (length xs) → length (filter p xs) ≤ length xs → (length (filter p xs) ≡ length xs → filter p xs ≡ xs)
        → cond t (x ∷ filter p xs) (filter p xs) ≡ x ∷ xs
    cases true f few ih = ap (λ (ys : List (ArrayVec ℕ)). x ∷ ys) (ih (omega (arith, f)))
    cases false f few ih = absurd (omega (arith, f, few))

same_count : (m n : ℕ) → (m == n) ≡ true → m ≡ n
same_count m n e = grind (arith, e)

numbers_kept : (P : ChunkNumber → Type 0) (p : ArrayVec ℕ → Bool) (xs : List (ArrayVec ℕ)) → AllByRecursion P (numbers_of xs) → AllByRecursion P (numbers_of (filter p xs))
numbers_kept P p [] a = tt
numbers_kept P p (x ∷ xs) a = cases (p x) (numbers_kept P p xs a.1)
  where
    cases : (t : Bool) → AllByRecursion P (numbers_of (filter p xs)) → AllByRecursion P (numbers_of (cond t (x ∷ filter p xs) (filter p xs)))
    cases true ih = (a.0, ih)
    cases false ih = ih

pub rise_kept : (p : ArrayVec ℕ → Bool) (xs : List (ArrayVec ℕ)) → NumbersRise (numbers_of xs) → NumbersRise (numbers_of (filter p xs))
rise_kept p [] r = tt
rise_kept p (x ∷ xs) r = cases (p x) (numbers_kept (λ later. number_order x.items later ≡ Less) p xs r.0) (rise_kept p xs r.1)
  where
    cases : (t : Bool) → AllByRecursion (λ later. number_order x.items later ≡ Less) (numbers_of (filter p xs)) → NumbersRise (numbers_of (filter p xs)) → NumbersRise (numbers_of (cond t (x ∷ filter p xs) (filter p xs)))
    cases true l ih = (l, ih)
    cases false l ih = ih

-- ---- frames without an overlap

is_zero : (n : ℕ) → (n == 0) ≡ true → n ≡ 0
is_zero n e = grind (arith, e)

low_side : (f x : ℤ) (o : ℕ) → o ≡ 0 → (f -ℤ pos o) ≤ℤ x → f ≤ℤ x
low_side f x o z h = omega (arith, ints, z, h)

high_side : (h l x : ℤ) (o : ℕ) → o ≡ 0 → x ≤ℤ h → x ≤ℤ (l +ℤ pos o) → x ≤ℤ (int_min h l)
high_side h l x o z f g = omega (arith, ints, clamps, z, f, g)

record OnSide (l h x : ℤ) (more : Bool) : Type 0 where
  low : l ≤ℤ x
  high : x ≤ℤ h
  rest : more ≡ true

on_side : (l h x : ℤ) (more : Bool) → (int_le l x && int_le x h && more) ≡ true → OnSide l h x more
on_side l h x more e =
    let a = and_parts (int_le l x && int_le x h) more e in
    let b = and_parts (int_le l x) (int_le x h) a.0 in
    record { low = le_from_test l x b.0; high = le_from_test x h b.1; rest = a.1 }

-- within the bounds such a frame has what its core has
frame_is_core : (dims : List Dimension) (k : ChunkNumber) (c : Coordinate) → have_no_overlap dims ≡ true → is_inside (bounds_of dims) c ≡ true → is_inside (frame dims (overlaps dims) k) c ≡ true → is_inside (core dims k) c ≡ true
frame_is_core [] k c n b f = f
frame_is_core (d ∷ dims) [] c n b f = f
frame_is_core (d ∷ dims) (q ∷ k) [] n b f = f
frame_is_core (d ∷ dims) (q ∷ k) (x ∷ c) n b f =
    let none = and_parts (d.overlap == 0) (have_no_overlap dims) n in
    let bound = on_side d.lo d.hi x (is_inside (bounds_of dims) c) b in
    let framed = on_side (first_in d q -ℤ pos d.overlap) (last_in d q +ℤ pos d.overlap) x (is_inside (frame dims (overlaps dims) k) c) f in
    and_both (int_le (first_in d q) x && int_le x (int_min d.hi (last_in d q))) (is_inside (core dims k) c)
    (and_both (int_le (first_in d q) x) (int_le x (int_min d.hi (last_in d q)))
    (le_test (first_in d q) x (low_side (first_in d q) x d.overlap (is_zero d.overlap none.0) framed.low))
    (le_test x (int_min d.hi (last_in d q)) (high_side d.hi (last_in d q) x d.overlap (is_zero d.overlap none.0) bound.high framed.high)))
    (frame_is_core dims k c none.1 bound.rest framed.rest)

found : (a b : ChunkNumber) → a ≡ b → is_eq (number_order a b) ≡ true
found a b e = ap (λ (z : ChunkNumber). is_eq (number_order z b)) e ∙ ap is_eq (tied_itself (lists_total nat_cmp_total) b)

-- so the chunk in whose core it lies is one of those in whose frames it lies
framed_listed : (dims : List Dimension) (k : ChunkNumber) (c : Coordinate) (chunks : List (ArrayVec ℕ)) → AreNear dims → have_no_overlap dims ≡ true → is_inside (bounds_of dims) c ≡ true
    → length k ≡ length dims → is_inside (core dims k) c ≡ true → AllByRecursion (λ n. length n ≡ length dims) (numbers_of chunks) → is_framed dims chunks c ≡ true → is_listed k (numbers_of chunks) ≡ true
framed_listed dims k c [] near none b l i sized f = f
framed_listed dims k c (n ∷ chunks) near none b l i sized f =
    one_holds (is_inside (frame dims (overlaps dims) n.items) c) (is_eq (number_order n.items k)) (is_framed dims chunks c) (is_listed k (numbers_of chunks)) f
    (λ g. found n.items k (core_of dims n.items c near sized.0 (frame_is_core dims n.items c none b g) ∙ sym (core_of dims k c near l i)))
    (λ g. framed_listed dims k c chunks near none b l i sized.1 g)

-- ---- chunks of these numbers

core_sized : (dims : List Dimension) (k : ChunkNumber) → has_core dims k ≡ true → length k ≡ length dims
core_sized [] [] e = refl
core_sized [] (n ∷ k) e = cc
core_sized (d ∷ dims) [] e = cc
core_sized (d ∷ dims) (n ∷ k) e = ap suc (core_sized dims k (and_parts _ (has_core dims k) e).1)

all_sized : (schema : Schema) (at : List (ArrayVec ℕ)) (chunks : List Chunk) → AllZip (IsStored schema) at chunks → AllByRecursion (λ n. length n ≡ length schema.dimensions) (numbers_of at)
all_sized schema [] [] z = tt
all_sized schema [] (c ∷ chunks) z = absurd z
all_sized schema (n ∷ at) [] z = absurd z
all_sized schema (n ∷ at) (c ∷ chunks) z = (
  ap (λ (v : ArrayVec ℕ). length v.items) (sym z.0.number) ∙ core_sized schema.dimensions c.at.items z.0.valid.framed.core,
  all_sized schema at chunks z.1,
)

-- each is its part of what they tell
known_parts : (schema : Schema) (rows : List Row) (wanted at : List (ArrayVec ℕ)) (chunks : List Chunk) → AllZip (IsStored schema) at chunks → AllByRecursion (λ n. is_listed n (numbers_of wanted) ≡ true) (numbers_of at)
    → AllByRecursion (IsPart schema.dimensions (overlaps schema.dimensions) rows) chunks → AllByRecursion (IsPart schema.dimensions (overlaps schema.dimensions) (known schema.dimensions wanted rows)) chunks
known_parts schema rows wanted [] [] z a parts = tt
known_parts schema rows wanted [] (c ∷ chunks) z a parts = absurd z
known_parts schema rows wanted (n ∷ at) [] z a parts = absurd z
known_parts schema rows wanted (n ∷ at) (c ∷ chunks) z a parts = (
  record {
    each = parts.0.each;
    in_frame = parts.0.in_frame;
    cells = parts.0.cells ∙ sym (frame_known schema.dimensions rows wanted c.at.items (ap (λ (v : ArrayVec ℕ). is_listed v.items (numbers_of wanted)) z.0.number ∙ a.0));
  },
  known_parts schema rows wanted at chunks z.1 a.1 parts.1,
)

-- ---- which cores hold something that is known

each_row : (P Q : Row → Type 0) (rows : List Row) → AllByRecursion P rows → ((row : Row) → P row → Q row) → AllByRecursion Q rows
each_row P Q [] a f = tt
each_row P Q (row ∷ rows) a f = (f row a.0, each_row P Q rows a.1 f)

differ : (b : Bool) → b ≡ true → b ≡ false → ⊥
differ true e f = cc
differ false e f = cc

one_of : (a b : Bool) → (a || b) ≡ true → (a ≡ true) ⊎ (b ≡ true)
one_of true b e = inl refl
one_of false b e = inr e

module _ (leaf : Leaf) (area : Bounds) (rows : List Row) (stored : List (ArrayVec ℕ)) (has : HasArray leaf rows stored)
    (sized : AllByRecursion (λ n. length n ≡ length leaf.schema.dimensions) (numbers_of (wanted_of leaf.schema.dimensions area stored)))
    (alone : stand_alone leaf.schema.dimensions stored (wanted_of leaf.schema.dimensions area stored) ≡ true) where
  abbrev dims : List Dimension
  dims = leaf.schema.dimensions

  abbrev wanted : List (ArrayVec ℕ)
  wanted = wanted_of leaf.schema.dimensions area stored

  no_other : (k : ChunkNumber) → length k ≡ length dims → is_listed k (numbers_of wanted) ≡ false → has_cell dims (known dims wanted rows) k ≡ false
  no_other k l e = cases (one_of (length wanted == length stored) (have_no_overlap dims) alone)
    where
      cases : ((length wanted == length stored) ≡ true) ⊎ (have_no_overlap dims ≡ true) → has_cell dims (known dims wanted rows) k ≡ false
      cases (inl same) =
          let all : wanted ≡ stored = all_wanted (λ chunk. core_meets dims area chunk.items) stored (same_count (length wanted) (length stored) same) in
          no_cell_known dims rows wanted k (sym (has.listed k l) ∙ ap (λ (ks : List (ArrayVec ℕ)). is_listed k (numbers_of ks)) (sym all) ∙ e)
      cases (inr none) =
          ap is_not_empty (none_inside (is_inside (core dims k)) (is_framed dims wanted) rows
          (each_row (λ row. is_inside (bounds_of dims) row.at.items ≡ true) (λ row. is_inside (core dims k) row.at.items ≡ true → is_framed dims wanted row.at.items ≡ true → ⊥) rows has.rows_of.are_rows.in_bounds
          (λ row b i f. differ (is_listed k (numbers_of wanted)) (framed_listed dims k row.at.items wanted (valid_placed leaf.schema has.rows_of.valid).near none b l i sized f) e)))

  pub known_cores : (k : ChunkNumber) → length k ≡ length dims → is_listed k (numbers_of wanted) ≡ has_cell dims (known dims wanted rows) k
  known_cores k l = cases (is_listed k (numbers_of wanted)) refl
    where
      cases : (t : Bool) → is_listed k (numbers_of wanted) ≡ t → t ≡ has_cell dims (known dims wanted rows) k
      cases true e =
          let both = and_parts (is_listed k (numbers_of stored)) (core_meets dims area k) (sym (listed_kept (core_meets dims area) k stored) ∙ e) in
          sym (cell_known dims rows wanted k e ∙ sym (has.listed k l) ∙ both.0)
      cases false e = sym (no_other k l e)

-- ---- the array

abbrev at_one : Leaf → Leaf
at_one leaf = record { name = leaf.name; version = 1; schema = leaf.schema }

pub alone_is_known : (leaf : Leaf) (area : Bounds) (rows : List Row) (stored : List (ArrayVec ℕ)) (array : ChunkedArray) → IsRead leaf.schema array → IsValid leaf.schema → NumbersRise (numbers_of stored)
    → HasArray leaf rows stored → AllZip (IsStored leaf.schema) (wanted_of leaf.schema.dimensions area stored) array.chunks → AllByRecursion (IsPart leaf.schema.dimensions (overlaps leaf.schema.dimensions) rows) array.chunks
    → stand_alone leaf.schema.dimensions stored (wanted_of leaf.schema.dimensions area stored) ≡ true → Is array (whole leaf.schema (known_for leaf area stored rows))
alone_is_known leaf area rows stored array read valid rising has zip parts alone =
    let wanted = wanted_of leaf.schema.dimensions area stored in
    let some = known leaf.schema.dimensions wanted rows in
    is_told (λ name version. some) (at_one leaf) array wanted read.schema_is read.margins read.whole valid (rise_kept (λ chunk. core_meets leaf.schema.dimensions area chunk.items) stored rising) zip
    (λ v. record {
      rows_of = known_rows leaf.schema rows wanted has.rows_of;
      sound = known_sound leaf.schema rows wanted has.sound;
      listed = known_cores leaf area rows stored has (all_sized leaf.schema wanted array.chunks zip) alone;
    })
    (known_parts leaf.schema rows wanted wanted array.chunks zip (each_listed (numbers_of wanted)) parts)

-- Listed chunks are as many as the chunks whose core holds a cell, and so are those whose core meets a box.
use Rattle.std.proofs.Common.{◌≡◌, ◌∙◌, ℕ, ◌+◌, Bool, true, false, cond, ◌||◌, List, [], ◌∷◌, length, refl, sym, ap, subst, true≢false, arith}
use Rattle.std.specs.Prelude.{◌==◌, filter}
use Rattle.std.specs.List.{count_by}
use Rattle.std.proofs.lemmas.List.Sums.{length-filter}
use Rattle.std.specs.Ordering.{is_eq}
use Rattle.arrayvec.specs.ArrayVec.{ArrayVec}
use Rattle.cell_values.specs.declared.datum.Row.{Row}
use Rattle.cell_values.specs.declared.schema.Bounds.{Bounds}
use Rattle.cell_values.specs.declared.schema.Dimension.{Dimension}
use Rattle.cell_values.specs.Schemas.{IsValid}
use Rattle.array_geom.specs.Geometry.{ChunkNumber, core_meets}
use Rattle.array_geom.specs.Link.{NumbersRise, is_listed, number_order}
use Rattle.array_geom.proofs.NearLemmas.{valid_placed}
use Rattle.array_geom.proofs.NumberLaws.{is_equal, same_number}
use Rattle.commit_pages.specs.Costs.{numbers_of}
use Rattle.commit_pages.proofs.Orders.{AreSized, NoneTwice, all_sized, each_once, none_twice, numbers_listed, same_total, total}
use Rattle.logical_plan.specs.declared.parts.Leaf.{Leaf}
use Rattle.logical_plan.specs.Meaning.{Database, version_rows}
use Rattle.chunk_source.specs.Source.{AreNumbersIn, HasArray, numbers_of as items_of}
use Rattle.changed_chunks.specs.declared.traces.asking.Asking.{Asking}
use Rattle.changed_chunks.specs.Listed.{chunks_among, is_sized}
use Rattle.changed_chunks.specs.Traced.{asking_in, asking_where}

-- ---- listed numbers with a place for each dimension

abbrev sized : List Dimension → List (ArrayVec ℕ) → List (ArrayVec ℕ)
sized dims chunks = filter (is_sized dims) chunks

fits_is : (m n : ℕ) → (m == n) ≡ true → m ≡ n
fits_is m n e = grind (arith, e)

is_fits : (m n : ℕ) → m ≡ n → (m == n) ≡ true
is_fits m n e = rw e (grind arith)

sized_listed : (dims : List Dimension) (k : ChunkNumber) → length k ≡ length dims → (xs : List (ArrayVec ℕ)) → is_listed k (items_of (sized dims xs)) ≡ is_listed k (items_of xs)
sized_listed dims k len [] = refl
sized_listed dims k len (x ∷ xs) = by_tests (is_sized dims x) (is_eq (number_order x.items k)) refl refl (sized_listed dims k len xs)
  where
    by_tests : (b c : Bool) → is_sized dims x ≡ b → is_eq (number_order x.items k) ≡ c → is_listed k (items_of (sized dims xs)) ≡ is_listed k (items_of xs)
        → is_listed k (items_of (cond b (x ∷ sized dims xs) (sized dims xs))) ≡ (c || is_listed k (items_of xs))
    by_tests true c e f later = ap (λ (b : Bool). b || is_listed k (items_of (sized dims xs))) f ∙ ap (λ (b : Bool). c || b) later
    by_tests false false e f later = later
    by_tests false true e f later =
        let same : x.items ≡ k = same_number x.items k (is_equal (number_order x.items k) f) in
        let fit : is_sized dims x ≡ true = is_fits (length x.items) (length dims) (ap (λ (n : ChunkNumber). length n) same ∙ len) in
        absurd (true≢false (sym fit ∙ e))

sized_once : (dims : List Dimension) (xs : List (ArrayVec ℕ)) → NoneTwice (items_of xs) → NoneTwice (items_of (sized dims xs))
sized_once dims [] none = tt
sized_once dims (x ∷ xs) none = by_test (is_sized dims x) refl (sized_once dims xs none.1)
  where
    by_test : (b : Bool) → is_sized dims x ≡ b → NoneTwice (items_of (sized dims xs)) → NoneTwice (items_of (cond b (x ∷ sized dims xs) (sized dims xs)))
    by_test true e later = (sized_listed dims x.items (fits_is (length x.items) (length dims) e) xs ∙ none.0, later)
    by_test false e later = later

sized_fit : (dims : List Dimension) (xs : List (ArrayVec ℕ)) → AreSized (length dims) (items_of (sized dims xs))
sized_fit dims [] = tt
sized_fit dims (x ∷ xs) = by_test (is_sized dims x) refl (sized_fit dims xs)
  where
    by_test : (b : Bool) → is_sized dims x ≡ b → AreSized (length dims) (items_of (sized dims xs)) → AreSized (length dims) (items_of (cond b (x ∷ sized dims xs) (sized dims xs)))
    by_test true e later = (fits_is (length x.items) (length dims) e, later)
    by_test false e later = later

-- ---- counts are sums

one_each : (ks : List ChunkNumber) → length ks ≡ total (λ k. 1) ks
unfolding total
one_each [] = refl
one_each (k ∷ ks) = let later = one_each ks in omega (arith, later)

one_of_each : (xs : List (ArrayVec ℕ)) → length xs ≡ total (λ k. 1) (items_of xs)
unfolding total
one_of_each [] = refl
one_of_each (x ∷ xs) = let later = one_of_each xs in omega (arith, later)

abbrev one_at : Bool → ℕ
one_at b = cond b 1 0

abbrev one_if : (ChunkNumber → Bool) → ChunkNumber → ℕ
one_if t k = one_at (t k)

chosen_total : (t : ChunkNumber → Bool) (ks : List ChunkNumber) → length (filter t ks) ≡ total (one_if t) ks
unfolding total
chosen_total t [] = refl
chosen_total t (k ∷ ks) = by_test (t k) (chosen_total t ks)
  where
    by_test : (b : Bool) → length (filter t ks) ≡ total (one_if t) ks → length (cond b (k ∷ filter t ks) (filter t ks)) ≡ cond b 1 0 + total (one_if t) ks
    by_test true later = omega (arith, later)
    by_test false later = omega (arith, later)

chosen_sized : (dims : List Dimension) (t : ChunkNumber → Bool) (xs : List (ArrayVec ℕ)) → length (sized dims (filter (λ at. t at.items) xs)) ≡ total (one_if t) (items_of (sized dims xs))
unfolding total
chosen_sized dims t [] = refl
chosen_sized dims t (x ∷ xs) = by_tests (t x.items) (is_sized dims x) refl refl (chosen_sized dims t xs)
  where
    by_fit : (c : Bool) → is_sized dims x ≡ c → t x.items ≡ true → length (sized dims (filter (λ at. t at.items) xs)) ≡ total (one_if t) (items_of (sized dims xs))
        → length (cond c (x ∷ sized dims (filter (λ at. t at.items) xs)) (sized dims (filter (λ at. t at.items) xs))) ≡ total (one_if t) (items_of (cond c (x ∷ sized dims xs) (sized dims xs)))
    by_fit true f e later = let one : one_if t x.items ≡ 1 = ap one_at e in omega (arith, later, one)
    by_fit false f e later = later

    by_tests : (b c : Bool) → t x.items ≡ b → is_sized dims x ≡ c → length (sized dims (filter (λ at. t at.items) xs)) ≡ total (one_if t) (items_of (sized dims xs))
        → length (sized dims (cond b (x ∷ filter (λ at. t at.items) xs) (filter (λ at. t at.items) xs))) ≡ total (one_if t) (items_of (cond (is_sized dims x) (x ∷ sized dims xs) (sized dims xs)))
    by_tests true c e f later = by_fit (is_sized dims x) refl e later
    by_tests false true e f later =
        let none : one_if t x.items ≡ 0 = ap one_at e in
        subst (λ (d : Bool). length (sized dims (filter (λ at. t at.items) xs)) ≡ total (one_if t) (items_of (cond d (x ∷ sized dims xs) (sized dims xs)))) (sym f) (omega (arith, later, none))
    by_tests false false e f later =
        subst (λ (d : Bool). length (sized dims (filter (λ at. t at.items) xs)) ≡ total (one_if t) (items_of (cond d (x ∷ sized dims xs) (sized dims xs)))) (sym f) later

abbrev these : ℕ → ℕ → Asking
these asked stored = record { asked = asked; stored = stored }

-- counts over numbers are those over the chunks among them, whichever test chooses those that are wanted
pub asking_counted : (dims : List Dimension) (chosen : ChunkNumber → Bool) (xs : List (ArrayVec ℕ)) (asked stored : ℕ) → asked ≡ count_by (is_sized dims) (filter (λ at. chosen at.items) xs) → stored ≡ count_by (is_sized dims) xs
    → these asked stored ≡ asking_where chosen (chunks_among dims xs)
asking_counted dims chosen xs asked stored a s =
    let wanted : asked ≡ length (filter chosen (chunks_among dims xs))
    = a ∙ sym (length-filter (is_sized dims) (filter (λ at. chosen at.items) xs)) ∙ chosen_sized dims chosen xs ∙ sym (chosen_total chosen (chunks_among dims xs)) in
    let all : stored ≡ length (chunks_among dims xs) = s ∙ sym (length-filter (is_sized dims) xs) ∙ one_of_each (sized dims xs) ∙ sym (one_each (chunks_among dims xs)) in
    λ i. these (wanted i) (all i)

-- ---- the chunks of a version

module _ (db : Database) (leaf : Leaf) (chunks : List (ArrayVec ℕ)) where
  abbrev rows : List Row
  rows = version_rows db leaf.name leaf.version

  abbrev dims : List Dimension
  dims = leaf.schema.dimensions

  same_sum : (f : ChunkNumber → ℕ) → NumbersRise (items_of chunks) → HasArray leaf rows chunks → total f (items_of (sized dims chunks)) ≡ total f (numbers_of dims rows)
  same_sum f rise has =
      let near = (valid_placed leaf.schema has.rows_of.valid).near in
      let inside = has.rows_of.are_rows.in_bounds in
      same_total f (length dims) (items_of (sized dims chunks)) (numbers_of dims rows) (sized_once dims chunks (none_twice (items_of chunks) rise)) (each_once dims rows) (sized_fit dims chunks) (all_sized dims rows inside)
      (λ j len. sized_listed dims j len chunks ∙ has.listed j len ∙ sym (numbers_listed dims j near len rows inside))

  -- whichever test chooses those that are wanted
  pub told_where : (chosen : ChunkNumber → Bool) → IsValid leaf.schema → NumbersRise (items_of chunks) → AreNumbersIn db leaf chunks
      → asking_where chosen (chunks_among dims chunks) ≡ asking_where chosen (numbers_of dims rows)
  told_where chosen valid rise told =
      let has : HasArray leaf rows chunks = told valid in
      let asked : length (filter chosen (chunks_among dims chunks)) ≡ length (filter chosen (numbers_of dims rows))
      = chosen_total chosen (chunks_among dims chunks) ∙ same_sum (one_if chosen) rise has ∙ sym (chosen_total chosen (numbers_of dims rows)) in
      let stored : length (chunks_among dims chunks) ≡ length (numbers_of dims rows)
      = one_each (chunks_among dims chunks) ∙ same_sum (λ k. 1) rise has ∙ sym (one_each (numbers_of dims rows)) in
      λ i. these (asked i) (stored i)

  pub told_asking : (area : Bounds) → IsValid leaf.schema → NumbersRise (items_of chunks) → AreNumbersIn db leaf chunks
      → asking_where (core_meets dims area) (chunks_among dims chunks) ≡ asking_in db leaf area
  told_asking area valid rise told = told_where (core_meets dims area) valid rise told

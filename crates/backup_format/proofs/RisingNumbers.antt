-- The rising numbers of the chunks of rows are the only ones that list just the chunks whose core holds a row.
use Rattle.std.proofs.Common.{◌≡◌, ◌∙◌, ℕ, Bool, true, false, cond, ◌||◌, List, [], ◌∷◌, length, refl, sym, ap, subst, arith}
use Rattle.std.specs.Prelude.{◌==◌}
use Rattle.std.specs.List.{AllByRecursion, filter}
use Rattle.std.specs.Ordering.{is_eq, ordering_reverse}
use Rattle.std.specs.declared.cmp.Ordering.{Ordering}
use Rattle.std.specs.declared.cmp.Ordering.TheVariants.{Less, Equal, Greater}
use Rattle.std.proofs.lemmas.Bool.{eqb-true}
use Rattle.arrayvec.specs.ArrayVec.{ArrayVec}
use Rattle.cell_values.specs.declared.datum.Row.{Row}
use Rattle.cell_values.specs.declared.schema.Dimension.{Dimension}
use Rattle.cell_values.specs.declared.schema.Schema.{Schema}
use Rattle.array_rows.specs.Arrays.{AreRowsOf}
use Rattle.array_rows.specs.Boxes.{is_inside, within, bounds_of}
use Rattle.array_rows.specs.Rows.{Coordinate}
use Rattle.array_geom.specs.Geometry.{ChunkNumber, chunk_of, core}
use Rattle.array_geom.specs.Inner.Ranges.{AreNear}
use Rattle.array_geom.specs.Link.{number_order, NumbersRise, is_listed, is_not_empty, has_cell}
use Rattle.array_geom.proofs.CoreLaws.{core_has, core_of, length-chunk_of}
use Rattle.array_geom.proofs.NearLemmas.{valid_placed}
use Rattle.array_geom.proofs.NumberLaws.{is_equal, same_number}
use Rattle.std.proofs.lemmas.Cmp.{nat_list_cmp_total}
use Rattle.chunk_source.specs.Source.{numbers_of}
use Rattle.backup_format.specs.Pieces.{with_number_by, with_number, rising_numbers}

abbrev pub same : ChunkNumber → ChunkNumber → Bool
same a b = is_eq (number_order a b)

like_itself : (t : Ordering) → t ≡ ordering_reverse t → is_eq t ≡ true
like_itself Less e = absurd cc
like_itself Equal e = refl
like_itself Greater e = absurd cc

pub same_itself : (k : ChunkNumber) → same k k ≡ true
same_itself k = like_itself (number_order k k) (nat_list_cmp_total.antisymm k k)

pub are_same : (a b : ChunkNumber) → same a b ≡ true → a ≡ b
are_same a b is = same_number a b (is_equal (number_order a b) is)

turned : (a b : ChunkNumber) → number_order a b ≡ Greater → number_order b a ≡ Less
turned a b e = nat_list_cmp_total.antisymm b a ∙ ap ordering_reverse e

abbrev AllAfter : ChunkNumber → List ChunkNumber → Type 0
AllAfter k ks = AllByRecursion (λ later. number_order k later ≡ Less) ks

after-trans : (a b : ChunkNumber) (ks : List ChunkNumber) → number_order a b ≡ Less → AllAfter b ks → AllAfter a ks
after-trans a b [] less all = tt
after-trans a b (k ∷ ks) less all = (nat_list_cmp_total.trans a b k less all.0, after-trans a b ks less all.1)

-- ---- one number more

or_twice : (a b : Bool) → (a || b) ≡ (a || (a || b))
or_twice true b = refl
or_twice false b = refl

or_swap : (a b c : Bool) → (a || (b || c)) ≡ (b || (a || c))
or_swap true true c = refl
or_swap true false c = refl
or_swap false true c = refl
or_swap false false c = refl

listed_with : (j k : ChunkNumber) (ks : List ChunkNumber) → is_listed j (with_number k ks) ≡ (same k j || is_listed j ks)
listed_with j k [] = refl
listed_with j k (n ∷ ns) = by_order (number_order k n) refl (listed_with j k ns)
  where
    by_order : (o : Ordering) → number_order k n ≡ o → is_listed j (with_number k ns) ≡ (same k j || is_listed j ns) → is_listed j (with_number_by o k n ns (with_number k ns)) ≡ (same k j || (same n j || is_listed j ns))
    by_order Less e later = refl
    by_order Equal e later = or_twice (same n j) (is_listed j ns) ∙ ap (λ (m : ChunkNumber). same m j || (same n j || is_listed j ns)) (sym (same_number k n e))
    by_order Greater e later = ap (λ (b : Bool). same n j || b) later ∙ or_swap (same n j) (same k j) (is_listed j ns)

after_with : (m k : ChunkNumber) (ks : List ChunkNumber) → number_order m k ≡ Less → AllAfter m ks → AllAfter m (with_number k ks)
after_with m k [] less all = (less, tt)
after_with m k (n ∷ ns) less all = by_order (number_order k n) (after_with m k ns less all.1)
  where
    by_order : (o : Ordering) → AllAfter m (with_number k ns) → AllAfter m (with_number_by o k n ns (with_number k ns))
    by_order Less later = (less, all)
    by_order Equal later = all
    by_order Greater later = (all.0, later)

rises_with : (k : ChunkNumber) (ks : List ChunkNumber) → NumbersRise ks → NumbersRise (with_number k ks)
rises_with k [] rise = (tt, tt)
rises_with k (n ∷ ns) rise = by_order (number_order k n) refl (rises_with k ns rise.1)
  where
    by_order : (o : Ordering) → number_order k n ≡ o → NumbersRise (with_number k ns) → NumbersRise (with_number_by o k n ns (with_number k ns))
    by_order Less e later = ((e, after-trans k n ns e rise.0), rise)
    by_order Equal e later = rise
    by_order Greater e later = (after_with n k ns (turned k n e) rise.0, later)

abbrev pub AreSized : ℕ → List ChunkNumber → Type 0
AreSized n = AllByRecursion (λ k. length k ≡ n)

sized_with : (n : ℕ) (k : ChunkNumber) (ks : List ChunkNumber) → length k ≡ n → AreSized n ks → AreSized n (with_number k ks)
sized_with n k [] len all = (len, tt)
sized_with n k (m ∷ ms) len all = by_order (number_order k m) (sized_with n k ms len all.1)
  where
    by_order : (o : Ordering) → AreSized n (with_number k ms) → AreSized n (with_number_by o k m ms (with_number k ms))
    by_order Less later = (len, all)
    by_order Equal later = all
    by_order Greater later = (all.0, later)

-- ---- the numbers of rows

abbrev pub InBounds : List Dimension → List Row → Type 0
InBounds dims = AllByRecursion (λ row. is_inside (bounds_of dims) row.at.items ≡ true)

pub numbers_rise : (dims : List Dimension) (rows : List Row) → NumbersRise (rising_numbers dims rows)
numbers_rise dims [] = tt
numbers_rise dims (row ∷ rows) = rises_with (chunk_of dims row.at.items) (rising_numbers dims rows) (numbers_rise dims rows)

pub numbers_sized : (dims : List Dimension) (rows : List Row) → InBounds dims rows → AreSized (length dims) (rising_numbers dims rows)
numbers_sized dims [] all = tt
numbers_sized dims (row ∷ rows) all = sized_with (length dims) (chunk_of dims row.at.items) (rising_numbers dims rows) (length-chunk_of dims row.at.items all.0) (numbers_sized dims rows all.1)

core_is_its_own : (dims : List Dimension) (j : ChunkNumber) (c : Coordinate) → AreNear dims → length j ≡ length dims → is_inside (bounds_of dims) c ≡ true → same (chunk_of dims c) j ≡ is_inside (core dims j) c
core_is_its_own dims j c near len inside = by_tests (same (chunk_of dims c) j) (is_inside (core dims j) c) refl refl
  where
    by_tests : (b d : Bool) → same (chunk_of dims c) j ≡ b → is_inside (core dims j) c ≡ d → b ≡ d
    by_tests true true e f = refl
    by_tests false false e f = refl
    by_tests true false e f =
        let its : is_inside (core dims j) c ≡ true = subst (λ (k : ChunkNumber). is_inside (core dims k) c ≡ true) (are_same (chunk_of dims c) j e) (core_has dims c near inside) in
        absurd cc
    by_tests false true e f =
        let its : same (chunk_of dims c) j ≡ true = subst (λ (k : ChunkNumber). same k j ≡ true) (core_of dims j c near len f) (same_itself j) in
        absurd cc

not_empty_by : (t : Bool) (row : Row) (part : List Row) → is_not_empty (cond t (row ∷ part) part) ≡ (t || is_not_empty part)
not_empty_by true row part = refl
not_empty_by false row part = refl

pub numbers_listed : (dims : List Dimension) (j : ChunkNumber) → AreNear dims → length j ≡ length dims → (rows : List Row) → InBounds dims rows → is_listed j (rising_numbers dims rows) ≡ has_cell dims rows j
numbers_listed dims j near len [] all = refl
numbers_listed dims j near len (row ∷ rows) all =
    listed_with j (chunk_of dims row.at.items) (rising_numbers dims rows)
    ∙ ap (λ (b : Bool). b || is_listed j (rising_numbers dims rows)) (core_is_its_own dims j row.at.items near len all.0)
    ∙ ap (λ (b : Bool). is_inside (core dims j) row.at.items || b) (numbers_listed dims j near len rows all.1)
    ∙ sym (not_empty_by (is_inside (core dims j) row.at.items) row (within (core dims j) rows))

-- ---- rising numbers that list alike

not_equal : (t : Ordering) → t ≡ Greater → is_eq t ≡ false
not_equal t e = ap is_eq e

none_after : (k : ChunkNumber) (ks : List ChunkNumber) → AllAfter k ks → is_listed k ks ≡ false
none_after k [] all = refl
none_after k (n ∷ ns) all =
    let greater : number_order n k ≡ Greater = nat_list_cmp_total.antisymm n k ∙ ap ordering_reverse all.0 in
    ap (λ (b : Bool). b || is_listed k ns) (not_equal (number_order n k) greater) ∙ none_after k ns all.1

pub first_listed : (k : ChunkNumber) (ks : List ChunkNumber) → is_listed k (k ∷ ks) ≡ true
first_listed k ks = ap (λ (b : Bool). b || is_listed k ks) (same_itself k)

never : true ≡ false → ⊥
never e = cc

-- behind the first ones, which are the same, they list alike
rest_listed : (x k : ChunkNumber) (a b : List ChunkNumber) → AllAfter x a → AllAfter x b → (same x k || is_listed k a) ≡ (same x k || is_listed k b) → is_listed k a ≡ is_listed k b
rest_listed x k a b all all' e = by_test (same x k) refl e
  where
    by_test : (t : Bool) → same x k ≡ t → (t || is_listed k a) ≡ (t || is_listed k b) → is_listed k a ≡ is_listed k b
    by_test true is e =
        let at = are_same x k is in
        subst (λ (j : ChunkNumber). is_listed j a ≡ is_listed j b) at (none_after x a all ∙ sym (none_after x b all'))
    by_test false is e = e

pub alike : (n : ℕ) (a b : List ChunkNumber) → NumbersRise a → NumbersRise b → AreSized n a → AreSized n b → ((k : ChunkNumber) → length k ≡ n → is_listed k a ≡ is_listed k b) → a ≡ b
alike n [] [] rise rise' sized sized' same_lists = refl
alike n [] (y ∷ b) rise rise' sized sized' same_lists = absurd (never (sym (first_listed y b) ∙ sym (same_lists y sized'.0)))
alike n (x ∷ a) [] rise rise' sized sized' same_lists = absurd (never (sym (first_listed x a) ∙ same_lists x sized.0))
alike n (x ∷ a) (y ∷ b) rise rise' sized sized' same_lists = by_order (number_order x y) refl (λ lists. alike n a b rise.1 rise'.1 sized.1 sized'.1 lists)
  where
    by_order : (o : Ordering) → number_order x y ≡ o → (((k : ChunkNumber) → length k ≡ n → is_listed k a ≡ is_listed k b) → a ≡ b) → x ∷ a ≡ y ∷ b
    by_order Less e later = absurd (never (sym (first_listed x a) ∙ same_lists x sized.0 ∙ none_after x (y ∷ b) (e, after-trans x y b e rise'.0)))
    by_order Equal e later =
        let at : x ≡ y = same_number x y e in
        let all : AllAfter x b = subst (λ (k : ChunkNumber). AllAfter k b) (sym at) rise'.0 in
        let rest : a ≡ b = later (λ k len. rest_listed x k a b rise.0 all (same_lists k len ∙ ap (λ (m : ChunkNumber). same m k || is_listed k b) (sym at))) in
        ap (λ (ks : List ChunkNumber). x ∷ ks) rest ∙ ap (λ (k : ChunkNumber). k ∷ b) at
    by_order Greater e later =
        let less = turned x y e in
        absurd (never (sym (first_listed y b) ∙ sym (same_lists y sized'.0) ∙ none_after y (x ∷ a) (less, after-trans y x a less rise.0)))

pub the_only : (schema : Schema) (rows : List Row) (ks : List ChunkNumber) → AreRowsOf schema rows → NumbersRise ks → AreSized (length schema.dimensions) ks
    → ((k : ChunkNumber) → length k ≡ length schema.dimensions → is_listed k ks ≡ has_cell schema.dimensions rows k) → ks ≡ rising_numbers schema.dimensions rows
the_only schema rows ks are rise sized listed =
    let dims = schema.dimensions in
    let near = (valid_placed schema are.valid).near in
    alike (length dims) ks (rising_numbers dims rows) rise (numbers_rise dims rows) sized (numbers_sized dims rows are.are_rows.in_bounds)
    (λ k len. listed k len ∙ sym (numbers_listed dims k near len rows are.are_rows.in_bounds))

-- ---- numbers that are kept by their length

same_count : (m : ℕ) → (m == m) ≡ true
same_count m = grind arith

abbrev is_long : ℕ → ArrayVec ℕ → Bool
is_long n at = length at.items == n

kept_after : (n : ℕ) (k : ChunkNumber) (ats : List (ArrayVec ℕ)) → AllAfter k (numbers_of ats) → AllAfter k (numbers_of (filter (is_long n) ats))
kept_after n k [] all = tt
kept_after n k (at ∷ ats) all = by_test (is_long n at) (kept_after n k ats all.1)
  where
    by_test : (b : Bool) → AllAfter k (numbers_of (filter (is_long n) ats)) → AllAfter k (numbers_of (cond b (at ∷ filter (is_long n) ats) (filter (is_long n) ats)))
    by_test true later = (all.0, later)
    by_test false later = later

pub kept_rise : (n : ℕ) (ats : List (ArrayVec ℕ)) → NumbersRise (numbers_of ats) → NumbersRise (numbers_of (filter (is_long n) ats))
kept_rise n [] rise = tt
kept_rise n (at ∷ ats) rise = by_test (is_long n at) (kept_rise n ats rise.1)
  where
    by_test : (b : Bool) → NumbersRise (numbers_of (filter (is_long n) ats)) → NumbersRise (numbers_of (cond b (at ∷ filter (is_long n) ats) (filter (is_long n) ats)))
    by_test true later = (kept_after n at.items ats rise.0, later)
    by_test false later = later

pub kept_sized : (n : ℕ) (ats : List (ArrayVec ℕ)) → AreSized n (numbers_of (filter (is_long n) ats))
kept_sized n [] = tt
kept_sized n (at ∷ ats) = by_test (is_long n at) refl (kept_sized n ats)
  where
    by_test : (b : Bool) → is_long n at ≡ b → AreSized n (numbers_of (filter (is_long n) ats)) → AreSized n (numbers_of (cond b (at ∷ filter (is_long n) ats) (filter (is_long n) ats)))
    by_test true is later = (eqb-true (length at.items) n is, later)
    by_test false is later = later

pub kept_listed : (n : ℕ) (k : ChunkNumber) (ats : List (ArrayVec ℕ)) → length k ≡ n → is_listed k (numbers_of (filter (is_long n) ats)) ≡ is_listed k (numbers_of ats)
kept_listed n k [] len = refl
kept_listed n k (at ∷ ats) len = by_test (is_long n at) (same at.items k) refl refl (kept_listed n k ats len)
  where
    by_test : (b t : Bool) → is_long n at ≡ b → same at.items k ≡ t → is_listed k (numbers_of (filter (is_long n) ats)) ≡ is_listed k (numbers_of ats)
        → is_listed k (numbers_of (cond b (at ∷ filter (is_long n) ats) (filter (is_long n) ats))) ≡ (t || is_listed k (numbers_of ats))
    by_test true t is like later = ap (λ (c : Bool). c || is_listed k (numbers_of (filter (is_long n) ats))) like ∙ ap (λ (c : Bool). t || c) later
    by_test false false is like later = later
    by_test false true is like later =
        let long : is_long n at ≡ true = ap (λ (j : ChunkNumber). length j == n) (are_same at.items k like) ∙ ap (λ (m : ℕ). m == n) len ∙ same_count n in
        absurd (never (sym long ∙ is))

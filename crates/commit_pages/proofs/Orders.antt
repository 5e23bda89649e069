-- Sums over the numbers of chunks are the same in whichever order they are listed.
use Rattle.std.proofs.Common.{◌≡◌, ◌∙◌, ℕ, ◌+◌, Bool, true, false, cond, not, ◌&&◌, ◌||◌, List, [], ◌∷◌, length, refl, sym, ap, subst, arith}
use Rattle.std.specs.List.{AllByRecursion, filter}
use Rattle.std.specs.Ordering.{is_eq, ordering_reverse}
use Rattle.std.specs.declared.cmp.Ordering.{Ordering}
use Rattle.std.specs.declared.cmp.Ordering.TheVariants.{Less, Equal, Greater}
use Rattle.cell_values.specs.declared.datum.Row.{Row}
use Rattle.cell_values.specs.declared.schema.Dimension.{Dimension}
use Rattle.cell_values.specs.declared.schema.Schema.{Schema}
use Rattle.array_rows.specs.Arrays.{AreRowsOf}
use Rattle.array_rows.specs.Boxes.{is_inside, within, bounds_of}
use Rattle.array_rows.specs.Rows.{Coordinate}
use Rattle.chunk_rle.specs.Geometry.{ChunkNumber, chunk_of, core}
use Rattle.chunk_rle.specs.Ranges.{AreNear}
use Rattle.chunk_rle.specs.Link.{number_order, NumbersRise, is_listed, is_not_empty, has_cell}
use Rattle.chunk_rle.proofs.CoreLaws.{core_has, core_of, length-chunk_of}
use Rattle.chunk_rle.proofs.NearLemmas.{valid_placed}
use Rattle.chunk_rle.proofs.NumberLaws.{is_equal, same_number}
use Rattle.chunk_map.proofs.Moves.{number_order_total}
use Rattle.file_items.specs.Pages.{pages_needed}
use Rattle.commit_pages.specs.Costs.{with_number, numbers_of, payload_length, payload_pages, touched}
use Rattle.commit_pages.specs.Lengths.{AreListed, meets, StoredPagesAreTold, WrittenPagesAreTold}

-- ---- numbers that compare alike

abbrev same : ChunkNumber → ChunkNumber → Bool
same a b = is_eq (number_order a b)

like_itself : (t : Ordering) → t ≡ ordering_reverse t → is_eq t ≡ true
like_itself Less e = absurd cc
like_itself Equal e = refl
like_itself Greater e = absurd cc

same_itself : (k : ChunkNumber) → same k k ≡ true
same_itself k = like_itself (number_order k k) (number_order_total.antisymm k k)

are_same : (a b : ChunkNumber) → same a b ≡ true → a ≡ b
are_same a b is = same_number a b (is_equal (number_order a b) is)

-- ---- lists without a number twice

abbrev pub NoneTwice : List ChunkNumber → Type 0
NoneTwice [] = Unit {0}
NoneTwice (k ∷ ks) = (is_listed k ks ≡ false) × NoneTwice ks

abbrev pub AreSized : ℕ → List ChunkNumber → Type 0
AreSized n = AllByRecursion (λ k. length k ≡ n)

unfoldable pub total : (ChunkNumber → ℕ) → List ChunkNumber → ℕ
total f [] = 0
total f (k ∷ ks) = f k + total f ks

less : ChunkNumber → List ChunkNumber → List ChunkNumber
less k [] = []
less k (x ∷ xs) = cond (same x k) xs (x ∷ less k xs)

total_less : (f : ChunkNumber → ℕ) (k : ChunkNumber) (ks : List ChunkNumber) → is_listed k ks ≡ true → total f ks ≡ f k + total f (less k ks)
unfolding total less
total_less f k [] is = absurd cc
total_less f k (x ∷ xs) is = by_test (same x k) refl is (total_less f k xs)
  where
    by_test : (b : Bool) → same x k ≡ b → (b || is_listed k xs) ≡ true → (is_listed k xs ≡ true → total f xs ≡ f k + total f (less k xs)) → f x + total f xs ≡ f k + total f (cond b xs (x ∷ less k xs))
    by_test true e it later = ap (λ (n : ChunkNumber). f n + total f xs) (are_same x k e)
    by_test false e it later = let rest = later it in omega (arith, rest)

listed_less : (j k : ChunkNumber) (ks : List ChunkNumber) → NoneTwice ks → is_listed j (less k ks) ≡ (is_listed j ks && not (same k j))
unfolding less
listed_less j k [] none = refl
listed_less j k (x ∷ xs) none = by_tests (same x k) (same x j) refl refl none.0 (listed_less j k xs none.1)
  where
    by_tests : (b c : Bool) → same x k ≡ b → same x j ≡ c → is_listed x xs ≡ false → is_listed j (less k xs) ≡ (is_listed j xs && not (same k j))
        → is_listed j (cond b xs (x ∷ less k xs)) ≡ ((c || is_listed j xs) && not (same k j))
    by_tests true true e f none later =
        let xk : x ≡ k = are_same x k e in
        let xj : x ≡ j = are_same x j f in
        let kj : same k j ≡ true = ap (λ (n : ChunkNumber). same n j) (sym xk) ∙ f in
        subst (λ (n : ChunkNumber). is_listed n xs ≡ false) xj none ∙ sym (ap not kj)
    by_tests true false e f none later =
        let xk : x ≡ k = are_same x k e in
        let kj : same k j ≡ false = ap (λ (n : ChunkNumber). same n j) (sym xk) ∙ f in
        and_true (is_listed j xs) ∙ sym (ap (λ (b : Bool). is_listed j xs && not b) kj)
      where
        and_true : (b : Bool) → b ≡ (b && true)
        and_true true = refl
        and_true false = refl
    by_tests false true e f none later =
        let xj : x ≡ j = are_same x j f in
        let kj : same k j ≡ false = differ k j (same k j) refl (subst (λ (n : ChunkNumber). same n k ≡ false) xj e) in
        ap (λ (b : Bool). b || is_listed j (less k xs)) f ∙ sym (ap not kj)
      where
        differ : (a b : ChunkNumber) (t : Bool) → same a b ≡ t → same b a ≡ false → t ≡ false
        differ a b false is e = refl
        differ a b true is e = let again : same b b ≡ false = ap (same b) (sym (are_same a b is)) ∙ e in absurd (let yes = same_itself b in cc)
    by_tests false false e f none later = ap (λ (b : Bool). b || is_listed j (less k xs)) f ∙ later

none_less : (k : ChunkNumber) (ks : List ChunkNumber) → NoneTwice ks → NoneTwice (less k ks)
unfolding less
none_less k [] none = tt
none_less k (x ∷ xs) none = by_test (same x k) (none_less k xs none.1)
  where
    by_test : (b : Bool) → NoneTwice (less k xs) → NoneTwice (cond b xs (x ∷ less k xs))
    by_test true later = none.1
    by_test false later = (listed_less x k xs none.1 ∙ ap (λ (b : Bool). b && not (same k x)) none.0, later)

sized_less : (n : ℕ) (k : ChunkNumber) (ks : List ChunkNumber) → AreSized n ks → AreSized n (less k ks)
unfolding less
sized_less n k [] all = tt
sized_less n k (x ∷ xs) all = by_test (same x k) (sized_less n k xs all.1)
  where
    by_test : (b : Bool) → AreSized n (less k xs) → AreSized n (cond b xs (x ∷ less k xs))
    by_test true later = all.1
    by_test false later = (all.0, later)

-- the same numbers, each once, have the same total
pub same_total : (f : ChunkNumber → ℕ) (n : ℕ) (ks ls : List ChunkNumber) → NoneTwice ks → NoneTwice ls → AreSized n ks → AreSized n ls → ((j : ChunkNumber) → length j ≡ n → is_listed j ks ≡ is_listed j ls) → total f ks ≡ total f ls
unfolding total
same_total f n [] [] nk nl sk sl alike = refl
same_total f n [] (x ∷ ls) nk nl sk sl alike =
    let nowhere : false ≡ (same x x || is_listed x ls) = alike x sl.0 in
    let there : (same x x || is_listed x ls) ≡ true = ap (λ (b : Bool). b || is_listed x ls) (same_itself x) in
    absurd cc
same_total f n (k ∷ ks) ls nk nl sk sl alike =
    let there : is_listed k ls ≡ true = sym (alike k sk.0) ∙ ap (λ (b : Bool). b || is_listed k ks) (same_itself k) in
    let rest : total f ks ≡ total f (less k ls) = same_total f n ks (less k ls) nk.1 (none_less k ls nl) sk.1 (sized_less n k ls sl) (λ j len. others j len (same k j) refl) in
    let split : total f ls ≡ f k + total f (less k ls) = total_less f k ls there in
    ap (λ (m : ℕ). f k + m) rest ∙ sym split
  where
    others : (j : ChunkNumber) → length j ≡ n → (b : Bool) → same k j ≡ b → is_listed j ks ≡ is_listed j (less k ls)
    others j len true is =
        let kj : k ≡ j = are_same k j is in
        subst (λ (m : ChunkNumber). is_listed m ks ≡ false) kj nk.0 ∙ sym (listed_less j k ls nl ∙ ap (λ (b : Bool). is_listed j ls && not b) is ∙ and_false (is_listed j ls))
      where
        and_false : (b : Bool) → (b && false) ≡ false
        and_false true = refl
        and_false false = refl
    others j len false is =
        let listed : (same k j || is_listed j ks) ≡ is_listed j ls = alike j len in
        ap (λ (b : Bool). b || is_listed j ks) (sym is) ∙ listed ∙ and_true (is_listed j ls) ∙ ap (λ (b : Bool). is_listed j ls && not b) (sym is) ∙ sym (listed_less j k ls nl)
      where
        and_true : (b : Bool) → b ≡ (b && true)
        and_true true = refl
        and_true false = refl

-- ---- rising numbers

none_later : (k : ChunkNumber) (ks : List ChunkNumber) → AllByRecursion (λ later. number_order k later ≡ Less) ks → is_listed k ks ≡ false
none_later k [] all = refl
none_later k (x ∷ ks) all = ap (λ (b : Bool). b || is_listed k ks) (ap is_eq (number_order_total.antisymm x k ∙ ap ordering_reverse all.0)) ∙ none_later k ks all.1

pub none_twice : (ks : List ChunkNumber) → NumbersRise ks → NoneTwice ks
none_twice [] rise = tt
none_twice (k ∷ ks) rise = (none_later k ks rise.0, none_twice ks rise.1)

-- ---- the numbers of the chunks of rows

with_once : (k : ChunkNumber) (ks : List ChunkNumber) → NoneTwice ks → NoneTwice (with_number k ks)
with_once k ks none = by_test (is_listed k ks) refl
  where
    by_test : (b : Bool) → is_listed k ks ≡ b → NoneTwice (cond b ks (k ∷ ks))
    by_test true is = none
    by_test false is = (is, none)

pub each_once : (dims : List Dimension) (rows : List Row) → NoneTwice (numbers_of dims rows)
each_once dims [] = tt
each_once dims (row ∷ rows) = with_once (chunk_of dims row.at.items) (numbers_of dims rows) (each_once dims rows)

with_listed : (j k : ChunkNumber) (ks : List ChunkNumber) → is_listed j (with_number k ks) ≡ (same k j || is_listed j ks)
with_listed j k ks = by_tests (is_listed k ks) (same k j) refl refl
  where
    by_tests : (b c : Bool) → is_listed k ks ≡ b → same k j ≡ c → is_listed j (cond b ks (k ∷ ks)) ≡ (c || is_listed j ks)
    by_tests true true is e = subst (λ (n : ChunkNumber). is_listed n ks ≡ true) (are_same k j e) is
    by_tests true false is e = refl
    by_tests false c is e = ap (λ (b : Bool). b || is_listed j ks) e

with_sized : (n : ℕ) (k : ChunkNumber) (ks : List ChunkNumber) → length k ≡ n → AreSized n ks → AreSized n (with_number k ks)
with_sized n k ks len all = by_test (is_listed k ks)
  where
    by_test : (b : Bool) → AreSized n (cond b ks (k ∷ ks))
    by_test true = all
    by_test false = (len, all)

abbrev InBounds : List Dimension → List Row → Type 0
InBounds dims = AllByRecursion (λ row. is_inside (bounds_of dims) row.at.items ≡ true)

pub all_sized : (dims : List Dimension) (rows : List Row) → InBounds dims rows → AreSized (length dims) (numbers_of dims rows)
all_sized dims [] all = tt
all_sized dims (row ∷ rows) all = with_sized (length dims) (chunk_of dims row.at.items) (numbers_of dims rows) (length-chunk_of dims row.at.items all.0) (all_sized dims rows all.1)

-- a chunk is that of a coordinate just where its core holds it
core_is_its_own : (dims : List Dimension) (j : ChunkNumber) (c : Coordinate) → AreNear dims → length j ≡ length dims → is_inside (bounds_of dims) c ≡ true → same (chunk_of dims c) j ≡ is_inside (core dims j) c
core_is_its_own dims j c near len inside = by_tests (same (chunk_of dims c) j) (is_inside (core dims j) c) refl refl
  where
    by_tests : (b d : Bool) → same (chunk_of dims c) j ≡ b → is_inside (core dims j) c ≡ d → b ≡ d
    by_tests true true e f = refl
    by_tests false false e f = refl
    by_tests true false e f =
        let its : is_inside (core dims j) c ≡ true = subst (λ (k : ChunkNumber). is_inside (core dims k) c ≡ true) (are_same (chunk_of dims c) j e) (core_has dims c near inside) in
        absurd cc
    by_tests false true e f =
        let its : same (chunk_of dims c) j ≡ true = subst (λ (k : ChunkNumber). same k j ≡ true) (core_of dims j c near len f) (same_itself j) in
        absurd cc

not_empty_by : (t : Bool) (row : Row) (part : List Row) → is_not_empty (cond t (row ∷ part) part) ≡ (t || is_not_empty part)
not_empty_by true row part = refl
not_empty_by false row part = refl

pub numbers_listed : (dims : List Dimension) (j : ChunkNumber) → AreNear dims → length j ≡ length dims → (rows : List Row) → InBounds dims rows → is_listed j (numbers_of dims rows) ≡ has_cell dims rows j
numbers_listed dims j near len [] all = refl
numbers_listed dims j near len (row ∷ rows) all =
    with_listed j (chunk_of dims row.at.items) (numbers_of dims rows)
    ∙ ap (λ (b : Bool). b || is_listed j (numbers_of dims rows)) (core_is_its_own dims j row.at.items near len all.0)
    ∙ ap (λ (b : Bool). is_inside (core dims j) row.at.items || b) (numbers_listed dims j near len rows all.1)
    ∙ sym (not_empty_by (is_inside (core dims j) row.at.items) row (within (core dims j) rows))

-- ---- numbers that a test chooses

listed_chosen : (t : ChunkNumber → Bool) (j : ChunkNumber) (ks : List ChunkNumber) → is_listed j (filter t ks) ≡ (is_listed j ks && t j)
listed_chosen t j [] = refl
listed_chosen t j (k ∷ ks) = by_tests (t k) (same k j) refl refl (listed_chosen t j ks)
  where
    by_tests : (b c : Bool) → t k ≡ b → same k j ≡ c → is_listed j (filter t ks) ≡ (is_listed j ks && t j) → is_listed j (cond b (k ∷ filter t ks) (filter t ks)) ≡ ((c || is_listed j ks) && t j)
    by_tests true true chosen is later =
        let its : t j ≡ true = subst (λ (n : ChunkNumber). t n ≡ true) (are_same k j is) chosen in
        ap (λ (b : Bool). b || is_listed j (filter t ks)) is ∙ sym its
    by_tests true false chosen is later = ap (λ (b : Bool). b || is_listed j (filter t ks)) is ∙ later
    by_tests false true chosen is later =
        let its : t j ≡ false = subst (λ (n : ChunkNumber). t n ≡ false) (are_same k j is) chosen in
        later ∙ ap (λ (b : Bool). is_listed j ks && b) its ∙ and_false (is_listed j ks) ∙ sym its
      where
        and_false : (b : Bool) → (b && false) ≡ false
        and_false true = refl
        and_false false = refl
    by_tests false false chosen is later = later

chosen_once : (t : ChunkNumber → Bool) (ks : List ChunkNumber) → NoneTwice ks → NoneTwice (filter t ks)
chosen_once t [] none = tt
chosen_once t (k ∷ ks) none = by_test (t k) (chosen_once t ks none.1)
  where
    by_test : (b : Bool) → NoneTwice (filter t ks) → NoneTwice (cond b (k ∷ filter t ks) (filter t ks))
    by_test true later = (listed_chosen t k ks ∙ ap (λ (b : Bool). b && t k) none.0, later)
    by_test false later = later

chosen_sized : (t : ChunkNumber → Bool) (n : ℕ) (ks : List ChunkNumber) → AreSized n ks → AreSized n (filter t ks)
chosen_sized t n [] all = tt
chosen_sized t n (k ∷ ks) all = by_test (t k) (chosen_sized t n ks all.1)
  where
    by_test : (b : Bool) → AreSized n (filter t ks) → AreSized n (cond b (k ∷ filter t ks) (filter t ks))
    by_test true later = (all.0, later)
    by_test false later = later

-- ---- pages of payloads

abbrev pages_of : Schema → List Row → ChunkNumber → ℕ
pages_of schema rows k = pages_needed (payload_length schema rows k)

pages_are_total : (schema : Schema) (rows : List Row) (ks : List ChunkNumber) → payload_pages schema rows ks ≡ total (pages_of schema rows) ks
unfolding total
pages_are_total schema rows [] = refl
pages_are_total schema rows (k ∷ ks) = ap (λ (n : ℕ). pages_of schema rows k + n) (pages_are_total schema rows ks)

-- the chunks of rows, listed in another way, have the same total
pub any_order : (f : ChunkNumber → ℕ) (schema : Schema) (rows : List Row) (ks : List ChunkNumber) → AreRowsOf schema rows → AreListed schema.dimensions (has_cell schema.dimensions rows) ks
    → total f ks ≡ total f (numbers_of schema.dimensions rows)
any_order f schema rows ks are listed =
    let dims = schema.dimensions in
    let near = (valid_placed schema are.valid).near in
    same_total f (length dims) ks (numbers_of dims rows) (none_twice ks listed.rising) (each_once dims rows) listed.sized (all_sized dims rows are.are_rows.in_bounds)
    (λ j len. listed.listed j len ∙ sym (numbers_listed dims j near len rows are.are_rows.in_bounds))

pub stored_pages : StoredPagesAreTold
stored_pages schema rows ks are listed =
    pages_are_total schema rows ks ∙ any_order (pages_of schema rows) schema rows ks are listed ∙ sym (pages_are_total schema rows (numbers_of schema.dimensions rows))

pub written_pages : WrittenPagesAreTold
written_pages schema rows input ks are listed =
    let dims = schema.dimensions in
    let near = (valid_placed schema are.valid).near in
    let all = numbers_of dims rows in
    pages_are_total schema rows ks
    ∙ same_total (pages_of schema rows) (length dims) ks (touched dims input all) (none_twice ks listed.rising) (chosen_once (meets dims input) all (each_once dims rows)) listed.sized
    (chosen_sized (meets dims input) (length dims) all (all_sized dims rows are.are_rows.in_bounds))
    (λ j len. listed.listed j len ∙ ap (λ (b : Bool). b && meets dims input j) (sym (numbers_listed dims j near len rows are.are_rows.in_bounds)) ∙ sym (listed_chosen (meets dims input) j all))
    ∙ sym (pages_are_total schema rows (touched dims input all))

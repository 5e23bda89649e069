-- The rows of bands of chunks, one band after the other.
use Rattle.std.proofs.Common.{◌≡◌, ℕ, zero, suc, ◌+◌, ◌-◌, ◌*◌, ◌<◌, ◌≤◌, ℤ, pos, ◌≤ℤ◌, ◌<ℤ◌, ◌+ℤ◌, int_le, ◌&&◌, Bool, true, false, cond, List, [], ◌∷◌, ◌++◌, length, get_or, take, drop, refl, sym, ap, ◌∙◌, subst, add-one, arith}
use Rattle.std.specs.Int.{int_min}
use Rattle.std.proofs.lemmas.Bool.{false≢true}
use Rattle.std.proofs.lemmas.Int.{ints, clamps}
use Rattle.std.proofs.lemmas.List.{append-nil, drop_all, take_all}
use Rattle.std.specs.Cmp.{int_cmp_is}
use Rattle.std.specs.List.{AllByRecursion}
use Rattle.std.specs.Ordering.{ordering_then}
use Rattle.std.specs.declared.cmp.Ordering.{Ordering}
use Rattle.std.specs.declared.cmp.Ordering.TheVariants.{Less, Equal, Greater}
use Rattle.cell_values.specs.declared.datum.Row.{Row}
use Rattle.cell_values.specs.declared.schema.Bounds.{Bounds}
use Rattle.cell_values.specs.declared.schema.Dimension.{Dimension}
use Rattle.cell_values.specs.declared.schema.Schema.{Schema}
use Rattle.cell_values.specs.Schemas.{IsValid}
use Rattle.array_rows.specs.Boxes.{is_inside, within}
use Rattle.array_rows.specs.Rows.{Coordinate, IsRising, put_all, put_by, put_row, row_major}
use Rattle.array_rows.proofs.RowSets.{put_all_left_first}
use Rattle.array_geom.specs.declared.chunk.Chunk.{Chunk}
use Rattle.array_geom.specs.Geometry.{ChunkNumber, core, first_in, has_core, last_in}
use Rattle.array_geom.specs.Inner.Ranges.{AreNear}
use Rattle.array_geom.proofs.NearLemmas.{valid_placed}
use Rattle.array_geom.specs.Link.{NumbersRise, chunk_rows, core_rows, number_order, numbers}
use Rattle.array_geom.proofs.TestLaws.{and_parts, le_from_test}
use Rattle.chunk_cells.proofs.MergeLaws.{IsRising-core_rows, put_all-none}
use Rattle.area_cells.specs.Inner.Apart.{BeginsBand, first_of}
use Rattle.area_cells.proofs.ApartLaws.{from_first, risen}
use Rattle.area_cells.proofs.CutLaws.{all_drop, all_take, both_sides, core_rows-append}

-- ---- what holds of all rows of cores

all_put_row : (P : Row → Type 0) (new : Row) (rows : List Row) → P new → AllByRecursion P rows → AllByRecursion P (put_row new rows)
all_put_row P new [] p a = (p, tt)
all_put_row P new (row ∷ rows) p a = cases (row_major new.at.items row.at.items) (all_put_row P new rows p a.1)
  where
    cases : (t : Ordering) → AllByRecursion P (put_row new rows) → AllByRecursion P (put_by t new row rows (put_row new rows))
    cases Less r = (p, a)
    cases Equal r = (p, a.1)
    cases Greater r = (a.0, r)

all_put_all : (P : Row → Type 0) (a b : List Row) → AllByRecursion P a → AllByRecursion P b → AllByRecursion P (put_all a b)
all_put_all P [] b p q = q
all_put_all P (row ∷ a) b p q = all_put_row P row (put_all a b) p.0 (all_put_all P a b p.1 q)

all_inside : (P : Row → Type 0) (area : Bounds) (rows : List Row) → ((row : Row) → is_inside area row.at.items ≡ true → P row) → AllByRecursion P (within area rows)
all_inside P area [] h = tt
all_inside P area (row ∷ rows) h = cases (is_inside area row.at.items) refl (all_inside P area rows h)
  where
    cases : (t : Bool) → is_inside area row.at.items ≡ t → AllByRecursion P (within area rows) → AllByRecursion P (cond t (row ∷ within area rows) (within area rows))
    cases true e r = (h row e, r)
    cases false e r = r

all_cores : (P : Row → Type 0) (dims : List Dimension) (margins : List ℕ) (chunks : List Chunk) → AllByRecursion (λ chunk. (row : Row) → is_inside (core dims chunk.at.items) row.at.items ≡ true → P row) chunks → AllByRecursion P (core_rows dims margins chunks)
all_cores P dims margins [] a = tt
all_cores P dims margins (chunk ∷ chunks) a =
    all_put_all P (within (core dims chunk.at.items) (chunk_rows dims margins chunk)) (core_rows dims margins chunks) (all_inside P (core dims chunk.at.items) (chunk_rows dims margins chunk) a.0) (all_cores P dims margins chunks a.1)

-- ---- rows below a number of the first dimension, and from it on

abbrev IsBelow : ℤ → Coordinate → Type 0
IsBelow t [] = ⊥
IsBelow t (x ∷ c) = x <ℤ t

abbrev IsFrom : ℤ → Coordinate → Type 0
IsFrom t [] = ⊥
IsFrom t (x ∷ c) = t ≤ℤ x

comes_before : (t : ℤ) (a b : Coordinate) → IsBelow t a → IsFrom t b → row_major a b ≡ Less
comes_before t [] b h g = absurd h
comes_before t (x ∷ a) [] h g = absurd g
comes_before t (x ∷ a) (y ∷ b) h g =
    let less : x <ℤ y = omega (arith, ints, h, g) in
    ap (λ (o : Ordering). ordering_then o (row_major a b)) (sym (int_cmp_is x y Less less))

one_after_the_other : (t : ℤ) (a b : List Row) → IsRising a → IsRising b → AllByRecursion (λ row. IsBelow t row.at.items) a → AllByRecursion (λ row. IsFrom t row.at.items) b → put_all a b ≡ a ++ b
one_after_the_other t [] b ra rb h g = refl
one_after_the_other t (x ∷ a) [] ra rb h g = put_all-none (x ∷ a) ra ∙ sym (append-nil (x ∷ a))
one_after_the_other t (x ∷ a) (y ∷ b) ra rb h g =
    put_all_left_first x a y b ra rb (comes_before t x.at.items y.at.items h.0 g.0) ∙ ap (λ (rows : List Row). x ∷ rows) (one_after_the_other t a (y ∷ b) ra.1 rb h.1 g)

further : (d : Dimension) (k l : ℕ) → k ≤ l → k * d.chunk ≤ l * d.chunk
further d k l h = grind arith

next_begins : (d : Dimension) (f : ℕ) → first_in d (suc f) ≡ d.lo +ℤ pos (f * d.chunk + d.chunk)
next_begins d f = ap (λ (n : ℕ). d.lo +ℤ pos n) (stepped f d.chunk)
  where
    stepped : (f c : ℕ) → suc f * c ≡ f * c + c
    stepped f c = grind arith

core_below : (d : Dimension) (dims : List Dimension) (k : ChunkNumber) (f : ℕ) (c : Coordinate) → 0 < d.chunk → has_core (d ∷ dims) k ≡ true → first_of k ≤ f → is_inside (core (d ∷ dims) k) c ≡ true → IsBelow (first_in d (suc f)) c
core_below d dims [] f c some e l h = absurd (false≢true e)
core_below d dims (k ∷ ks) f [] some e l h = absurd (false≢true h)
core_below d dims (k ∷ ks) f (x ∷ c) some e l h =
    let t = and_parts (int_le (first_in d k) x && int_le x (int_min d.hi (last_in d k))) (is_inside (core dims ks) c) h in
    let high = le_from_test x (int_min d.hi (last_in d k)) (and_parts (int_le (first_in d k) x) (int_le x (int_min d.hi (last_in d k))) t.0).1 in
    let more = further d k f l in
    let begins = next_begins d f in
    let below : x <ℤ (d.lo +ℤ pos (f * d.chunk + d.chunk)) = omega (arith, ints, clamps, high, more, some) in
    subst (λ (z : ℤ). x <ℤ z) (sym begins) below

core_from : (d : Dimension) (dims : List Dimension) (k : ChunkNumber) (f : ℕ) (c : Coordinate) → has_core (d ∷ dims) k ≡ true → f < first_of k → is_inside (core (d ∷ dims) k) c ≡ true → IsFrom (first_in d (suc f)) c
core_from d dims [] f c e l h = absurd (false≢true e)
core_from d dims (k ∷ ks) f [] e l h = absurd (false≢true h)
core_from d dims (k ∷ ks) f (x ∷ c) e l h =
    let t = and_parts (int_le (first_in d k) x && int_le x (int_min d.hi (last_in d k))) (is_inside (core dims ks) c) h in
    let low = le_from_test (first_in d k) x (and_parts (int_le (first_in d k) x) (int_le x (int_min d.hi (last_in d k))) t.0).0 in
    let more = further d (suc f) k (omega (arith, l)) in
    omega (arith, ints, low, more)

-- chunks of bands up to one, and chunks of later bands
pub bands_apart : (dims : List Dimension) (margins : List ℕ) (f : ℕ) (a b : List Chunk) → AllByRecursion (λ chunk. has_core dims chunk.at.items ≡ true) a → AllByRecursion (λ chunk. has_core dims chunk.at.items ≡ true) b
    → AllByRecursion (λ k. first_of k ≤ f) (numbers a) → AllByRecursion (λ k. f < first_of k) (numbers b) → ((d : Dimension) (ds : List Dimension) → dims ≡ d ∷ ds → 0 < d.chunk)
    → core_rows dims margins (a ++ b) ≡ core_rows dims margins a ++ core_rows dims margins b
bands_apart [] margins f a [] ha hb la lb some = ap (core_rows [] margins) (append-nil a) ∙ sym (append-nil (core_rows [] margins a))
bands_apart [] margins f a (chunk ∷ b) ha hb la lb some = absurd (none chunk.at.items hb.0 lb.0)
  where
    none : (k : ChunkNumber) → has_core [] k ≡ true → f < first_of k → ⊥
    none [] e l = omega (arith, l)
    none (k ∷ ks) e l = false≢true e
bands_apart (d ∷ dims) margins f a b ha hb la lb some =
    core_rows-append (d ∷ dims) margins a b
    ∙ one_after_the_other (first_in d (suc f)) (core_rows (d ∷ dims) margins a) (core_rows (d ∷ dims) margins b) (IsRising-core_rows (d ∷ dims) margins a) (IsRising-core_rows (d ∷ dims) margins b)
    (all_cores (λ row. IsBelow (first_in d (suc f)) row.at.items) (d ∷ dims) margins a (below a ha la))
    (all_cores (λ row. IsFrom (first_in d (suc f)) row.at.items) (d ∷ dims) margins b (from b hb lb))
  where
    below : (chunks : List Chunk) → AllByRecursion (λ chunk. has_core (d ∷ dims) chunk.at.items ≡ true) chunks → AllByRecursion (λ k. first_of k ≤ f) (numbers chunks)
        → AllByRecursion (λ chunk. (row : Row) → is_inside (core (d ∷ dims) chunk.at.items) row.at.items ≡ true → IsBelow (first_in d (suc f)) row.at.items) chunks
    below [] h l = tt
    below (chunk ∷ chunks) h l = (λ row e. core_below d dims chunk.at.items f row.at.items (some d dims refl) h.0 l.0 e, below chunks h.1 l.1)

    from : (chunks : List Chunk) → AllByRecursion (λ chunk. has_core (d ∷ dims) chunk.at.items ≡ true) chunks → AllByRecursion (λ k. f < first_of k) (numbers chunks)
        → AllByRecursion (λ chunk. (row : Row) → is_inside (core (d ∷ dims) chunk.at.items) row.at.items ≡ true → IsFrom (first_in d (suc f)) row.at.items) chunks
    from [] h l = tt
    from (chunk ∷ chunks) h l = (λ row e. core_from d dims chunk.at.items f row.at.items h.0 l.0 e, from chunks h.1 l.1)

-- ---- how far the first band goes

-- so many chunks at the beginning have this first number at most
pub record IsInBand (f count : ℕ) (chunks : List Chunk) : Type 0 where
  pub some : 0 < count
  pub within : count ≤ length chunks
  pub firsts : AllByRecursion (λ k. first_of k ≤ f) (numbers (take count chunks))

pub band_begun : (chunks : List Chunk) (first : Chunk) (f : ℕ) → 0 < length chunks → first ≡ get_or chunks 0 first → f ≡ first_of first.at.items → IsInBand f 1 chunks
band_begun [] first f l e s = absurd (omega (arith, l))
band_begun (chunk ∷ chunks) first f l e s = let same : first_of chunk.at.items ≡ f = sym (s ∙ ap (λ (z : Chunk). first_of z.at.items) e) in record { some = omega arith; within = omega arith; firsts = (omega (arith, same), tt) }

pub band_more : (chunks : List Chunk) (next : Chunk) (f count : ℕ) → count < length chunks → next ≡ get_or chunks count next → first_of next.at.items ≡ f → IsInBand f count chunks → IsInBand f (count + 1) chunks
band_more chunks next f count l e s is = record { some = omega arith; within = omega (arith, l); firsts = subst (λ (m : ℕ). AllByRecursion (λ k. first_of k ≤ f) (numbers (take m chunks))) (sym (add-one count)) (go chunks count l e is.firsts) }
  where
    go : (cs : List Chunk) (n : ℕ) → n < length cs → next ≡ get_or cs n next → AllByRecursion (λ k. first_of k ≤ f) (numbers (take n cs)) → AllByRecursion (λ k. first_of k ≤ f) (numbers (take (suc n) cs))
    go [] n l e a = absurd (omega (arith, l))
    go (c ∷ cs) zero l e a = let same : first_of c.at.items ≡ f = sym (ap (λ (z : Chunk). first_of z.at.items) e) ∙ s in (omega (arith, same), tt)
    go (c ∷ cs) (suc n) l e a = (a.0, go cs n (omega (arith, l)) e a.1)

at_number : (P : ChunkNumber → Type 0) (cs : List Chunk) (n : ℕ) (next : Chunk) → AllByRecursion P (numbers cs) → n < length cs → next ≡ get_or cs n next → P next.at.items
at_number P [] n next a l e = absurd (omega (arith, l))
at_number P (c ∷ cs) zero next a l e = subst (λ (z : Chunk). P z.at.items) (sym e) a.0
at_number P (c ∷ cs) (suc n) next a l e = at_number P cs n next a.1 (omega (arith, l)) e

-- the first numbers from a place on are no less than the one there
later_firsts : (cs : List Chunk) (n : ℕ) (next : Chunk) → NumbersRise (numbers cs) → n < length cs → next ≡ get_or cs n next → AllByRecursion (λ k. first_of next.at.items ≤ first_of k) (numbers (drop n cs))
later_firsts [] n next r l e = absurd (omega (arith, l))
later_firsts (c ∷ cs) zero next r l e =
    let same : first_of next.at.items ≡ first_of c.at.items = ap (λ (z : Chunk). first_of z.at.items) e in
    (omega (arith, same), go same (numbers cs) r.0)
  where
    go : first_of next.at.items ≡ first_of c.at.items → (ks : List ChunkNumber) → AllByRecursion (λ later. number_order c.at.items later ≡ Less) ks → AllByRecursion (λ k. first_of next.at.items ≤ first_of k) ks
    go s [] a = tt
    go s (k ∷ ks) a = let more = risen c.at.items k a.0 in (omega (arith, more, s), go s ks a.1)
later_firsts (c ∷ cs) (suc n) next r l e = later_firsts cs n next r.1 (omega (arith, l)) e

above : (f m : ℕ) (ks : List ChunkNumber) → f < m → AllByRecursion (λ k. m ≤ first_of k) ks → AllByRecursion (λ k. f < first_of k) ks
above f m [] l a = tt
above f m (k ∷ ks) l a = let here = a.0 in (omega (arith, l, here), above f m ks l a.1)

-- all chunks are in the first band
pub whole_band : (dims : List Dimension) (margins : List ℕ) (count : ℕ) (chunks : List Chunk) → length chunks ≤ count → core_rows dims margins chunks ≡ core_rows dims margins (take count chunks) ++ core_rows dims margins (drop count chunks)
whole_band dims margins count chunks l =
    ap (core_rows dims margins) (sym (take_all count chunks l))
    ∙ sym (append-nil (core_rows dims margins (take count chunks)))
    ∙ ap (λ (cs : List Chunk). core_rows dims margins (take count chunks) ++ core_rows dims margins cs) (sym (drop_all count chunks l))

-- the first band ends where another first number begins
pub band_ended : (schema : Schema) (margins : List ℕ) (f count : ℕ) (chunks : List Chunk) (first next : Chunk) → IsValid schema → AllByRecursion (λ chunk. has_core schema.dimensions chunk.at.items ≡ true) chunks → NumbersRise (numbers chunks) → IsInBand f count chunks
    → count < length chunks → first ≡ get_or chunks 0 first → f ≡ first_of first.at.items → next ≡ get_or chunks count next → (first_of next.at.items ≡ f → ⊥)
    → core_rows schema.dimensions margins chunks ≡ core_rows schema.dimensions margins (take count chunks) ++ core_rows schema.dimensions margins (drop count chunks)
band_ended schema margins f count chunks first next valid cores rise is l e s n other =
    let dims = schema.dimensions in
    let least = at_number (λ k. first_of first.at.items ≤ first_of k) chunks count next (from_first chunks first (omega (arith, l)) e rise) l n in
    let more : f < first_of next.at.items = beyond f (first_of next.at.items) (omega (arith, s, least)) other in
    ap (core_rows dims margins) (both_sides count chunks (take count chunks) (drop count chunks) refl refl)
    ∙ bands_apart dims margins f (take count chunks) (drop count chunks) (all_take (λ chunk. has_core dims chunk.at.items ≡ true) count chunks cores) (all_drop (λ chunk. has_core dims chunk.at.items ≡ true) count chunks cores) is.firsts
    (above f (first_of next.at.items) (numbers (drop count chunks)) more (later_firsts chunks count next rise l n)) (λ d ds same. (subst AreNear same (valid_placed schema valid).near).0.some)
  where
    beyond : (a b : ℕ) → a ≤ b → (b ≡ a → ⊥) → a < b
    beyond a b h k = grind (arith, k)

-- ---- where another band begins in the midst

-- the first numbers up to a place are no more than the one there
earlier_firsts : (cs : List Chunk) (n : ℕ) (last : Chunk) → NumbersRise (numbers cs) → n < length cs → last ≡ get_or cs n last → AllByRecursion (λ k. first_of k ≤ first_of last.at.items) (numbers (take (suc n) cs))
earlier_firsts [] n last r l e = absurd (omega (arith, l))
earlier_firsts (c ∷ cs) zero last r l e =
    let same : first_of last.at.items ≡ first_of c.at.items = ap (λ (z : Chunk). first_of z.at.items) e in
    (omega (arith, same), tt)
earlier_firsts (c ∷ cs) (suc n) last r l e =
    let more = risen c.at.items last.at.items (at_number (λ k. number_order c.at.items k ≡ Less) cs n last r.0 (omega (arith, l)) e) in
    (more, earlier_firsts cs n last r.1 (omega (arith, l)) e)

pub band_begins : (schema : Schema) (margins : List ℕ) (at : ℕ) (chunks : List Chunk) → IsValid schema → AllByRecursion (λ chunk. has_core schema.dimensions chunk.at.items ≡ true) chunks → NumbersRise (numbers chunks) → BeginsBand at chunks
    → core_rows schema.dimensions margins chunks ≡ core_rows schema.dimensions margins (take at chunks) ++ core_rows schema.dimensions margins (drop at chunks)
band_begins schema margins zero chunks valid cores rise b = absurd (let some = b.some in omega (arith, some))
band_begins schema margins (suc n) chunks valid cores rise b =
    let dims = schema.dimensions in
    let inside : suc n < length chunks = b.within in
    let place : suc n - 1 ≡ n = omega arith in
    let before_is : b.before ≡ get_or chunks n b.before = b.before_is ∙ ap (λ (k : ℕ). get_or chunks k b.before) place in
    let firsts = earlier_firsts chunks n b.before rise (omega (arith, inside)) before_is in
    ap (core_rows dims margins) (both_sides (suc n) chunks (take (suc n) chunks) (drop (suc n) chunks) refl refl)
    ∙ bands_apart dims margins (first_of b.before.at.items) (take (suc n) chunks) (drop (suc n) chunks) (all_take (λ chunk. has_core dims chunk.at.items ≡ true) (suc n) chunks cores) (all_drop (λ chunk. has_core dims chunk.at.items ≡ true) (suc n) chunks cores) firsts
    (above (first_of b.before.at.items) (first_of b.next.at.items) (numbers (drop (suc n) chunks)) b.rises (later_firsts chunks (suc n) b.next rise inside b.next_is)) (λ d ds same. (subst AreNear same (valid_placed schema valid).near).0.some)

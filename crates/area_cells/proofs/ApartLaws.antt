-- Chunks whose cores have nothing in a box.
use Rattle.std.proofs.Common.{◌≡◌, ℕ, zero, suc, ◌*◌, ◌-◌, ◌<◌, ◌≤◌, ℤ, ◌≤ℤ◌, Bool, true, false, cond, ◌&&◌, ◌||◌, List, [], ◌∷◌, length, get_or, refl, sym, ap, ◌∙◌, arith}
use Rattle.std.specs.Prelude.{int_le}
use Rattle.std.specs.Int.{int_max, int_min}
use Rattle.std.proofs.lemmas.Bool.{false≢true}
use Rattle.std.proofs.lemmas.Int.{ints, clamps}
use Rattle.std.specs.List.{AllByRecursion}
use Rattle.std.specs.Cmp.{ranked}
use Rattle.std.specs.Ordering.{nat_cmp, ordering_then}
use Rattle.std.specs.declared.cmp.Ordering.{Ordering}
use Rattle.std.specs.declared.cmp.Ordering.TheVariants.{Less, Equal, Greater}
use Rattle.cell_values.specs.declared.datum.Row.{Row}
use Rattle.cell_values.specs.declared.schema.Bounds.{Bounds}
use Rattle.cell_values.specs.declared.schema.Dimension.{Dimension}
use Rattle.array_rows.specs.Boxes.{by_pairs, is_between, is_inside, meet, within}
use Rattle.array_rows.specs.Rows.{Coordinate, put_all}
use Rattle.array_rows.proofs.RowSets.{rows_where-put_all}
use Rattle.array_geom.specs.declared.chunk.Chunk.{Chunk}
use Rattle.array_geom.specs.Areas.{are_ordered}
use Rattle.array_geom.specs.Geometry.{ChunkNumber, core}
use Rattle.array_geom.specs.Link.{NumbersRise, chunk_rows, core_rows, number_order, numbers}
use Rattle.array_geom.proofs.TestLaws.{and_both, and_parts, le_from_test, le_test, lt_from_test}
use Rattle.chunk_cells.proofs.MergeLaws.{IsRising-core_rows}
use Rattle.area_cells.specs.Inner.Apart.{begins_above, first_of}

-- what two boxes have in common is in order where a coordinate lies in both
between_both : (lo hi lo' hi' : List ℤ) (c : Coordinate) → is_between lo hi c ≡ true → is_between lo' hi' c ≡ true → are_ordered (by_pairs int_max lo lo') (by_pairs int_min hi hi') ≡ true
between_both [] [] lo' hi' c e f = refl
between_both [] (h ∷ hi) lo' hi' c e f = absurd (false≢true e)
between_both (l ∷ lo) [] lo' hi' c e f = absurd (false≢true e)
between_both (l ∷ lo) (h ∷ hi) lo' hi' [] e f = absurd (false≢true e)
between_both (l ∷ lo) (h ∷ hi) [] [] (x ∷ c) e f = absurd (false≢true f)
between_both (l ∷ lo) (h ∷ hi) [] (h' ∷ hi') (x ∷ c) e f = absurd (false≢true f)
between_both (l ∷ lo) (h ∷ hi) (l' ∷ lo') [] (x ∷ c) e f = absurd (false≢true f)
between_both (l ∷ lo) (h ∷ hi) (l' ∷ lo') (h' ∷ hi') (x ∷ c) e f =
    let t = and_parts (int_le l x && int_le x h) (is_between lo hi c) e in
    let u = and_parts (int_le l x) (int_le x h) t.0 in
    let t' = and_parts (int_le l' x && int_le x h') (is_between lo' hi' c) f in
    let u' = and_parts (int_le l' x) (int_le x h') t'.0 in
    let low = le_from_test l x u.0 in
    let high = le_from_test x h u.1 in
    let low' = le_from_test l' x u'.0 in
    let high' = le_from_test x h' u'.1 in
    and_both _ _ (le_test (int_max l l') (int_min h h') (omega (arith, ints, clamps))) (between_both lo hi lo' hi' c t.1 t'.1)

-- no coordinate lies in both
abbrev pub LieApart : Bounds → Bounds → Type 0
LieApart a b = (c : Coordinate) → is_inside a c ≡ true → is_inside b c ≡ true → ⊥

pub apart_where : (a b : Bounds) → are_ordered (meet a b).lo.items (meet a b).hi.items ≡ false → LieApart a b
apart_where a b e c f g = let t = between_both a.lo.items a.hi.items b.lo.items b.hi.items c f g in false≢true (sym e ∙ t)

-- ---- rows of cores apart from a box

none_in : (a b : Bounds) (rows : List Row) → LieApart a b → within b (within a rows) ≡ []
none_in a b [] h = refl
none_in a b (row ∷ rows) h = cases (is_inside a row.at.items) refl (none_in a b rows h)
  where
    other : (t : Bool) → is_inside a row.at.items ≡ true → is_inside b row.at.items ≡ t → within b (within a rows) ≡ [] → cond t (row ∷ within b (within a rows)) (within b (within a rows)) ≡ []
    other true e f r = absurd (h row.at.items e f)
    other false e f r = r

    cases : (t : Bool) → is_inside a row.at.items ≡ t → within b (within a rows) ≡ [] → within b (cond t (row ∷ within a rows) (within a rows)) ≡ []
    cases true e r = other (is_inside b row.at.items) e refl r
    cases false e r = r

-- each chunk's core lies apart from a box
abbrev pub CoresApart : List Dimension → Bounds → List ChunkNumber → Type 0
CoresApart dims area = AllByRecursion (λ k. LieApart (core dims k) area)

pub no_rows : (dims : List Dimension) (margins : List ℕ) (area : Bounds) (chunks : List Chunk) → CoresApart dims area (numbers chunks) → within area (core_rows dims margins chunks) ≡ []
no_rows dims margins area [] a = refl
no_rows dims margins area (chunk ∷ chunks) a =
    rows_where-put_all (is_inside area) (within (core dims chunk.at.items) (chunk_rows dims margins chunk)) (core_rows dims margins chunks) (IsRising-core_rows dims margins chunks)
    ∙ ap (λ (z : List Row). put_all z (within area (core_rows dims margins chunks))) (none_in (core dims chunk.at.items) area (chunk_rows dims margins chunk) a.0)
    ∙ no_rows dims margins area chunks a.1

-- ---- first numbers

by_first : (k l : ℕ) (t : Ordering) → ordering_then (nat_cmp k l) t ≡ Less → k ≤ l
by_first k l t e = cases (nat_cmp k l) refl e
  where
    cases : (o : Ordering) → o ≡ nat_cmp k l → ordering_then o t ≡ Less → k ≤ l
    cases Less h f = let less : k < l = ranked k l Less h in omega (arith, less)
    cases Equal h f = let same : k ≡ l = ranked k l Equal h in omega (arith, same)
    cases Greater h f = absurd cc

pub risen : (a b : ChunkNumber) → number_order a b ≡ Less → first_of a ≤ first_of b
risen [] b e = omega arith
risen (k ∷ a) [] e = absurd cc
risen (k ∷ a) (l ∷ b) e = by_first k l (number_order a b) e

-- the first item of one list, if both have one, is at most that of another
abbrev AtMost : List ℤ → List ℤ → Type 0
AtMost (x ∷ xs) (y ∷ ys) = x ≤ℤ y
AtMost _ _ = Unit {0}

past_high : (lo hi other_lo other_hi most : List ℤ) (c : Coordinate) → AtMost hi most → begins_above other_lo most ≡ true → is_between lo hi c ≡ true → is_between other_lo other_hi c ≡ true → ⊥
past_high lo hi [] other_hi most c h e f g = false≢true e
past_high lo hi (a ∷ other_lo) other_hi [] c h e f g = false≢true e
past_high lo hi (a ∷ other_lo) [] (m ∷ most) c h e f g = false≢true g
past_high lo hi (a ∷ other_lo) (b ∷ other_hi) (m ∷ most) [] h e f g = false≢true g
past_high [] [] (a ∷ other_lo) (b ∷ other_hi) (m ∷ most) (x ∷ c) h e f g = false≢true f
past_high [] (y ∷ hi) (a ∷ other_lo) (b ∷ other_hi) (m ∷ most) (x ∷ c) h e f g = false≢true f
past_high (z ∷ lo) [] (a ∷ other_lo) (b ∷ other_hi) (m ∷ most) (x ∷ c) h e f g = false≢true f
past_high (z ∷ lo) (y ∷ hi) (a ∷ other_lo) (b ∷ other_hi) (m ∷ most) (x ∷ c) h e f g =
    let t = and_parts (int_le z x && int_le x y) (is_between lo hi c) f in
    let high = le_from_test x y (and_parts (int_le z x) (int_le x y) t.0).1 in
    let t' = and_parts (int_le a x && int_le x b) (is_between other_lo other_hi c) g in
    let low = le_from_test a x (and_parts (int_le a x) (int_le x b) t'.0).0 in
    let above = lt_from_test m a e in
    omega (arith, ints)

past_low : (lo hi other_lo other_hi least : List ℤ) (c : Coordinate) → AtMost least lo → begins_above least other_hi ≡ true → is_between lo hi c ≡ true → is_between other_lo other_hi c ≡ true → ⊥
past_low lo hi other_lo other_hi [] c h e f g = false≢true e
past_low lo hi other_lo [] (m ∷ least) c h e f g = false≢true e
past_low lo hi [] (b ∷ other_hi) (m ∷ least) c h e f g = false≢true g
past_low lo hi (a ∷ other_lo) (b ∷ other_hi) (m ∷ least) [] h e f g = false≢true g
past_low [] [] (a ∷ other_lo) (b ∷ other_hi) (m ∷ least) (x ∷ c) h e f g = false≢true f
past_low [] (y ∷ hi) (a ∷ other_lo) (b ∷ other_hi) (m ∷ least) (x ∷ c) h e f g = false≢true f
past_low (z ∷ lo) [] (a ∷ other_lo) (b ∷ other_hi) (m ∷ least) (x ∷ c) h e f g = false≢true f
past_low (z ∷ lo) (y ∷ hi) (a ∷ other_lo) (b ∷ other_hi) (m ∷ least) (x ∷ c) h e f g =
    let t = and_parts (int_le z x && int_le x y) (is_between lo hi c) f in
    let low = le_from_test z x (and_parts (int_le z x) (int_le x y) t.0).0 in
    let t' = and_parts (int_le a x && int_le x b) (is_between other_lo other_hi c) g in
    let high = le_from_test x b (and_parts (int_le a x) (int_le x b) t'.0).1 in
    let above = lt_from_test b m e in
    omega (arith, ints)

further : (d : Dimension) (k l : ℕ) → k ≤ l → k * d.chunk ≤ l * d.chunk
further d k l h = grind arith

high_at_most : (dims : List Dimension) (k last : ChunkNumber) → first_of k ≤ first_of last → AtMost (core dims k).hi.items (core dims last).hi.items
high_at_most [] k last h = tt
high_at_most (d ∷ dims) [] last h = tt
high_at_most (d ∷ dims) (k ∷ ks) [] h = tt
high_at_most (d ∷ dims) (k ∷ ks) (l ∷ last) h = let more = further d k l h in omega (arith, ints, clamps)

low_at_most : (dims : List Dimension) (first k : ChunkNumber) → first_of first ≤ first_of k → AtMost (core dims first).lo.items (core dims k).lo.items
low_at_most [] first k h = tt
low_at_most (d ∷ dims) [] k h = tt
low_at_most (d ∷ dims) (l ∷ first) [] h = tt
low_at_most (d ∷ dims) (l ∷ first) (k ∷ ks) h = let more = further d l k h in omega (arith, ints)

-- a box behind the core of a last chunk, or before that of a first one
behind : (dims : List Dimension) (last : ChunkNumber) (area : Bounds) (ks : List ChunkNumber) → AllByRecursion (λ k. first_of k ≤ first_of last) ks → begins_above area.lo.items (core dims last).hi.items ≡ true → CoresApart dims area ks
behind dims last area [] a e = tt
behind dims last area (k ∷ ks) a e = (
  λ c f g. past_high (core dims k).lo.items (core dims k).hi.items area.lo.items area.hi.items (core dims last).hi.items c (high_at_most dims k last a.0) e f g,
  behind dims last area ks a.1 e,
)

before : (dims : List Dimension) (first : ChunkNumber) (area : Bounds) (ks : List ChunkNumber) → AllByRecursion (λ k. first_of first ≤ first_of k) ks → begins_above (core dims first).lo.items area.hi.items ≡ true → CoresApart dims area ks
before dims first area [] a e = tt
before dims first area (k ∷ ks) a e = (
  λ c f g. past_low (core dims k).lo.items (core dims k).hi.items area.lo.items area.hi.items (core dims first).lo.items c (low_at_most dims first k a.0) e f g,
  before dims first area ks a.1 e,
)

-- the first of rising chunks begins first, and the last one last
pub from_first : (chunks : List Chunk) (first : Chunk) → 0 < length chunks → first ≡ get_or chunks 0 first → NumbersRise (numbers chunks) → AllByRecursion (λ k. first_of first.at.items ≤ first_of k) (numbers chunks)
from_first [] first l e r = absurd (omega (arith, l))
from_first (chunk ∷ chunks) first l e r =
    let same : first_of first.at.items ≡ first_of chunk.at.items = ap (λ (z : Chunk). first_of z.at.items) e in
    (omega (arith, same), go same (numbers chunks) r.0)
  where
    go : first_of first.at.items ≡ first_of chunk.at.items → (ks : List ChunkNumber) → AllByRecursion (λ later. number_order chunk.at.items later ≡ Less) ks → AllByRecursion (λ k. first_of first.at.items ≤ first_of k) ks
    go s [] a = tt
    go s (k ∷ ks) a = let more = risen chunk.at.items k a.0 in (omega (arith, more, s), go s ks a.1)

upto_last : (chunks : List Chunk) (last : Chunk) (n : ℕ) → length chunks ≡ suc n → last ≡ get_or chunks n last → NumbersRise (numbers chunks) → AllByRecursion (λ k. first_of k ≤ first_of last.at.items) (numbers chunks)
upto_last [] last n l e r = absurd (omega (arith, l))
upto_last (chunk ∷ []) last zero l e r = let same : first_of last.at.items ≡ first_of chunk.at.items = ap (λ (z : Chunk). first_of z.at.items) e in (omega (arith, same), tt)
upto_last (chunk ∷ []) last (suc n) l e r = absurd (omega (arith, l))
upto_last (chunk ∷ next ∷ chunks) last zero l e r = absurd (omega (arith, l))
upto_last (chunk ∷ next ∷ chunks) last (suc n) l e r =
    let rest = upto_last (next ∷ chunks) last n (omega (arith, l)) e r.1 in
    let more = risen chunk.at.items next.at.items r.0.0 in
    let here = rest.0 in
    (omega (arith, more, here), rest)

either : (a b : Bool) (P : Type 0) → (a || b) ≡ true → (a ≡ true → P) → (b ≡ true → P) → P
either true b P e f g = f refl
either false b P e f g = g e

-- no row of theirs lies in a box that is behind the last core or before the first one
pub off_the_box : (dims : List Dimension) (margins : List ℕ) (area : Bounds) (chunks : List Chunk) (first last : Chunk) → 0 < length chunks → first ≡ get_or chunks 0 first → last ≡ get_or chunks (length chunks - 1) last → NumbersRise (numbers chunks)
    → (begins_above area.lo.items (core dims last.at.items).hi.items || begins_above (core dims first.at.items).lo.items area.hi.items) ≡ true → within area (core_rows dims margins chunks) ≡ []
off_the_box dims margins area chunks first last l e f r t =
    no_rows dims margins area chunks
    (either (begins_above area.lo.items (core dims last.at.items).hi.items) (begins_above (core dims first.at.items).lo.items area.hi.items) (CoresApart dims area (numbers chunks)) t
    (λ high. behind dims last.at.items area (numbers chunks) (upto_last chunks last (length chunks - 1) (omega (arith, l)) f r) high)
    (λ low. before dims first.at.items area (numbers chunks) (from_first chunks first l e r) low))

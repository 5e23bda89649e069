-- Boxes that hold the cores of chunks, and so their rows.
use Rattle.std.proofs.Common.{◌≡◌, ℕ, suc, ◌+◌, ◌<◌, ℤ, ◌&&◌, int_le, true, IsTrue, List, [], ◌∷◌, ◌++◌, get_or, length, take, refl, sym, ap, ◌∙◌, subst, arith}
use Rattle.std.proofs.lemmas.Bool.{false≢true}
use Rattle.std.proofs.lemmas.Int.{ints, clamps}
use Rattle.std.proofs.lemmas.List.{take_more}
use Rattle.std.specs.Int.{int_max, int_min}
use Rattle.std.specs.List.{AllByRecursion}
use Rattle.cell_values.specs.declared.schema.Bounds.{Bounds}
use Rattle.cell_values.specs.declared.schema.Dimension.{Dimension}
use Rattle.array_rows.specs.Boxes.{by_pairs, is_between, is_inside, within}
use Rattle.array_geom.specs.declared.chunk.Chunk.{Chunk}
use Rattle.array_geom.specs.Geometry.{ChunkNumber, core, first_in, has_core, last_in}
use Rattle.array_geom.specs.Link.{chunk_rows, core_rows}
use Rattle.array_geom.proofs.TestLaws.{and_both, and_parts, le_from_test, le_test}
use Rattle.area_cells.proofs.PieceLaws.{all_within}
use Rattle.group_rows.proofs.RowLemmas.{all_put_all}
use Rattle.order_exec.specs.Inner.Hulls.{Covers, hull}
use Rattle.order_exec.proofs.AlongLaws.{all_follows, all_joined}

-- ---- two boxes

wider_side : (l l' h h' x : ℤ) → (int_le l x && int_le x h) ≡ true → (int_le (int_min l l') x && int_le x (int_max h h')) ≡ true
wider_side l l' h h' x e =
    let t = and_parts (int_le l x) (int_le x h) e in
    let low = le_from_test l x t.0 in
    let high = le_from_test x h t.1 in
    and_both (int_le (int_min l l') x) (int_le x (int_max h h')) (le_test (int_min l l') x (omega (arith, ints, clamps, low))) (le_test x (int_max h h') (omega (arith, ints, clamps, high)))

other_side : (l l' h h' x : ℤ) → (int_le l' x && int_le x h') ≡ true → (int_le (int_min l l') x && int_le x (int_max h h')) ≡ true
other_side l l' h h' x e =
    let t = and_parts (int_le l' x) (int_le x h') e in
    let low = le_from_test l' x t.0 in
    let high = le_from_test x h' t.1 in
    and_both (int_le (int_min l l') x) (int_le x (int_max h h')) (le_test (int_min l l') x (omega (arith, ints, clamps, low))) (le_test x (int_max h h') (omega (arith, ints, clamps, high)))

-- corners of one length
abbrev pub Matches : ℕ → Bounds → Type 0
Matches n area = (length area.lo.items ≡ n) × (length area.hi.items ≡ n)

first_held : (lo hi lo' hi' c : List ℤ) → length lo' ≡ length lo → length hi' ≡ length hi → is_between lo hi c ≡ true → is_between (by_pairs int_min lo lo') (by_pairs int_max hi hi') c ≡ true
first_held [] [] [] [] c p q e = e
first_held [] [] (y ∷ lo') hi' c p q e = absurd (omega (arith, p))
first_held [] [] [] (y ∷ hi') c p q e = absurd (omega (arith, q))
first_held [] (h ∷ hi) lo' hi' c p q e = absurd (false≢true e)
first_held (l ∷ lo) [] lo' hi' c p q e = absurd (false≢true e)
first_held (l ∷ lo) (h ∷ hi) [] hi' c p q e = absurd (omega (arith, p))
first_held (l ∷ lo) (h ∷ hi) (y ∷ lo') [] c p q e = absurd (omega (arith, q))
first_held (l ∷ lo) (h ∷ hi) (y ∷ lo') (z ∷ hi') [] p q e = absurd (false≢true e)
first_held (l ∷ lo) (h ∷ hi) (y ∷ lo') (z ∷ hi') (x ∷ c) p q e =
    let t = and_parts (int_le l x && int_le x h) (is_between lo hi c) e in
    and_both (int_le (int_min l y) x && int_le x (int_max h z)) (is_between (by_pairs int_min lo lo') (by_pairs int_max hi hi') c) (wider_side l y h z x t.0) (first_held lo hi lo' hi' c (omega (arith, p)) (omega (arith, q)) t.1)

second_held : (lo hi lo' hi' c : List ℤ) → length lo' ≡ length lo → length hi' ≡ length hi → is_between lo' hi' c ≡ true → is_between (by_pairs int_min lo lo') (by_pairs int_max hi hi') c ≡ true
second_held [] [] [] [] c p q e = e
second_held [] [] (y ∷ lo') hi' c p q e = absurd (omega (arith, p))
second_held [] [] [] (y ∷ hi') c p q e = absurd (omega (arith, q))
second_held [] (h ∷ hi) (y ∷ lo') hi' c p q e = absurd (omega (arith, p))
second_held [] (h ∷ hi) [] [] c p q e = absurd (omega (arith, q))
second_held [] (h ∷ hi) [] (z ∷ hi') c p q e = absurd (false≢true e)
second_held (l ∷ lo) hi [] hi' c p q e = absurd (omega (arith, p))
second_held (l ∷ lo) [] (y ∷ lo') [] c p q e = absurd (false≢true e)
second_held (l ∷ lo) [] (y ∷ lo') (z ∷ hi') c p q e = absurd (omega (arith, q))
second_held (l ∷ lo) (h ∷ hi) (y ∷ lo') [] c p q e = absurd (omega (arith, q))
second_held (l ∷ lo) (h ∷ hi) (y ∷ lo') (z ∷ hi') [] p q e = absurd (false≢true e)
second_held (l ∷ lo) (h ∷ hi) (y ∷ lo') (z ∷ hi') (x ∷ c) p q e =
    let t = and_parts (int_le y x && int_le x z) (is_between lo' hi' c) e in
    and_both (int_le (int_min l y) x && int_le x (int_max h z)) (is_between (by_pairs int_min lo lo') (by_pairs int_max hi hi') c) (other_side l y h z x t.0) (second_held lo hi lo' hi' c (omega (arith, p)) (omega (arith, q)) t.1)

pairs_long : {A B C : Type 0} (f : A → B → C) (xs : List A) (ys : List B) → length ys ≡ length xs → length (by_pairs f xs ys) ≡ length xs
pairs_long f [] ys e = refl
pairs_long f (x ∷ xs) [] e = absurd (omega (arith, e))
pairs_long f (x ∷ xs) (y ∷ ys) e = ap suc (pairs_long f xs ys (omega (arith, e)))

-- ---- the cores of chunks

numbers_long : (dims : List Dimension) (k : ChunkNumber) → has_core dims k ≡ true → length k ≡ length dims
numbers_long [] [] e = refl
numbers_long [] (n ∷ k) e = absurd (false≢true e)
numbers_long (d ∷ dims) [] e = absurd (false≢true e)
numbers_long (d ∷ dims) (n ∷ k) e = ap suc (numbers_long dims k (and_parts (int_le (first_in d n) d.hi) (has_core dims k) e).1)

pub core_matches : (dims : List Dimension) (k : ChunkNumber) → has_core dims k ≡ true → Matches (length dims) (core dims k)
core_matches dims k e = let l = numbers_long dims k e in (pairs_long first_in dims k l, pairs_long (λ d n. int_min d.hi (last_in d n)) dims k l)

pub record CoversSoFar (dims : List Dimension) (chunks : List Chunk) (area : Bounds) : Type 0 where
  pub covered : AllByRecursion (λ chunk. Covers area (core dims chunk.at.items)) chunks
  pub matches : Matches (length dims) area

pub one_covered : (dims : List Dimension) (chunks : List Chunk) (i : ℕ) (chunk : Chunk) (area box wider : Bounds) → i < length chunks → chunk ≡ get_or chunks i chunk → has_core dims chunk.at.items ≡ true → box ≡ core dims chunk.at.items → wider ≡ hull area box
    → CoversSoFar dims (take i chunks) area → CoversSoFar dims (take (i + 1) chunks) wider
one_covered dims chunks i chunk area box wider l e has b w h =
    let inner = core dims chunk.at.items in
    let m = core_matches dims chunk.at.items has in
    let whole : wider ≡ hull area inner = w ∙ ap (hull area) b in
    let lows : length inner.lo.items ≡ length area.lo.items = m.0 ∙ sym h.matches.0 in
    let highs : length inner.hi.items ≡ length area.hi.items = m.1 ∙ sym h.matches.1 in
    let more : take (i + 1) chunks ≡ take i chunks ++ chunk ∷ [] = take_more chunks i chunk l ∙ ap (λ (c : Chunk). take i chunks ++ c ∷ []) (sym e) in
    subst (CoversSoFar dims (take (i + 1) chunks)) (sym whole) (record {
      covered = subst (AllByRecursion (λ c. Covers (hull area inner) (core dims c.at.items))) (sym more)
          (all_joined (λ c. Covers (hull area inner) (core dims c.at.items)) (take i chunks) (chunk ∷ [])
          (all_follows (λ c. Covers area (core dims c.at.items)) (λ c. Covers (hull area inner) (core dims c.at.items))
          (λ c covers at inside. first_held area.lo.items area.hi.items inner.lo.items inner.hi.items at lows highs (covers at inside)) (take i chunks) h.covered)
          (λ at inside. second_held area.lo.items area.hi.items inner.lo.items inner.hi.items at lows highs inside, tt));
      matches = (pairs_long int_min area.lo.items inner.lo.items lows ∙ h.matches.0, pairs_long int_max area.hi.items inner.hi.items highs ∙ h.matches.1);
    })

-- ---- their rows

pub covered_rows : (dims : List Dimension) (margins : List ℕ) (area : Bounds) (chunks : List Chunk) → AllByRecursion (λ chunk. Covers area (core dims chunk.at.items)) chunks → AllByRecursion (λ row. IsTrue (is_inside area row.at.items)) (core_rows dims margins chunks)
covered_rows dims margins area [] h = tt
covered_rows dims margins area (chunk ∷ chunks) h =
    let inner = core dims chunk.at.items in
    let rows = within inner (chunk_rows dims margins chunk) in
    all_put_all (λ row. IsTrue (is_inside area row.at.items)) rows (core_rows dims margins chunks)
    (all_follows (λ row. is_inside inner row.at.items ≡ true) (λ row. IsTrue (is_inside area row.at.items)) (λ row inside. h.0 row.at.items inside) rows (all_within inner (chunk_rows dims margins chunk) rows refl))
    (covered_rows dims margins area chunks h.1)

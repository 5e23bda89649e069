-- The next cell of two chunks, and what is left.
use Rattle.std.proofs.Common.{◌≡◌, ℕ, zero, suc, ◌+◌, ◌<◌, ◌≤◌, ℤ, false, ◌⊎◌, inl, inr, ◌↔◌, IsTrue, List, [], ◌∷◌, ◌++◌, length, get_or, take, drop, length-append, refl, sym, ap, ◌∙◌, subst, arith}
use Rattle.std.specs.List.{AllByRecursion}
use Rattle.std.specs.Ordering.{ordering_reverse}
use Rattle.std.proofs.lemmas.List.{drop_more, drop_all, length-drop}
use Rattle.arrayvec.specs.ArrayVec.{ArrayVec}
use Rattle.cell_values.specs.declared.datum.Cell.TheVariants.{Doubt}
use Rattle.cell_values.specs.declared.datum.FaultKind.TheVariants.{Overflow}
use Rattle.cell_values.specs.declared.datum.Cell.{Cell}
use Rattle.cell_values.specs.declared.datum.Row.{Row}
use Rattle.cell_values.specs.declared.schema.Schema.{Schema}
use Rattle.array_rows.specs.Boxes.{is_inside, within}
use Rattle.array_rows.specs.Rows.{IsRising, placed, put_all, row_major}
use Rattle.array_rows.proofs.RowsLemmas.{row_major_total, same_coordinate}
use Rattle.array_rows.proofs.RowSets.{IsRising-rows_where, rows_where-put_all}
use Rattle.array_geom.specs.declared.chunk.Chunk.{Chunk}
use Rattle.array_geom.specs.Geometry.{HasFrame, coordinate_in, frame, frame_low, frame_lengths, volume}
use Rattle.array_geom.specs.Link.{IsPart, rows_in}
use Rattle.array_geom.proofs.NearLemmas.{as_many, some_places, valid_placed}
use Rattle.chunk_cells.proofs.MergeLaws.{at_end, left_moves, right_moves, right_goes, more_merged}
use Rattle.chunk_cells.specs.Inner.Over.{ArePlaces, Goes, HasNext, HasRest, rows_from}
use Rattle.chunk_cells.proofs.OrderLaws.{coordinate_rises}

rows_in-append : (low : List ℤ) (lengths : List ℕ) (ps qs : List ℕ) (cs ds : List Cell) → length cs ≡ length ps → rows_in low lengths (ps ++ qs) (cs ++ ds) ≡ rows_in low lengths ps cs ++ rows_in low lengths qs ds
rows_in-append low lengths [] qs [] ds e = refl
rows_in-append low lengths [] qs (c ∷ cs) ds e = absurd (omega arith)
rows_in-append low lengths (p ∷ ps) qs [] ds e = absurd (omega arith)
rows_in-append low lengths (p ∷ ps) qs (c ∷ cs) ds e = ap (λ (rs : List Row). placed (coordinate_in low lengths p) c ∷ rs) (rows_in-append low lengths ps qs cs ds (omega arith))

all_append : (n : ℕ) (xs ys : List ℕ) → AllByRecursion (λ p. p < n) xs → AllByRecursion (λ p. p < n) ys → AllByRecursion (λ p. p < n) (xs ++ ys)
all_append n [] ys a b = b
all_append n (x ∷ xs) ys a b = (a.0, all_append n xs ys a.1 b)

all_take : (n k : ℕ) (xs : List ℕ) → AllByRecursion (λ p. p < n) xs → AllByRecursion (λ p. p < n) (take k xs)
all_take n zero xs a = tt
all_take n (suc k) [] a = tt
all_take n (suc k) (x ∷ xs) a = (a.0, all_take n k xs a.1)

all_drop : (n k : ℕ) (xs : List ℕ) → AllByRecursion (λ p. p < n) xs → AllByRecursion (λ p. p < n) (drop k xs)
all_drop n zero xs a = a
all_drop n (suc k) [] a = tt
all_drop n (suc k) (x ∷ xs) a = all_drop n k xs a.1

-- the cells from an index on begin with the one at the index
head_from : (low : List ℤ) (lengths : List ℕ) (chunk : Chunk) (i : ℕ) → length chunk.cells ≡ length chunk.positions → i < length chunk.positions
    → rows_from low lengths chunk i ≡ placed (coordinate_in low lengths (get_or chunk.positions i 0)) (get_or chunk.cells i (Doubt Overflow)) ∷ rows_from low lengths chunk (i + 1)
head_from low lengths chunk i e l =
    ap (λ (ps : List ℕ). rows_in low lengths ps (drop i chunk.cells)) (drop_more chunk.positions i 0 l)
    ∙ ap (λ (cs : List Cell). rows_in low lengths (get_or chunk.positions i 0 ∷ drop (i + 1) chunk.positions) cs) (drop_more chunk.cells i (Doubt Overflow) (omega arith))

place_at : (n : ℕ) (xs : List ℕ) (i : ℕ) → AllByRecursion (λ p. p < n) xs → i < length xs → get_or xs i 0 < n
place_at n [] i a l = absurd (omega arith)
place_at n (x ∷ xs) zero a l = a.0
place_at n (x ∷ xs) (suc i) a l = place_at n xs i a.1 (omega arith)

take-rows : (low : List ℤ) (lengths : List ℕ) (ps : List ℕ) (cs : List Cell) → rows_in low lengths (take 1 ps) (take 1 cs) ≡ take 1 (rows_in low lengths ps cs)
take-rows low lengths [] cs = refl
take-rows low lengths (p ∷ ps) [] = refl
take-rows low lengths (p ∷ ps) (c ∷ cs) = refl

one : {X : Type 0} (xs : List X) (i : ℕ) (d : X) → i < length xs → length (take 1 (drop i xs)) ≡ 1
one xs i d l = ap (λ ys. length (take 1 ys)) (drop_more xs i d l)

as_many_next : (from made made' : Chunk) (i : ℕ) → length from.cells ≡ length from.positions → i < length from.positions → HasNext from i made made' → length made.cells ≡ length made.positions → length made'.cells ≡ length made'.positions
as_many_next from made made' i each l h e =
    let a = one from.cells i (Doubt Overflow) (omega arith) in
    let b = one from.positions i 0 l in
    let f = ap length h.cells ∙ length-append made.cells (take 1 (drop i from.cells)) in
    let g = ap length h.positions ∙ length-append made.positions (take 1 (drop i from.positions)) in
    omega arith

rows_next : (low : List ℤ) (lengths : List ℕ) (from made made' : Chunk) (i : ℕ) → HasNext from i made made' → length made.cells ≡ length made.positions → rows_in low lengths made'.positions made'.cells ≡ rows_in low lengths made.positions made.cells ++ take 1 (rows_from low lengths from i)
rows_next low lengths from made made' i h e =
    ap (λ (ps : List ℕ). rows_in low lengths ps made'.cells) h.positions
    ∙ ap (λ (cs : List Cell). rows_in low lengths (made.positions ++ take 1 (drop i from.positions)) cs) h.cells
    ∙ rows_in-append low lengths made.positions (take 1 (drop i from.positions)) made.cells (take 1 (drop i from.cells)) e
    ∙ ap (λ (rs : List Row). rows_in low lengths made.positions made.cells ++ rs) (take-rows low lengths (drop i from.positions) (drop i from.cells))

-- the three moves
pub goes_new : (new old made made' : Chunk) (i j : ℕ) → length new.cells ≡ length new.positions → length old.cells ≡ length old.positions → i < length new.positions → j < length old.positions → get_or new.positions i 0 < get_or old.positions j 0 → HasNext new i made made' → Goes new old made i j made' (i + 1) j
goes_new new old made made' i j en eo li lj less h = record {
  number = h.number;
  as_many = as_many_next new made made' i en li h;
  in_box = λ n a b m. subst (AllByRecursion (λ p. p < n)) (sym h.positions) (all_append n made.positions (take 1 (drop i new.positions)) m (all_take n 1 (drop i new.positions) (all_drop n i new.positions a)));
  rows = λ low lengths pn po e.
      left_moves (rows_in low lengths made.positions made.cells) (rows_in low lengths made'.positions made'.cells) (rows_from low lengths new i) (rows_from low lengths new (i + 1)) (rows_from low lengths old j)
      (placed (coordinate_in low lengths (get_or new.positions i 0)) (get_or new.cells i (Doubt Overflow))) (placed (coordinate_in low lengths (get_or old.positions j 0)) (get_or old.cells j (Doubt Overflow))) (rows_from low lengths new (i + 1)) (rows_from low lengths old (j + 1))
      (head_from low lengths new i en li) (head_from low lengths old j eo lj) (coordinate_rises low lengths (get_or new.positions i 0) (get_or old.positions j 0) pn.lengths_of pn.each less (place_at (volume lengths) old.positions j po.in_box lj))
      (rows_next low lengths new made made' i h e) (sym (ap (drop 1) (head_from low lengths new i en li)));
}

pub goes_old : (new old made made' : Chunk) (i j : ℕ) → length new.cells ≡ length new.positions → length old.cells ≡ length old.positions → i < length new.positions → j < length old.positions → get_or old.positions j 0 < get_or new.positions i 0 → HasNext old j made made' → Goes new old made i j made' i (j + 1)
goes_old new old made made' i j en eo li lj less h = record {
  number = h.number;
  as_many = as_many_next old made made' j eo lj h;
  in_box = λ n a b m. subst (AllByRecursion (λ p. p < n)) (sym h.positions) (all_append n made.positions (take 1 (drop j old.positions)) m (all_take n 1 (drop j old.positions) (all_drop n j old.positions b)));
  rows = λ low lengths pn po e.
      let p = coordinate_in low lengths (get_or new.positions i 0) in
      let q = coordinate_in low lengths (get_or old.positions j 0) in
      right_moves (rows_in low lengths made.positions made.cells) (rows_in low lengths made'.positions made'.cells) (rows_from low lengths new i) (rows_from low lengths old j) (rows_from low lengths old (j + 1))
      (placed p (get_or new.cells i (Doubt Overflow))) (placed q (get_or old.cells j (Doubt Overflow))) (rows_from low lengths new (i + 1)) (rows_from low lengths old (j + 1))
      (head_from low lengths new i en li) (head_from low lengths old j eo lj) (row_major_total.antisymm p q ∙ ap ordering_reverse (coordinate_rises low lengths (get_or old.positions j 0) (get_or new.positions i 0) pn.lengths_of pn.each less (place_at (volume lengths) new.positions i pn.in_box li)))
      (rows_next low lengths old made made' j h e) (sym (ap (drop 1) (head_from low lengths old j eo lj)));
}

pub goes_past : (new old made : Chunk) (i j : ℕ) → length new.cells ≡ length new.positions → length old.cells ≡ length old.positions → i < length new.positions → j < length old.positions → get_or new.positions i 0 ≡ get_or old.positions j 0 → Goes new old made i j made i (j + 1)
goes_past new old made i j en eo li lj same = record {
  number = refl;
  as_many = λ e. e;
  in_box = λ n a b m. m;
  rows = λ low lengths pn po e.
      let p = coordinate_in low lengths (get_or new.positions i 0) in
      let q = coordinate_in low lengths (get_or old.positions j 0) in
      right_goes (rows_in low lengths made.positions made.cells) (rows_from low lengths new i) (rows_from low lengths old j) (rows_from low lengths old (j + 1))
      (placed p (get_or new.cells i (Doubt Overflow))) (placed q (get_or old.cells j (Doubt Overflow))) (rows_from low lengths new (i + 1)) (rows_from low lengths old (j + 1))
      (head_from low lengths new i en li) (head_from low lengths old j eo lj) (ap (λ (n : ℕ). row_major p (coordinate_in low lengths n)) (sym same) ∙ same_coordinate p) refl;
}

pub begun : (new old made : Chunk) → Goes new old made 0 0 made 0 0
begun new old made = record { number = refl; as_many = λ e. e; in_box = λ n a b m. m; rows = λ low lengths pn po e rl rr. record { left_rises = rl; right_rises = rr; same = refl } }

pub goes_on : (new old a b c : Chunk) (i j i' j' i'' j'' : ℕ) → Goes new old a i j b i' j' → Goes new old b i' j' c i'' j'' → Goes new old a i j c i'' j''
goes_on new old a b c i j i' j' i'' j'' f g = record {
  number = g.number ∙ f.number;
  as_many = λ e. g.as_many (f.as_many e);
  in_box = λ n p q m. g.in_box n p q (f.in_box n p q m);
  rows = λ low lengths pn po e.
      more_merged (rows_in low lengths a.positions a.cells) (rows_in low lengths b.positions b.cells) (rows_in low lengths c.positions c.cells) (rows_from low lengths new i) (rows_from low lengths new i') (rows_from low lengths new i'') (rows_from low lengths old j) (rows_from low lengths old j') (rows_from low lengths old j'')
      (f.rows low lengths pn po e) (g.rows low lengths pn po (f.as_many e));
}

-- ---- the end

rows_rest : (low : List ℤ) (lengths : List ℕ) (from made made' : Chunk) (i : ℕ) → HasRest from i made made' → length made.cells ≡ length made.positions → rows_in low lengths made'.positions made'.cells ≡ rows_in low lengths made.positions made.cells ++ rows_from low lengths from i
rows_rest low lengths from made made' i h e =
    ap (λ (ps : List ℕ). rows_in low lengths ps made'.cells) h.positions
    ∙ ap (λ (cs : List Cell). rows_in low lengths (made.positions ++ drop i from.positions) cs) h.cells
    ∙ rows_in-append low lengths made.positions (drop i from.positions) made.cells (drop i from.cells) e

as_many_rest : (from made made' : Chunk) (i : ℕ) → length from.cells ≡ length from.positions → HasRest from i made made' → length made.cells ≡ length made.positions → length made'.cells ≡ length made'.positions
as_many_rest from made made' i each h e =
    let f = ap length h.cells ∙ length-append made.cells (drop i from.cells) in
    let g = ap length h.positions ∙ length-append made.positions (drop i from.positions) in
    let a = length-drop i from.cells in
    let b = length-drop i from.positions in
    omega arith

ended : (low : List ℤ) (lengths : List ℕ) (chunk : Chunk) (i : ℕ) → length chunk.positions ≤ i → rows_from low lengths chunk i ≡ []
ended low lengths chunk i l = ap (λ (ps : List ℕ). rows_in low lengths ps (drop i chunk.cells)) (drop_all i chunk.positions l)

none_both : (left right : List Row) → (left ≡ []) ⊎ (right ≡ []) → IsTrue false ↔ (0 < length left) × (0 < length right)
none_both left right (inl e) = (λ t. absurd (no t), λ both. let f = ap length e in absurd (omega (arith, both.0)))
  where
    no : IsTrue false → ⊥
    no t = cc
none_both left right (inr e) = (λ t. absurd (no t), λ both. let f = ap length e in absurd (omega (arith, both.1)))
  where
    no : IsTrue false → ⊥
    no t = cc

-- the chunk that is made has the rows of both
pub made_part : (schema : Schema) (margins : List ℕ) (new old made0 made made1 made2 : Chunk) (i j : ℕ) (old_rows new_rows : List Row)
    → new.at ≡ old.at → length new.cells ≡ length new.positions → length old.cells ≡ length old.positions
    → made0.at ≡ old.at → made0.positions ≡ [] → made0.cells ≡ [] → Goes new old made0 0 0 made i j → ((length new.positions ≤ i) ⊎ (length old.positions ≤ j)) → HasRest new i made made1 → HasRest old j made1 made2
    → HasFrame schema margins old.at.items → IsRising old_rows → IsRising new_rows → IsPart schema.dimensions margins old_rows old → IsPart schema.dimensions margins new_rows new → IsPart schema.dimensions margins (put_all new_rows old_rows) made2
made_part schema margins new old made0 made made1 made2 i j old_rows new_rows number en eo n0 p0 c0 goes end rest_new rest_old framed rise_old rise_new part_old part_new =
    let dims = schema.dimensions in
    let area = frame dims margins old.at.items in
    let low = frame_low dims margins old.at.items in
    let lengths = frame_lengths dims margins in
    let size = volume lengths in
    let near = (valid_placed schema framed.valid).near in
    let places_new : ArePlaces low lengths new.positions = record { lengths_of = (some_places dims margins near).0; each = as_many dims margins old.at.items framed.core; in_box = part_new.in_frame } in
    let places_old : ArePlaces low lengths old.positions = record { lengths_of = (some_places dims margins near).0; each = as_many dims margins old.at.items framed.core; in_box = part_old.in_frame } in
    let e0 : length made0.cells ≡ length made0.positions = ap length c0 ∙ sym (ap length p0) in
    let em = goes.as_many e0 in
    let e1 = as_many_rest new made made1 i en rest_new em in
    let at2 : made2.at ≡ old.at = rest_old.number ∙ rest_new.number ∙ goes.number ∙ n0 in
    let rows_new : rows_in low lengths new.positions new.cells ≡ within area new_rows =
    ap (λ (a : ArrayVec ℕ). rows_in (frame_low dims margins a.items) lengths new.positions new.cells) (sym number) ∙ part_new.cells ∙ ap (λ (a : ArrayVec ℕ). within (frame dims margins a.items) new_rows) number in
    let rise1 : IsRising (rows_in low lengths new.positions new.cells) = subst IsRising (sym rows_new) (IsRising-rows_where (is_inside area) new_rows rise_new) in
    let rise2 : IsRising (rows_in low lengths old.positions old.cells) = subst IsRising (sym part_old.cells) (IsRising-rows_where (is_inside area) old_rows rise_old) in
    let merged = goes.rows low lengths places_new places_old e0 rise1 rise2 in
    let start : rows_in low lengths made0.positions made0.cells ≡ [] = ap (λ (ps : List ℕ). rows_in low lengths ps made0.cells) p0 in
    let whole : rows_in low lengths made2.positions made2.cells ≡ put_all (rows_in low lengths new.positions new.cells) (rows_in low lengths old.positions old.cells) =
    at_end false (rows_in low lengths made.positions made.cells) (rows_from low lengths new i) (rows_from low lengths old j) (put_all (rows_in low lengths new.positions new.cells) (rows_in low lengths old.positions old.cells)) (rows_in low lengths made1.positions made1.cells) (rows_in low lengths made2.positions made2.cells) refl
    (none_both (rows_from low lengths new i) (rows_from low lengths old j) (which end)) merged.left_rises (merged.same ∙ ap (λ (rs : List Row). rs ++ put_all (rows_in low lengths new.positions new.cells) (rows_in low lengths old.positions old.cells)) start)
    (rows_rest low lengths new made made1 i rest_new em) (rows_rest low lengths old made1 made2 j rest_old e1) in
    record {
      each = as_many_rest old made1 made2 j eo rest_old e1;
      in_frame = all_of size (goes.in_box size part_new.in_frame part_old.in_frame (subst (AllByRecursion (λ p. p < size)) (sym p0) tt)) part_new.in_frame part_old.in_frame;
      cells =
          ap (λ (a : ArrayVec ℕ). rows_in (frame_low dims margins a.items) lengths made2.positions made2.cells) at2
          ∙ whole
          ∙ ap (λ (rs : List Row). put_all rs (rows_in low lengths old.positions old.cells)) rows_new
          ∙ ap (put_all (within area new_rows)) part_old.cells
          ∙ sym (rows_where-put_all (is_inside area) new_rows old_rows rise_old)
          ∙ ap (λ (a : ArrayVec ℕ). within (frame dims margins a.items) (put_all new_rows old_rows)) (sym at2);
    }
  where
    which : (length new.positions ≤ i) ⊎ (length old.positions ≤ j) → (rows_from (frame_low schema.dimensions margins old.at.items) (frame_lengths schema.dimensions margins) new i ≡ []) ⊎ (rows_from (frame_low schema.dimensions margins old.at.items) (frame_lengths schema.dimensions margins) old j ≡ [])
    which (inl l) = inl (ended (frame_low schema.dimensions margins old.at.items) (frame_lengths schema.dimensions margins) new i l)
    which (inr l) = inr (ended (frame_low schema.dimensions margins old.at.items) (frame_lengths schema.dimensions margins) old j l)

    all_of : (n : ℕ) → AllByRecursion (λ p. p < n) made.positions → AllByRecursion (λ p. p < n) new.positions → AllByRecursion (λ p. p < n) old.positions → AllByRecursion (λ p. p < n) made2.positions
    all_of n m a b = subst (AllByRecursion (λ p. p < n)) (sym rest_old.positions) (all_append n made1.positions (drop j old.positions) (subst (AllByRecursion (λ p. p < n)) (sym rest_new.positions) (all_append n made.positions (drop i new.positions) m (all_drop n i new.positions a))) (all_drop n j old.positions b))

at_default : (xs : List ℕ) (i p : ℕ) → i < length xs → p ≡ get_or xs i p → p ≡ get_or xs i 0
at_default [] i p l e = absurd (omega arith)
at_default (x ∷ xs) zero p l e = e
at_default (x ∷ xs) (suc i) p l e = at_default xs i p (omega arith) e

pub less_at : (xs ys : List ℕ) (i j p q : ℕ) → i < length xs → j < length ys → p ≡ get_or xs i p → q ≡ get_or ys j q → p < q → get_or xs i 0 < get_or ys j 0
less_at xs ys i j p q li lj e f h = let a = at_default xs i p li e in let b = at_default ys j q lj f in omega arith

pub same_at : (xs ys : List ℕ) (i j p q : ℕ) → i < length xs → j < length ys → p ≡ get_or xs i p → q ≡ get_or ys j q → p ≡ q → get_or xs i 0 ≡ get_or ys j 0
same_at xs ys i j p q li lj e f h = let a = at_default xs i p li e in let b = at_default ys j q lj f in omega arith

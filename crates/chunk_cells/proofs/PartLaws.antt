-- A chunk with one more row.
use Rattle.std.proofs.Common.{◌≡◌, ℕ, zero, suc, ◌+◌, ◌-◌, ◌<◌, ◌≤◌, Bool, true, false, cond, List, [], ◌∷◌, ◌++◌, length, get_or, take, drop, set, refl, sym, ap, ◌∙◌, subst, arith, add-one, length-append}
use Rattle.std.specs.List.{AllByRecursion}
use Rattle.std.specs.Prelude.{int_le}
use Rattle.std.specs.Ordering.{is_lt}
use Rattle.std.specs.declared.cmp.Ordering.{Ordering}
use Rattle.std.specs.declared.cmp.Ordering.TheVariants.{Less}
use Rattle.std.proofs.lemmas.List.{take-map, drop-map, take_all, length-drop}
use Rattle.arrayvec.specs.ArrayVec.{ArrayVec}
use Rattle.cell_values.specs.declared.datum.Cell.{Cell}
use Rattle.cell_values.specs.declared.datum.Row.{Row}
use Rattle.cell_values.specs.declared.schema.Dimension.{Dimension}
use Rattle.cell_values.specs.declared.schema.Schema.{Schema}
use Rattle.array_rows.specs.Boxes.{by_pairs, is_inside, within, bounds_of}
use Rattle.array_rows.specs.Rows.{Coordinate, placed}
use Rattle.array_geom.specs.Geometry.{ChunkNumber, HasFrame, first_in, has_core, frame, frame_lengths, frame_low, coordinate_at, coordinate_in, position_of, volume}
use Rattle.array_geom.specs.Link.{IsPart, chunk_rows, number_order, rows_in, numbers}
use Rattle.array_geom.specs.declared.chunk.Chunk.{Chunk}
use Rattle.array_geom.proofs.LawProofs.{place_of_coordinate}
use Rattle.chunk_cells.specs.Frames.{HasFrames, AreFramed, TakesRow, TakeRow}
use Rattle.chunk_cells.specs.Inner.Near.{lies_between, near_high}
use Rattle.chunk_cells.specs.Inner.Numbers.{numbers_in, AreBefore}
use Rattle.chunk_cells.specs.Inner.Reach.{Reaches}
use Rattle.chunk_cells.specs.declared.assembly.near.Reached.{Reached}
use Rattle.array_geom.proofs.NearLemmas.{valid_placed}
use Rattle.array_geom.proofs.TestLaws.{and_parts}
use Rattle.chunk_cells.proofs.NumberLaws.{all_take, all_drop}
use Rattle.chunk_cells.proofs.NearLaws.{near_exact, not_above, not_below}
use Rattle.chunk_cells.proofs.CellLaws.{within-more}

all_push : {X : Type 0} (P : X → Type 0) (xs : List X) (x : X) → AllByRecursion P xs → P x → AllByRecursion P (xs ++ x ∷ [])
all_push P [] x a p = (p, tt)
all_push P (y ∷ ys) x a p = (a.0, all_push P ys x a.1 p)

by_pairs-push : {A B C : Type 0} (f : A → B → C) (xs : List A) (ys : List B) (x : A) (y : B) → length ys ≡ length xs → by_pairs f (xs ++ x ∷ []) (ys ++ y ∷ []) ≡ by_pairs f xs ys ++ f x y ∷ []
by_pairs-push f [] [] x y e = refl
by_pairs-push f [] (b ∷ ys) x y e = absurd (omega arith)
by_pairs-push f (a ∷ xs) [] x y e = absurd (omega arith)
by_pairs-push f (a ∷ xs) (b ∷ ys) x y e = ap (λ zs. f a b ∷ zs) (by_pairs-push f xs ys x y (omega arith))

row_again : (row : Row) (c : Coordinate) → c ≡ row.at.items → placed c row.cell ≡ row
row_again row c e = ap (λ (a : Coordinate). placed a row.cell) e

-- the chunk with the cell of a row in its frame
pub takes : (schema : Schema) (margins : List ℕ) (row : Row) (old new : Chunk) (p : ℕ) → HasFrame schema margins old.at.items → is_inside (frame schema.dimensions margins old.at.items) row.at.items ≡ true
    → p ≡ position_of schema.dimensions margins old.at.items row.at.items → new.at ≡ old.at → new.positions ≡ old.positions ++ p ∷ [] → new.cells ≡ old.cells ++ row.cell ∷ [] → TakesRow schema margins row old new
takes schema margins row old new p framed inside place number positions cells =
    let dims = schema.dimensions in
    let at_place : (p < volume (frame_lengths dims margins)) × (coordinate_at dims margins old.at.items p ≡ row.at.items) =
    subst (λ (q : ℕ). (q < volume (frame_lengths dims margins)) × (coordinate_at dims margins old.at.items q ≡ row.at.items)) (sym place) (place_of_coordinate schema margins old.at.items row.at.items framed inside) in
    record {
      number = number;
      part = λ rows is. part_with dims margins row old new p rows at_place.0 at_place.1 inside number positions cells is;
    }
  where
    part_with : (dims : List Dimension) (margins : List ℕ) (row : Row) (old new : Chunk) (p : ℕ) (rows : List Row) → p < volume (frame_lengths dims margins) → coordinate_at dims margins old.at.items p ≡ row.at.items → is_inside (frame dims margins old.at.items) row.at.items ≡ true
        → new.at ≡ old.at → new.positions ≡ old.positions ++ p ∷ [] → new.cells ≡ old.cells ++ row.cell ∷ [] → IsPart dims margins rows old → IsPart dims margins (rows ++ row ∷ []) new
    part_with dims margins row old new p rows below again inside number positions cells is = record {
      each = ap length cells ∙ length-append old.cells (row.cell ∷ []) ∙ ap (λ (n : ℕ). n + 1) is.each ∙ sym (length-append old.positions (p ∷ [])) ∙ sym (ap length positions);
      in_frame = subst (AllByRecursion (λ q. q < volume (frame_lengths dims margins))) (sym positions) (all_push (λ q. q < volume (frame_lengths dims margins)) old.positions p is.in_frame below);
      cells =
          ap (λ (a : ArrayVec ℕ). rows_in (frame_low dims margins a.items) (frame_lengths dims margins) new.positions new.cells) number
          ∙ ap (λ (ps : List ℕ). rows_in (frame_low dims margins old.at.items) (frame_lengths dims margins) ps new.cells) positions
          ∙ ap (λ (cs : List Cell). rows_in (frame_low dims margins old.at.items) (frame_lengths dims margins) (old.positions ++ p ∷ []) cs) cells
          ∙ by_pairs-push (λ (q : ℕ) (cell : Cell). placed (coordinate_in (frame_low dims margins old.at.items) (frame_lengths dims margins) q) cell) old.positions old.cells p row.cell is.each
          ∙ ap (λ (r : Row). chunk_rows dims margins old ++ r ∷ []) (row_again row (coordinate_at dims margins old.at.items p) again)
          ∙ ap (λ (rs : List Row). rs ++ row ∷ []) is.cells
          ∙ ap (λ (b : Bool). within (frame dims margins old.at.items) rows ++ cond b (row ∷ []) []) (sym inside)
          ∙ sym (within-more (frame dims margins old.at.items) rows row)
          ∙ ap (λ (a : ArrayVec ℕ). within (frame dims margins a.items) (rows ++ row ∷ [])) (sym number);
    }

append-nil : {X : Type 0} (xs : List X) → xs ++ [] ≡ xs
append-nil [] = refl
append-nil (x ∷ xs) = ap (λ ys. x ∷ ys) (append-nil xs)

-- the chunk, where the row is not in its frame
pub skips : (schema : Schema) (margins : List ℕ) (row : Row) (chunk : Chunk) → is_inside (frame schema.dimensions margins chunk.at.items) row.at.items ≡ false → TakesRow schema margins row chunk chunk
skips schema margins row chunk outside = record {
  number = refl;
  part = λ rows is. record {
    each = is.each;
    in_frame = is.in_frame;
    cells =
        is.cells
        ∙ sym (append-nil (within (frame schema.dimensions margins chunk.at.items) rows))
        ∙ ap (λ b. within (frame schema.dimensions margins chunk.at.items) rows ++ cond b (row ∷ []) []) (sym outside)
        ∙ sym (within-more (frame schema.dimensions margins chunk.at.items) rows row);
  };
}

-- the numbers that lie in the box are those of the chunks whose frame has the coordinate
length-has_core : (dims : List Dimension) (k : ChunkNumber) → has_core dims k ≡ true → length k ≡ length dims
length-has_core [] [] e = refl
length-has_core [] (q ∷ k) e = cc
length-has_core (d ∷ dims) [] e = cc
length-has_core (d ∷ dims) (q ∷ k) e = ap suc (length-has_core dims k (and_parts (int_le (first_in d q) d.hi) (has_core dims k) e).1)

pub frame_tested : (schema : Schema) (margins : List ℕ) (k : ChunkNumber) (c : Coordinate) (near : Reached) → HasFrames schema margins → has_core schema.dimensions k ≡ true → Reaches schema.dimensions margins c near → is_inside (bounds_of schema.dimensions) c ≡ true
    → is_inside (frame schema.dimensions margins k) c ≡ lies_between near.low.items near.high.items k
frame_tested schema margins k c near frames core reach inside =
    near_exact schema.dimensions margins k c (valid_placed schema frames.valid).near frames.each (length-has_core schema.dimensions k core) inside
    ∙ ap (λ (low : List ℕ). lies_between low (near_high schema.dimensions margins c) k) (sym reach.low_numbers)
    ∙ ap (λ (high : List ℕ). lies_between near.low.items high k) (sym reach.high_numbers)

not_true : (b : Bool) → (b ≡ true → ⊥) → b ≡ false
not_true true f = absurd (f refl)
not_true false f = refl

less_is_less : (t : Ordering) → t ≡ Less → is_lt t ≡ false → ⊥
less_is_less t e f = cc

-- a number before the box or after it is that of a chunk whose frame has not the coordinate
abbrev Outside : Schema → List ℕ → Coordinate → ChunkNumber → Type 0
Outside schema margins c k = is_inside (frame schema.dimensions margins k) c ≡ false

outside_before : (schema : Schema) (margins : List ℕ) (c : Coordinate) (near : Reached) (k : ChunkNumber) → HasFrames schema margins → Reaches schema.dimensions margins c near → is_inside (bounds_of schema.dimensions) c ≡ true → has_core schema.dimensions k ≡ true → number_order k near.low.items ≡ Less → Outside schema margins c k
outside_before schema margins c near k frames reach inside core l =
    frame_tested schema margins k c near frames core reach inside ∙ not_true (lies_between near.low.items near.high.items k) (λ t. less_is_less _ l (not_below near.low.items near.high.items k t))

outside_after : (schema : Schema) (margins : List ℕ) (c : Coordinate) (near : Reached) (k : ChunkNumber) → HasFrames schema margins → Reaches schema.dimensions margins c near → is_inside (bounds_of schema.dimensions) c ≡ true → has_core schema.dimensions k ≡ true → number_order near.high.items k ≡ Less → Outside schema margins c k
outside_after schema margins c near k frames reach inside core l =
    frame_tested schema margins k c near frames core reach inside ∙ not_true (lies_between near.low.items near.high.items k) (λ t. less_is_less _ l (not_above near.low.items near.high.items k t))

pub all_with : {X : Type 0} (P Q R : X → Type 0) (xs : List X) → AllByRecursion P xs → AllByRecursion Q xs → ((x : X) → P x → Q x → R x) → AllByRecursion R xs
all_with P Q R [] a b f = tt
all_with P Q R (x ∷ xs) a b f = (f x a.0 b.0, all_with P Q R xs a.1 b.1 f)

skip_all : (schema : Schema) (margins : List ℕ) (row : Row) (rows : List Row) (chunks : List Chunk) → AllByRecursion (Outside schema margins row.at.items) (numbers chunks) → AllByRecursion (IsPart schema.dimensions margins rows) chunks → AllByRecursion (IsPart schema.dimensions margins (rows ++ row ∷ [])) chunks
skip_all schema margins row rows [] o a = tt
skip_all schema margins row rows (chunk ∷ chunks) o a = ((skips schema margins row chunk o.0).part rows a.0, skip_all schema margins row rows chunks o.1 a.1)

-- the chunks before a place have taken the row, and the others are as before
abbrev pub TakenUpTo : Schema → List ℕ → Row → ℕ → List Chunk → List Chunk → Type 0
TakenUpTo schema margins row i old new = (rows : List Row) → AllByRecursion (IsPart schema.dimensions margins rows) old
    → AllByRecursion (IsPart schema.dimensions margins (rows ++ row ∷ [])) (take i new) × AllByRecursion (IsPart schema.dimensions margins rows) (drop i new)

all_taken : {X : Type 0} (P : X → Type 0) (i : ℕ) (xs : List X) → AllByRecursion P xs → AllByRecursion P (take i xs)
all_taken P zero xs a = tt
all_taken P (suc i) [] a = tt
all_taken P (suc i) (x ∷ xs) a = (a.0, all_taken P i xs a.1)

all_dropped : {X : Type 0} (P : X → Type 0) (i : ℕ) (xs : List X) → AllByRecursion P xs → AllByRecursion P (drop i xs)
all_dropped P zero xs a = a
all_dropped P (suc i) [] a = tt
all_dropped P (suc i) (x ∷ xs) a = all_dropped P i xs a.1

all_joined : {X : Type 0} (P : X → Type 0) (i : ℕ) (xs : List X) → AllByRecursion P (take i xs) → AllByRecursion P (drop i xs) → AllByRecursion P xs
all_joined P zero xs a b = b
all_joined P (suc i) [] a b = tt
all_joined P (suc i) (x ∷ xs) a b = (a.0, all_joined P i xs a.1 b)

numbers_taken : (i : ℕ) (chunks : List Chunk) (listed : List (ArrayVec ℕ)) → numbers chunks ≡ numbers_in listed → numbers (take i chunks) ≡ numbers_in (take i listed)
numbers_taken i chunks listed e = sym (take-map (λ (chunk : Chunk). chunk.at.items) i chunks) ∙ ap (take i) e ∙ take-map (λ (k : ArrayVec ℕ). k.items) i listed

numbers_dropped : (i : ℕ) (chunks : List Chunk) (listed : List (ArrayVec ℕ)) → numbers chunks ≡ numbers_in listed → numbers (drop i chunks) ≡ numbers_in (drop i listed)
numbers_dropped i chunks listed e = sym (drop-map (λ (chunk : Chunk). chunk.at.items) i chunks) ∙ ap (drop i) e ∙ drop-map (λ (k : ArrayVec ℕ). k.items) i listed

all_of_numbers : (P : ChunkNumber → Type 0) (xs : List (ArrayVec ℕ)) → AllByRecursion (λ n. P n.items) xs → AllByRecursion P (numbers_in xs)
all_of_numbers P [] a = tt
all_of_numbers P (x ∷ xs) a = (a.0, all_of_numbers P xs a.1)

-- the chunks before the box have nothing to take
pub taken_before : (schema : Schema) (margins : List ℕ) (row : Row) (near : Reached) (i : ℕ) (listed : List (ArrayVec ℕ)) (chunks : List Chunk) → HasFrames schema margins → Reaches schema.dimensions margins row.at.items near → is_inside (bounds_of schema.dimensions) row.at.items ≡ true
    → AreFramed schema.dimensions (numbers_in listed) → numbers chunks ≡ numbers_in listed → AreBefore near.low.items (take i listed) → TakenUpTo schema margins row i chunks chunks
taken_before schema margins row near i listed chunks frames reach inside framed same before =
    let outside : AllByRecursion (Outside schema margins row.at.items) (numbers_in (take i listed)) =
    all_with (λ (k : ChunkNumber). has_core schema.dimensions k ≡ true) (λ (k : ChunkNumber). number_order k near.low.items ≡ Less) (Outside schema margins row.at.items) (numbers_in (take i listed))
    (all_take (λ (k : ChunkNumber). has_core schema.dimensions k ≡ true) i listed framed) (all_of_numbers (λ (k : ChunkNumber). number_order k near.low.items ≡ Less) (take i listed) before) (λ k core l. outside_before schema margins row.at.items near k frames reach inside core l) in
    let unseen : AllByRecursion (Outside schema margins row.at.items) (numbers (take i chunks)) = subst (AllByRecursion (Outside schema margins row.at.items)) (sym (numbers_taken i chunks listed same)) outside in
    λ rows a. (skip_all schema margins row rows (take i chunks) unseen (all_taken (IsPart schema.dimensions margins rows) i chunks a), all_dropped (IsPart schema.dimensions margins rows) i chunks a)

-- nor have those after the box
pub taken_at_end : (schema : Schema) (margins : List ℕ) (row : Row) (near : Reached) (i : ℕ) (listed : List (ArrayVec ℕ)) (old chunks : List Chunk) → HasFrames schema margins → Reaches schema.dimensions margins row.at.items near → is_inside (bounds_of schema.dimensions) row.at.items ≡ true
    → AreFramed schema.dimensions (numbers_in listed) → numbers chunks ≡ numbers_in listed → AllByRecursion (λ n. number_order near.high.items n ≡ Less) (numbers_in (drop i listed)) → TakenUpTo schema margins row i old chunks → TakeRow schema margins row old chunks
taken_at_end schema margins row near i listed old chunks frames reach inside framed same after taken =
    let outside : AllByRecursion (Outside schema margins row.at.items) (numbers_in (drop i listed)) =
    all_with (λ (k : ChunkNumber). has_core schema.dimensions k ≡ true) (λ (k : ChunkNumber). number_order near.high.items k ≡ Less) (Outside schema margins row.at.items) (numbers_in (drop i listed))
    (all_drop (λ (k : ChunkNumber). has_core schema.dimensions k ≡ true) i listed framed) after (λ k core l. outside_after schema margins row.at.items near k frames reach inside core l) in
    let unseen : AllByRecursion (Outside schema margins row.at.items) (numbers (drop i chunks)) = subst (AllByRecursion (Outside schema margins row.at.items)) (sym (numbers_dropped i chunks listed same)) outside in
    λ rows a. let t = taken rows a in all_joined (IsPart schema.dimensions margins (rows ++ row ∷ [])) i chunks t.0 (skip_all schema margins row rows (drop i chunks) unseen t.1)

set_step : {X : Type 0} (P Q : X → Type 0) (xs : List X) (i : ℕ) (x y : X) → i < length xs → x ≡ get_or xs i x → AllByRecursion Q (take i xs) → AllByRecursion P (drop i xs) → (P x → Q y) → AllByRecursion Q (take (suc i) (set xs i y)) × AllByRecursion P (drop (suc i) (set xs i y))
set_step P Q [] i x y l e a b f = absurd (omega arith)
set_step P Q (z ∷ xs) zero x y l e a b f = ((f (subst P (sym e) b.0), tt), b.1)
set_step P Q (z ∷ xs) (suc i) x y l e a b f = let more = set_step P Q xs i x y (omega arith) e a.1 b f in ((a.0, more.0), more.1)

-- one more chunk has taken the row
pub taken_more : (schema : Schema) (margins : List ℕ) (row : Row) (i : ℕ) (old chunks : List Chunk) (chunk new : Chunk) → i < length chunks → chunk ≡ get_or chunks i chunk → TakesRow schema margins row chunk new → TakenUpTo schema margins row i old chunks → TakenUpTo schema margins row (suc i) old (set chunks i new)
taken_more schema margins row i old chunks chunk new l e takes_row taken = λ rows a.
    let t = taken rows a in
    set_step (IsPart schema.dimensions margins rows) (IsPart schema.dimensions margins (rows ++ row ∷ [])) chunks i chunk new l e t.0 t.1 (takes_row.part rows)

more_taken : {X : Type 0} (P Q : X → Type 0) (i j m : ℕ) (xs : List X) → j ≡ i + m → AllByRecursion Q (take i xs) → AllByRecursion P (drop i xs) → (AllByRecursion P (take m (drop i xs)) → AllByRecursion Q (take m (drop i xs))) → AllByRecursion Q (take j xs) × AllByRecursion P (drop j xs)
more_taken P Q zero j m xs e a b f =
    let same : m ≡ j = omega arith in
    subst (λ (n : ℕ). AllByRecursion Q (take n xs) × AllByRecursion P (drop n xs)) same (f (all_taken P m xs b), all_dropped P m xs b)
more_taken P Q (suc i) zero m xs e a b f = absurd (omega arith)
more_taken P Q (suc i) (suc j) m [] e a b f = (tt, tt)
more_taken P Q (suc i) (suc j) m (x ∷ xs) e a b f = let more = more_taken P Q i j m xs (omega arith) a.1 b f in ((a.0, more.0), more.1)

-- nor have those from a place on whose numbers the box has not
pub taken_over : (schema : Schema) (margins : List ℕ) (row : Row) (near : Reached) (i j m : ℕ) (listed : List (ArrayVec ℕ)) (old chunks : List Chunk) → j ≡ i + m → HasFrames schema margins → Reaches schema.dimensions margins row.at.items near → is_inside (bounds_of schema.dimensions) row.at.items ≡ true
    → AreFramed schema.dimensions (numbers_in listed) → numbers chunks ≡ numbers_in listed → AllByRecursion (λ n. lies_between near.low.items near.high.items n.items ≡ false) (take m (drop i listed)) → TakenUpTo schema margins row i old chunks → TakenUpTo schema margins row j old chunks
taken_over schema margins row near i j m listed old chunks e frames reach inside framed same unlisted taken =
    let ks = take m (drop i listed) in
    let outside : AllByRecursion (Outside schema margins row.at.items) (numbers_in ks) =
    all_with (λ (k : ChunkNumber). has_core schema.dimensions k ≡ true) (λ (k : ChunkNumber). lies_between near.low.items near.high.items k ≡ false) (Outside schema margins row.at.items) (numbers_in ks)
    (all_take (λ (k : ChunkNumber). has_core schema.dimensions k ≡ true) m (drop i listed) (all_drop (λ (k : ChunkNumber). has_core schema.dimensions k ≡ true) i listed framed))
    (all_of_numbers (λ (k : ChunkNumber). lies_between near.low.items near.high.items k ≡ false) ks unlisted)
    (λ k core l. frame_tested schema margins k row.at.items near frames core reach inside ∙ l) in
    let unseen : AllByRecursion (Outside schema margins row.at.items) (numbers (take m (drop i chunks))) = subst (AllByRecursion (Outside schema margins row.at.items)) (sym (numbers_taken m (drop i chunks) (drop i listed) (numbers_dropped i chunks listed same))) outside in
    λ rows a. let t = taken rows a in more_taken (IsPart schema.dimensions margins rows) (IsPart schema.dimensions margins (rows ++ row ∷ [])) i j m chunks e t.0 t.1 (skip_all schema margins row rows (take m (drop i chunks)) unseen)

pub same_numbers_set : (chunks : List Chunk) (i : ℕ) (chunk new : Chunk) → i < length chunks → chunk ≡ get_or chunks i chunk → new.at ≡ chunk.at → numbers (set chunks i new) ≡ numbers chunks
same_numbers_set [] i chunk new l e s = absurd (omega arith)
same_numbers_set (x ∷ chunks) zero chunk new l e s = ap (λ (a : ArrayVec ℕ). a.items ∷ numbers chunks) (s ∙ ap (λ (z : Chunk). z.at) e)
same_numbers_set (x ∷ chunks) (suc i) chunk new l e s = ap (λ (ks : List ChunkNumber). x.at.items ∷ ks) (same_numbers_set chunks i chunk new (omega arith) e s)

lengths_same : (chunks : List Chunk) (listed : List (ArrayVec ℕ)) → numbers chunks ≡ numbers_in listed → length chunks ≡ length listed
lengths_same [] [] e = refl
lengths_same [] (k ∷ listed) e = cc
lengths_same (x ∷ chunks) [] e = cc
lengths_same (x ∷ chunks) (k ∷ listed) e = let more : numbers chunks ≡ numbers_in listed = cc in ap suc (lengths_same chunks listed more)

pub as_long : (i : ℕ) (chunks : List Chunk) (listed : List (ArrayVec ℕ)) → numbers chunks ≡ numbers_in listed → i < length listed → i < length chunks
as_long i chunks listed same below = let l = lengths_same chunks listed same in omega arith

pub core_at : (dims : List Dimension) (chunks : List Chunk) (listed : List (ArrayVec ℕ)) (i : ℕ) (chunk : Chunk) → AreFramed dims (numbers_in listed) → numbers chunks ≡ numbers_in listed → i < length chunks → chunk ≡ get_or chunks i chunk → has_core dims chunk.at.items ≡ true
core_at dims chunks listed i chunk framed same below e = find chunks i chunk (subst (AreFramed dims) (sym same) framed) below e
  where
    find : (xs : List Chunk) (i : ℕ) (x : Chunk) → AreFramed dims (numbers xs) → i < length xs → x ≡ get_or xs i x → has_core dims x.at.items ≡ true
    find [] i x f l e = absurd (omega arith)
    find (y ∷ xs) zero x f l e = ap (λ (z : Chunk). has_core dims z.at.items) e ∙ f.0
    find (y ∷ xs) (suc i) x f l e = find xs i x f.1 (omega arith) e

pub taken_by_all : (schema : Schema) (margins : List ℕ) (row : Row) (i : ℕ) (old chunks : List Chunk) → length chunks ≤ i → TakenUpTo schema margins row i old chunks → TakeRow schema margins row old chunks
taken_by_all schema margins row i old chunks l taken = λ rows a. subst (AllByRecursion (IsPart schema.dimensions margins (rows ++ row ∷ []))) (take_all i chunks l) (taken rows a).0

pub not_longer : (i : ℕ) (chunks : List Chunk) (listed : List (ArrayVec ℕ)) → numbers chunks ≡ numbers_in listed → length listed ≤ i → length chunks ≤ i
not_longer i chunks listed same h = let l = lengths_same chunks listed same in omega arith

pub rest_after : {X : Type 0} (xs : List X) (i : ℕ) → take (length xs - (i + 1)) (drop (i + 1) xs) ≡ drop (suc i) xs
rest_after xs i = rw add-one (take_all (length xs - suc i) (drop (suc i) xs) (let l = length-drop (suc i) xs in omega arith))

pub between_is : (low high k a b d : List ℕ) → a ≡ low → b ≡ high → d ≡ k → lies_between low high k ≡ lies_between a b d
between_is low high k a b d e f g =
    sym (ap (λ (l : List ℕ). lies_between l b d) e ∙ ap (λ (h : List ℕ). lies_between low h d) f ∙ ap (lies_between low high) g)

-- Cells of a chunk from one index to another.
use Rattle.std.specs.List.{AllByRecursion}
use Rattle.std.proofs.Common.{◌≡◌, ℕ, ◌+◌, ◌<◌, arith, List, ◌++◌, length, take, drop, sym, ap, ◌∙◌, append_assoc, zero, suc, ◌-◌, ◌≤◌, [], ◌∷◌, get_or, length-append, drop-drop}
use Rattle.std.proofs.lemmas.List.{drop_more, take-append-drop, length-take-le, length-drop}
use Rattle.cell_values.specs.declared.datum.Cell.TheVariants.{Doubt}
use Rattle.cell_values.specs.declared.datum.FaultKind.TheVariants.{Overflow}
use Rattle.array_geom.specs.declared.chunk.Chunk.{Chunk}
use Rattle.chunk_cells.specs.Inner.Over.{HasNext}

-- with the cells from the index on the chunk has all from the start on
pub record HasUpTo (from : Chunk) (start index : ℕ) (old made : Chunk) : Type 0 where
  pub number : made.at ≡ old.at
  pub positions : made.positions ++ drop index from.positions ≡ old.positions ++ drop start from.positions
  pub cells : made.cells ++ drop index from.cells ≡ old.cells ++ drop start from.cells

next_part : {X : Type 0} (xs : List X) (i : ℕ) (d : X) → i < length xs → take 1 (drop i xs) ++ drop (i + 1) xs ≡ drop i xs
next_part xs i d l = ap (λ ys. take 1 ys ++ drop (i + 1) xs) (drop_more xs i d l) ∙ sym (drop_more xs i d l)

one_more : {X : Type 0} (old made made' xs : List X) (start i : ℕ) (d : X) → i < length xs → made' ≡ made ++ take 1 (drop i xs) → made ++ drop i xs ≡ old ++ drop start xs → made' ++ drop (i + 1) xs ≡ old ++ drop start xs
one_more old made made' xs start i d l e h =
    ap (λ ys. ys ++ drop (i + 1) xs) e ∙ append_assoc made (take 1 (drop i xs)) (drop (i + 1) xs) ∙ ap (λ ys. made ++ ys) (next_part xs i d l) ∙ h

pub up_to_more : (from old made made' : Chunk) (start i : ℕ) → length from.cells ≡ length from.positions → i < length from.positions → HasNext from i made made' → HasUpTo from start i old made → HasUpTo from start (i + 1) old made'
up_to_more from old made made' start i each l next before = record {
  number = next.number ∙ before.number;
  positions = one_more old.positions made.positions made'.positions from.positions start i 0 l next.positions before.positions;
  cells = one_more old.cells made.cells made'.cells from.cells start i (Doubt Overflow) (omega arith) next.cells before.cells;
}

pub first_dropped : {X : Type 0} (xs : List X) (i : ℕ) (d : X) → i < length xs → take 1 (drop i xs) ≡ get_or xs i d ∷ []
first_dropped xs i d l = ap (take 1) (drop_more xs i d l)

-- ---- one more at the end of a list

pub one_longer : {X : Type 0} (xs ys : List X) (x : X) (n : ℕ) → ys ≡ xs ++ x ∷ [] → length xs ≡ n → length ys ≡ n + 1
one_longer xs ys x n is count = ap length is ∙ length-append xs (x ∷ []) ∙ ap (λ (k : ℕ). k + 1) count

pub moved_more : {X : Type 0} (moved moved' : List X) (x : X) (left left' whole : List X) → moved' ≡ moved ++ x ∷ [] → left ≡ x ∷ left' → moved ++ left ≡ whole → moved' ++ left' ≡ whole
moved_more moved moved' x left left' whole pushed taken is = ap (λ ys. ys ++ left') pushed ∙ append_assoc moved (x ∷ []) left' ∙ ap (λ ys. moved ++ ys) (sym taken) ∙ is

pub fewer_right : {X : Type 0} (left right rest : List X) → 0 < length right → rest ≡ drop 1 right → length left + length rest < length left + length right
fewer_right left right rest some is = let n : length rest ≡ length right - 1 = ap length is ∙ length-drop 1 right in omega (arith, n, some)

-- ---- a list cut in two

pub both_counts : {X : Type 0} (half : ℕ) (xs front back : List X) → front ≡ take half xs → back ≡ drop half xs → length xs ≡ length front + length back
both_counts half xs front back f b =
    ap length (sym (take-append-drop half xs)) ∙ length-append (take half xs) (drop half xs)
    ∙ ap (λ ys. length ys + length (drop half xs)) (sym f) ∙ ap (λ ys. length front + length ys) (sym b)

pub left_twice : {X : Type 0} (a b n : ℕ) (xs ys : List X) → n ≡ a + b → ys ≡ drop a xs → drop b ys ≡ drop n xs
left_twice a b n xs ys count is = ap (drop b) is ∙ drop-drop b a xs ∙ ap (λ (k : ℕ). drop k xs) (sym count)

pub front_few : {X : Type 0} (half : ℕ) (xs front : List X) → half < length xs → front ≡ take half xs → length front < length xs
front_few half xs front few f = let n : length front ≡ half = ap length f ∙ length-take-le half xs (omega (arith, few)) in omega (arith, n, few)

pub back_few : {X : Type 0} (half : ℕ) (xs back : List X) → 0 < half → half < length xs → back ≡ drop half xs → length back < length xs
back_few half xs back some few b = let n : length back ≡ length xs - half = ap length b ∙ length-drop half xs in omega (arith, n, some, few)

pub back_enough : {X Y : Type 0} (first front back : List X) (before after : List Y) → length first ≡ length front + length back → length first ≤ length before → after ≡ drop (length front) before
    → length back ≤ length after
back_enough first front back before after count some is =
    let n : length after ≡ length before - length front = ap length is ∙ length-drop (length front) before in omega (arith, n, count, some)

pub all_dropped : {X : Type 0} (P : X → Type 0) (n : ℕ) (xs : List X) → AllByRecursion P xs → AllByRecursion P (drop n xs)
all_dropped P zero xs all = all
all_dropped P (suc n) [] all = tt
all_dropped P (suc n) (x ∷ xs) all = all_dropped P n xs all.1

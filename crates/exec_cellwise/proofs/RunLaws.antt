-- Coordinates that differ in their last number alone.
use Rattle.std.proofs.Common.{◌≡◌, ℕ, ◌+◌, ◌*◌, ◌<◌, ◌≤◌, ℤ, pos, ◌+ℤ◌, ◌-ℤ◌, ◌≤ℤ◌, Bool, true, false, cond, List, [], ◌∷◌, ◌++◌, length, take, refl, ap, ◌∙◌, append_assoc, length-append, arith}
use Rattle.std.specs.Prelude.{int_le, unsigned_abs}
use Rattle.std.proofs.lemmas.Int.{ints}
use Rattle.cell_values.specs.declared.datum.Row.{Row}
use Rattle.array_rows.specs.Rows.{Coordinate}
use Rattle.array_rows.specs.Boxes.{is_between}
use Rattle.array_geom.specs.Geometry.{position_in, volume}
use Rattle.array_geom.specs.Inner.Ranges.{is_in_grid}
use Rattle.array_geom.proofs.PlaceLaws.{in_grid}
use Rattle.array_geom.proofs.TestLaws.{and_both, le_from_test, le_test}
use Rattle.logical_plan.specs.Meaning.{how_many}
use Rattle.exec_cellwise.specs.Inner.Walks.{rows_between}

shift : (a p q k : ℕ) → p ≡ q + k → a + p ≡ a + q + k
shift a p q k e = omega (arith, e)

last_steps : (l x : ℤ) (k : ℕ) → l ≤ℤ x → unsigned_abs ((x +ℤ pos k) -ℤ l) * 1 + 0 ≡ unsigned_abs (x -ℤ l) * 1 + 0 + k
last_steps l x k h = omega (arith, ints)

-- the place of a coordinate whose last number is higher
pub place_further : (low : List ℤ) (lengths : List ℕ) (c : Coordinate) (x : ℤ) (k : ℕ) → is_in_grid low lengths (c ++ x ∷ []) ≡ true → position_in low lengths (c ++ (x +ℤ pos k) ∷ []) ≡ position_in low lengths (c ++ x ∷ []) + k
place_further [] [] [] x k e = cc
place_further [] [] (y ∷ c) x k e = cc
place_further [] (n ∷ ns) c x k e = cc
place_further (l ∷ low) [] c x k e = cc
place_further (l ∷ []) (n ∷ []) [] x k e = last_steps l x k (in_grid l x n true e).low
place_further (l ∷ []) (n ∷ m ∷ ns) [] x k e = let t = (in_grid l x n false e).rest in cc
place_further (l ∷ j ∷ low) (n ∷ []) [] x k e = let t = (in_grid l x n false e).rest in cc
place_further (l ∷ j ∷ low) (n ∷ m ∷ ns) [] x k e = let t = (in_grid l x n false e).rest in cc
place_further (l ∷ low) (n ∷ ns) (y ∷ c) x k e =
    shift (unsigned_abs (y -ℤ l) * volume ns) (position_in low ns (c ++ (x +ℤ pos k) ∷ [])) (position_in low ns (c ++ x ∷ [])) k (place_further low ns c x k (in_grid l y n (is_in_grid low ns (c ++ x ∷ [])) e).rest)

pub up_to : (l h : ℤ) (n : ℕ) → n < how_many l h → (l +ℤ pos n) ≤ℤ h
up_to l h n = cases (int_le l h) refl
  where
    cases : (t : Bool) → int_le l h ≡ t → n < cond t (unsigned_abs (h -ℤ l) + 1) 0 → (l +ℤ pos n) ≤ℤ h
    cases false e g = absurd (omega arith)
    cases true e g = let f = le_from_test l h e in omega (arith, ints)

pub low_in : (l h : ℤ) (n : ℕ) → n < how_many l h → l ≤ℤ h
low_in l h n g = let f = up_to l h n g in omega (arith, ints)

-- a number of the run lies in the grid
pub inside_run : (low : List ℤ) (lengths : List ℕ) (at : Coordinate) (l h x : ℤ) → l ≤ℤ x → x ≤ℤ h → ((c : Coordinate) → is_between (l ∷ []) (h ∷ []) c ≡ true → is_in_grid low lengths (at ++ c) ≡ true) → is_in_grid low lengths (at ++ x ∷ []) ≡ true
inside_run low lengths at l h x a b f = f (x ∷ []) (and_both _ _ (and_both _ _ (le_test l x a) (le_test x h b)) refl)

-- so do those behind a number along a first dimension
pub inside_along : (low : List ℤ) (lengths : List ℕ) (at next : Coordinate) (l h x : ℤ) (lo hi : List ℤ) → l ≤ℤ x → x ≤ℤ h → next ≡ at ++ x ∷ []
    → ((c : Coordinate) → is_between (l ∷ lo) (h ∷ hi) c ≡ true → is_in_grid low lengths (at ++ c) ≡ true)
    → (c : Coordinate) → is_between lo hi c ≡ true → is_in_grid low lengths (next ++ c) ≡ true
inside_along low lengths at next l h x lo hi a b is f c here =
    ap (λ (z : Coordinate). is_in_grid low lengths (z ++ c)) is ∙ ap (is_in_grid low lengths) (append_assoc at (x ∷ []) c)
    ∙ f (x ∷ c) (and_both _ _ (and_both _ _ (le_test l x a) (le_test x h b)) here)

pub room_along : {A : Type 0} (at next : Coordinate) (x : ℤ) (lo : List A) → next ≡ at ++ x ∷ [] → length at + length lo < 6 → length next + length lo ≤ 6
room_along at next x lo is room = omega (arith, room, ap length is ∙ length-append at (x ∷ []))

-- ---- the last dimension

pub last_rows : (row : Coordinate → Row) (at : Coordinate) (l h : ℤ) (lo hi : List ℤ) → length lo ≡ 0 → length hi ≡ 0 → rows_between row at (l ∷ []) (h ∷ []) ≡ rows_between row at (l ∷ lo) (h ∷ hi)
last_rows row at l h [] [] a b = refl
last_rows row at l h [] (y ∷ hi) a b = absurd (omega (arith, b))
last_rows row at l h (x ∷ lo) hi a b = absurd (omega (arith, a))

pub last_between : (l h : ℤ) (lo hi c : Coordinate) → length lo ≡ 0 → length hi ≡ 0 → is_between (l ∷ []) (h ∷ []) c ≡ true → is_between (l ∷ lo) (h ∷ hi) c ≡ true
last_between l h [] [] c a b e = e
last_between l h [] (y ∷ hi) c a b e = absurd (omega (arith, b))
last_between l h (x ∷ lo) hi c a b e = absurd (omega (arith, a))

-- ---- a run's coordinates

pub after_low : (l : ℤ) → l ≤ℤ l
after_low l = omega (arith, ints)

pub after_all : (l : ℤ) (n : ℕ) → l ≤ℤ (l +ℤ pos n)
after_all l n = omega (arith, ints)

-- a coordinate with another last number
pub next_number : (at old cut new : List ℤ) (number low : ℤ) (offset count : ℕ) → count ≡ length at → cut ≡ take count old → take (length at) old ≡ at → number ≡ low +ℤ pos offset → new ≡ cut ++ number ∷ [] → new ≡ at ++ (low +ℤ pos offset) ∷ []
next_number at old cut new number low offset count e c b n p =
    p ∙ ap (λ (l : List ℤ). l ++ number ∷ []) (c ∙ ap (λ (k : ℕ). take k old) e ∙ b) ∙ ap (λ (x : ℤ). at ++ x ∷ []) n

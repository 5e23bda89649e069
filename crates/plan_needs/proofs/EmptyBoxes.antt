-- Boxes of which a side is empty hold no coordinate, and what is needed for a coordinate of a box is needed of a box with places.
use Rattle.std.proofs.Common.{◌≡◌, ℤ, ◌<ℤ◌, Bool, true, false, [], ◌∷◌, length, refl, sym, ap, ◌∙◌, arith}
use Rattle.std.specs.Prelude.{◌&&◌, ◌||◌, int_le}
use Rattle.std.proofs.lemmas.Bool.{false≢true}
use Rattle.std.proofs.lemmas.Int.{ints}
use Rattle.std.proofs.lemmas.List.{length-map}
use Rattle.array_rows.specs.Boxes.{is_inside}
use Rattle.array_rows.specs.Rows.{Coordinate}
use Rattle.array_geom.proofs.TestLaws.{le_from_test, lt_from_test}
use Rattle.plan_needs.specs.Sides.{Sides, box_of, has_empty, unless_nothing}
use Rattle.plan_needs.specs.Stretches.{nothing, is_empty}

none_between : (l h x : ℤ) (more : Bool) → h <ℤ l → (int_le l x && int_le x h && more) ≡ false
none_between l h x more lt = by_tests (int_le l x) (int_le x h) refl refl
  where
    by_tests : (a b : Bool) → int_le l x ≡ a → int_le x h ≡ b → (a && b && more) ≡ false
    by_tests false b f g = refl
    by_tests true false f g = refl
    by_tests true true f g = let p = le_from_test l x f in let q = le_from_test x h g in absurd (omega (arith, ints))

pub empty_box : (sides : Sides) (c : Coordinate) → has_empty sides ≡ true → is_inside (box_of sides) c ≡ false
empty_box [] c e = absurd cc
empty_box (s ∷ sides) [] e = refl
empty_box (s ∷ sides) (x ∷ c) e = by_side (is_empty s) refl e (λ f. empty_box sides c f)
  where
    never : (a b : Bool) → (a && b && false) ≡ false
    never true true = refl
    never true false = refl
    never false b = refl

    by_side : (t : Bool) → is_empty s ≡ t → (t || has_empty sides) ≡ true → (has_empty sides ≡ true → is_inside (box_of sides) c ≡ false)
        → (int_le s.first x && int_le x s.last && is_inside (box_of sides) c) ≡ false
    by_side true f g ih = none_between s.first s.last x (is_inside (box_of sides) c) (lt_from_test s.last s.first f)
    by_side false f g ih = ap (λ (m : Bool). int_le s.first x && int_le x s.last && m) (ih g) ∙ never (int_le s.first x) (int_le x s.last)

-- what is needed is still there where it is not nothing
pub still_inside : (none : Bool) (needed : Sides) (c : Coordinate) → none ≡ false → is_inside (box_of needed) c ≡ true → is_inside (box_of (unless_nothing none needed)) c ≡ true
still_inside false needed c e h = h
still_inside true needed c e h = absurd (false≢true (sym e))

-- a box that holds a coordinate has places
pub has_places : (sides : Sides) (c : Coordinate) → is_inside (box_of sides) c ≡ true → has_empty sides ≡ false
has_places sides c h = by_test (has_empty sides) refl
  where
    by_test : (b : Bool) → has_empty sides ≡ b → b ≡ false
    by_test false e = refl
    by_test true e = absurd (false≢true (sym (empty_box sides c e) ∙ h))

-- so what is needed for it is needed
pub needed_inside : (sides needed : Sides) (c z : Coordinate) → is_inside (box_of sides) c ≡ true → is_inside (box_of needed) z ≡ true → is_inside (box_of (unless_nothing (has_empty sides) needed)) z ≡ true
needed_inside sides needed c z h i = still_inside (has_empty sides) needed z (has_places sides c h) i

pub length-unless_nothing : (none : Bool) (sides : Sides) → length (unless_nothing none sides) ≡ length sides
length-unless_nothing true sides = length-map sides (λ s. nothing)
length-unless_nothing false sides = refl

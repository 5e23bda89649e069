-- What the tests ask of their example.
use Rattle.std.proofs.Common.{◌≡◌, ℕ, pos, negsuc, true, List, [], ◌∷◌, refl, sym, subst, arith}
use Rattle.array_rows.specs.Schema.{Schema}
use Rattle.array_rows.specs.Schemas.{IsValid}
use Rattle.array_rows.specs.Rows.{Coordinate}
use Rattle.array_rows.specs.Boxes.{corners, bounds_of, is_inside}
use Rattle.array_geom.specs.Areas.{is_in_range, shifted}
use Rattle.array_geom.specs.Inner.Example.{example}
use Rattle.array_geom.specs.Geometry.{ChunkNumber, HasFrame, frame, has_core}

pub valid_example : (s : Schema) → s ≡ example → IsValid s
valid_example s e = subst IsValid (sym e) refl

abbrev ones : List ℕ
ones = 1 ∷ 1 ∷ []

abbrev cell : Coordinate
cell = pos 1 ∷ pos 4 ∷ []

pub core_example : (s : Schema) (k : ChunkNumber) → s ≡ example → k ≡ ones → has_core s.dimensions k ≡ true
core_example s k e f = subst (λ (x : Schema). has_core x.dimensions k ≡ true) (sym e) (subst (λ (n : ChunkNumber). has_core example.dimensions n ≡ true) (sym f) refl)

framed : HasFrame example ones ones
framed = record { valid = refl; core = refl; each = refl; places = omega arith }

pub frame_example : (s : Schema) (m : List ℕ) (k : ChunkNumber) → s ≡ example → m ≡ ones → k ≡ ones → HasFrame s m k
frame_example s m k e f g = subst (λ (x : Schema). HasFrame x m k) (sym e) (subst (λ (n : List ℕ). HasFrame example n k) (sym f) (subst (HasFrame example ones) (sym g) framed))

pub bounds_example : (s : Schema) (c : Coordinate) → s ≡ example → c ≡ cell → is_inside (bounds_of s.dimensions) c ≡ true
bounds_example s c e f = subst (λ (x : Schema). is_inside (bounds_of x.dimensions) c ≡ true) (sym e) (subst (λ (d : Coordinate). is_inside (bounds_of example.dimensions) d ≡ true) (sym f) refl)

pub inside_example : (s : Schema) (m : List ℕ) (k : ChunkNumber) (c : Coordinate) → s ≡ example → m ≡ ones → k ≡ ones → c ≡ cell → is_inside (frame s.dimensions m k) c ≡ true
inside_example s m k c e f g h =
    subst (λ (x : Schema). is_inside (frame x.dimensions m k) c ≡ true) (sym e)
    (subst (λ (n : List ℕ). is_inside (frame example.dimensions n k) c ≡ true) (sym f)
    (subst (λ (n : List ℕ). is_inside (frame example.dimensions ones n) c ≡ true) (sym g)
    (subst (λ (d : Coordinate). is_inside (frame example.dimensions ones ones) d ≡ true) (sym h) refl)))

pub range_example : (lo hi by : Coordinate) → lo ≡ pos 2 ∷ pos 0 ∷ [] → hi ≡ pos 3 ∷ pos 2 ∷ [] → by ≡ negsuc 1 ∷ pos 5 ∷ [] → is_in_range (shifted (corners lo hi) by) ≡ true
range_example lo hi by e f g =
    subst (λ (c : Coordinate). is_in_range (shifted (corners c hi) by) ≡ true) (sym e)
    (subst (λ (c : Coordinate). is_in_range (shifted (corners (pos 2 ∷ pos 0 ∷ []) c) by) ≡ true) (sym f)
    (subst (λ (c : Coordinate). is_in_range (shifted (corners (pos 2 ∷ pos 0 ∷ []) (pos 3 ∷ pos 2 ∷ [])) c) ≡ true) (sym g) refl))

-- Worked examples of the place of a new array's name.
use Rattle.std.proofs.Common.{◌≡◌, ℕ, ◌∷◌, ◌++◌, refl}
use Rattle.std.specs.Prelude.{codes}
use Rattle.cell_values.specs.declared.name.Span.{Span}
use Rattle.afl_types.specs.Place.{created_place}

abbrev at : ℕ → ℕ → Span
at a b = record { start = a; end = b }

plain : created_place (codes "create array A <") (at 0 16) (codes "A") ≡ at 13 14
plain = refl

spaces : created_place (codes "create   array  A<") (at 0 18) (codes "A") ≡ at 16 17
spaces = refl

-- behind comments, each up to a line feed
comments : created_place (codes "create--c" ++ 10 ∷ codes "array--" ++ 10 ∷ codes "Ab<") (at 0 21) (codes "Ab") ≡ at 18 20
comments = refl

-- a statement need not begin the text
later : created_place (codes "  create array A <") (at 2 18) (codes "A") ≡ at 15 16
later = refl

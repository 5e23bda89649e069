-- Lists of positions, and rows at places.
use Rattle.std.proofs.Common.{◌≡◌, ℕ, suc, ◌<◌, ℤ, List, [], ◌∷◌, ◌++◌, length, refl, sym, ap, arith}
use Rattle.std.specs.List.{AllByRecursion}
use Rattle.cell_values.specs.declared.datum.Cell.{Cell}
use Rattle.cell_values.specs.declared.datum.Row.{Row}
use Rattle.array_geom.specs.Rows.{placed}
use Rattle.array_geom.specs.Chunks.{AreRising}
use Rattle.array_geom.specs.Geometry.{coordinate_in}
use Rattle.array_geom.specs.Link.{rows_in}

pub one_less : (m n : ℕ) → suc m ≡ suc n → m ≡ n
one_less m n e = omega (arith, e)

pub not_none : (n : ℕ) → 0 ≡ suc n → ⊥
not_none n e = omega (arith, e)

-- a list without one of its items
pub All-without : {A : Type 0} (P : A → Type 0) (a : List A) (x : A) (b : List A) → AllByRecursion P (a ++ x ∷ b) → AllByRecursion P (a ++ b)
All-without P [] x b h = h.1
All-without P (y ∷ a) x b h = (h.0, All-without P a x b h.1)

pub AreRising-without : (a : List ℕ) (x : ℕ) (b : List ℕ) → AreRising (a ++ x ∷ b) → AreRising (a ++ b)
AreRising-without [] x b h = h.1
AreRising-without (y ∷ a) x b h = (All-without (λ later. y < later) a x b h.0, AreRising-without a x b h.1)

-- one item more
pub length-more : {A : Type 0} (a : List A) (x : A) → length (a ++ x ∷ []) ≡ suc (length a)
length-more [] x = refl
length-more (y ∷ a) x = ap suc (length-more a x)

-- one row more
pub rows_in-more : (low : List ℤ) (lengths positions : List ℕ) (cells : List Cell) (p : ℕ) (x : Cell) → length cells ≡ length positions
    → rows_in low lengths (positions ++ p ∷ []) (cells ++ x ∷ []) ≡ rows_in low lengths positions cells ++ placed (coordinate_in low lengths p) x ∷ []
rows_in-more low lengths [] [] p x e = refl
rows_in-more low lengths [] (y ∷ cells) p x e = absurd (not_none (length cells) (sym e))
rows_in-more low lengths (q ∷ positions) [] p x e = absurd (not_none (length positions) e)
rows_in-more low lengths (q ∷ positions) (y ∷ cells) p x e =
    ap (λ (rows : List Row). placed (coordinate_in low lengths q) y ∷ rows)
    (rows_in-more low lengths positions cells p x (one_less (length cells) (length positions) e))

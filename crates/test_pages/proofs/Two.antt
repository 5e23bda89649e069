-- Two pages.
use Rattle.std.proofs.Common.{◌≢◌, ℕ, zero, suc, [], ◌∷◌, arith}
use Rattle.page_chain.specs.Pages.{AreDistinct}

pub two_distinct : (a b : ℕ) → a ≢ b → AreDistinct (a ∷ b ∷ [])
two_distinct a b apart zero zero less low = absurd (omega arith)
two_distinct a b apart zero (suc zero) less low = apart
two_distinct a b apart zero (suc (suc j)) less low = absurd (omega arith)
two_distinct a b apart (suc i) zero less low = absurd (omega arith)
two_distinct a b apart (suc i) (suc zero) less low = absurd (omega arith)
two_distinct a b apart (suc i) (suc (suc j)) less low = absurd (omega arith)

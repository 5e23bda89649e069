-- Suffixes that are tried one after the other.
use Rattle.std.proofs.Common.{◌≡◌, ℕ, zero, suc, ◌+◌, Bool, true, false, not, List, cond, refl, ap, ◌∙◌}
use Rattle.cell_values.specs.Schemas.{is_among}
use Rattle.logical_plan.specs.PlanSchema.{free_from, with_suffix}

pub not_false : (b : Bool) → not b ≡ false → b ≡ true
not_false true e = refl
not_false false e = cc

module _ (given : List (List ℕ)) (name : List ℕ) where
  pub free_here : (n k : ℕ) → is_among (with_suffix name k) given ≡ false → free_from n k given name ≡ with_suffix name k
  free_here zero k e = refl
  free_here (suc n) k e = ap (λ b. cond b (free_from n (k + 1) given name) (with_suffix name k)) e

  pub free_on : (n m k : ℕ) → n ≡ suc m → is_among (with_suffix name k) given ≡ true → free_from n k given name ≡ free_from m (k + 1) given name
  free_on n m k e taken = ap (λ i. free_from i k given name) e ∙ ap (λ b. cond b (free_from m (k + 1) given name) (with_suffix name k)) taken

  pub free_last : (n k last : ℕ) → n ≡ 0 → k ≡ last → free_from n k given name ≡ with_suffix name last
  free_last n k last e f = ap (λ i. free_from i k given name) e ∙ ap (with_suffix name) f

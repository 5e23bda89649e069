-- What is found first, one element after the other.
use Rattle.std.proofs.Common.{◌≡◌, ℕ, suc, ◌+◌, ◌<◌, List, length, get_or, drop, Option, None, Some, sym, ◌∙◌, ap, arith}
use Rattle.std.proofs.Math.Seq.{drop-cons}
use Rattle.std.specs.Option.{option_or}
use Rattle.run_opening.specs.Outcomes.{first_by}

module _ {X Y : Type 0} (f : X → Option Y) (xs : List X) (i : ℕ) (x : X) (within : i < length xs) (is : x ≡ get_or xs i x) where
  here : first_by f (drop i xs) ≡ option_or (f x) (first_by f (drop (i + 1) xs))
  here =
      let next : suc i ≡ i + 1 = omega arith in
      ap (first_by f) (drop-cons xs i x within) ∙ ap (λ (o : Option Y). option_or o (first_by f (drop (suc i) xs))) (ap f (sym is))
      ∙ ap (λ (n : ℕ). option_or (f x) (first_by f (drop n xs))) next

  -- it isn't found here
  pub goes_on : (o : Option Y) → o ≡ f x → o ≡ None → first_by f xs ≡ first_by f (drop i xs) → first_by f xs ≡ first_by f (drop (i + 1) xs)
  goes_on o of none before = before ∙ here ∙ ap (λ (p : Option Y). option_or p (first_by f (drop (i + 1) xs))) (sym of ∙ none)

  -- it is
  pub is_found : (o : Option Y) (y : Y) → o ≡ f x → o ≡ Some y → first_by f xs ≡ first_by f (drop i xs) → Some y ≡ first_by f xs
  is_found o y of some before =
      sym (before ∙ here ∙ ap (λ (p : Option Y). option_or p (first_by f (drop (i + 1) xs))) (sym of ∙ some))

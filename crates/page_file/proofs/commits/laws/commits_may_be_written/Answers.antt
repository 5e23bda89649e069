use Rattle.std.proofs.Common.{◌≢◌, ◌<◌, ℕ, zero, suc, List, [], ◌∷◌, sym, ap, subst, arith}
use Rattle.page_chain.specs.Places.{IsNone}
use Rattle.page_chain.specs.Pages.{pages_for, AreDistinct}
use Rattle.page_chain.specs.Chains.{content_size}
use Rattle.page_chain.proofs.Kept.{size_is}
use Rattle.page_file.proofs.commits.laws.commits_may_be_written.Goals as goal

none_nil : (n : ℕ) → IsNone [] n
none_nil n k low is = absurd (omega (arith, low))

none_cons : (x n : ℕ) (xs : List ℕ) → x ≢ n → IsNone xs n → IsNone (x ∷ xs) n
none_cons x n xs differs none zero low is = differs is
none_cons x n xs differs none (suc k) low is = none k (omega (arith, low)) is

distinct_nil : AreDistinct []
distinct_nil i j less low = absurd (omega (arith, low))

distinct_cons : (x : ℕ) (xs : List ℕ) → IsNone xs x → AreDistinct xs → AreDistinct (x ∷ xs)
distinct_cons x xs none rest zero zero less low = absurd (omega (arith, less))
distinct_cons x xs none rest zero (suc j) less low = λ same. none j (omega (arith, low)) (sym same)
distinct_cons x xs none rest (suc i) zero less low = absurd (omega (arith, less))
distinct_cons x xs none rest (suc i) (suc j) less low = rest i j (omega (arith, less)) (omega (arith, low))

three_pages : (n : ℕ) → n < 3 → IsNone (3 ∷ 4 ∷ 5 ∷ []) n
three_pages n low = none_cons 3 n (4 ∷ 5 ∷ []) (λ is. omega (arith, low, is)) (none_cons 4 n (5 ∷ []) (λ is. omega (arith, low, is)) (none_cons 5 n [] (λ is. omega (arith, low, is)) (none_nil n)))

two_pages : (n : ℕ) → n < 3 → IsNone (3 ∷ 4 ∷ []) n
two_pages n low = none_cons 3 n (4 ∷ []) (λ is. omega (arith, low, is)) (none_cons 4 n [] (λ is. omega (arith, low, is)) (none_nil n))

three_distinct : AreDistinct (3 ∷ 4 ∷ 5 ∷ [])
three_distinct = distinct_cons 3 (4 ∷ 5 ∷ []) (none_cons 4 3 (5 ∷ []) (λ is. omega (arith, is)) (none_cons 5 3 [] (λ is. omega (arith, is)) (none_nil 3)))
    (distinct_cons 4 (5 ∷ []) (none_cons 5 4 [] (λ is. omega (arith, is)) (none_nil 4)) (distinct_cons 5 [] (none_nil 5) distinct_nil))

two_distinct : AreDistinct (3 ∷ 4 ∷ [])
two_distinct = distinct_cons 3 (4 ∷ []) (none_cons 4 3 [] (λ is. omega (arith, is)) (none_nil 3)) (distinct_cons 4 [] (none_nil 4) distinct_nil)

pub returns : goal.returns
returns c = λ slots is. (
  record { distinct = two_distinct; apart = two_pages 0 (omega arith); log = subst (IsNone (3 ∷ 4 ∷ [])) (sym is) (two_pages 2 (omega arith)) },
  record { distinct = three_distinct; apart = three_pages 0 (omega arith); log = subst (IsNone (3 ∷ 4 ∷ 5 ∷ [])) (sym is) (three_pages 2 (omega arith)) },
  (sym (ap (λ (s : ℕ). pages_for s 1) size_is), tt),
  record { some = omega arith; enough = sym (ap (λ (s : ℕ). pages_for (content_size s) 1) size_is) },
)

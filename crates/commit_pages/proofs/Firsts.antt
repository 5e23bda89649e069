-- The first of some pages and those behind them, where there may be fewer.
use Rattle.std.proofs.Common.{◌≡◌, ◌⊎◌, inl, inr, ℕ, zero, suc, ◌-◌, ◌<◌, ◌≤◌, min, List, [], ◌∷◌, length, take, drop, refl, sym, ap, ◌∙◌, arith}
use Rattle.std.proofs.lemmas.Bool.{cases_lt}
use Rattle.std.proofs.lemmas.List.{take_all, length-drop}

pub first_ones : (pages : List ℕ) (count : ℕ) → take (min count (length pages)) pages ≡ take count pages
first_ones pages count = by_case (cases_lt count (length pages)) where
  by_case : (count < length pages) ⊎ (length pages ≤ count) → take (min count (length pages)) pages ≡ take count pages
  by_case (inl lt) = let e : min count (length pages) ≡ count = omega arith in ap (λ (n : ℕ). take n pages) e
  by_case (inr le) =
      let all : length pages ≤ min count (length pages) = omega arith in
      take_all (min count (length pages)) pages all ∙ sym (take_all count pages le)

none_behind : (pages : List ℕ) (count : ℕ) → length pages ≤ count → drop count pages ≡ []
none_behind [] zero le = refl
none_behind [] (suc count) le = refl
none_behind (p ∷ pages) zero le = absurd (omega (arith, le))
none_behind (p ∷ pages) (suc count) le = none_behind pages count (omega (arith, le))

behind_them : (pages : List ℕ) (count : ℕ) → drop (min count (length pages)) pages ≡ drop count pages
behind_them pages count = by_case (cases_lt count (length pages)) where
  by_case : (count < length pages) ⊎ (length pages ≤ count) → drop (min count (length pages)) pages ≡ drop count pages
  by_case (inl lt) = let e : min count (length pages) ≡ count = omega arith in ap (λ (n : ℕ). drop n pages) e
  by_case (inr le) =
      let e : min count (length pages) ≡ length pages = omega arith in
      ap (λ (n : ℕ). drop n pages) e ∙ none_behind pages (length pages) (omega arith) ∙ sym (none_behind pages count le)

pub later_ones : (pages : List ℕ) (count least : ℕ) → least ≡ min count (length pages) → take (length pages - least) (drop least pages) ≡ drop count pages
later_ones pages count least is =
    let left : length (drop least pages) ≡ length pages - least = length-drop least pages in
    let all : length (drop least pages) ≤ length pages - least = omega (arith, left) in
    take_all (length pages - least) (drop least pages) all ∙ ap (λ (n : ℕ). drop n pages) is ∙ behind_them pages count

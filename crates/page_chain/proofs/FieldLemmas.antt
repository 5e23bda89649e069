-- Numbers at places.
use Rattle.std.proofs.Common.{◌≡◌, ℕ, zero, suc, ◌+◌, List, drop, slice_index, refl, ◌∙◌, ap, arith}
use Rattle.std.proofs.lemmas.List.{get_or-drop}
use Rattle.byteorder.specs.Endian.{little_from}
use Rattle.page_chain.specs.Places.{number_at}

little_from-drop : (i n k : ℕ) (xs : List ℕ) → little_from i n (drop k xs) ≡ little_from (k + i) n xs
little_from-drop i zero k xs = refl
little_from-drop i (suc n) k xs =
    let rest : little_from (suc i) n (drop k xs) ≡ little_from (k + suc i) n xs = little_from-drop (suc i) n k xs in
    let same : k + suc i ≡ suc (k + i) = omega arith in
    let byte : slice_index (drop k xs) i ≡ slice_index xs (k + i) = get_or-drop k xs i 0 in
    rw (byte, rest, same) refl

pub number_in_rest : (n k : ℕ) (xs : List ℕ) → little_from 0 n (drop k xs) ≡ number_at n k xs
unfolding number_at
number_in_rest n k xs = let same : k + 0 ≡ k = omega arith in little_from-drop 0 n k xs ∙ ap (λ (i : ℕ). little_from i n xs) same

-- The longest front of some bytes that has a form, and the longest piece of a text from a place on.
use Rattle.std.proofs.Common.{◌≡◌, ℕ, suc, ◌+◌, ◌-◌, ◌<◌, ◌≤◌, List, ◌∷◌, length, take, drop, sym, ap, subst, arith}
use Rattle.std.specs.Prelude.{slice_range}
use Rattle.std.proofs.Common.{◌⊎◌, inl, inr}
use Rattle.std.proofs.lemmas.Bool.{cases_order}
use Rattle.std.proofs.lemmas.List.{length-drop}
use Rattle.afl_lexer.specs.Tokens.{IsLongest}

pub record IsFront (P : List ℕ → Type 0) (bytes : List ℕ) (n : ℕ) : Type 0 where
  pub within : n ≤ length bytes
  pub fits : P (take n bytes)
  pub longest : (m : ℕ) → n < m → m ≤ length bytes → P (take m bytes) → ⊥

pub slice_is : (text : List ℕ) (at n : ℕ) → slice_range text at (at + n) ≡ take n (drop at text)
slice_is text at n = let e : at + n - at ≡ n = omega arith in ap (λ k. take k (drop at text)) e

pub longest_at : (P : List ℕ → Type 0) (text : List ℕ) (at n : ℕ) → at ≤ length text → IsFront P (drop at text) n → IsLongest P text at (at + n)
longest_at P text at n h f = record {
  rises = omega arith;
  within = omega (arith, length-drop at text, f.within);
  fits = subst P (sym (slice_is text at n)) f.fits;
  longest = λ further more within p. f.longest (further - at) (omega arith) (simp length-drop (omega arith)) p;
}

-- there is one longest piece
pub one_longest : (P : List ℕ → Type 0) (text : List ℕ) (at a b : ℕ) → IsLongest P text at a → IsLongest P text at b → a ≡ b
one_longest P text at a b f g = by (cases_order a b) where
  by : (a ≡ b) ⊎ ((a < b) ⊎ (b < a)) → a ≡ b
  by (inl e) = e
  by (inr (inl h)) = absurd (f.longest b h g.within g.fits)
  by (inr (inr h)) = absurd (g.longest a h f.within f.fits)

pub take_two : (n b c : ℕ) (rest : List ℕ) → take (2 + n) (b ∷ c ∷ rest) ≡ b ∷ c ∷ take n rest
take_two n b c rest = let e : 2 + n ≡ suc (suc n) = omega arith in ap (λ k. take k (b ∷ c ∷ rest)) e

pub take_one : (n b : ℕ) (rest : List ℕ) → take (1 + n) (b ∷ rest) ≡ b ∷ take n rest
take_one n b rest = let e : 1 + n ≡ suc n = omega arith in ap (λ k. take k (b ∷ rest)) e

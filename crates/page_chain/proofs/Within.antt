-- A write within a page.
use Rattle.std.proofs.Common.{◌≢◌, ◌≤◌, ◌<◌, ◌⊎◌, inl, inr, ⊎_elim, ℕ, ◌+◌, ◌*◌, List, [], ◌∷◌, length, sym, arith}
use Rattle.afl_outside.specs.Disk.{Torn}
use Rattle.page_chain.specs.Places.{KeepsPages}
use Rattle.page_chain.proofs.Bytes.{torn_same}

sides : (a b : ℕ) → (a ≢ b) → (a < b) ⊎ (b < a)
sides a b apart = grind arith

pub torn_within : (page at n : ℕ) (old new : List ℕ) → 4096 * page ≤ at → at + n ≤ 4096 * (page + 1) → 4096 * (page + 1) ≤ length old → Torn at n old new → KeepsPages (page ∷ []) old new
torn_within page at n old new low high there torn =
    let same = torn_same at n old new (omega (arith, high, there)) torn in
    record {
      no_shorter = omega (arith, same.size);
      no_longer = λ most fits each. omega (arith, same.size, fits);
      others = λ number k none below within. same.each (4096 * number + k) (⊎_elim (λ less. inl (before number k below less)) (λ more. inr (behind number k below more)) (sides number page (λ is. none 0 (omega arith) (sym is))));
    }
  where
    before : (number k : ℕ) → k < 4096 → number < page → 4096 * number + k < at
    before number k below less = omega arith

    behind : (number k : ℕ) → k < 4096 → page < number → at + n ≤ 4096 * number + k
    behind number k below more = omega arith

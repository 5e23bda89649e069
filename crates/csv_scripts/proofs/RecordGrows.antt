-- The values of a record with one more.
use Rattle.std.proofs.Common.{◌≡◌, ℕ, ◌+◌, List, [], ◌∷◌, ◌++◌, length, subst, arith}
use Rattle.cell_values.specs.declared.datum.Datum.{Datum}
use Rattle.csv_scripts.specs.Records.{HaveColumnValues}

pub said_more : (Says : ℕ → Datum → Type 0) (from here : ℕ) (vs : List Datum) (v : Datum) → HaveColumnValues Says from vs → here ≡ from + length vs → Says here v → HaveColumnValues Says from (vs ++ v ∷ [])
said_more Says from here [] v a e s = let same : here ≡ from = omega (arith, e) in (subst (λ (n : ℕ). Says n v) same s, tt)
said_more Says from here (w ∷ ws) v (a, b) e s = let there : here ≡ (from + 1) + length ws = omega (arith, e) in (a, said_more Says (from + 1) here ws v b there s)

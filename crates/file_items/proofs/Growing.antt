-- A loop over a count, in which what was read so far is what it has.
use Rattle.std.proofs.Common.{◌≡◌, ℕ, ◌+◌, ◌-◌, ◌<◌, List, [], ◌∷◌, ◌++◌, Result, Ok, Err, refl, sym, subst, arith}
use Rattle.file_items.specs.declared.bytes.stop.Stop.{Stop}
use Rattle.file_items.specs.Items.{Reading, repeat, Stopped}
use Rattle.file_items.proofs.Loop.{behind, one_more, stops_here}
use Rattle.file_items.specs.Table.{with_last}

-- the rest of such a loop
abbrev pub grows : {A : Type 0} → (List A → ℕ → Reading A) → ℕ → List A → List ℕ → Result (List A × List ℕ) ℕ
grows one left had bytes = behind had (repeat one with_last left had bytes)

pub more_grown : {A : Type 0} (one : List A → ℕ → Reading A) (had new : List A) (count i after : ℕ) (bytes : List ℕ) (x : A) (rest : List ℕ) (all : Result (List A × List ℕ) ℕ)
    → i < count → after ≡ count - (i + 1) → one had after bytes ≡ Ok (x, rest) → new ≡ had ++ x ∷ [] → grows one (count - i) had bytes ≡ all → grows one (count - (i + 1)) new rest ≡ all
more_grown {A = A} one had new count i after bytes x rest all lt at read pushed before =
    subst (λ (xs : List A). grows one (count - (i + 1)) xs rest ≡ all) (sym pushed) (one_more one with_last had had count i after bytes x rest all lt at read before)

pub stops_growing : {A : Type 0} (one : List A → ℕ → Reading A) (stop : Stop) (had : List A) (count i after : ℕ) (bytes : List ℕ) (all : Result (List A × List ℕ) ℕ)
    → i < count → after ≡ count - (i + 1) → Stopped stop (one had after bytes) → grows one (count - i) had bytes ≡ all → Stopped stop all
stops_growing one stop had count i after bytes all lt at stopped before = stops_here one with_last had stop had count i after bytes all lt at stopped before

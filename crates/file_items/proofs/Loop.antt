-- Many of a kind, read by a loop: what it has, and what the rest of it will read.
use Rattle.std.proofs.Common.{◌≡◌, ℕ, suc, ◌-◌, ◌+◌, ◌≤◌, ◌<◌, List, [], ◌∷◌, ◌++◌, Result, Ok, Err, refl, sym, ap, subst, ◌∙◌, append_assoc, arith}
use Rattle.std.proofs.lemmas.List.{append-nil}
use Rattle.file_items.specs.declared.bytes.stop.Stop.{Stop}
use Rattle.file_items.specs.declared.bytes.stop.Stop.TheVariants as stops
use Rattle.file_items.specs.Items.{◌>>=◌, Reading, repeat, Stopped}

-- those that the loop has, before those that are read later
abbrev pub behind : {A : Type 0} → List A → Result (List A × List ℕ) ℕ → Result (List A × List ℕ) ℕ
behind had later = later >>= λ xs. Ok (had ++ xs.0, xs.1)

moved : {A : Type 0} (had : List A) (x : A) (later : Result (List A × List ℕ) ℕ) → behind had (later >>= λ xs. Ok (x ∷ xs.0, xs.1)) ≡ behind (had ++ x ∷ []) later
moved had x (Err left) = refl
moved {A = A} had x (Ok xs) = ap (λ (all : List A). Ok (all, xs.1)) (sym (append_assoc had (x ∷ []) xs.0))

-- one turn of the loop, where `after` come after this one
turn : {S A : Type 0} (one : S → ℕ → Reading A) (next : S → A → S) (so_far : S) (had : List A) (after : ℕ) (bytes : List ℕ)
    → behind had (repeat one next (suc after) so_far bytes) ≡ (one so_far after bytes >>= λ x. behind (had ++ x.0 ∷ []) (repeat one next after (next so_far x.0) x.1))
unfolding repeat
turn {A = A} one next so_far had after bytes = by_step (one so_far after bytes) where
  by_step : (step : Result (A × List ℕ) ℕ) → behind had (step >>= λ first. repeat one next after (next so_far first.0) first.1 >>= λ others. Ok (first.0 ∷ others.0, others.1))
      ≡ (step >>= λ x. behind (had ++ x.0 ∷ []) (repeat one next after (next so_far x.0) x.1))
  by_step (Ok x) = moved had x.0 (repeat one next after (next so_far x.0) x.1)
  by_step (Err left) = refl

-- the turn at index i of count
turn_at : {S A : Type 0} (one : S → ℕ → Reading A) (next : S → A → S) (so_far : S) (had : List A) (count i after : ℕ) (bytes : List ℕ) → i < count → after ≡ count - (i + 1)
    → behind had (repeat one next (count - i) so_far bytes) ≡ (one so_far after bytes >>= λ x. behind (had ++ x.0 ∷ []) (repeat one next after (next so_far x.0) x.1))
turn_at one next so_far had count i after bytes lt at =
    let k : count - i ≡ suc after = omega arith in rw k (turn one next so_far had after bytes)

pub one_more : {S A : Type 0} (one : S → ℕ → Reading A) (next : S → A → S) (so_far : S) (had : List A) (count i after : ℕ) (bytes : List ℕ) (x : A) (rest : List ℕ) (all : Result (List A × List ℕ) ℕ)
    → i < count → after ≡ count - (i + 1) → one so_far after bytes ≡ Ok (x, rest)
    → behind had (repeat one next (count - i) so_far bytes) ≡ all → behind (had ++ x ∷ []) (repeat one next (count - (i + 1)) (next so_far x) rest) ≡ all
one_more one next so_far had count i after bytes x rest all lt at read before =
    let now = rw read at (turn_at one next so_far had count i after bytes lt at) in rw (← at) (sym now ∙ before)

pub stops_here : {S A : Type 0} (one : S → ℕ → Reading A) (next : S → A → S) (so_far : S) (stop : Stop) (had : List A) (count i after : ℕ) (bytes : List ℕ) (all : Result (List A × List ℕ) ℕ)
    → i < count → after ≡ count - (i + 1) → Stopped stop (one so_far after bytes) → behind had (repeat one next (count - i) so_far bytes) ≡ all → Stopped stop all
stops_here one next so_far stops.Memory had count i after bytes all lt at stopped before = tt
stops_here one next so_far (stops.Left left) had count i after bytes all lt at stopped before =
    let now = rw stopped at (turn_at one next so_far had count i after bytes lt at) in sym before ∙ now

pub all_read : {S A : Type 0} (one : S → ℕ → Reading A) (next : S → A → S) (so_far : S) (had : List A) (count i : ℕ) (bytes : List ℕ) (all : Result (List A × List ℕ) ℕ)
    → count ≤ i → behind had (repeat one next (count - i) so_far bytes) ≡ all → all ≡ Ok (had, bytes)
unfolding repeat
all_read {A = A} one next so_far had count i bytes all le before =
    let none : count - i ≡ 0 = omega arith in
    let now : behind had (repeat one next 0 so_far bytes) ≡ all = subst (λ (k : ℕ). behind had (repeat one next k so_far bytes) ≡ all) none before in
    sym now ∙ ap (λ (xs : List A). Ok (xs, bytes)) (append-nil had)

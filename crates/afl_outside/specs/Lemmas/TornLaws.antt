-- What a write may leave of itself.
use Rattle.std.proofs.Common.{◌≡◌, ◌≤◌, ℕ, ◌+◌, ◌-◌, min, List, ◌++◌, length, take, drop, replicate, refl, ◌∙◌, arith, length-append, length-drop}
use Rattle.std.proofs.lemmas.List.{drop_at, length-take, length-replicate, take-take, take-append-le}
use Rattle.afl_outside.specs.Disk.{written, Torn}

-- a write that was done is one of its torn outcomes
pub Torn-written : (at : ℕ) (bytes seen : List ℕ) → Torn at (length bytes) seen (written at bytes seen)
Torn-written at bytes seen =
    let front = take at (seen ++ replicate (at - length seen) 0) in
    let size : length front ≡ at = omega (
      arith,
      length-take at (seen ++ replicate (at - length seen) 0),
      length-append seen (replicate {A = ℕ} (at - length seen) 0),
      length-replicate {A = ℕ} (at - length seen) 0,
    ) in
    let both : length (front ++ bytes) ≡ at + length bytes = omega (arith, size, length-append front bytes) in
    let whole : length (written at bytes seen) ≡ at + length bytes + (length seen - (at + length bytes)) = omega (
      arith,
      both,
      length-append (front ++ bytes) (drop (at + length bytes) seen),
      length-drop (at + length bytes) seen,
    ) in
    let low : min at (length seen) ≤ length front = omega (arith, size) in
    let low_both : min at (length seen) ≤ length (front ++ bytes) = omega (arith, both) in
    record {
      before = take-append-le (min at (length seen)) (front ++ bytes) (drop (at + length bytes) seen) low_both
          ∙ take-append-le (min at (length seen)) front bytes low
          ∙ take-take (min at (length seen)) at (seen ++ replicate (at - length seen) 0) (omega arith)
          ∙ take-append-le (min at (length seen)) seen (replicate {A = ℕ} (at - length seen) 0) (omega arith);
      after = drop_at (front ++ bytes) (drop (at + length bytes) seen) (at + length bytes) both;
      no_shorter = omega (arith, whole);
      no_longer = omega (arith, whole);
    }

pub Torn-same : (at n : ℕ) (seen : List ℕ) → Torn at n seen seen
Torn-same at n seen = record { before = refl; after = refl; no_shorter = omega arith; no_longer = omega arith }

-- Places of chunks with their overlaps.
use Rattle.std.proofs.Common.{◌≡◌, ℕ, ◌+◌, ◌-◌, ◌*◌, ◌^◌, ◌<◌, min, List, [], ◌∷◌, ◌++◌, length, take, slice_index_or, sym, ap, ◌∙◌, arith}
use Rattle.std.proofs.lemmas.List.{take_more}
use Rattle.std.proofs.Math.Nat.{mul_assoc}
use Rattle.cell_values.specs.declared.schema.Dimension.{Dimension}
use Rattle.cell_values.specs.Schemas.{frame_length, frame_size}
use Rattle.check_rules.proofs.Capped.{capped}

frame_more : (xs : List Dimension) (d : Dimension) → frame_size (xs ++ d ∷ []) ≡ frame_size xs * frame_length d
frame_more [] d = omega arith
frame_more (x ∷ xs) d = ap (λ n. frame_length x * n) (frame_more xs d) ∙ sym (mul_assoc (frame_length x) (frame_size xs) (frame_length d))

-- one dimension more
pub frame_on : (xs : List Dimension) (i : ℕ) (d : Dimension) → i < length xs
    → min (min (frame_size (take i xs)) (2 ^ 64 - 1) * min (frame_length (slice_index_or xs i d)) (2 ^ 64 - 1)) (2 ^ 64 - 1) ≡ min (frame_size (take (i + 1) xs)) (2 ^ 64 - 1)
frame_on xs i d h =
    capped (frame_size (take i xs)) (frame_length (slice_index_or xs i d)) (2 ^ 64 - 1) (omega arith)
    ∙ ap (λ n. min n (2 ^ 64 - 1)) (sym (ap frame_size (take_more xs i d h) ∙ frame_more (take i xs) (slice_index_or xs i d)))

pub frame_grown : (xs : List Dimension) (i : ℕ) (d : Dimension) (size n grown : ℕ) → i < length xs → d ≡ slice_index_or xs i d
    → size ≡ min (frame_size (take i xs)) (2 ^ 64 - 1) → n ≡ min (frame_length d) (2 ^ 64 - 1)
    → grown ≡ min (size * n) (2 ^ 64 - 1) → grown ≡ min (frame_size (take (i + 1) xs)) (2 ^ 64 - 1)
frame_grown xs i d size n grown h same before length_is is =
    let length_here : n ≡ min (frame_length (slice_index_or xs i d)) (2 ^ 64 - 1)
    = length_is ∙ ap (λ (e : Dimension). min (frame_length e) (2 ^ 64 - 1)) same in
    is ∙ ap (λ k. min (k * n) (2 ^ 64 - 1)) before
    ∙ ap (λ k. min (min (frame_size (take i xs)) (2 ^ 64 - 1) * k) (2 ^ 64 - 1)) length_here ∙ frame_on xs i d h

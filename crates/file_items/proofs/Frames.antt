-- How many places a chunk has, counted up to 2^64 - 1.
use Rattle.std.proofs.Common.{◌≡◌, ◌⊎◌, inl, inr, ℕ, zero, suc, ◌+◌, ◌-◌, ◌*◌, ◌^◌, ◌≤◌, ◌<◌, min, nat_le, List, [], ◌∷◌, ◌++◌, length, take, slice_index_or, refl, sym, ap, subst, ◌∙◌, arith}
use Rattle.std.proofs.lemmas.Bool.{cases_lt}
use Rattle.std.proofs.lemmas.List.{take_more}
use Rattle.std.proofs.Math.Nat.{zero-mul, mul-zero, min-eq_left, min-eq_right, zero-min, le-mul_of_pos_right, mul_comm, mul_assoc}
use Rattle.cell_values.specs.Schemas.{frame_length, frame_size}
use Rattle.cell_values.specs.declared.schema.Dimension.{Dimension}

pub frame_size-append : (xs : List Dimension) (d : Dimension) → frame_size (xs ++ d ∷ []) ≡ frame_size xs * frame_length d
frame_size-append [] d = omega arith
frame_size-append (x ∷ xs) d = ap (λ n. frame_length x * n) (frame_size-append xs d) ∙ sym (mul_assoc (frame_length x) (frame_size xs) (frame_length d))

-- a product of numbers that are cut off at m, cut off there, is that of the numbers
large : (a b m : ℕ) → m ≤ a → m ≤ b → min a m ≡ min b m
large a b m f g = min-eq_right f ∙ sym (min-eq_right g)

at_least : (k n : ℕ) → zero < k → n ≤ k * n
at_least k n h = subst (λ m. n ≤ m) (mul_comm n k) (le-mul_of_pos_right n h)

capped_both : (p l m : ℕ) → 1 ≤ m → (m < suc p) ⊎ (suc p ≤ m) → (m < suc l) ⊎ (suc l ≤ m) → min (min (suc p) m * min (suc l) m) m ≡ min (suc p * suc l) m
capped_both p l m h (inr a) (inr b) = ap (λ n. min (n * min (suc l) m) m) (min-eq_left a) ∙ ap (λ n. min (suc p * n) m) (min-eq_left b)
capped_both p l m h (inl a) b =
    let cut : min (suc p) m ≡ m = min-eq_right (omega arith) in
    let some : zero < min (suc l) m = omega (arith, h) in
    let product : suc p ≤ suc p * suc l = le-mul_of_pos_right (suc p) (omega arith) in
    ap (λ n. min (n * min (suc l) m) m) cut ∙ large _ _ m (le-mul_of_pos_right m some) (omega (arith, product))
capped_both p l m h (inr a) (inl b) =
    let cut : min (suc l) m ≡ m = min-eq_right (omega arith) in
    let some : zero < min (suc p) m = omega (arith, h) in
    let product : suc l ≤ suc p * suc l = at_least (suc p) (suc l) (omega arith) in
    ap (λ n. min (min (suc p) m * n) m) cut ∙ large _ _ m (at_least (min (suc p) m) m some) (omega (arith, product))

capped : (p l m : ℕ) → 1 ≤ m → min (min p m * min l m) m ≡ min (p * l) m
capped zero l m h = ap (λ n. min (n * min l m) m) (zero-min m) ∙ ap (λ n. min n m) (zero-mul (min l m) ∙ sym (zero-mul l))
capped (suc p) zero m h = ap (λ n. min (min (suc p) m * n) m) (zero-min m) ∙ ap (λ n. min n m) (mul-zero (min (suc p) m) ∙ sym (mul-zero (suc p)))
capped (suc p) (suc l) m h = capped_both p l m h (cases_lt m (suc p)) (cases_lt m (suc l))

pub frame_more : (xs : List Dimension) (i : ℕ) (d : Dimension) → i < length xs
    → min (min (frame_size (take i xs)) (2 ^ 64 - 1) * min (frame_length (slice_index_or xs i d)) (2 ^ 64 - 1)) (2 ^ 64 - 1) ≡ min (frame_size (take (i + 1) xs)) (2 ^ 64 - 1)
frame_more xs i d h =
    capped (frame_size (take i xs)) (frame_length (slice_index_or xs i d)) (2 ^ 64 - 1) (omega arith)
    ∙ ap (λ n. min n (2 ^ 64 - 1)) (sym (ap frame_size (take_more xs i d h) ∙ frame_size-append (take i xs) (slice_index_or xs i d)))

pub frame_step : (xs : List Dimension) (i : ℕ) (d : Dimension) (size size' long : ℕ) → i < length xs → d ≡ slice_index_or xs i d → size ≡ min (frame_size (take i xs)) (2 ^ 64 - 1)
    → long ≡ min (frame_length d) (2 ^ 64 - 1) → size' ≡ min (size * long) (2 ^ 64 - 1) → size' ≡ min (frame_size (take (i + 1) xs)) (2 ^ 64 - 1)
frame_step xs i d size size' long low is before along now =
    now ∙ ap (λ (n : ℕ). min (n * long) (2 ^ 64 - 1)) before
    ∙ ap (λ (n : ℕ). min (min (frame_size (take i xs)) (2 ^ 64 - 1) * n) (2 ^ 64 - 1)) (along ∙ ap (λ (e : Dimension). min (frame_length e) (2 ^ 64 - 1)) is)
    ∙ frame_more xs i d low

small_cap : (n : ℕ) → nat_le (min n (2 ^ 64 - 1)) 281474976710656 ≡ nat_le n 281474976710656
small_cap n = grind arith

pub frame_within : (p l : ℕ) → nat_le (min (min p (2 ^ 64 - 1) * min l (2 ^ 64 - 1)) (2 ^ 64 - 1)) 281474976710656 ≡ nat_le (p * l) 281474976710656
frame_within p l = ap (λ n. nat_le n 281474976710656) (capped p l (2 ^ 64 - 1) (omega arith)) ∙ small_cap (p * l)

-- Texts with commas between.
use Rattle.std.proofs.Common.{◌≡◌, ℕ, zero, suc, ◌+◌, ◌<◌, List, [], ◌∷◌, ◌++◌, map, length, take, slice_index_or, true, refl, sym, ap, subst, ◌∙◌, arith, append_assoc}
use Rattle.std.specs.List.{All, join_with_byte}
use Rattle.std.proofs.lemmas.List.Elements.{All-append}
use Rattle.std.specs.Prelude.{nat_lt, if◌then◌else◌}
use Rattle.std.proofs.lemmas.Bool.{lt-ltb}
use Rattle.std.proofs.lemmas.List.{take_more, map-append, length-map, length-take}
use Rattle.schema_grammar.specs.SchemaBytes.{separator}

-- what was written, and more behind it
pub ended : (out mid x y : List ℕ) → mid ≡ out ++ x → mid ++ y ≡ out ++ (x ++ y)
ended out mid x y e = ap (λ l. l ++ y) e ∙ append_assoc out x y

pub more : (out mid after x y : List ℕ) → mid ≡ out ++ x → after ≡ mid ++ y → after ≡ out ++ (x ++ y)
more out mid after x y e f = f ∙ ended out mid x y e

-- one more text behind others
joined_more : (c : ℕ) (x : List ℕ) (xs : List (List ℕ)) (y : List ℕ) → join_with_byte c ((x ∷ xs) ++ y ∷ []) ≡ join_with_byte c (x ∷ xs) ++ c ∷ y
joined_more c x [] y = refl
joined_more c x (z ∷ xs) y = ap (λ l. x ++ (c ∷ l)) (joined_more c z xs y) ∙ sym (append_assoc x (c ∷ join_with_byte c (z ∷ xs)) (c ∷ y))

joined_some : (xs : List (List ℕ)) (y : List ℕ) → 0 < length xs → join_with_byte 44 (xs ++ y ∷ []) ≡ join_with_byte 44 xs ++ 44 ∷ y
joined_some [] y h = let no : ⊥ = omega arith in absurd no
joined_some (x ∷ xs) y h = joined_more 44 x xs y

pub joined_step : {T : Type 0} (bytes : T → List ℕ) (parts : List T) (at : ℕ) (d : T) → at < length parts
    → join_with_byte 44 (map bytes (take (at + 1) parts)) ≡ join_with_byte 44 (map bytes (take at parts)) ++ separator at ++ bytes (slice_index_or parts at d)
joined_step bytes parts zero d h = ap (λ l. join_with_byte 44 (map bytes l)) (take_more parts 0 d h)
joined_step bytes parts (suc n) d h =
    let some : 0 < length (map bytes (take (suc n) parts)) = omega (arith, length-map (take (suc n) parts) bytes, length-take (suc n) parts) in
    let test : nat_lt 0 (suc n) ≡ true = lt-ltb 0 (suc n) (omega arith) in
    ap (λ l. join_with_byte 44 (map bytes l)) (take_more parts (suc n) d h)
    ∙ ap (join_with_byte 44) (map-append bytes (take (suc n) parts) (slice_index_or parts (suc n) d ∷ []))
    ∙ joined_some (map bytes (take (suc n) parts)) (bytes (slice_index_or parts (suc n) d)) some
    ∙ sym (append_assoc (join_with_byte 44 (map bytes (take (suc n) parts))) (44 ∷ []) (bytes (slice_index_or parts (suc n) d)))
    ∙ ap (λ b. join_with_byte 44 (map bytes (take (suc n) parts)) ++ (if b then 44 ∷ [] else []) ++ bytes (slice_index_or parts (suc n) d)) (sym test)

-- a loop's step: the text before, the separator, and the part's text
pub joined_after : {T : Type 0} (bytes : T → List ℕ) (parts : List T) (at : ℕ) (part : T) (start before between after : List ℕ) → at < length parts
    → part ≡ slice_index_or parts at part
    → before ≡ start ++ join_with_byte 44 (map bytes (take at parts)) → between ≡ before ++ separator at → after ≡ between ++ bytes part
    → after ≡ start ++ join_with_byte 44 (map bytes (take (at + 1) parts))
joined_after bytes parts at part start before between after h is p q r =
    let joined = join_with_byte 44 (map bytes (take at parts)) in
    r ∙ ap (λ l. l ++ bytes part) (q ∙ ap (λ l. l ++ separator at) p ∙ append_assoc start joined (separator at))
    ∙ append_assoc start (joined ++ separator at) (bytes part)
    ∙ ap (λ x. start ++ (joined ++ separator at ++ bytes x)) is
    ∙ ap (λ l. start ++ l) (sym (joined_step bytes parts at part h))

-- what holds of each part before, and of the part, holds of each up to it
all_one : {T : Type 0} (P : T → Type 0) (x : T) → P x → All P (x ∷ [])
all_one P x h zero d w = h
all_one P x h (suc k) d w = let no : ⊥ = omega arith in absurd no

pub all_after : {T : Type 0} (P : T → Type 0) (parts : List T) (at : ℕ) (part : T) → at < length parts → part ≡ slice_index_or parts at part
    → All P (take at parts) → P part → All P (take (at + 1) parts)
all_after P parts at part h is all here =
    let both : All P (take at parts ++ part ∷ []) = All-append P (take at parts) (part ∷ []) all (all_one P part here) in
    subst (All P) (ap (λ x. take at parts ++ x ∷ []) is ∙ sym (take_more parts at part h)) both

-- Texts with commas between.
use Rattle.std.proofs.Common.{◌≡◌, ℕ, zero, suc, ◌+◌, ◌<◌, List, [], ◌∷◌, ◌++◌, map, length, take, slice_index_or, true, refl, sym, ap, ◌∙◌, arith, append_assoc}
use Rattle.std.specs.Prelude.{nat_lt, if◌then◌else◌}
use Rattle.std.specs.List.{flat_map}
use Rattle.std.proofs.lemmas.Bool.{lt-ltb}
use Rattle.std.proofs.lemmas.List.{flat_map_more, map_more, take_more, map-append, length-map, length-take}
use Rattle.schema_grammar.specs.SchemaBytes.{separator}
use Rattle.result_print.specs.Texts.{listed}

-- one more text behind others
listed_more : (x : List ℕ) (xs : List (List ℕ)) (y : List ℕ) → listed ((x ∷ xs) ++ y ∷ []) ≡ listed (x ∷ xs) ++ 44 ∷ y
listed_more x [] y = refl
listed_more x (z ∷ xs) y = ap (λ l. x ++ (44 ∷ l)) (listed_more z xs y) ∙ sym (append_assoc x (44 ∷ listed (z ∷ xs)) (44 ∷ y))

listed_some : (xs : List (List ℕ)) (y : List ℕ) → 0 < length xs → listed (xs ++ y ∷ []) ≡ listed xs ++ 44 ∷ y
listed_some [] y h = let no : ⊥ = omega arith in absurd no
listed_some (x ∷ xs) y h = listed_more x xs y

listed_step : {T : Type 0} (bytes : T → List ℕ) (parts : List T) (at : ℕ) (d : T) → at < length parts
    → listed (map bytes (take (at + 1) parts)) ≡ listed (map bytes (take at parts)) ++ separator at ++ bytes (slice_index_or parts at d)
listed_step bytes parts zero d h = ap (λ l. listed (map bytes l)) (take_more parts 0 d h)
listed_step bytes parts (suc n) d h =
    let some : 0 < length (map bytes (take (suc n) parts)) = omega (arith, length-map (take (suc n) parts) bytes, length-take (suc n) parts) in
    let test : nat_lt 0 (suc n) ≡ true = lt-ltb 0 (suc n) (omega arith) in
    ap (λ l. listed (map bytes l)) (take_more parts (suc n) d h)
    ∙ ap listed (map-append bytes (take (suc n) parts) (slice_index_or parts (suc n) d ∷ []))
    ∙ listed_some (map bytes (take (suc n) parts)) (bytes (slice_index_or parts (suc n) d)) some
    ∙ sym (append_assoc (listed (map bytes (take (suc n) parts))) (44 ∷ []) (bytes (slice_index_or parts (suc n) d)))
    ∙ ap (λ b. listed (map bytes (take (suc n) parts)) ++ (if b then 44 ∷ [] else []) ++ bytes (slice_index_or parts (suc n) d)) (sym test)

-- a loop's step: the text before, the comma, and the part's text
pub listed_after : {T : Type 0} (bytes : T → List ℕ) (parts : List T) (at : ℕ) (part : T) (start before between after : List ℕ) → at < length parts
    → part ≡ slice_index_or parts at part
    → before ≡ start ++ listed (map bytes (take at parts)) → between ≡ before ++ separator at → after ≡ between ++ bytes part
    → after ≡ start ++ listed (map bytes (take (at + 1) parts))
listed_after bytes parts at part start before between after h is p q r =
    let joined = listed (map bytes (take at parts)) in
    r ∙ ap (λ l. l ++ bytes part) (q ∙ ap (λ l. l ++ separator at) p ∙ append_assoc start joined (separator at))
    ∙ append_assoc start (joined ++ separator at) (bytes part)
    ∙ ap (λ x. start ++ (joined ++ separator at ++ bytes x)) is
    ∙ ap (λ l. start ++ l) (sym (listed_step bytes parts at part h))

-- a loop's step: what stood before, and what the next item gives
pub flat_after : {T : Type 0} (f : T → List ℕ) (parts : List T) (at : ℕ) (part d : T) (start before after : List ℕ) → at < length parts
    → part ≡ slice_index_or parts at d → before ≡ start ++ flat_map f (take at parts) → after ≡ before ++ f part
    → after ≡ start ++ flat_map f (take (at + 1) parts)
flat_after f parts at part d start before after h is p q =
    q ∙ ap (λ l. l ++ f part) p ∙ flat_map_more f start (take at parts) part
    ∙ ap (λ l. start ++ flat_map f l) (ap (λ x. take at parts ++ x ∷ []) is ∙ sym (take_more parts at d h))

pub mapped_after : {T : Type 0} (f : T → List ℕ) (parts : List T) (at : ℕ) (part : T) (start before after : List (List ℕ)) (one : List ℕ) → at < length parts
    → part ≡ slice_index_or parts at part → before ≡ start ++ map f (take at parts) → one ≡ f part → after ≡ before ++ one ∷ []
    → after ≡ start ++ map f (take (at + 1) parts)
mapped_after f parts at part start before after one h is p same q =
    q ∙ ap (λ x. before ++ x ∷ []) (same ∙ ap f is) ∙ ap (λ l. l ++ f (slice_index_or parts at part) ∷ []) p
    ∙ append_assoc start (map f (take at parts)) (f (slice_index_or parts at part) ∷ []) ∙ ap (λ l. start ++ l) (sym (map_more f parts at part h))

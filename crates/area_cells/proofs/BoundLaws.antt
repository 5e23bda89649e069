-- What a loop has pushed so far.
use Rattle.std.proofs.Common.{◌≡◌, ◌∙◌, ℕ, ◌+◌, ◌≤◌, ◌<◌, List, [], ◌∷◌, ◌++◌, map, length, take, get_or, sym, ap, arith}
use Rattle.std.proofs.lemmas.List.{length-map, length-take-le, map_more}

pub room_for : {A B : Type 0} (f : A → B) (xs : List A) (i : ℕ) (out : List B) → out ≡ map f (take i xs) → i < length xs → length xs ≤ 6 → length out < 6
room_for f xs i out is less few = omega (arith, less, few, ap length is ∙ length-map (take i xs) f ∙ length-take-le i xs (omega (arith, less)))

pub one_more : {A B : Type 0} (f : A → B) (xs : List A) (i : ℕ) (x : A) (z : B) (old new : List B) → i < length xs → x ≡ get_or xs i x
    → old ≡ map f (take i xs) → new ≡ old ++ z ∷ [] → z ≡ f x → new ≡ map f (take (i + 1) xs)
one_more {A} {B} f xs i x z old new less item is pushed same =
    pushed ∙ ap (λ (l : List B). l ++ z ∷ []) is ∙ ap (λ (y : B). map f (take i xs) ++ y ∷ []) (same ∙ ap f item) ∙ sym (map_more f xs i x less)

-- Lists that are filtered.
use Rattle.std.proofs.Common.{◌≡◌, ◌∙◌, Bool, true, false, ◌&&◌, ◌||◌, if◌then◌else◌, List, [], ◌∷◌, map, refl, ap}
use Rattle.std.specs.List.{filter, list_all, list_any}
use Rattle.std.proofs.lemmas.Bool.{and_parts, and_from}
use Rattle.event_core.proofs.Tests.{if_tests}

twice : {A : Type 0} (b : Bool) (s : A → Bool) (x : A) (ys zs : List A) → filter s ys ≡ zs → filter s (if b then x ∷ ys else ys) ≡ (if b && s x then x ∷ zs else zs)
twice true s x ys zs e = ap (λ ws. if s x then x ∷ ws else ws) e
twice false s x ys zs e = e

-- two filters, one after the other
pub filter_filter : {A : Type 0} (t s : A → Bool) (xs : List A) → filter s (filter t xs) ≡ filter (λ x. t x && s x) xs
filter_filter t s [] = refl
filter_filter t s (x ∷ xs) = twice (t x) s x _ _ (filter_filter t s xs)

-- tests that agree on what passes a third one keep the same
pub filter_among : {A : Type 0} (p q r : A → Bool) → ((x : A) → r x ≡ true → p x ≡ q x) → (xs : List A) → list_all r xs ≡ true → filter p xs ≡ filter q xs
filter_among p q r h [] all = refl
filter_among p q r h (x ∷ xs) all = if_tests (p x) (q x) x _ _ (h x (and_parts (r x) (list_all r xs) all).0) (filter_among p q r h xs (and_parts (r x) (list_all r xs) all).1)

pub all_images : {A B : Type 0} (f : A → B) (p : A → Bool) (q : B → Bool) → ((x : A) → p x ≡ true → q (f x) ≡ true) → (xs : List A) → list_all p xs ≡ true → list_all q (map f xs) ≡ true
all_images f p q h [] all = refl
all_images f p q h (x ∷ xs) all = and_from (q (f x)) (list_all q (map f xs)) (h x (and_parts (p x) (list_all p xs) all).0) (all_images f p q h xs (and_parts (p x) (list_all p xs) all).1)

all_if : {A : Type 0} (p : A → Bool) (b : Bool) (x : A) (xs : List A) → p x ≡ true → list_all p xs ≡ true → list_all p (if b then x ∷ xs else xs) ≡ true
all_if p true x xs h all = and_from (p x) (list_all p xs) h all
all_if p false x xs h all = all

pub all_left : {A : Type 0} (p t : A → Bool) (xs : List A) → list_all p xs ≡ true → list_all p (filter t xs) ≡ true
all_left p t [] all = refl
all_left p t (x ∷ xs) all = all_if p (t x) x (filter t xs) (and_parts (p x) (list_all p xs) all).0 (all_left p t xs (and_parts (p x) (list_all p xs) all).1)

-- images that agree on what passes a test
pub map_among : {A B : Type 0} (f g : A → B) (r : A → Bool) → ((x : A) → r x ≡ true → f x ≡ g x) → (xs : List A) → list_all r xs ≡ true → map f xs ≡ map g xs
map_among f g r h [] all = refl
map_among f g r h (x ∷ xs) all =
    ap (λ y. y ∷ map f xs) (h x (and_parts (r x) (list_all r xs) all).0) ∙ ap (λ ys. g x ∷ ys) (map_among f g r h xs (and_parts (r x) (list_all r xs) all).1)

any_if : {A : Type 0} (q : A → Bool) (b : Bool) (x : A) (ys : List A) → list_any q (if b then x ∷ ys else ys) ≡ ((b && q x) || list_any q ys)
any_if q true x ys = refl
any_if q false x ys = refl

-- what some item of a filter passes
pub any_filter : {A : Type 0} (q t : A → Bool) (xs : List A) → list_any q (filter t xs) ≡ list_any (λ x. t x && q x) xs
any_filter q t [] = refl
any_filter q t (x ∷ xs) = any_if q (t x) x (filter t xs) ∙ ap (λ b. (t x && q x) || b) (any_filter q t xs)

pub any_agrees : {A : Type 0} (p q : A → Bool) → ((x : A) → p x ≡ q x) → (xs : List A) → list_any p xs ≡ list_any q xs
any_agrees p q h [] = refl
any_agrees p q h (x ∷ xs) = ap (λ (b : Bool). b || list_any p xs) (h x) ∙ ap (λ (b : Bool). q x || b) (any_agrees p q h xs)

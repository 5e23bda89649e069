-- Lists that loops make, item by item.
use Rattle.std.proofs.Common.{◌≡◌, ◌∙◌, ℕ, ◌+◌, ◌<◌, ◌≤◌, Bool, true, false, ◌||◌, List, [], ◌∷◌, ◌++◌, length, take, get_or, refl, ap, sym}
use Rattle.std.specs.List.{flat_map, list_any}
use Rattle.std.proofs.lemmas.List.{flat_map_more, take_all, take_more}
use Rattle.std.proofs.lemmas.List.Folds.{list_any_more}

-- ---- what each item gives

pub flat_more : {X Y : Type 0} (f : X → List Y) (start so_far next : List Y) (xs : List X) (i : ℕ) (x : X) → i < length xs → x ≡ get_or xs i x →
    so_far ≡ start ++ flat_map f (take i xs) → next ≡ so_far ++ f x → next ≡ start ++ flat_map f (take (i + 1) xs)
flat_more f start so_far next xs i x within is so e =
    e ∙ ap (λ ys. ys ++ f x) so ∙ flat_map_more f start (take i xs) x
    ∙ ap (λ ys. start ++ flat_map f ys) (ap (λ y. take i xs ++ y ∷ []) is ∙ sym (take_more xs i x within))

pub flat_end : {X Y : Type 0} (f : X → List Y) (start so_far : List Y) (xs : List X) (i : ℕ) → length xs ≤ i → so_far ≡ start ++ flat_map f (take i xs) → so_far ≡ start ++ flat_map f xs
flat_end f start so_far xs i over so = so ∙ ap (λ ys. start ++ flat_map f ys) (take_all i xs over)

-- ---- a test over what was passed

or_assoc : (a b c : Bool) → ((a || b) || c) ≡ (a || (b || c))
or_assoc true b c = refl
or_assoc false b c = refl

pub any_more : {X : Type 0} (p : X → Bool) (was so_far next : Bool) (xs : List X) (i : ℕ) (x : X) → i < length xs → x ≡ get_or xs i x →
    so_far ≡ (was || list_any p (take i xs)) → next ≡ (so_far || p x) → next ≡ (was || list_any p (take (i + 1) xs))
any_more p was so_far next xs i x within is so e =
    e ∙ ap (λ b. b || p x) so ∙ or_assoc was (list_any p (take i xs)) (p x)
    ∙ ap (λ b. was || b) (ap (λ y. list_any p (take i xs) || p y) is ∙ sym (list_any_more p xs i x within))

-- Two lists that are gone over together.
use Rattle.std.proofs.Common.{◌≡◌, ◌<◌, ◌≤◌, ℕ, ◌+◌, List, [], ◌∷◌, ◌++◌, length, map, take, drop, get_or, refl, sym, ◌∙◌, ap, append_assoc, append-nil, arith}
use Rattle.std.proofs.lemmas.List.{drop_more, drop_all, map_more}
use Rattle.array_rows.specs.Boxes.{by_pairs}
use Rattle.file_meaning.specs.Opening.{all_of}

pub pairs_none : {A B C : Type 0} (f : A → B → C) (xs : List A) → by_pairs f xs [] ≡ []
pairs_none f [] = refl
pairs_none f (x ∷ xs) = refl

next_left : {A : Type 0} (xs : List A) (i : ℕ) (x : A) → i < length xs → x ≡ get_or xs i x → drop i xs ≡ x ∷ drop (i + 1) xs
next_left xs i x low is = drop_more xs i x low ∙ ap (λ y. y ∷ drop (i + 1) xs) (sym is)

-- the first list is at its end
pub pairs_end : {A B C : Type 0} (f : A → B → C) (xs : List A) (i : ℕ) (ys : List B) (done all : List C) → length xs ≤ i → done ++ by_pairs f (drop i xs) ys ≡ all → done ≡ all
pairs_end f xs i ys done all past is = sym (append-nil done) ∙ ap (λ (zs : List _). done ++ by_pairs f zs ys) (sym (drop_all i xs past)) ∙ is

pub lists_end : {A B C : Type 0} (f : A → B → List C) (xs : List A) (i : ℕ) (ys : List B) (done all : List C) → length xs ≤ i → done ++ all_of (by_pairs f (drop i xs) ys) ≡ all → done ≡ all
lists_end f xs i ys done all past is = sym (append-nil done) ∙ ap (λ (zs : List _). done ++ all_of (by_pairs f zs ys)) (sym (drop_all i xs past)) ∙ is

-- the pair of the first ones
pub first_pair : {A B C : Type 0} (f : A → B → C) (x : A) (xs : List A) (y : B) (ys all : List B) (done more : List C) → all ≡ y ∷ ys → more ≡ done ++ f x y ∷ []
    → more ++ by_pairs f xs ys ≡ done ++ by_pairs f (x ∷ xs) all
first_pair f x xs y ys all done more all_is more_is =
    ap (λ (cs : List _). cs ++ by_pairs f xs ys) more_is ∙ append_assoc done (f x y ∷ []) (by_pairs f xs ys) ∙ ap (λ (zs : List _). done ++ by_pairs f (x ∷ xs) zs) (sym all_is)

pub first_lists : {A B C : Type 0} (f : A → B → List C) (x : A) (xs : List A) (y : B) (ys all : List B) (done more : List C) → all ≡ y ∷ ys → more ≡ done ++ f x y
    → more ++ all_of (by_pairs f xs ys) ≡ done ++ all_of (by_pairs f (x ∷ xs) all)
first_lists f x xs y ys all done more all_is more_is =
    ap (λ (cs : List _). cs ++ all_of (by_pairs f xs ys)) more_is ∙ append_assoc done (f x y) (all_of (by_pairs f xs ys)) ∙ ap (λ (zs : List _). done ++ all_of (by_pairs f (x ∷ xs) zs)) (sym all_is)

pub nothing_left : {A : Type 0} (xs : List A) → length xs ≡ 0 → xs ≡ []
nothing_left [] e = refl
nothing_left (x ∷ xs) e = absurd (omega (arith, e))

-- there is no second one
pub no_pair : {A B C : Type 0} (f : A → B → C) (x : A) (xs : List A) (all : List B) (done : List C) → length all ≡ 0 → done ++ by_pairs f xs all ≡ done ++ by_pairs f (x ∷ xs) all
no_pair f x xs all done none =
    let empty = nothing_left all none in
    ap (λ (zs : List _). done ++ by_pairs f xs zs) empty ∙ ap (λ (cs : List _). done ++ cs) (pairs_none f xs) ∙ sym (ap (λ (zs : List _). done ++ by_pairs f (x ∷ xs) zs) empty)

pub no_lists : {A B C : Type 0} (f : A → B → List C) (x : A) (xs : List A) (all : List B) (done : List C) → length all ≡ 0 → done ++ all_of (by_pairs f xs all) ≡ done ++ all_of (by_pairs f (x ∷ xs) all)
no_lists f x xs all done none =
    let empty = nothing_left all none in
    ap (λ (zs : List _). done ++ all_of (by_pairs f xs zs)) empty ∙ ap (λ (cs : List (List _)). done ++ all_of cs) (pairs_none f xs) ∙ sym (ap (λ (zs : List _). done ++ all_of (by_pairs f (x ∷ xs) zs)) empty)

-- one step of going over two lists, whatever is left of the second one then
pub goes_over : {A B C : Type 0} (f : A → B → C) (xs : List A) (i : ℕ) (x : A) (left rest : List B) (done more all : List C) → i < length xs → x ≡ get_or xs i x
    → ((zs : List A) → more ++ by_pairs f zs rest ≡ done ++ by_pairs f (x ∷ zs) left) → done ++ by_pairs f (drop i xs) left ≡ all → more ++ by_pairs f (drop (i + 1) xs) rest ≡ all
goes_over f xs i x left rest done more all low is step so_far =
    step (drop (i + 1) xs) ∙ ap (λ (zs : List _). done ++ by_pairs f zs left) (sym (next_left xs i x low is)) ∙ so_far

pub lists_over : {A B C : Type 0} (f : A → B → List C) (xs : List A) (i : ℕ) (x : A) (left rest : List B) (done more all : List C) → i < length xs → x ≡ get_or xs i x
    → ((zs : List A) → more ++ all_of (by_pairs f zs rest) ≡ done ++ all_of (by_pairs f (x ∷ zs) left)) → done ++ all_of (by_pairs f (drop i xs) left) ≡ all → more ++ all_of (by_pairs f (drop (i + 1) xs) rest) ≡ all
lists_over f xs i x left rest done more all low is step so_far =
    step (drop (i + 1) xs) ∙ ap (λ (zs : List _). done ++ all_of (by_pairs f zs left)) (sym (next_left xs i x low is)) ∙ so_far

-- the second list is at its end
pub named_end : {A B C : Type 0} (f : A → B → C) (left xs : List A) (items all given : List B) (done old : List C) → items ≡ [] → done ++ by_pairs f left items ≡ old ++ by_pairs f xs all → all ≡ given
    → done ≡ old ++ by_pairs f xs given
named_end f left xs items all given done old none is same =
    sym (append-nil done) ∙ sym (ap (λ (zs : List _). done ++ by_pairs f left zs) none ∙ ap (λ (cs : List _). done ++ cs) (pairs_none f left)) ∙ is ∙ ap (λ (zs : List _). old ++ by_pairs f xs zs) same

-- one more item of a list that is gone over alone
pub one_more : {A B : Type 0} (f : A → B) (xs : List A) (i : ℕ) (x : A) (y : B) (old new : List B) → i < length xs → x ≡ get_or xs i x
    → old ≡ map f (take i xs) → new ≡ old ++ y ∷ [] → y ≡ f x → new ≡ map f (take (i + 1) xs)
one_more f xs i x y old new low is so_far pushed same =
    pushed ∙ ap (λ (l : List _). l ++ y ∷ []) so_far ∙ ap (λ z. map f (take i xs) ++ z ∷ []) (same ∙ ap f is) ∙ sym (map_more f xs i x low)

-- the pair of the first one of a list that is gone over along with another
pub next_pair : {A B C : Type 0} (f : A → B → C) (x : A) (xs all : List A) (y : B) (ys : List B) (made : C) (done more : List C) → all ≡ x ∷ xs → made ≡ f x y → more ≡ done ++ made ∷ []
    → more ++ by_pairs f xs ys ≡ done ++ by_pairs f all (y ∷ ys)
next_pair f x xs all y ys made done more all_is made_is more_is =
    ap (λ (cs : List _). cs ++ by_pairs f xs ys) more_is ∙ append_assoc done (made ∷ []) (by_pairs f xs ys) ∙ ap (λ z. done ++ z ∷ by_pairs f xs ys) made_is
    ∙ ap (λ (zs : List _). done ++ by_pairs f zs (y ∷ ys)) (sym all_is)

pub none_to_pair : {A B C : Type 0} (f : A → B → C) (all : List A) (y : B) (ys : List B) (done : List C) → length all ≡ 0 → done ++ by_pairs f all ys ≡ done ++ by_pairs f all (y ∷ ys)
none_to_pair f [] y ys done none = refl
none_to_pair f (x ∷ xs) y ys done none = absurd (omega (arith, none))

-- What holds of the pairs of two lists.
use Rattle.std.proofs.Common.{◌≡◌, Bool, true, false, if◌then◌else◌, List, [], ◌∷◌, ◌++◌}
use Rattle.std.specs.List.{AllZip, filter}

pub zip_push : {A B : Type 0} (P : A → B → Type 0) (xs : List A) (ys : List B) (x : A) (y : B) → AllZip P xs ys → P x y → AllZip P (xs ++ x ∷ []) (ys ++ y ∷ [])
zip_push P [] [] x y all one = (one, tt)
zip_push P [] (b ∷ ys) x y all one = absurd all
zip_push P (a ∷ xs) [] x y all one = absurd all
zip_push P (a ∷ xs) (b ∷ ys) x y all one = (all.0, zip_push P xs ys x y all.1 one)

left_in : {A B : Type 0} (P : A → B → Type 0) (s t : Bool) (x : A) (y : B) (xs : List A) (ys : List B) → s ≡ t → P x y → AllZip P xs ys →
    AllZip P (if s then x ∷ xs else xs) (if t then y ∷ ys else ys)
left_in P true true x y xs ys e one all = (one, all)
left_in P true false x y xs ys e one all = absurd cc
left_in P false true x y xs ys e one all = absurd cc
left_in P false false x y xs ys e one all = all

-- two tests that agree on each pair keep the pairs
pub zip_filter : {A B : Type 0} (P : A → B → Type 0) (s : A → Bool) (t : B → Bool) → ((x : A) (y : B) → P x y → s x ≡ t y) → (xs : List A) (ys : List B) →
    AllZip P xs ys → AllZip P (filter s xs) (filter t ys)
zip_filter P s t agree [] [] all = tt
zip_filter P s t agree [] (y ∷ ys) all = absurd all
zip_filter P s t agree (x ∷ xs) [] all = absurd all
zip_filter P s t agree (x ∷ xs) (y ∷ ys) all =
    left_in P (s x) (t y) x y (filter s xs) (filter t ys) (agree x y all.0) all.0 (zip_filter P s t agree xs ys all.1)

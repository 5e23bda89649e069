-- Steps of loops over blobs and their chunks.
use Rattle.std.proofs.Common.{◌≡◌, ◌∙◌, ℕ, zero, suc, ◌+◌, ◌<◌, ◌≤◌, min, List, [], ◌∷◌, ◌++◌, length, map, get_or, set, take, drop, refl, sym, ap, subst, arith, add-one, append_assoc, append-nil}
use Rattle.std.specs.List.{flat_map, AllByRecursion}
use Rattle.std.proofs.lemmas.List.{drop_more, drop-set-lt, length-append, map-append, take_more, take_more_set}
use Rattle.std.proofs.lemmas.List.Concat.{flat_map-append}
use Rattle.arrayvec.specs.ArrayVec.{ArrayVec}
use Rattle.array_rows.specs.Boxes.{by_pairs}
use Rattle.chunk_map.specs.declared.directory.DirEntry.{DirEntry}
use Rattle.page_file.specs.declared.commits.placed.Placed.{Placed}
use Rattle.page_file.specs.Commits.{pages_of}
use Rattle.commit_pages.specs.Versions.{blob_count, placed, all_placed, entry_of}

-- ---- the pages of one more blob

pub pages_next : (blobs : List Placed) (i : ℕ) (d : Placed) → i < length blobs → length (pages_of (take (suc i) blobs)) ≡ length (pages_of (take i blobs)) + length (get_or blobs i d).pages
pages_next [] i d lt = absurd (omega (arith, lt))
pages_next (one ∷ more) zero d lt = length-append one.pages [] ∙ omega arith
pages_next (one ∷ more) (suc i) d lt =
    let later : length (pages_of (take (suc i) more)) ≡ length (pages_of (take i more)) + length (get_or more i d).pages = pages_next more i d (omega (arith, lt)) in
    let p : length (one.pages ++ pages_of (take (suc i) more)) ≡ length one.pages + length (pages_of (take (suc i) more)) = length-append one.pages (pages_of (take (suc i) more)) in
    let q : length (one.pages ++ pages_of (take i more)) ≡ length one.pages + length (pages_of (take i more)) = length-append one.pages (pages_of (take i more)) in
    omega (arith, p, q, later)

-- ---- one more pair

pub pairs_next : {A B C : Type 0} (f : A → B → C) (xs : List A) (ys : List B) (i : ℕ) (x : A) (y : B) → i < length xs → i < length ys
    → by_pairs f (take (suc i) xs) (take (suc i) ys) ≡ by_pairs f (take i xs) (take i ys) ++ f (get_or xs i x) (get_or ys i y) ∷ []
pairs_next f [] ys i x y lt lt' = absurd (omega (arith, lt))
pairs_next f (a ∷ xs) [] i x y lt lt' = absurd (omega (arith, lt'))
pairs_next f (a ∷ xs) (b ∷ ys) zero x y lt lt' = refl
pairs_next {A} {B} {C} f (a ∷ xs) (b ∷ ys) (suc i) x y lt lt' = ap (λ (zs : List C). f a b ∷ zs) (pairs_next f xs ys i x y (omega (arith, lt)) (omega (arith, lt')))

take_none : (A : Type 0) (n : ℕ) → take {A = A} n [] ≡ []
take_none A zero = refl
take_none A (suc n) = refl

no_pairs : {A B C : Type 0} (f : A → B → C) (xs : List A) → by_pairs f xs [] ≡ []
no_pairs f [] = refl
no_pairs f (x ∷ xs) = refl

pairs_take : {A B C : Type 0} (f : A → B → C) (n : ℕ) (xs : List A) (ys : List B) → min (length xs) (length ys) ≤ n → by_pairs f (take n xs) (take n ys) ≡ by_pairs f xs ys
pairs_take {A} {B} {C} f n [] ys le = ap (λ (zs : List A). by_pairs f zs (take n ys)) (take_none A n)
pairs_take {A} {B} {C} f n (x ∷ xs) [] le = ap (by_pairs f (take n (x ∷ xs))) (take_none B n) ∙ no_pairs f (take n (x ∷ xs))
pairs_take f zero (x ∷ xs) (y ∷ ys) le = absurd (omega (arith, le))
pairs_take {A} {B} {C} f (suc n) (x ∷ xs) (y ∷ ys) le = ap (λ (zs : List C). f x y ∷ zs) (pairs_take f n xs ys (omega (arith, le)))

-- ---- as the loops have them

pub count_step : (blobs : List Placed) (i : ℕ) (item : Placed) (count len sum : ℕ) → i < length blobs → item ≡ get_or blobs i item → len ≡ length item.pages → count ≡ length (pages_of (take i blobs))
    → sum ≡ count + len → sum ≡ length (pages_of (take (i + 1) blobs))
count_step blobs i item count len sum lt is its before made =
    made ∙ ap (λ (n : ℕ). n + len) before ∙ ap (λ (n : ℕ). length (pages_of (take i blobs)) + n) (its ∙ ap (λ (one : Placed). length one.pages) is)
    ∙ sym (pages_next blobs i item lt) ∙ ap (λ (n : ℕ). length (pages_of (take n blobs))) (sym (add-one i))

pub entries_step : (birth : ℕ) (ns : List (ArrayVec ℕ)) (ps : List Placed) (i count : ℕ) (n : ArrayVec ℕ) (p : Placed) (entry : DirEntry) (old new : List DirEntry) → i < count → count ≡ min (length ns) (length ps)
    → n ≡ get_or ns i n → p ≡ get_or ps i p → entry ≡ entry_of birth n p → old ≡ by_pairs (entry_of birth) (take i ns) (take i ps) → new ≡ old ++ entry ∷ []
    → new ≡ by_pairs (entry_of birth) (take (i + 1) ns) (take (i + 1) ps)
entries_step birth ns ps i count n p entry old new lt is en ep ee before made =
    let one : entry ≡ entry_of birth (get_or ns i n) (get_or ps i p) = ee ∙ ap (λ (m : ArrayVec ℕ). entry_of birth m p) en ∙ ap (entry_of birth (get_or ns i n)) ep in
    made ∙ ap (λ (es : List DirEntry). es ++ entry ∷ []) before ∙ ap (λ (e : DirEntry). by_pairs (entry_of birth) (take i ns) (take i ps) ++ e ∷ []) one
    ∙ sym (pairs_next (entry_of birth) ns ps i n p (omega (arith, lt, is)) (omega (arith, lt, is)))
    ∙ ap (λ (m : ℕ). by_pairs (entry_of birth) (take m ns) (take m ps)) (sym (add-one i))

pub entries_end : (birth : ℕ) (ns : List (ArrayVec ℕ)) (ps : List Placed) (i count : ℕ) (all : List DirEntry) → count ≤ i → count ≡ min (length ns) (length ps)
    → all ≡ by_pairs (entry_of birth) (take i ns) (take i ps) → all ≡ by_pairs (entry_of birth) ns ps
entries_end birth ns ps i count all le is before = before ∙ pairs_take (entry_of birth) i ns ps (omega (arith, le, is))

-- ---- one more item of a loop

module _ {A : Type 0} (xs : List A) (i : ℕ) (x : A) (within : i < length xs) (is : x ≡ get_or xs i x) where
  one_taken : take i xs ++ x ∷ [] ≡ take (i + 1) xs
  one_taken = ap (λ y. take i xs ++ y ∷ []) is ∙ sym (take_more xs i x within)

  pub map_more : {B : Type 0} (f : A → B) (made next : List B) (y : B) → made ≡ map f (take i xs) → y ≡ f x → next ≡ made ++ y ∷ [] → next ≡ map f (take (i + 1) xs)
  map_more f made next y so_far same e =
      e ∙ ap (λ ys. ys ++ y ∷ []) so_far ∙ ap (λ z. map f (take i xs) ++ z ∷ []) same ∙ sym (map-append f (take i xs) (x ∷ [])) ∙ ap (map f) one_taken

  pub flat_more : {B : Type 0} (f : A → List B) (old made next ys : List B) → made ≡ old ++ flat_map f (take i xs) → ys ≡ f x → next ≡ made ++ ys →
      next ≡ old ++ flat_map f (take (i + 1) xs)
  flat_more f old made next ys so_far same e =
      e ∙ ap (λ zs. zs ++ ys) so_far ∙ append_assoc old (flat_map f (take i xs)) ys
      ∙ ap (λ zs. old ++ (flat_map f (take i xs) ++ zs)) (same ∙ sym (append-nil (f x)))
      ∙ ap (λ zs. old ++ zs) (sym (flat_map-append f (take i xs) (x ∷ [])) ∙ ap (flat_map f) one_taken)

all_snoc : {A : Type 0} (P : A → Type 0) (xs : List A) (x : A) → AllByRecursion P xs → P x → AllByRecursion P (xs ++ x ∷ [])
all_snoc P [] x all one = (one, tt)
all_snoc P (y ∷ xs) x all one = (all.0, all_snoc P xs x all.1 one)

pub all_more : {A : Type 0} (P : A → Type 0) (xs next : List A) (x : A) → AllByRecursion P xs → P x → next ≡ xs ++ x ∷ [] → AllByRecursion P next
all_more P xs next x all one e = subst (AllByRecursion P) (sym e) (all_snoc P xs x all one)

-- ---- one more blob in its pages

pub settled_more : (all blobs next : List Placed) (i : ℕ) (d own : Placed) (pages rest : List ℕ) → i < length blobs → next ≡ set blobs i own
    → own ≡ placed pages (get_or blobs i d).bytes → rest ≡ drop (blob_count (get_or blobs i d).bytes) pages → take i blobs ++ all_placed pages (drop i blobs) ≡ all
    → take (i + 1) next ++ all_placed rest (drop (i + 1) next) ≡ all
settled_more all blobs next i d own pages rest low put made behind so_far =
    let one = get_or blobs i d in
    ap (λ (l : List Placed). take (i + 1) l ++ all_placed rest (drop (i + 1) l)) put
    ∙ ap (λ (l : List Placed). l ++ all_placed rest (drop (i + 1) (set blobs i own))) (take_more_set blobs i own low)
    ∙ append_assoc (take i blobs) (own ∷ []) (all_placed rest (drop (i + 1) (set blobs i own)))
    ∙ ap (λ (l : List Placed). take i blobs ++ own ∷ all_placed rest l) (drop-set-lt (i + 1) blobs i own (omega arith))
    ∙ ap (λ (o : Placed). take i blobs ++ o ∷ all_placed rest (drop (i + 1) blobs)) made
    ∙ ap (λ (p : List ℕ). take i blobs ++ placed pages one.bytes ∷ all_placed p (drop (i + 1) blobs)) behind
    ∙ sym (ap (λ (l : List Placed). take i blobs ++ all_placed pages l) (drop_more blobs i d low)) ∙ so_far

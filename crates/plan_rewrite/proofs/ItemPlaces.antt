-- Items at places, when an item that no place names is left out.
use Rattle.std.proofs.Common.{◌≡◌, ℕ, zero, suc, ◌+◌, ◌-◌, ◌<◌, ◌≤◌, Bool, true, false, List, [], ◌∷◌, ◌++◌, map, length, cond, Option, Some, None, refl, sym, ap, ◌∙◌, subst, append_assoc, length-append, arith}
use Rattle.std.specs.Prelude.{◌==◌, ◌||◌, nat_lt, slice_get, slice_index_or}
use Rattle.std.specs.List.{list_all, filter_map, cons_option}
use Rattle.std.proofs.lemmas.Bool.{eqb-true, eq-eqb, ltb-true, ltb-false, lt-ltb, and_parts, and_from, or_parts, or_from, or_left, or_right}
use Rattle.logical_plan.specs.BoxOps.{items_at}
use Rattle.plan_rewrite.specs.Inner.Trimmed.{lower, lowered, kept, relocated}
use Rattle.plan_rewrite.specs.Settled.{is_named, names_all}

-- ---- one item left out

lower_above : (k p : ℕ) → k < p → lower k p ≡ p - 1
lower_above k p h = ap (λ (b : Bool). cond b (p - 1) p) (lt-ltb k p h)

not_above : (k p : ℕ) → p ≤ k → nat_lt k p ≡ false
not_above k p h = cases (nat_lt k p) refl
  where
    cases : (b : Bool) → nat_lt k p ≡ b → b ≡ false
    cases false e = refl
    cases true e = let l : k < p = ltb-true k p e in absurd (omega arith)

lower_below : (k p : ℕ) → p ≤ k → lower k p ≡ p
lower_below k p h = ap (λ (b : Bool). cond b (p - 1) p) (not_above k p h)

differ : (p k : ℕ) → (p == k) ≡ false → p ≡ k → ⊥
differ p k e same = let t : (p == k) ≡ true = eq-eqb p k same in cc

pred_suc : (k p : ℕ) → k < p → suc p - 1 ≡ suc (p - 1)
pred_suc k p l = omega arith

lower_suc : (k p : ℕ) → (p == k) ≡ false → lower (suc k) (suc p) ≡ suc (lower k p)
lower_suc k p e = cases (nat_lt k p) refl
  where
    cases : (b : Bool) → nat_lt k p ≡ b → lower (suc k) (suc p) ≡ suc (lower k p)
    cases true t =
        let l : k < p = ltb-true k p t in
        lower_above (suc k) (suc p) (omega arith) ∙ pred_suc k p l ∙ ap suc (sym (lower_above k p l))
    cases false t =
        let l : p ≤ k = ltb-false k p t in
        lower_below (suc k) (suc p) (omega arith) ∙ ap suc (sym (lower_below k p l))

same_suc : (p k : ℕ) → (suc p == suc k) ≡ false → (p == k) ≡ false
same_suc p k e = cases (p == k) refl
  where
    cases : (b : Bool) → (p == k) ≡ b → b ≡ false
    cases false t = refl
    cases true t = absurd (differ (suc p) (suc k) e (ap suc (eqb-true p k t)))

one_less : (p : ℕ) → suc p - 1 ≡ p
one_less p = omega arith

get_but : {A : Type 0} (front : List A) (x : A) (rest : List A) (p : ℕ) → (p == length front) ≡ false → slice_get (front ++ x ∷ rest) p ≡ slice_get (front ++ rest) (lower (length front) p)
get_but [] x rest zero e = absurd (differ zero zero e refl)
get_but [] x rest (suc p) e = let same : lower 0 (suc p) ≡ p = lower_above 0 (suc p) (omega arith) ∙ one_less p in ap (slice_get rest) (sym same)
get_but (y ∷ front) x rest zero e = ap (slice_get (y ∷ (front ++ rest))) (sym (lower_below (length (y ∷ front)) zero (omega arith)))
get_but (y ∷ front) x rest (suc p) e =
    let d : (p == length front) ≡ false = same_suc p (length front) e in
    get_but front x rest p d ∙ ap (slice_get (y ∷ (front ++ rest))) (sym (lower_suc (length front) p d))

map_but : {A : Type 0} (front : List A) (x : A) (rest : List A) (places : List ℕ) → is_named (length front) places ≡ false → map (slice_get (front ++ x ∷ rest)) places ≡ map (slice_get (front ++ rest)) (lowered (length front) places)
map_but front x rest [] e = refl
map_but front x rest (p ∷ places) e =
    let d = or_parts (p == length front) (is_named (length front) places) e in
    λ i. get_but front x rest p d.0 i ∷ map_but front x rest places d.1 i

-- ---- all that are not named left out

kept_get : {A : Type 0} (k : ℕ) (front xs : List A) (places : List ℕ) → length front ≡ k → map (slice_get (front ++ xs)) places ≡ map (slice_get (front ++ kept k xs places)) (relocated k xs places)
kept_get k front [] places e = refl
kept_get {A = A} k front (x ∷ xs) places e =
    by_test (is_named k places) refl
    (kept_get (k + 1) (front ++ x ∷ []) xs places longer)
    (kept_get k front xs (lowered k places) e)
  where
    longer : length (front ++ x ∷ []) ≡ k + 1
    longer = omega (arith, length-append front (x ∷ []), e)

    by_test : (b : Bool) → is_named k places ≡ b
        → map (slice_get ((front ++ x ∷ []) ++ xs)) places ≡ map (slice_get ((front ++ x ∷ []) ++ kept (k + 1) xs places)) (relocated (k + 1) xs places)
        → map (slice_get (front ++ xs)) (lowered k places) ≡ map (slice_get (front ++ kept k xs (lowered k places))) (relocated k xs (lowered k places))
        → map (slice_get (front ++ x ∷ xs)) places ≡ map (slice_get (front ++ cond b (x ∷ kept (k + 1) xs places) (kept k xs (lowered k places)))) (cond b (relocated (k + 1) xs places) (relocated k xs (lowered k places)))
    by_test true t named other =
        ap (λ (l : List A). map (slice_get l) places) (sym (append_assoc front (x ∷ []) xs))
        ∙ named
        ∙ ap (λ (l : List A). map (slice_get l) (relocated (k + 1) xs places)) (append_assoc front (x ∷ []) (kept (k + 1) xs places))
    by_test false t named other =
        subst (λ (n : ℕ). is_named n places ≡ false → map (slice_get (front ++ x ∷ xs)) places ≡ map (slice_get (front ++ xs)) (lowered n places)) e (map_but front x xs places) t
        ∙ other

-- ---- of a function of the items

pub kept-map : {A B : Type 0} (f : A → B) (k : ℕ) (xs : List A) (places : List ℕ) → kept k (map f xs) places ≡ map f (kept k xs places)
kept-map f k [] places = refl
kept-map {A = A} {B = B} f k (x ∷ xs) places =
    by_test (is_named k places) (kept-map f (k + 1) xs places) (kept-map f k xs (lowered k places))
  where
    by_test : (b : Bool) → kept (k + 1) (map f xs) places ≡ map f (kept (k + 1) xs places) → kept k (map f xs) (lowered k places) ≡ map f (kept k xs (lowered k places))
        → cond b (f x ∷ kept (k + 1) (map f xs) places) (kept k (map f xs) (lowered k places)) ≡ map f (cond b (x ∷ kept (k + 1) xs places) (kept k xs (lowered k places)))
    by_test true named other = ap (λ (l : List B). f x ∷ l) named
    by_test false named other = other

pub relocated-map : {A B : Type 0} (f : A → B) (k : ℕ) (xs : List A) (places : List ℕ) → relocated k (map f xs) places ≡ relocated k xs places
relocated-map f k [] places = refl
relocated-map f k (x ∷ xs) places =
    by_test (is_named k places) (relocated-map f (k + 1) xs places) (relocated-map f k xs (lowered k places))
  where
    by_test : (b : Bool) → relocated (k + 1) (map f xs) places ≡ relocated (k + 1) xs places → relocated k (map f xs) (lowered k places) ≡ relocated k xs (lowered k places)
        → cond b (relocated (k + 1) (map f xs) places) (relocated k (map f xs) (lowered k places)) ≡ cond b (relocated (k + 1) xs places) (relocated k xs (lowered k places))
    by_test true named other = named
    by_test false named other = other

-- ---- the places that are left

lower_at : (k n p : ℕ) → (p == k) ≡ false → k ≤ n → p < suc n → lower k p < n
lower_at k n p d le lt = cases (nat_lt k p) refl
  where
    cases : (b : Bool) → nat_lt k p ≡ b → lower k p < n
    cases true t =
        let l : k < p = ltb-true k p t in
        let less : p - 1 < n = omega arith in
        subst (λ (m : ℕ). m < n) (sym (lower_above k p l)) less
    cases false t =
        let l : p ≤ k = ltb-false k p t in
        let other : p ≡ k → ⊥ = differ p k d in
        let less : p < n = omega arith in
        subst (λ (m : ℕ). m < n) (sym (lower_below k p l)) less

lowered_below : (k n : ℕ) (places : List ℕ) → is_named k places ≡ false → k ≤ n → list_all (λ place. nat_lt place (suc n)) places ≡ true → list_all (λ place. nat_lt place n) (lowered k places) ≡ true
lowered_below k n [] e le b = refl
lowered_below k n (p ∷ places) e le b =
    let d = or_parts (p == k) (is_named k places) e in
    let c = and_parts (nat_lt p (suc n)) (list_all (λ place. nat_lt place (suc n)) places) b in
    and_from (nat_lt (lower k p) n) (list_all (λ place. nat_lt place n) (lowered k places)) (lt-ltb (lower k p) n (lower_at k n p d.0 le (ltb-true p (suc n) c.0))) (lowered_below k n places d.1 le c.1)

pub relocated_below : {A : Type 0} (k : ℕ) (xs : List A) (places : List ℕ) → list_all (λ place. nat_lt place (k + length xs)) places ≡ true → list_all (λ place. nat_lt place (k + length (kept k xs places))) (relocated k xs places) ≡ true
relocated_below k [] places b = b
relocated_below {A = A} k (x ∷ xs) places b =
    by_test (is_named k places) refl
    (relocated_below (k + 1) xs places (subst (λ (n : ℕ). list_all (λ place. nat_lt place n) places ≡ true) more b))
    (λ e. relocated_below k xs (lowered k places) (lowered_below k (k + length xs) places e (omega arith) (subst (λ (n : ℕ). list_all (λ place. nat_lt place n) places ≡ true) whole b)))
  where
    more : k + length (x ∷ xs) ≡ (k + 1) + length xs
    more = omega arith

    whole : k + length (x ∷ xs) ≡ suc (k + length xs)
    whole = omega arith

    one_more : (ys : List A) → (k + 1) + length ys ≡ k + length (x ∷ ys)
    one_more ys = omega arith

    by_test : (t : Bool) → is_named k places ≡ t
        → list_all (λ place. nat_lt place ((k + 1) + length (kept (k + 1) xs places))) (relocated (k + 1) xs places) ≡ true
        → (is_named k places ≡ false → list_all (λ place. nat_lt place (k + length (kept k xs (lowered k places)))) (relocated k xs (lowered k places)) ≡ true)
        → list_all (λ place. nat_lt place (k + length (cond t (x ∷ kept (k + 1) xs places) (kept k xs (lowered k places))))) (cond t (relocated (k + 1) xs places) (relocated k xs (lowered k places))) ≡ true
    by_test true e named other = subst (λ (n : ℕ). list_all (λ place. nat_lt place n) (relocated (k + 1) xs places) ≡ true) (one_more (kept (k + 1) xs places)) named
    by_test false e named other = other e

-- ---- each kept item is named

lowered_named : (j k : ℕ) (places : List ℕ) → j < k → is_named j places ≡ true → is_named j (lowered k places) ≡ true
lowered_named j k [] lt e = e
lowered_named j k (p ∷ places) lt e = cases (p == j) refl e (λ h. lowered_named j k places lt h)
  where
    cases : (b : Bool) → (p == j) ≡ b → (b || is_named j places) ≡ true → (is_named j places ≡ true → is_named j (lowered k places) ≡ true) → ((lower k p == j) || is_named j (lowered k places)) ≡ true
    cases true t f ih =
        let same : p ≡ j = eqb-true p j t in
        or_left (lower k p == j) (is_named j (lowered k places)) (eq-eqb (lower k p) j (lower_below k p (omega arith) ∙ same))
    cases false t f ih = or_right (lower k p == j) (is_named j (lowered k places)) (ih f)

still_named : {A : Type 0} (j k : ℕ) (xs : List A) (places : List ℕ) → j < k → is_named j places ≡ true → is_named j (relocated k xs places) ≡ true
still_named j k [] places lt e = e
still_named j k (x ∷ xs) places lt e = by_test (is_named k places) (still_named j (k + 1) xs places (omega arith) e) (still_named j k xs (lowered k places) lt (lowered_named j k places lt e))
  where
    by_test : (b : Bool) → is_named j (relocated (k + 1) xs places) ≡ true → is_named j (relocated k xs (lowered k places)) ≡ true → is_named j (cond b (relocated (k + 1) xs places) (relocated k xs (lowered k places))) ≡ true
    by_test true named other = named
    by_test false named other = other

pub names_kept : {A : Type 0} (k : ℕ) (xs : List A) (places : List ℕ) → names_all k (kept k xs places) (relocated k xs places) ≡ true
names_kept k [] places = refl
names_kept {A = A} k (x ∷ xs) places = by_test (is_named k places) refl (names_kept (k + 1) xs places) (names_kept k xs (lowered k places))
  where
    by_test : (b : Bool) → is_named k places ≡ b → names_all (k + 1) (kept (k + 1) xs places) (relocated (k + 1) xs places) ≡ true → names_all k (kept k xs (lowered k places)) (relocated k xs (lowered k places)) ≡ true
        → names_all k (cond b (x ∷ kept (k + 1) xs places) (kept k xs (lowered k places))) (cond b (relocated (k + 1) xs places) (relocated k xs (lowered k places))) ≡ true
    by_test true e named other =
        and_from (is_named k (relocated (k + 1) xs places)) (names_all (k + 1) (kept (k + 1) xs places) (relocated (k + 1) xs places)) (still_named k (k + 1) xs places (omega arith) e) named
    by_test false e named other = other

pub all_kept : {A : Type 0} (test : A → Bool) (k : ℕ) (xs : List A) (places : List ℕ) → list_all test xs ≡ true → list_all test (kept k xs places) ≡ true
all_kept test k [] places a = refl
all_kept {A = A} test k (x ∷ xs) places a =
    let both = and_parts (test x) (list_all test xs) a in
    by_test (is_named k places) both.0 (all_kept test (k + 1) xs places both.1) (all_kept test k xs (lowered k places) both.1)
  where
    by_test : (b : Bool) → test x ≡ true → list_all test (kept (k + 1) xs places) ≡ true → list_all test (kept k xs (lowered k places)) ≡ true → list_all test (cond b (x ∷ kept (k + 1) xs places) (kept k xs (lowered k places))) ≡ true
    by_test true t named other = and_from (test x) (list_all test (kept (k + 1) xs places)) t named
    by_test false t named other = other

pub kept_few : {A : Type 0} (k : ℕ) (xs : List A) (places : List ℕ) → length (kept k xs places) ≤ length xs
kept_few k [] places = omega arith
kept_few {A = A} k (x ∷ xs) places = by_test (is_named k places) (kept_few (k + 1) xs places) (kept_few k xs (lowered k places))
  where
    by_test : (b : Bool) → length (kept (k + 1) xs places) ≤ length xs → length (kept k xs (lowered k places)) ≤ length xs → length (cond b (x ∷ kept (k + 1) xs places) (kept k xs (lowered k places))) ≤ length (x ∷ xs)
    by_test true named other = omega arith
    by_test false named other = omega arith

-- ---- items at places

each_some : {A : Type 0} (h : ℕ → Option A) (places : List ℕ) → filter_map h places ≡ filter_map (λ (o : Option A). o) (map h places)
each_some h [] = refl
each_some {A = A} h (p ∷ places) = ap (cons_option (h p)) (each_some h places)

pub items_kept : {A : Type 0} (k : ℕ) (front xs : List A) (places : List ℕ) → length front ≡ k → items_at (relocated k xs places) (front ++ kept k xs places) ≡ items_at places (front ++ xs)
items_kept {A = A} k front xs places e =
    each_some (slice_get (front ++ kept k xs places)) (relocated k xs places)
    ∙ ap (λ (os : List (Option A)). filter_map (λ (o : Option A). o) os) (sym (kept_get k front xs places e))
    ∙ sym (each_some (slice_get (front ++ xs)) places)

abbrev or_else : {A : Type 0} → A → Option A → A
or_else d None = d
or_else d (Some x) = x

index_is : {A : Type 0} (xs : List A) (p : ℕ) (d : A) → slice_index_or xs p d ≡ or_else d (slice_get xs p)
index_is [] p d = refl
index_is (x ∷ xs) zero d = refl
index_is (x ∷ xs) (suc p) d = index_is xs p d

each_index : {A : Type 0} (xs : List A) (d : A) (places : List ℕ) → map (λ p. slice_index_or xs p d) places ≡ map (or_else d) (map (slice_get xs) places)
each_index xs d [] = refl
each_index xs d (p ∷ places) = λ i. index_is xs p d i ∷ each_index xs d places i

pub values_kept : {A : Type 0} (k : ℕ) (front xs : List A) (d : A) (places : List ℕ) → length front ≡ k
    → map (λ p. slice_index_or (front ++ kept k xs places) p d) (relocated k xs places) ≡ map (λ p. slice_index_or (front ++ xs) p d) places
values_kept {A = A} k front xs d places e =
    each_index (front ++ kept k xs places) d (relocated k xs places)
    ∙ ap (λ (os : List (Option A)). map (or_else d) os) (sym (kept_get k front xs places e))
    ∙ sym (each_index (front ++ xs) d places)

-- ---- places of places

none_past : {A : Type 0} (ys : List A) (n : ℕ) → n < length ys → slice_get ys n ≡ None → ⊥
none_past [] n l e = absurd (omega arith)
none_past (y ∷ ys) zero l e = cc
none_past (y ∷ ys) (suc n) l e = none_past ys n (omega arith) e

get_picked : {A : Type 0} (xs : List A) (own : List ℕ) (p : ℕ) → list_all (λ place. nat_lt place (length xs)) own ≡ true → p < length own → slice_get (items_at own xs) p ≡ slice_get xs (slice_index_or own p 0)
get_picked xs [] p b lt = absurd (omega arith)
get_picked {A = A} xs (o ∷ own) p b lt =
    let c = and_parts (nat_lt o (length xs)) (list_all (λ place. nat_lt place (length xs)) own) b in
    cases (slice_get xs o) refl p lt (λ q l. get_picked xs own q c.1 l) (ltb-true o (length xs) c.0)
  where
    cases : (s : Option A) → slice_get xs o ≡ s → (q : ℕ) → q < length (o ∷ own) → ((r : ℕ) → r < length own → slice_get (items_at own xs) r ≡ slice_get xs (slice_index_or own r 0)) → o < length xs
        → slice_get (cons_option s (items_at own xs)) q ≡ slice_get xs (slice_index_or (o ∷ own) q 0)
    cases None e q l ih within = absurd (none_past xs o within e)
    cases (Some x) e zero l ih within = sym e
    cases (Some x) e (suc q) l ih within = ih q (omega arith)

-- the items at the picked places are the picked items at the places
pub items_picked : {A : Type 0} (xs : List A) (own places : List ℕ) → list_all (λ place. nat_lt place (length xs)) own ≡ true → list_all (λ place. nat_lt place (length own)) places ≡ true → items_at (items_at places own) xs ≡ items_at places (items_at own xs)
items_picked xs own [] b c = refl
items_picked {A = A} xs own (p ∷ places) b c =
    let d = and_parts (nat_lt p (length own)) (list_all (λ place. nat_lt place (length own)) places) c in
    cases (slice_get own p) refl (get_picked xs own p b (ltb-true p (length own) d.0)) (items_picked xs own places b d.1) (ltb-true p (length own) d.0)
  where
    cases : (s : Option ℕ) → slice_get own p ≡ s → slice_get (items_at own xs) p ≡ slice_get xs (slice_index_or own p 0) → items_at (items_at places own) xs ≡ items_at places (items_at own xs) → p < length own
        → items_at (cons_option s (items_at places own)) xs ≡ cons_option (slice_get (items_at own xs) p) (items_at places (items_at own xs))
    cases None e f ih l = absurd (none_past own p l e)
    cases (Some o) e f ih l =
        let at : slice_index_or own p 0 ≡ o = index_is own p 0 ∙ ap (or_else 0) e in
        ap (cons_option (slice_get xs o)) ih ∙ ap (λ (s : Option A). cons_option s (items_at places (items_at own xs))) (sym (f ∙ ap (slice_get xs) at))

-- a value at a picked place is the picked value at the place
pub index_picked : {A : Type 0} (xs : List A) (d : A) (own places : List ℕ) → list_all (λ place. nat_lt place (length own)) places ≡ true
    → map (λ o. slice_index_or xs o d) (items_at places own) ≡ map (λ p. slice_index_or (map (λ o. slice_index_or xs o d) own) p d) places
index_picked xs d own [] c = refl
index_picked {A = A} xs d own (p ∷ places) c =
    let e = and_parts (nat_lt p (length own)) (list_all (λ place. nat_lt place (length own)) places) c in
    one own p (ltb-true p (length own) e.0) (index_picked xs d own places e.1)
  where
    one : (os : List ℕ) (q : ℕ) → q < length os → map (λ o. slice_index_or xs o d) (items_at places own) ≡ map (λ p. slice_index_or (map (λ o. slice_index_or xs o d) own) p d) places
        → map (λ o. slice_index_or xs o d) (cons_option (slice_get os q) (items_at places own)) ≡ slice_index_or (map (λ o. slice_index_or xs o d) os) q d ∷ map (λ p. slice_index_or (map (λ o. slice_index_or xs o d) own) p d) places
    one [] q l ih = absurd (omega arith)
    one (o ∷ os) zero l ih = ap (λ (ys : List A). slice_index_or xs o d ∷ ys) ih
    one (o ∷ os) (suc q) l ih = one os q (omega arith) ih

pub picked_below : (n : ℕ) (own places : List ℕ) → list_all (λ place. nat_lt place n) own ≡ true → list_all (λ place. nat_lt place n) (items_at places own) ≡ true
picked_below n own [] b = refl
picked_below n own (p ∷ places) b = one own p b (picked_below n own places b)
  where
    one : (os : List ℕ) (q : ℕ) → list_all (λ place. nat_lt place n) os ≡ true → list_all (λ place. nat_lt place n) (items_at places own) ≡ true → list_all (λ place. nat_lt place n) (cons_option (slice_get os q) (items_at places own)) ≡ true
    one [] q c ih = ih
    one (o ∷ os) zero c ih = let e = and_parts (nat_lt o n) (list_all (λ place. nat_lt place n) os) c in and_from (nat_lt o n) (list_all (λ place. nat_lt place n) (items_at places own)) e.0 ih
    one (o ∷ os) (suc q) c ih = one os q (and_parts (nat_lt o n) (list_all (λ place. nat_lt place n) os) c).1 ih

pub length_picked : {A : Type 0} (xs : List A) (own : List ℕ) → list_all (λ place. nat_lt place (length xs)) own ≡ true → length (items_at own xs) ≡ length own
length_picked xs [] b = refl
length_picked {A = A} xs (o ∷ own) b =
    let c = and_parts (nat_lt o (length xs)) (list_all (λ place. nat_lt place (length xs)) own) b in
    one xs o (ltb-true o (length xs) c.0) (length_picked xs own c.1)
  where
    one : (ys : List A) (q : ℕ) → q < length ys → length (items_at own xs) ≡ length own → length (cons_option (slice_get ys q) (items_at own xs)) ≡ suc (length own)
    one [] q l ih = absurd (omega arith)
    one (y ∷ ys) zero l ih = ap suc ih
    one (y ∷ ys) (suc q) l ih = one ys q (omega arith) ih

-- ---- places of which none is from k on

not_named : (k : ℕ) (places : List ℕ) → list_all (λ place. nat_lt place k) places ≡ true → is_named k places ≡ false
not_named k [] b = refl
not_named k (p ∷ places) b =
    let c = and_parts (nat_lt p k) (list_all (λ place. nat_lt place k) places) b in
    or_from (p == k) (is_named k places) (other (ltb-true p k c.0) (p == k) refl) (not_named k places c.1)
  where
    other : p < k → (t : Bool) → (p == k) ≡ t → t ≡ false
    other l false e = refl
    other l true e = let same : p ≡ k = eqb-true p k e in absurd (omega arith)

none_lowered : (k : ℕ) (places : List ℕ) → list_all (λ place. nat_lt place k) places ≡ true → lowered k places ≡ places
none_lowered k [] b = refl
none_lowered k (p ∷ places) b =
    let c = and_parts (nat_lt p k) (list_all (λ place. nat_lt place k) places) b in
    let l : p < k = ltb-true p k c.0 in
    let same : lower k p ≡ p = lower_below k p (omega arith) in
    λ i. same i ∷ none_lowered k places c.1 i

pub none_kept : {A : Type 0} (k : ℕ) (xs : List A) (places : List ℕ) → list_all (λ place. nat_lt place k) places ≡ true → (kept k xs places ≡ []) × (relocated k xs places ≡ places)
none_kept k [] places b = (refl, refl)
none_kept {A = A} k (x ∷ xs) places b =
    let ih = none_kept k xs places b in
    let same : lowered k places ≡ places = none_lowered k places b in
    by_test (is_named k places) (not_named k places b)
    (ap (kept k xs) same ∙ ih.0) (ap (relocated k xs) same ∙ ih.1)
  where
    by_test : (t : Bool) → t ≡ false → kept k xs (lowered k places) ≡ [] → relocated k xs (lowered k places) ≡ places
        → (cond t (x ∷ kept (k + 1) xs places) (kept k xs (lowered k places)) ≡ []) × (cond t (relocated (k + 1) xs places) (relocated k xs (lowered k places)) ≡ places)
    by_test true e f g = cc
    by_test false e f g = (f, g)

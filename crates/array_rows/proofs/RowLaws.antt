-- Rows in columns to which values are added.
use Rattle.std.proofs.Common.{◌≡◌, ℕ, zero, suc, ◌+◌, ◌<◌, ◌≤◌, List, [], ◌∷◌, ◌++◌, length, get_or, set, take, refl, sym, ap, ◌∙◌, subst, arith, add-one, ◌⊎◌, inl, inr, Result, Ok, Err, IfOk}
use Rattle.std.proofs.lemmas.List.{get_or_append_left, get_or_push, length-append, length-map, map-append}
use Rattle.std.proofs.lemmas.Bool.{cases_lt}
use Rattle.cell_values.specs.declared.memory.Memory.{Memory}
use Rattle.std.specs.Prelude.{slice_index_or, OnOk}
use Rattle.cell_values.specs.declared.datum.Datum.{Datum}
use Rattle.cell_values.specs.declared.datum.Datum.TheVariants.{Null}
use Rattle.array_rows.specs.Boxes.{by_pairs}
use Rattle.array_rows.specs.RowsIn.{row_at, rows_in, pushed, AreLong}

pub length_more : {A : Type 0} (xs : List A) (x : A) → length (xs ++ x ∷ []) ≡ suc (length xs)
length_more [] x = refl
length_more (y ∷ xs) x = ap suc (length_more xs x)

-- columns of which some have a value more
pub none_pushed : (cs : List (List Datum)) → pushed cs [] ≡ cs
none_pushed [] = refl
none_pushed (c ∷ cs) = refl

pub length_pushed : (cs : List (List Datum)) (vs : List Datum) → length (pushed cs vs) ≡ length cs
length_pushed [] vs = refl
length_pushed (c ∷ cs) [] = refl
length_pushed (c ∷ cs) (v ∷ vs) = ap suc (length_pushed cs vs)

pub push_more : (cs : List (List Datum)) (vs : List Datum) (i : ℕ) (v : Datum) → i < length vs → v ≡ get_or vs i Null
    → set (pushed cs (take i vs)) i (get_or (pushed cs (take i vs)) i [] ++ v ∷ []) ≡ pushed cs (take (suc i) vs)
push_more cs [] i v l e = absurd (omega arith)
push_more [] (w ∷ vs) zero v l e = refl
push_more [] (w ∷ vs) (suc i) v l e = refl
push_more (c ∷ cs) (w ∷ vs) zero v l e = ap (λ u. (c ++ u ∷ []) ∷ cs) e ∙ ap (λ (ds : List (List Datum)). (c ++ w ∷ []) ∷ ds) (sym (none_pushed cs))
push_more (c ∷ cs) (w ∷ vs) (suc i) v l e = ap (λ (ds : List (List Datum)). (c ++ w ∷ []) ∷ ds) (push_more cs vs i v (omega arith) e)

pub push_step : (cs now then : List (List Datum)) (vs : List Datum) (i : ℕ) (v : Datum) → i < length vs → v ≡ get_or vs i Null
    → now ≡ pushed cs (take i vs) → then ≡ set now i (get_or now i [] ++ v ∷ []) → then ≡ pushed cs (take (i + 1) vs)
push_step cs now then vs i v l e f g = g ∙ ap (λ ds. set ds i (get_or ds i [] ++ v ∷ [])) f ∙ push_more cs vs i v l e ∙ ap (λ n. pushed cs (take n vs)) (sym (add-one i))

-- an earlier row stays
pub row_before : (k n : ℕ) (cs : List (List Datum)) (vs : List Datum) → k < n → AreLong n cs → row_at k (pushed cs vs) ≡ row_at k cs
row_before k n [] vs l h = refl
row_before k n (c ∷ cs) [] l h = refl
row_before k n (c ∷ cs) (v ∷ vs) l h =
    let e : slice_index_or (c ++ v ∷ []) k Null ≡ slice_index_or c k Null = get_or_append_left c (v ∷ []) Null k (let f = h.0 in omega arith) in
    let f = row_before k n cs vs l h.1 in cc

pub rows_before : (m n : ℕ) (cs : List (List Datum)) (vs : List Datum) → m ≤ n → AreLong n cs → rows_in m (pushed cs vs) ≡ rows_in m cs
rows_before zero n cs vs l h = refl
rows_before (suc m) n cs vs l h =
    let e = rows_before m n cs vs (omega arith) h in
    let f = row_before m n cs vs (omega arith) h in cc

-- the new row
pub row_new : (n : ℕ) (cs : List (List Datum)) (vs : List Datum) → AreLong n cs → length cs ≡ length vs → row_at n (pushed cs vs) ≡ vs
row_new n [] [] h e = refl
row_new n [] (v ∷ vs) h e = cc
row_new n (c ∷ cs) [] h e = cc
row_new n (c ∷ cs) (v ∷ vs) h e =
    let f : slice_index_or (c ++ v ∷ []) n Null ≡ v = get_or_push c v Null n h.0 in
    let s : length cs ≡ length vs = cc in
    let g = row_new n cs vs h.1 s in cc

pub long_pushed : (n : ℕ) (cs : List (List Datum)) (vs : List Datum) → AreLong n cs → length cs ≡ length vs → AreLong (suc n) (pushed cs vs)
long_pushed n [] [] h e = tt
long_pushed n [] (v ∷ vs) h e = cc
long_pushed n (c ∷ cs) [] h e = cc
long_pushed n (c ∷ cs) (v ∷ vs) h e =
    let s : length cs ≡ length vs = cc in
    (length_more c v ∙ ap suc h.0, long_pushed n cs vs h.1 s)

pub rows_pushed : (n : ℕ) (cs : List (List Datum)) (vs : List Datum) → AreLong n cs → length cs ≡ length vs → rows_in (suc n) (pushed cs vs) ≡ rows_in n cs ++ vs ∷ []
rows_pushed n cs vs h e =
    let f = rows_before n n cs vs (omega arith) h in
    let g = row_new n cs vs h e in cc

pub long_more : (n : ℕ) (cs : List (List Datum)) (c : List Datum) → AreLong n cs → length c ≡ n → AreLong n (cs ++ c ∷ [])
long_more n [] c h e = (e, tt)
long_more n (d ∷ cs) c h e = (h.0, long_more n cs c h.1 e)

pub length_rows : (n : ℕ) (cs : List (List Datum)) → length (rows_in n cs) ≡ n
length_rows zero cs = refl
length_rows (suc n) cs = length_more (rows_in n cs) (row_at n cs) ∙ ap suc (length_rows n cs)

-- the row at a place
pub row_got : (k n : ℕ) (cs : List (List Datum)) → k < n → get_or (rows_in n cs) k [] ≡ row_at k cs
row_got k zero cs l = absurd (omega arith)
row_got k (suc n) cs l = cases (λ f. row_got k n cs f) (cases_lt k n)
  where
    cases : (k < n → get_or (rows_in n cs) k [] ≡ row_at k cs) → k < n ⊎ n ≤ k → get_or (rows_in n cs ++ row_at n cs ∷ []) k [] ≡ row_at k cs
    cases before (inl f) =
        get_or_append_left (rows_in n cs) (row_at n cs ∷ []) [] k (let g = length_rows n cs in omega arith) ∙ before f
    cases before (inr g) =
        let f : k ≡ n = omega arith in
        get_or_push (rows_in n cs) (row_at n cs) [] k (length_rows n cs ∙ sym f) ∙ ap (λ m. row_at m cs) (sym f)

pub row_told : (k n : ℕ) (cs columns now : List (List Datum)) → rows_in n cs ≡ now → columns ≡ cs → k < length now → get_or now k [] ≡ row_at k columns
row_told k n cs columns now v s l =
    let m : k < n = let a = length_rows n cs in let b = ap length v in omega arith in
    ap (λ rows. get_or rows k []) (sym v) ∙ row_got k n cs m ∙ ap (λ x. row_at k x) (sym s)

pub row_found : (k n : ℕ) (cs columns now : List (List Datum)) (r : Result (List Datum) Memory) → rows_in n cs ≡ now → columns ≡ cs → k < length now
    → IfOk r (λ values. values ≡ row_at k columns) → IfOk r (λ row. row ≡ get_or now k [])
row_found k n cs columns now (Err e) v s l h = tt
row_found k n cs columns now (Ok row) v s l h = h ∙ sym (row_told k n cs columns now v s l)

-- what a row more makes
pub room_for : (cs now : List (List Datum)) (vs : List Datum) (k n : ℕ) → now ≡ pushed cs (take k vs) → length cs ≡ n → k < n → k < length now
room_for cs now vs k n e f l = subst (λ m. k < m) (sym (ap length e ∙ length_pushed cs (take k vs) ∙ f)) l

pub long_added : (n next : ℕ) (cs ds : List (List Datum)) (vs : List Datum) → next ≡ n + 1 → ds ≡ pushed cs vs → AreLong n cs → length cs ≡ length vs → AreLong next ds
long_added n next cs ds vs e f h l = subst (λ m. AreLong m ds) (sym (e ∙ add-one n)) (subst (AreLong (suc n)) (sym f) (long_pushed n cs vs h l))

pub rows_added : (n next : ℕ) (cs ds old now : List (List Datum)) (vs : List Datum) → next ≡ n + 1 → ds ≡ pushed cs vs → AreLong n cs → length cs ≡ length vs
    → rows_in n cs ≡ rows_in n old → rows_in n old ≡ now → rows_in next ds ≡ now ++ vs ∷ []
rows_added n next cs ds old now vs e f h l same v =
    ap (λ m. rows_in m ds) (e ∙ add-one n) ∙ ap (rows_in (suc n)) f ∙ rows_pushed n cs vs h l ∙ ap (λ rows. rows ++ vs ∷ []) (same ∙ v)

pub place_read : (cs : List (List Datum)) (i k : ℕ) (c : List Datum) (v : Datum) → i < length cs → c ≡ get_or cs i c → v ≡ get_or c k Null → v ≡ get_or (row_at k cs) i Null
place_read [] i k c v l e f = absurd (omega arith)
place_read (d ∷ cs) zero k c v l e f = f ∙ ap (λ x. get_or x k Null) e
place_read (d ∷ cs) (suc i) k c v l e f = place_read cs i k c v (omega arith) e f

pub first_pushed : (cs ds : List (List Datum)) (v w : Datum) → w ≡ v → ds ≡ set cs 0 (get_or cs 0 [] ++ w ∷ []) → ds ≡ pushed cs (v ∷ [])
first_pushed cs ds v w same e = push_step cs cs ds (v ∷ []) 0 w (omega arith) same (sym (none_pushed cs)) e

pub on_ok : {X E : Type 0} {P Q : Type 0} (r : Result X E) → (P → Q) → OnOk r P → OnOk r Q
on_ok (Ok x) f p = f p
on_ok (Err e) f p = p

-- places of two lists of columns, one behind the other
pub both_long : (a b : List (List Datum)) (i j : ℕ) → length (row_at i a ++ row_at j b) ≡ length a + length b
both_long a b i j = length-append (row_at i a) (row_at j b) ∙ (λ t. length-map a (λ (c : List Datum). get_or c i Null) t + length-map b (λ (c : List Datum). get_or c j Null) t)

pub read_left : (a b : List (List Datum)) (i j k : ℕ) (c : List Datum) (v : Datum) → k < length a → c ≡ get_or a k c → v ≡ get_or c i Null → v ≡ get_or (row_at i a ++ row_at j b) k Null
read_left [] b i j k c v l e f = absurd (omega (arith, l))
read_left (d ∷ a) b i j zero c v l e f = f ∙ ap (λ (x : List Datum). get_or x i Null) e
read_left (d ∷ a) b i j (suc k) c v l e f = read_left a b i j k c v (omega (arith, l)) e f

none_behind : (k : ℕ) → k ≡ 0 + k
none_behind k = omega arith

one_behind : (n k : ℕ) → suc (n + k) ≡ suc n + k
one_behind n k = omega arith

pub read_right : (a b : List (List Datum)) (i j k : ℕ) (c : List Datum) (v : Datum) → k < length b → c ≡ get_or b k c → v ≡ get_or c j Null → v ≡ get_or (row_at i a ++ row_at j b) (length a + k) Null
read_right [] b i j k c v l e f = place_read b k j c v l e f ∙ ap (λ (n : ℕ). get_or (row_at j b) n Null) (none_behind k)
read_right (d ∷ a) b i j k c v l e f = read_right a b i j k c v l e f ∙ ap (λ (n : ℕ). get_or (row_at i (d ∷ a) ++ row_at j b) n Null) (one_behind (length a) k)

pub push_further : (cs now then : List (List Datum)) (vs : List Datum) (n k : ℕ) (v : Datum) → n + k < length vs → v ≡ get_or vs (n + k) Null → now ≡ pushed cs (take (n + k) vs) → then ≡ set now (n + k) (get_or now (n + k) [] ++ v ∷ []) → then ≡ pushed cs (take (n + (k + 1)) vs)
push_further cs now then vs n k v l e f g = push_step cs now then vs (n + k) v l e f g ∙ ap (λ (m : ℕ). pushed cs (take m vs)) (further n k)
  where
    further : (n k : ℕ) → n + k + 1 ≡ n + (k + 1)
    further n k = omega arith

-- ---- columns of others behind the columns

pub all_long : (n : ℕ) (a b : List (List Datum)) → AreLong n a → AreLong n b → AreLong n (a ++ b)
all_long n [] b h k = k
all_long n (c ∷ a) b h k = (h.0, all_long n a b h.1 k)

pairs_pushed : {A B C : Type 0} (f : A → B → C) (xs : List A) (ys : List B) (x : A) (y : B) → length xs ≡ length ys → by_pairs f (xs ++ x ∷ []) (ys ++ y ∷ []) ≡ by_pairs f xs ys ++ f x y ∷ []
pairs_pushed f [] [] x y e = refl
pairs_pushed f [] (w ∷ ys) x y e = absurd (omega (arith, e))
pairs_pushed f (v ∷ xs) [] x y e = absurd (omega (arith, e))
pairs_pushed {C = C} f (v ∷ xs) (w ∷ ys) x y e = ap (λ (zs : List C). f v w ∷ zs) (pairs_pushed f xs ys x y (omega (arith, e)))

abbrev pub beside : List Datum → List Datum → List Datum
beside row others = row ++ others

pub rows_beside : (n : ℕ) (a b : List (List Datum)) → rows_in n (a ++ b) ≡ by_pairs beside (rows_in n a) (rows_in n b)
rows_beside zero a b = refl
rows_beside (suc n) a b =
    ap (λ (rows : List (List Datum)). rows ++ row_at n (a ++ b) ∷ []) (rows_beside n a b)
    ∙ ap (λ (row : List Datum). by_pairs beside (rows_in n a) (rows_in n b) ++ row ∷ []) (map-append (λ (column : List Datum). get_or column n Null) a b)
    ∙ sym (pairs_pushed beside (rows_in n a) (rows_in n b) (row_at n a) (row_at n b) (length_rows n a ∙ sym (length_rows n b)))

-- as many rows
pub same_count : (n m : ℕ) (a b old more : List (List Datum)) → rows_in n a ≡ old → rows_in m b ≡ more → length more ≡ length old → m ≡ n
same_count n m a b old more v w e = sym (length_rows m b) ∙ ap length w ∙ e ∙ sym (ap length v) ∙ length_rows n a

pub long_beside : (n m : ℕ) (a b ds old more : List (List Datum)) → rows_in n a ≡ old → rows_in m b ≡ more → length more ≡ length old → ds ≡ a ++ b → AreLong n a → AreLong m b → AreLong n ds
long_beside n m a b ds old more v w e f h k =
    subst (AreLong n) (sym f) (all_long n a b h (subst (λ (i : ℕ). AreLong i b) (same_count n m a b old more v w e) k))

pub rows_appended : (n m : ℕ) (a b ds old more : List (List Datum)) → rows_in n a ≡ old → rows_in m b ≡ more → length more ≡ length old → ds ≡ a ++ b → rows_in n ds ≡ by_pairs beside old more
rows_appended n m a b ds old more v w e f =
    ap (rows_in n) f ∙ rows_beside n a b ∙ ap (λ (rows : List (List Datum)). by_pairs beside rows (rows_in n b)) v
    ∙ ap (by_pairs beside old) (ap (λ (i : ℕ). rows_in i b) (sym (same_count n m a b old more v w e)) ∙ w)

-- Numbers of groups, by the places of the groups.
use Rattle.std.proofs.Common.{◌≡◌, ◌≢◌, ℕ, suc, ◌+◌, ◌<◌, ◌≤◌, ◌==◌, ℤ, pos, ◌<ℤ◌, ◌≤ℤ◌, Bool, true, false, cond, List, [], ◌∷◌, ◌++◌, append_assoc, map, length, get_or, drop, take, refl, sym, ap, ◌∙◌, subst, arith}
use Rattle.std.proofs.lemmas.Bool.{eqb-true}
use Rattle.std.proofs.lemmas.List.{append-nil, get_or-map, get_or-set_other, get_or-set_same, length-map, length-set, length-take-le, take_all, take_more}
use Rattle.std.specs.Prelude.{slice_set}
use Rattle.std.specs.List.{AllByRecursion}
use Rattle.cell_values.specs.declared.datum.Datum.{Datum}
use Rattle.cell_values.specs.declared.datum.Datum.TheVariants.{Int}
use Rattle.array_rows.specs.Boxes.{by_pairs}
use Rattle.std.specs.Ordering.{is_lt}
use Rattle.logical_plan.specs.Groups.{datum_cmp}
use Rattle.logical_plan.specs.Ordered.{below, sorted_by}
use Rattle.order_exec.specs.Inner.Counted.{number_before}
use Rattle.order_exec.specs.Inner.GroupNumbers.{AreRising, TakesNumbers, number_rank, numbers_there, ranks_in}
use Rattle.order_exec.specs.Inner.Ranked.{AreInOrder, value_before}
use Rattle.order_exec.proofs.CountedLaws.{is_less, isnt_less}
use Rattle.order_exec.proofs.GroupOrderLaws.{below_sorted, sorted_in_order}
use Rattle.order_exec.proofs.KeyedLaws.{map_sorted}
use Rattle.order_exec.proofs.RankLaws.{all_upto, counted_below, not_from}

-- ---- taken

there_joined : (p : ℕ) (places : List ℕ) (numbers : List ℤ) (t : ℕ) (n : ℤ) → length places ≡ length numbers → numbers_there p (places ++ t ∷ []) (numbers ++ n ∷ []) ≡ numbers_there p places numbers ++ cond (t == p) (n ∷ []) []
there_joined p [] [] t n l = refl
there_joined p [] (m ∷ numbers) t n l = absurd (omega (arith, l))
there_joined p (s ∷ places) [] t n l = absurd (omega (arith, l))
there_joined p (s ∷ places) (m ∷ numbers) t n l = cases (s == p) (there_joined p places numbers t n (omega (arith, l)))
  where
    cases : (b : Bool) → numbers_there p (places ++ t ∷ []) (numbers ++ n ∷ []) ≡ numbers_there p places numbers ++ cond (t == p) (n ∷ []) []
        → cond b (m ∷ numbers_there p (places ++ t ∷ []) (numbers ++ n ∷ [])) (numbers_there p (places ++ t ∷ []) (numbers ++ n ∷ [])) ≡ cond b (m ∷ numbers_there p places numbers) (numbers_there p places numbers) ++ cond (t == p) (n ∷ []) []
    cases true ih = ap (λ (ns : List ℤ). m ∷ ns) ih
    cases false ih = ih

pub none_taken : (places : List ℕ) (numbers : List ℤ) (groups : List (List ℤ)) → TakesNumbers (take 0 places) (take 0 numbers) groups groups
none_taken places numbers groups = record { long = refl; each = λ p l. sym (append-nil (get_or groups p [])) }

pub next_taken : (places : List ℕ) (numbers : List ℤ) (k t : ℕ) (n : ℤ) (old mid new : List (List ℤ)) → k < length places → length numbers ≡ length places → t ≡ get_or places k 0 → n ≡ get_or numbers k (pos 0) → t < length old
    → new ≡ slice_set mid t (get_or mid t [] ++ n ∷ []) → TakesNumbers (take k places) (take k numbers) old mid → TakesNumbers (take (k + 1) places) (take (k + 1) numbers) old new
next_taken places numbers k t n old mid new l same e f inside set h = record {
  long = ap length set ∙ length-set mid t (get_or mid t [] ++ n ∷ []) ∙ h.long;
  each = λ p small. cases p small (t == p) refl;
}
  where
    long_places : length (take k places) ≡ k
    long_places = length-take-le k places (omega (arith, l))

    long_numbers : length (take k numbers) ≡ k
    long_numbers = length-take-le k numbers (omega (arith, l, same))

    more : (p : ℕ) → numbers_there p (take (k + 1) places) (take (k + 1) numbers) ≡ numbers_there p (take k places) (take k numbers) ++ cond (t == p) (n ∷ []) []
    more p =
        (λ i. numbers_there p (take_more places k 0 l i) (take_more numbers k (pos 0) (omega (arith, l, same)) i))
        ∙ there_joined p (take k places) (take k numbers) (get_or places k 0) (get_or numbers k (pos 0)) (long_places ∙ sym long_numbers)
        ∙ (λ i. numbers_there p (take k places) (take k numbers) ++ cond (sym e i == p) (sym f i ∷ []) [])

    no : (p : ℕ) → (t == p) ≡ false → p ≢ t
    no p b s = let itself : (t == t) ≡ true = grind arith in let clash : true ≡ false = sym itself ∙ ap (λ (m : ℕ). t == m) (sym s) ∙ b in cc

    cases : (p : ℕ) → p < length old → (b : Bool) → (t == p) ≡ b → get_or new p [] ≡ get_or old p [] ++ numbers_there p (take (k + 1) places) (take (k + 1) numbers)
    cases p small true b =
        let here : p ≡ t = sym (eqb-true t p b) in
        let was = h.each t inside in
        let long = h.long in
        ap (λ (q : ℕ). get_or new q []) here
        ∙ ap (λ (gs : List (List ℤ)). get_or gs t []) set ∙ get_or-set_same mid t (get_or mid t [] ++ n ∷ []) [] (omega (arith, inside, long))
        ∙ ap (λ (ns : List ℤ). ns ++ n ∷ []) was
        ∙ append_assoc (get_or old t []) (numbers_there t (take k places) (take k numbers)) (n ∷ [])
        ∙ ap (λ (q : ℕ). get_or old q [] ++ (numbers_there q (take k places) (take k numbers) ++ n ∷ [])) (sym here)
        ∙ ap (λ (ns : List ℤ). get_or old p [] ++ ns) (sym (more p ∙ ap (λ (c : Bool). numbers_there p (take k places) (take k numbers) ++ cond c (n ∷ []) []) b))
    cases p small false b =
        ap (λ (gs : List (List ℤ)). get_or gs p []) set ∙ get_or-set_other mid t p (get_or mid t [] ++ n ∷ []) [] (no p b)
        ∙ h.each p small
        ∙ ap (λ (ns : List ℤ). get_or old p [] ++ ns) (sym (more p ∙ ap (λ (c : Bool). numbers_there p (take k places) (take k numbers) ++ cond c (n ∷ []) []) b ∙ append-nil (numbers_there p (take k places) (take k numbers))))

pub all_taken : (places : List ℕ) (numbers : List ℤ) (k : ℕ) (old new : List (List ℤ)) → length places ≤ k → length numbers ≡ length places → TakesNumbers (take k places) (take k numbers) old new → TakesNumbers places numbers old new
all_taken places numbers k old new l same h =
    subst (λ (ps : List ℕ). TakesNumbers ps numbers old new) (take_all k places l) (subst (λ (ns : List ℤ). TakesNumbers (take k places) ns old new) (take_all k numbers (omega (arith, l, same))) h)

-- ---- in order

-- those that are in order and those that are left
pub next_sorted : (groups left left' sorted sorted' : List (List ℤ)) (ns ms : List ℤ) → left ≡ ns ∷ left' → ms ≡ sorted_by number_before ns → sorted' ≡ sorted ++ ms ∷ []
    → sorted ++ map (sorted_by number_before) left ≡ map (sorted_by number_before) groups → sorted' ++ map (sorted_by number_before) left' ≡ map (sorted_by number_before) groups
next_sorted groups left left' sorted sorted' ns ms next made pushed h =
    ap (λ (gs : List (List ℤ)). gs ++ map (sorted_by number_before) left') pushed
    ∙ append_assoc sorted (ms ∷ []) (map (sorted_by number_before) left')
    ∙ ap (λ (one : List ℤ). sorted ++ one ∷ map (sorted_by number_before) left') made
    ∙ ap (λ (gs : List (List ℤ)). sorted ++ map (sorted_by number_before) gs) (sym next) ∙ h

as_values : (numbers : List ℤ) → map Int (sorted_by number_before numbers) ≡ sorted_by value_before (map Int numbers)
as_values numbers = map_sorted (λ n. Unit {0}) Int number_before value_before (λ a b p q. refl) numbers (all numbers)
  where
    all : (ns : List ℤ) → AllByRecursion (λ (n : ℤ). Unit {0}) ns
    all [] = tt
    all (n ∷ ns) = (tt, all ns)

pub rising_sorted : (groups : List (List ℤ)) → AreRising (map (sorted_by number_before) groups)
rising_sorted [] = tt
rising_sorted (numbers ∷ groups) = (subst AreInOrder (sym (as_values numbers)) (sorted_in_order (map Int numbers)), rising_sorted groups)

pub below_of_sorted : (n : ℤ) (groups : List (List ℤ)) (p : ℕ) → p < length groups → below (Int n) (map Int (get_or (map (sorted_by number_before) groups) p [])) ≡ below (Int n) (map Int (get_or groups p []))
below_of_sorted n groups p l =
    ap (λ (ns : List ℤ). below (Int n) (map Int ns)) (get_or-map (sorted_by number_before) groups p [] [] l)
    ∙ ap (below (Int n)) (as_values (get_or groups p [])) ∙ below_sorted (Int n) (map Int (get_or groups p []))

-- ---- how many are less

number_read : (numbers : List ℤ) (k : ℕ) → k < length numbers → Int (get_or numbers k (pos 0)) ≡ get_or (map Int numbers) k (Int (get_or numbers k (pos 0)))
number_read numbers k l = sym (get_or-map Int numbers k (pos 0) (Int (get_or numbers k (pos 0))) l)

pub less_upto : (numbers : List ℤ) (n : ℤ) (k : ℕ) → AreInOrder (map Int numbers) → k < length numbers → get_or numbers k (pos 0) <ℤ n → AllByRecursion (λ w. is_lt (datum_cmp w (Int n)) ≡ true) (take (k + 1) (map Int numbers))
less_upto numbers n k o l less =
    all_upto (Int n) (Int (get_or numbers k (pos 0))) (map Int numbers) k o (let long = length-map numbers Int in omega (arith, l, long)) (number_read numbers k l) (is_less (get_or numbers k (pos 0)) n less)

pub none_less_from : (numbers : List ℤ) (n : ℤ) (k : ℕ) → AreInOrder (map Int numbers) → k < length numbers → n ≤ℤ get_or numbers k (pos 0) → AllByRecursion (λ w. is_lt (datum_cmp w (Int n)) ≡ false) (drop k (map Int numbers))
none_less_from numbers n k o l not_less =
    not_from (Int n) (Int (get_or numbers k (pos 0))) (map Int numbers) k o (let long = length-map numbers Int in omega (arith, l, long)) (number_read numbers k l) (isnt_less (get_or numbers k (pos 0)) n not_less)

pub less_counted : (numbers : List ℤ) (n : ℤ) (k : ℕ) → k ≤ length numbers → AllByRecursion (λ w. is_lt (datum_cmp w (Int n)) ≡ true) (take k (map Int numbers)) → AllByRecursion (λ w. is_lt (datum_cmp w (Int n)) ≡ false) (drop k (map Int numbers))
    → k ≡ below (Int n) (map Int numbers)
less_counted numbers n k l less others = counted_below (Int n) (map Int numbers) k (let long = length-map numbers Int in omega (arith, l, long)) less others

pub none_left : (numbers : List ℤ) (n : ℤ) → AllByRecursion (λ w. is_lt (datum_cmp w (Int n)) ≡ false) (drop (length numbers) (map Int numbers))
none_left [] n = tt
none_left (m ∷ numbers) n = none_left numbers n

-- ---- ranks

pairs_joined : {A B C : Type 0} (f : A → B → C) (xs : List A) (ys : List B) (x : A) (y : B) → length xs ≡ length ys → by_pairs f (xs ++ x ∷ []) (ys ++ y ∷ []) ≡ by_pairs f xs ys ++ f x y ∷ []
pairs_joined f [] [] x y e = refl
pairs_joined f [] (w ∷ ys) x y e = absurd (omega (arith, e))
pairs_joined f (v ∷ xs) [] x y e = absurd (omega (arith, e))
pairs_joined {C = C} f (v ∷ xs) (w ∷ ys) x y e = ap (λ (zs : List C). f v w ∷ zs) (pairs_joined f xs ys x y (omega (arith, e)))

pub next_rank : (groups : List (List ℤ)) (places : List ℕ) (numbers : List ℤ) (k : ℕ) (rank : ℤ) (old new : List ℤ) → k < length places → length numbers ≡ length places → rank ≡ number_rank groups (get_or places k 0) (get_or numbers k (pos 0))
    → new ≡ old ++ rank ∷ [] → old ≡ ranks_in groups (take k places) (take k numbers) → new ≡ ranks_in groups (take (k + 1) places) (take (k + 1) numbers)
next_rank groups places numbers k rank old new l same e pushed h =
    pushed ∙ (λ i. h i ++ e i ∷ [])
    ∙ sym ((λ i. ranks_in groups (take_more places k 0 l i) (take_more numbers k (pos 0) (omega (arith, l, same)) i))
    ∙ pairs_joined (number_rank groups) (take k places) (take k numbers) (get_or places k 0) (get_or numbers k (pos 0)) (length-take-le k places (omega (arith, l)) ∙ sym (length-take-le k numbers (omega (arith, l, same)))))

pub all_ranks : (groups : List (List ℤ)) (places : List ℕ) (numbers ranks : List ℤ) (k : ℕ) → length places ≤ k → length numbers ≡ length places → ranks ≡ ranks_in groups (take k places) (take k numbers) → ranks ≡ ranks_in groups places numbers
all_ranks groups places numbers ranks k l same h = h ∙ (λ i. ranks_in groups (take_all k places l i) (take_all k numbers (omega (arith, l, same)) i))

pub as_many_ranks : (groups : List (List ℤ)) (places : List ℕ) (numbers : List ℤ) → length numbers ≡ length places → length (ranks_in groups places numbers) ≡ length numbers
as_many_ranks groups [] [] l = refl
as_many_ranks groups [] (n ∷ numbers) l = absurd (omega (arith, l))
as_many_ranks groups (p ∷ places) [] l = absurd (omega (arith, l))
as_many_ranks groups (p ∷ places) (n ∷ numbers) l = ap suc (as_many_ranks groups places numbers (omega (arith, l)))

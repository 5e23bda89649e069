-- Partners in the order of their paired numbers.
use Rattle.std.proofs.Common.{◌≡◌, ℕ, zero, suc, ◌+◌, ◌-◌, ◌≤◌, ◌<◌, ℤ, pos, Bool, true, false, cond, List, [], ◌∷◌, ◌++◌, length, take, drop, refl, sym, ap, ◌∙◌, subst, append_assoc, arith, length-drop}
use Rattle.std.proofs.lemmas.List.{drop_all, take_all, take_rest, get_or-drop}
use Rattle.std.proofs.lemmas.List.Sorted.{searchable_from_sorted, IsNonDecreasingBy-drop}
use Rattle.std.specs.List.{list_any, filter}
use Rattle.std.specs.List.Sorted.{IsNonDecreasingBy, IsPartitionedBy, IsPartitionPoint, IsSortedByKey}
use Rattle.std.specs.Ordering.{is_lt, is_le, is_eq, ordering_index}
use Rattle.std.specs.Prelude.{◌==◌, slice_index_or}
use Rattle.std.specs.declared.cmp.Ordering.{Ordering}
use Rattle.std.specs.declared.cmp.Ordering.TheVariants.{Less, Equal, Greater}
use Rattle.array_rows.specs.Rows.{Coordinate, row_major}
use Rattle.array_rows.proofs.RowsLemmas.{row_major_total}
use Rattle.logical_plan.specs.BoxOps.{items_but}
use Rattle.exec_join.specs.declared.partners.Partner.{Partner}
use Rattle.exec_join.specs.Inner.Partners.{against, has_paired, paired_of}

-- ---- the other numbers

one_kept : (t : Bool) (old : List ℤ) (x : ℤ) (rest : List ℤ) → (old ++ cond t [] (x ∷ [])) ++ rest ≡ old ++ cond t rest (x ∷ rest)
one_kept true old x rest = append_assoc old [] rest
one_kept false old x rest = append_assoc old (x ∷ []) rest

pub others_next : (places : List ℕ) (n : ℕ) (old at : List ℤ) → 1 ≤ length at
    → (old ++ cond (list_any (λ p. p == n) places) [] (slice_index_or at 0 (pos 0) ∷ [])) ++ items_but places (n + 1) (take (length at - 1) (drop 1 at)) ≡ old ++ items_but places n at
others_next places n old [] few = absurd (omega arith)
others_next places n old (x ∷ rest) few =
    ap (λ (more : List ℤ). (old ++ cond (list_any (λ p. p == n) places) [] (x ∷ [])) ++ items_but places (n + 1) more) (take_rest (x ∷ rest) 1)
    ∙ one_kept (list_any (λ p. p == n) places) old x (items_but places (n + 1) rest)

-- ---- searches

lower : (o q : Ordering) → ordering_index o ≤ ordering_index q → is_lt q ≡ true → is_lt o ≡ true
lower Less q h t = refl
lower Equal Less h t = absurd (omega (arith, h))
lower Equal Equal h t = cc
lower Equal Greater h t = cc
lower Greater Less h t = absurd (omega (arith, h))
lower Greater Equal h t = cc
lower Greater Greater h t = cc

no_higher : (o q : Ordering) → ordering_index o ≤ ordering_index q → is_le q ≡ true → is_le o ≡ true
no_higher Less q h t = refl
no_higher Equal q h t = refl
no_higher Greater Less h t = absurd (omega (arith, h))
no_higher Greater Equal h t = absurd (omega (arith, h))
no_higher Greater Greater h t = cc

abbrev pub Rise : Coordinate → List Partner → Type 0
Rise key partners = IsNonDecreasingBy (λ p. ordering_index (against key p)) partners

pub falls_below : (key : Coordinate) (partners : List Partner) → Rise key partners → IsPartitionedBy (λ p. is_lt (against key p)) partners
falls_below key partners rise = λ i j d l h t. lower (against key (slice_index_or partners i d)) (against key (slice_index_or partners j d)) (rise i j d l h) t

pub falls_through : (key : Coordinate) (partners : List Partner) → Rise key partners → IsPartitionedBy (λ p. is_le (against key p)) partners
falls_through key partners rise = λ i j d l h t. no_higher (against key (slice_index_or partners i d)) (against key (slice_index_or partners j d)) (rise i j d l h) t

pub rising_keys : (key : Coordinate) (partners : List Partner) → IsSortedByKey paired_of row_major partners → Rise key partners
rising_keys key partners sorted = searchable_from_sorted row_major_total paired_of partners key sorted

pub rising_rest : (key : Coordinate) (partners : List Partner) (n : ℕ) → IsSortedByKey paired_of row_major partners → Rise key (drop n partners)
rising_rest key partners n sorted = IsNonDecreasingBy-drop (λ p. ordering_index (against key p)) n partners (rising_keys key partners sorted)

-- ---- the piece of a list that passes a test

skipped : {X : Type 0} (p : X → Bool) (xs : List X) (n : ℕ) → n ≤ length xs → ((k : ℕ) (d : X) → k < n → p (slice_index_or xs k d) ≡ false) → filter p xs ≡ filter p (drop n xs)
skipped p [] n few fails = ap (filter p) (sym (drop_all n [] (omega arith)))
skipped p (x ∷ xs) zero few fails = refl
skipped p (x ∷ xs) (suc n) few fails =
    ap (λ (b : Bool). cond b (x ∷ filter p xs) (filter p xs)) (fails 0 x (omega arith)) ∙ skipped p xs n (omega (arith, few)) (λ k d l. fails (suc k) d (omega (arith, l)))

front : {X : Type 0} (p : X → Bool) (xs : List X) (n : ℕ) → ((k : ℕ) (d : X) → k < n → k < length xs → p (slice_index_or xs k d) ≡ true) → ((k : ℕ) (d : X) → n ≤ k → k < length xs → p (slice_index_or xs k d) ≡ false) → filter p xs ≡ take n xs
front p [] n passes fails = sym (take_all n [] (omega arith))
front p (x ∷ xs) zero passes fails =
    ap (λ (b : Bool). cond b (x ∷ filter p xs) (filter p xs)) (fails 0 x (omega arith) (omega arith))
    ∙ front p xs zero (λ k d l m. absurd (omega (arith, l))) (λ k d l m. fails (suc k) d (omega arith) (omega (arith, m)))
front p (x ∷ xs) (suc n) passes fails =
    ap (λ (b : Bool). cond b (x ∷ filter p xs) (filter p xs)) (passes 0 x (omega arith) (omega arith))
    ∙ ap (λ (ys : List _). x ∷ ys) (front p xs n (λ k d l m. passes (suc k) d (omega (arith, l)) (omega (arith, m))) (λ k d l m. fails (suc k) d (omega (arith, l)) (omega (arith, m))))

not_less : (o : Ordering) → is_lt o ≡ true → is_eq o ≡ false
not_less Less t = refl
not_less Equal t = cc
not_less Greater t = cc

not_more : (o : Ordering) → is_le o ≡ false → is_eq o ≡ false
not_more Less t = refl
not_more Equal t = cc
not_more Greater t = refl

between : (o : Ordering) → is_lt o ≡ false → is_le o ≡ true → is_eq o ≡ true
between Less f t = cc
between Equal f t = refl
between Greater f t = cc

abbrev pub IsPointOf : (Ordering → Bool) → Coordinate → List Partner → ℕ → Type 0
IsPointOf test key partners n = IsPartitionPoint (λ p. test (against key p) ≡ true) (λ p. test (against key p) ≡ false) partners n

-- those from the one count on as far as the other one goes are those with the paired numbers
pub piece : (key : Coordinate) (partners : List Partner) (low count : ℕ) → low ≤ length partners → IsPointOf is_lt key partners low → IsPointOf is_le key (drop low partners) count
    → take count (drop low partners) ≡ filter (has_paired key) partners
piece key partners low count few below through =
    let rest = drop low partners in
    sym (skipped (has_paired key) partners low few (λ k d l. not_less (against key (slice_index_or partners k d)) (below.0 k d (omega arith) l))
    ∙ front (has_paired key) rest count (λ k d l m. between (against key (slice_index_or rest k d)) (beyond k d m) (through.0 k d (omega arith) l)) (λ k d l m. not_more (against key (slice_index_or rest k d)) (through.1 k d l m)))
  where
    beyond : (k : ℕ) (d : Partner) → k < length (drop low partners) → is_lt (against key (slice_index_or (drop low partners) k d)) ≡ false
    beyond k d m =
        subst (λ (p : Partner). is_lt (against key p) ≡ false) (sym (get_or-drop low partners k d)) (below.1 (low + k) d (omega arith) (omega (arith, m, length-drop low partners)))
